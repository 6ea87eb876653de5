-- Ordered lists: joined, changed entry by entry, and under a weaker order; which number lists stand before which; and ascending numbers.
use Prim.Native.Nat.{ℕ, suc, ◌<◌, ◌≤◌}
use native.Mathlib.Omega.{arith}
use mathlib.Core.Path.{◌≡◌, refl}
use mathlib.Core.Bool.{true, ◌&&◌}
use mathlib.Core.List.Memᴰ
use mathlib.Core.List.{List, [], ◌∷◌, ◌++◌, map, Memᴰ}
use lib.Dec.{eqb, ltb}
use borrow.Author.Tests.{lt-ltb, eq-eqb}
use Rattle.model.specs.Plan.{AscendingFrom}
use Rattle.model.proofs.Bools.{by_cases, or_right}
use Rattle.demands.specs.Terms.{before, Ordered}

module _ {A : Type 0} (R : A → A → Type 0) where
  pub ordered-append : (l k : List A) → Ordered R l → Ordered R k → ((a b : A) → Memᴰ a l → Memᴰ b k → R a b) → Ordered R (l ++ k)
  ordered-append [] k o p f = p
  ordered-append (a ∷ l) k o p f = (
    (λ b m. by_cases (Memᴰ.append_cases l m) (o.0 b) (f a b (Memᴰ.head refl))),
    ordered-append l k o.1 p (λ a b m. f a b (Memᴰ.tail m)),
  )

  -- what the order says of the list's own entries
  pub ordered-weaken : (S : A → A → Type 0) (l : List A) → ((a b : A) → Memᴰ a l → Memᴰ b l → R a b → S a b) → Ordered R l → Ordered S l
  ordered-weaken S [] f o = tt
  ordered-weaken S (a ∷ l) f o = (
    (λ b m. f a b (Memᴰ.head refl) (Memᴰ.tail m) (o.0 b m)),
    ordered-weaken S l (λ a b m n. f a b (Memᴰ.tail m) (Memᴰ.tail n)) o.1,
  )

  pub ordered-map : {B : Type 0} (S : B → B → Type 0) (g : A → B) (l : List A) → ((a b : A) → R a b → S (g a) (g b)) → Ordered R l → Ordered S (map g l)
  ordered-map S g [] f o = tt
  ordered-map S g (a ∷ l) f o = (
    (λ b m. let r = Memᴰ.of_map g l m in rw (← r.2) (f a r.0 (o.0 r.0 r.1))),
    ordered-map S g l f o.1,
  )

pub before-lower : (p q : ℕ) (x y : List ℕ) → p < q → before (p ∷ x) (q ∷ y) ≡ true
unfolding before
before-lower p q x y h = rw (lt-ltb p q h)

pub before_same : (p : ℕ) (x y : List ℕ) → before x y ≡ true → before (p ∷ x) (p ∷ y) ≡ true
unfolding before
before_same p x y h = or_right (ltb p p) (eqb p p && before x y) (rw (eq-eqb p p refl, h))

-- a strictly ascending list is ordered by its numbers
ascending-above : (r : ℕ) (l : List ℕ) → AscendingFrom r l → (q : ℕ) → Memᴰ q l → r ≤ q
ascending-above r [] a q m = absurd (Memᴰ.not-nil m)
ascending-above r (p ∷ l) a q m =
    by_cases (Memᴰ.cases_cons m) (λ e. omega (arith, a.0)) (λ k. omega (arith, a.0, ascending-above (suc p) l a.1 q k))

pub ascending-ordered : (r : ℕ) (l : List ℕ) → AscendingFrom r l → Ordered (λ q p. q < p) l
ascending-ordered r [] a = tt
ascending-ordered r (p ∷ l) a = (ascending-above (suc p) l a.1, ascending-ordered (suc p) l a.1)

-- and the other way
pub ordered-ascending : (r : ℕ) (l : List ℕ) → ((q : ℕ) → Memᴰ q l → r ≤ q) → Ordered (λ q p. q < p) l → AscendingFrom r l
ordered-ascending r [] h o = tt
ordered-ascending r (p ∷ l) h o = (h p (Memᴰ.head refl), ordered-ascending (suc p) l o.0 o.1)
