-- How many states of a grid have a property: the ranks that pass a test make a list of them, and every such list is as long.
use Prim.Native.Nat.{ℕ, zero, suc, ◌<◌, ◌≤◌}
use native.Mathlib.Omega.{arith}
use native.Mathlib.Nat.{eq-or-lt_of_le, le_of_suc-le-suc}
use mathlib.Core.Path.{◌≡◌, refl, sym, ap, ◌∙◌}
use mathlib.Core.Logic.{◌↔◌}
use mathlib.Core.Bool.{Bool, true, cond}
use mathlib.Core.List.{List, [], ◌∷◌, map, Memᴰ}
use lib.ListN.{length, length-map}
use Rattle.model.specs.Set.{size}
use Rattle.model.specs.State.{State, rank, state_at}
use Rattle.model.proofs.Bools.{by_bool, by_cases}
use Rattle.model.proofs.Ranks.{rank_lt, state_at-rank, rank-state_at, state_at-grid}
use Rattle.demands.specs.Terms.{how_many, Ordered}
use Rattle.demands.specs.PerThousand.{NumberOf}
use Rattle.demands.proofs.Orders.{ordered-weaken, ordered-map}

-- ---- lists with each entry once
module _ {A : Type 0} where
  -- an entry taken out leaves one less, and all others
  taken_out : (x : A) (ys : List A) → Memᴰ x ys
      → (zs : List A) × (length ys ≡ suc (length zs)) × ((y : A) → Memᴰ y ys → (y ≡ x → ⊥) → Memᴰ y zs)
  taken_out x [] m = absurd (mathlib.Core.List.Memᴰ.not-nil m)
  taken_out x (y ∷ ys) m =
      by_cases (mathlib.Core.List.Memᴰ.cases_cons m)
      (λ e. (ys, refl, λ z k n. by_cases (mathlib.Core.List.Memᴰ.cases_cons k) (λ q. absurd (n (q ∙ sym e))) (λ q. q)))
      (λ k.
      let r = taken_out x ys k in
      (y ∷ r.0, ap suc r.1, λ z l n. by_cases (mathlib.Core.List.Memᴰ.cases_cons l) mathlib.Core.List.Memᴰ.head (λ q. mathlib.Core.List.Memᴰ.tail (r.2 z q n))))

  -- a list with each entry once is no longer than one that has all of them
  no_longer : (xs ys : List A) → Ordered (λ x y. x ≡ y → ⊥) xs → ((x : A) → Memᴰ x xs → Memᴰ x ys) → length xs ≤ length ys
  no_longer [] ys o h = omega arith
  no_longer (x ∷ xs) ys o h =
      let r = taken_out x ys (h x (mathlib.Core.List.Memᴰ.head refl)) in
      let rest = no_longer xs r.0 o.1 (λ y m. r.2 y (h y (mathlib.Core.List.Memᴰ.tail m)) (λ e. o.0 y m (sym e))) in
      omega (arith, rest, r.1)

-- ---- the numbers below n that pass a test, falling
unfoldable passing : ℕ → (ℕ → Bool) → List ℕ
passing zero f = []
passing (suc n) f = cond (f n) (n ∷ passing n f) (passing n f)

module _ (f : ℕ → Bool) where
  passing-count : (n : ℕ) → length (passing n f) ≡ how_many n f
  unfolding passing how_many
  passing-count zero = refl
  passing-count (suc n) = let rest = passing-count n in by_bool (f n) (λ e. rw e (omega (arith, rest))) (λ e. rw e (omega (arith, rest)))

  passing-holds : (n : ℕ) {r : ℕ} → Memᴰ r (passing n f) → (r < n) × (f r ≡ true)
  unfolding passing
  passing-holds zero m = absurd (mathlib.Core.List.Memᴰ.not-nil m)
  passing-holds (suc n) {r} m =
      let later : Memᴰ r (passing n f) → (r < suc n) × (f r ≡ true) = λ k. let p = passing-holds n k in (omega (arith, p.0), p.1) in
      by_bool (f n)
      (λ e. by_cases (mathlib.Core.List.Memᴰ.cases_cons (rw e at m)) (λ q. (omega arith, rw q e)) later)
      (λ e. later (rw e at m))

  passing-has : (n r : ℕ) → r < n → f r ≡ true → Memᴰ r (passing n f)
  unfolding passing
  passing-has zero r h e = absurd (omega arith)
  passing-has (suc n) r h e =
      by_cases (eq-or-lt_of_le (le_of_suc-le-suc h))
      (λ q. let p : f n ≡ true = rw q at e in rw p (mathlib.Core.List.Memᴰ.head q))
      (λ l.
      let rest = passing-has n r l e in
      by_bool (f n) (λ p. rw p (mathlib.Core.List.Memᴰ.tail rest)) (λ p. rw p rest))

  passing-falls : (n : ℕ) → Ordered (λ q r. r < q) (passing n f)
  unfolding passing
  passing-falls zero = tt
  passing-falls (suc n) = by_bool (f n) (λ e. rw e ((λ r m. (passing-holds n m).0), passing-falls n)) (λ e. rw e (passing-falls n))

-- ---- the states of a grid
module _ (ls : List ℕ) (P : State → Type 0) where
  pub one_number : (n k : ℕ) → NumberOf ls P n → NumberOf ls P k → n ≡ k
  one_number n k a b =
      let there = no_longer a.states b.states a.once (λ x m. (b.each x).1 ((a.each x).0 m)) in
      let back = no_longer b.states a.states b.once (λ x m. (a.each x).1 ((b.each x).0 m)) in
      omega (arith, there, back, a.as_many, b.as_many)

  -- a test of the ranks that tells P counts the states that have it
  module _ (f : ℕ → Bool) (tells : (r : ℕ) → r < size ls → (f r ≡ true) ↔ P (state_at ls r)) where
    abbrev ranks : List ℕ
    ranks = passing (size ls) f

    pub numbered : NumberOf ls P (how_many (size ls) f)
    numbered = record {
      states = map (state_at ls) ranks;
      each = λ x. (
        (λ m.
            let r = mathlib.Core.List.Memᴰ.of_map (state_at ls) ranks m in
            let p = passing-holds f (size ls) r.1 in
            rw (← r.2) (state_at-grid ls r.0 p.0, (tells r.0 p.0).0 p.1)),
        (λ g.
            let l = rank_lt ls x g.0 in
            let at-rank = state_at-rank ls x g.0 in
            let passes = (tells (rank ls x) l).1 (rw at-rank g.1) in
            mathlib.Core.List.Memᴰ.cast (sym at-rank) (mathlib.Core.List.Memᴰ.map (state_at ls) (passing-has f (size ls) (rank ls x) l passes))),
      );
      once =
          ordered-map (λ q r. state_at ls q ≡ state_at ls r → ⊥) (λ x y. x ≡ y → ⊥) (state_at ls) ranks (λ q r h. h)
          (ordered-weaken (λ q r. r < q) (λ q r. state_at ls q ≡ state_at ls r → ⊥) ranks
          (λ q r m k l e. omega (arith, l, rank-state_at ls q (passing-holds f (size ls) m).0, rank-state_at ls r (passing-holds f (size ls) k).0, ap (rank ls) e))
          (passing-falls f (size ls)));
      as_many = length-map ranks (state_at ls) ∙ passing-count f (size ls);
    }
