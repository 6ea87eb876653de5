-- What a test that passes or fails tells: `&&`, `||`, `not`, `any`.
use Prim.Native.Nat.{ℕ, zero, suc, ◌+◌, ◌<◌, ◌≤◌}
use native.Mathlib.Omega.{arith}
use native.Mathlib.Nat.{eq-or-lt_of_le, le_antisymm, le_of_suc-le-suc}
use native.Mathlib.Numerals.{add-one}
use mathlib.Core.Path.{◌≡◌, refl, sym, ◌∙◌}
use mathlib.Core.Logic.{◌⊎◌, inl, inr}
use mathlib.Core.Bool.{Bool, true, false, ◌&&◌, ◌||◌, cond}
use lib.Dec.{eqb}
use borrow.Author.Tests.{eqb-true, eqb-false, eq-eqb, ne_eqb}
use Rattle.model.specs.Below.{any}

-- a proof by cases of a test
pub by_bool : {G : Type 0} (b : Bool) → (b ≡ true → G) → (b ≡ false → G) → G
by_bool true p q = p refl
by_bool false p q = q refl

pub by_cases : {A B G : Type 0} → A ⊎ B → (A → G) → (B → G) → G
by_cases (inl a) p q = p a
by_cases (inr b) p q = q b

pub true-not-false : {G : Type 0} (b : Bool) → b ≡ true → b ≡ false → G
true-not-false b p q = let z : ◌≡◌ {A = ℕ} 0 1 = cc in absurd (omega arith)

pub and-true : (a b : Bool) → (a && b) ≡ true → (a ≡ true) × (b ≡ true)
and-true true b e = (refl, e)
and-true false b e = (e, cc)

pub and-false : (a b : Bool) → (a && b) ≡ false → a ≡ true → b ≡ false
and-false a b e h = rw h at e

pub or-true : (a b : Bool) → (a || b) ≡ true → (a ≡ true) ⊎ (b ≡ true)
or-true true b e = inl refl
or-true false b e = inr e

pub or-false : (a b : Bool) → (a || b) ≡ false → (a ≡ false) × (b ≡ false)
or-false true b e = (e, cc)
or-false false b e = (refl, e)

pub or_right : (a b : Bool) → b ≡ true → (a || b) ≡ true
or_right true b e = refl
or_right false b e = e

-- tests of which each passes if the other does
pub both_ways : (a b : Bool) → (a ≡ true → b ≡ true) → (b ≡ true → a ≡ true) → a ≡ b
both_ways a b f g = by_bool a (λ e. e ∙ sym (f e)) λ e. by_bool b (λ k. g k ∙ sym k) (λ k. e ∙ sym k)

-- a number below n that passes
pub any-true : (n : ℕ) (f : ℕ → Bool) → any n f ≡ true → (t : ℕ) × (t < n) × (f t ≡ true)
unfolding any
any-true zero f e = true-not-false false e refl
any-true (suc n) f e =
    by_cases (or-true (f n) (any n f) e) (λ h. (n, omega arith, h)) λ h.
    let r = any-true n f h in (r.0, omega arith, r.2)

-- every number below n fails
pub any_false : (n : ℕ) (f : ℕ → Bool) → any n f ≡ false → (t : ℕ) → t < n → f t ≡ false
unfolding any
any_false zero f e t h = absurd (omega arith)
any_false (suc n) f e t h =
    let r = or-false (f n) (any n f) e in
    by_cases (eq-or-lt_of_le (le_of_suc-le-suc h)) (λ q. rw q r.0) (any_false n f r.1 t)

pub any-intro : (n : ℕ) (f : ℕ → Bool) (t : ℕ) → t < n → f t ≡ true → any n f ≡ true
any-intro n f t h e = by_bool (any n f) (λ a. a) λ a. true-not-false (f t) e (any_false n f a t h)

-- no number below n passes
pub any_none : (n : ℕ) (f : ℕ → Bool) → ((t : ℕ) → t < n → f t ≡ false) → any n f ≡ false
any_none n f h = by_bool (any n f) (λ k. let r = any-true n f k in true-not-false (f r.0) r.2 (h r.0 r.1)) (λ k. k)

-- nor does n
pub any-more : (n : ℕ) (f : ℕ → Bool) → any n f ≡ false → f n ≡ false → any (n + 1) f ≡ false
unfolding any
any-more n f e h = rw (add-one n, h) e

-- a loop from 0 to n has come to its end without a number that passes
pub any-whole : (f : ℕ → Bool) (n t : ℕ) → t ≤ n → n ≤ t → any t f ≡ false → any n f ≡ false
any-whole f n t a b e = rw (le_antisymm b a) e

-- tests that agree on the numbers below n
pub any_same : (n : ℕ) (f g : ℕ → Bool) → ((t : ℕ) → t < n → f t ≡ g t) → any n f ≡ any n g
unfolding any
any_same zero f g e = refl
any_same (suc n) f g e = rw (e n (omega arith), any_same n f g (λ t h. e t (omega arith)))

-- from n on every test fails
pub any-past : (f : ℕ → Bool) (n : ℕ) → ((t : ℕ) → n ≤ t → f t ≡ false) → (k : ℕ) → n ≤ k → any k f ≡ any n f
unfolding any
any-past f n past zero h = let z : n ≡ zero = omega arith in rw z
any-past f n past (suc k) h =
    by_cases (eq-or-lt_of_le h) (λ q. rw q) λ l. let m : n ≤ k = omega arith in rw (past k m) (any-past f n past k m)

-- a test counts at most one
pub at_most_one : (b : Bool) (n : ℕ) → n ≡ cond b 1 0 → n ≤ 1
at_most_one true n e = omega arith
at_most_one false n e = omega arith

-- equality tests both ways round
pub eqb-flip : (a b : ℕ) → eqb a b ≡ eqb b a
eqb-flip a b =
    by_bool (eqb a b)
    (λ e. let q = eqb-true a b e in e ∙ sym (eq-eqb b a (sym q)))
    (λ e. let q = eqb-false a b e in e ∙ sym (ne_eqb b a (λ z. q (sym z))))
