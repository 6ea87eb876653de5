-- States, ranks, steps and the end are what SCOPE.md, "States and holds", says.
use Prim.Native.Nat.{ℕ, zero, suc, ◌+◌, ◌*◌, ◌<◌}
use native.Mathlib.Omega.{arith}
use native.Mathlib.Nat.{mul-le-mul_right, suc-mul}
use native.Mathlib.Numerals.{add-one}
use mathlib.Core.Path.{◌≡◌, refl, sym, ap, ◌∙◌}
use mathlib.Core.Bool.{true, false}
use mathlib.Core.List.{List, [], ◌∷◌, flatten}
use lib.ListN.{length, length-append, length-set}
use lib.Seq.{ext_get_or}
use lib.Dec.{eqb, ltb}
use borrow.Author.Tests.{ltb-true, ltb-false, lt-ltb, eqb-true, eqb-false}
use Rattle.model.specs.Set.{Task, lengths, at, size}
use Rattle.model.specs.State.{State, InGrid, unfinished, start, is_end, sum, rank}
use Rattle.model.proofs.Bools.{by_bool, true-not-false}
use Rattle.model.proofs.States.{end-finished, end-intro, at-next-same, at-next-other, start_grid}
use Rattle.model.proofs.Ranks.{rank_lt, rank-state_at, state_at-grid, tail-grid}
use Rattle.model.proofs.Sums.{sum-next}
use Rattle.demands.specs.Terms.{before}
use Rattle.demands.specs.States.{OfStates, StatesRight}

-- a lower first position outweighs all the others
outweighs : (p q c r k : ℕ) → p < q → r < c → p * c + r < q * c + k
outweighs p q c r k h l = omega (arith, mul-le-mul_right c h, suc-mul p c)

before-rank : (ls : List ℕ) (x y : State) → InGrid ls x → InGrid ls y → before x y ≡ true → rank ls x < rank ls y
unfolding rank before
before-rank ls [] y g h e = true-not-false false e refl
before-rank ls (p ∷ x) [] g h e = true-not-false false e refl
before-rank [] (p ∷ x) (q ∷ y) g h e = absurd (omega (arith, g.count))
before-rank (l ∷ ls) (p ∷ x) (q ∷ y) g h e =
    by_bool (ltb p q)
    (λ a. outweighs p q (size ls) (rank ls x) (rank ls y) (ltb-true p q a) (rank_lt ls x (tail-grid g)))
    (λ a. by_bool (eqb p q)
    (λ b. let i = before-rank ls x y (tail-grid g) (tail-grid h) (rw (a, b) at e) in rw (eqb-true p q b) (omega arith))
    (λ b. true-not-false false (rw (a, b) at e) refl))

rank-before : (ls : List ℕ) (x y : State) → InGrid ls x → InGrid ls y → rank ls x < rank ls y → before x y ≡ true
unfolding rank before
rank-before [] x y g h l = absurd (omega arith)
rank-before (l ∷ ls) [] y g h k = absurd (omega (arith, g.count))
rank-before (l ∷ ls) (p ∷ x) [] g h k = absurd (omega (arith, h.count))
rank-before (l ∷ ls) (p ∷ x) (q ∷ y) g h k =
    by_bool (ltb p q) (λ a. rw a) λ a.
    by_bool (eqb p q)
    (λ b. let e = eqb-true p q b in rw (a, b) (rank-before ls x y (tail-grid g) (tail-grid h) (omega (arith, ap (λ n. n * size ls) e))))
    (λ b. absurd (omega (
      arith,
      outweighs q p (size ls) (rank ls y) (rank ls x) (omega (arith, ltb-false p q a, eqb-false p q b)) (rank_lt ls y (tail-grid h)),
    )))

-- at the end every position is its L
end-lengths : (ls : List ℕ) (x : State) → InGrid ls x → is_end ls x ≡ true → x ≡ ls
end-lengths ls x g e =
    ext_get_or 0 x ls g.count λ t h.
    by_bool (unfinished ls x t) (λ u. absurd (end-finished ls x e t u)) (λ u. omega (arith, ltb-false (at x t) (at ls t) u, g.fits t))

pub before-end : (ls : List ℕ) (x : State) → InGrid ls x → (x ≡ ls → ⊥) → is_end ls x ≡ false
before-end ls x g n = by_bool (is_end ls x) (λ e. absurd (n (end-lengths ls x g e))) (λ e. e)

lengths-end : (ls : List ℕ) → is_end ls ls ≡ true
lengths-end ls = end-intro ls ls (λ t u. omega (arith, ltb-true (at ls t) (at ls t) u))

start_zero : (ls : List ℕ) (t : ℕ) → at (start ls) t ≡ 0
start_zero [] t = refl
start_zero (l ∷ ls) zero = refl
start_zero (l ∷ ls) (suc t) = start_zero ls t

start_sum : (ls : List ℕ) → sum (start ls) ≡ 0
unfolding sum
start_sum [] = refl
start_sum (l ∷ ls) = omega (arith, start_sum ls)

actions-flat : (ts : List Task) → sum (lengths ts) ≡ length (flatten ts)
unfolding sum flatten
actions-flat [] = refl
actions-flat (t ∷ ts) = omega (arith, actions-flat ts, length-append t (flatten ts))

pub of-states : (ls : List ℕ) → OfStates ls
of-states ls = record {
  grid = λ x. ((λ g. (g.count, g.fits)), (λ h. record { count = h.0; fits = h.1 }));
  below = rank_lt ls;
  each = λ r h. (state_at-grid ls r h, rank-state_at ls r h);
  rises = λ x y g h. (rank-before ls x y g h, before-rank ls x y g h);
  left = λ x t. (ltb-true (at x t) (at ls t), lt-ltb (at x t) (at ls t));
  step_same = λ x t h. (at-next-same x t h ∙ sym (add-one (at x t)), length-set x t (suc (at x t)));
  step_other = at-next-other;
  step_sum = λ x t h. sum-next x t h ∙ sym (add-one (sum x));
  start_zero = start_zero ls;
  start_grid = start_grid ls;
  start_sum = start_sum ls;
  end = λ x g. (end-lengths ls x g, (λ e. rw e (lengths-end ls)));
}

pub states-right : StatesRight
states-right = record { states = of-states; actions = λ s. actions-flat s.tasks }
