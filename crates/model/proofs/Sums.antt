-- Sums: the actions done at a state, against those of the set; and that no number of a list is over its sum.
use Prim.Native.Nat.{ℕ, zero, suc, ◌<◌, ◌≤◌}
use native.Mathlib.Omega.{arith}
use native.Mathlib.Nat.{le_of_suc-le-suc}
use mathlib.Core.Path.{◌≡◌}
use mathlib.Core.List.{List, [], ◌∷◌}
use lib.ListN.{length}
use Rattle.model.specs.Set.{at}
use Rattle.model.specs.State.{State, next, InGrid, sum}
use Rattle.model.proofs.Ranks.{tail-grid}

pub sum-next : (x : State) (t : ℕ) → t < length x → sum (next x t) ≡ suc (sum x)
unfolding sum
sum-next [] t h = absurd (omega arith)
sum-next (p ∷ x) zero h = omega arith
sum-next (p ∷ x) (suc t) h = omega (arith, sum-next x t (le_of_suc-le-suc h))

-- none of the numbers is over their sum
pub at_sum : (l : List ℕ) (t : ℕ) → at l t ≤ sum l
unfolding sum
at_sum [] t = omega arith
at_sum (a ∷ l) zero = omega arith
at_sum (a ∷ l) (suc t) = omega (arith, at_sum l t)

pub sum-le : (ls : List ℕ) (x : State) → InGrid ls x → sum x ≤ sum ls
unfolding sum
sum-le [] [] g = omega arith
sum-le [] (p ∷ x) g = absurd (omega (arith, g.count))
sum-le (l ∷ ls) [] g = omega arith
sum-le (l ∷ ls) (p ∷ x) g = omega (arith, g.fits 0, sum-le ls x (tail-grid g))

-- with an action left, the sum is not reached
pub sum_lt : (ls : List ℕ) (x : State) → InGrid ls x → (t : ℕ) → at x t < at ls t → sum x < sum ls
unfolding sum
sum_lt [] x g t h = absurd (omega arith)
sum_lt (l ∷ ls) [] g t h = absurd (omega (arith, g.count))
sum_lt (l ∷ ls) (p ∷ x) g zero h = omega (arith, sum-le ls x (tail-grid g))
sum_lt (l ∷ ls) (p ∷ x) g (suc t) h = omega (arith, g.fits 0, sum_lt ls x (tail-grid g) t h)
