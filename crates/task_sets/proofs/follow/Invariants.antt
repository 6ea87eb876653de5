-- `task_sets::follow` meets its contract. The invariant: what follows is what followed at first, and the last sum fits a byte.
use Prim.Native.Nat.{ℕ, ◌+◌, ◌-◌, ◌^◌, ◌≤◌}
use mathlib.Core.Path.{◌≡◌}
use Rattle.task_sets.proofs.Walks.{Down}
use Rattle.task_sets.proofs.follow.Given as goal

abbrev pub invariant-loop-task : goal.invariant-loop-task
invariant-loop-task l =
    (l.task ≤ 127) × (l.before + l.row ≤ 255 + l.task) × ((n : ℕ) → l.gap ≡ 2 ^ n → Down n l.before (2 ^ 8 - l.gap) l.task l.row)

abbrev pub decreases-loop-task : goal.decreases-loop-task
decreases-loop-task l = l.task
