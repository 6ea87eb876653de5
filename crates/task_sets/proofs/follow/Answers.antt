-- `task_sets::follow` meets its contract. The invariant: what follows is what followed at first, and the last sum fits a byte.
use Prim.Native.Nat.{◌-◌, ◌^◌}
use native.Mathlib.Omega.{arith}
use Rattle.task_sets.proofs.Walks.{down-past, down-there}
use Rattle.task_sets.proofs.follow.Goals as goal

pub loop-task-preserved : goal.loop-task-preserved
loop-task-preserved c =
    let a = c.args in
    let o = c.loop-task in
    (omega arith, omega arith, λ n g. down-past n a.before (2 ^ 8 - a.gap) o.task o.row (o.invariant.2 n g) c.loop-task-test.true)

pub returns : goal.returns
returns c n g =
    let a = c.args in
    let o = c.loop-task in
    down-there n a.before (2 ^ 8 - a.gap) o.task o.row (o.invariant.2 n g) c.loop-task-test.false
