-- `run_trial::orders::fill_order` meets its contract: no more places are filled than the slice has, which stays as long as it was.
use Rattle.std.proofs.Common.{◌≤◌, length}
use Rattle.run_trial.proofs.orders.fill_order.Given as goal

abbrev pub invariant-loop-number : goal.invariant-loop-number
invariant-loop-number l = l.count ≤ length l.order
