-- `task_sets::next_set` meets its contract. The invariant: what follows the tasks yet to be looked at is what follows the set.
use Rattle.task_sets.proofs.Walks.{Behind}
use Rattle.task_sets.proofs.next_set.Given as goal

abbrev pub invariant-loop-gap : goal.invariant-loop-gap
invariant-loop-gap l = Behind l.mask l.before l.gap

abbrev pub decreases-loop-gap : goal.decreases-loop-gap
decreases-loop-gap l = l.gap
