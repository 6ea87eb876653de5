-- `broker::shares::spent` meets its contract: the task's own share first, then the others.
use borrow.Author.Tests.{le-ltb}
use Rattle.broker.proofs.shares.spent.Goals as goal

pub returns : goal.returns
returns c = rw (le-ltb _ _ c.if-count-settings.false) (c.other_goes.ensures _ c.if-count-settings.false)
