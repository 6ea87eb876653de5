-- `records::counts::counted` meets its contract: the counts are as the window keeps them.
use Rattle.std.proofs.Common.{le-leb}
use borrow.Author.Tests.{lt-leb}
use Rattle.model.specs.Broker.{in_window}
use Rattle.records.proofs.counts.counted.Goals as goal

pub returns-then-window-total : goal.returns-then-window-total
unfolding in_window
returns-then-window-total c = rw (← c.total.ensures, le-leb _ _ c.if-window-total.true)

pub returns : goal.returns
unfolding in_window
returns c = rw (← c.total.ensures, lt-leb _ _ c.if-window-total.false)
