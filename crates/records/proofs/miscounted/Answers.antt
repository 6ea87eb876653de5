-- `records::miscounted` meets its contract: the shape has the number of tasks.
use Rattle.std.proofs.Common.{◌∙◌}
use Rattle.records.specs.Says.{record_of}
use Rattle.records.proofs.Placed.{miscounted-is}
use Rattle.records.proofs.miscounted.Goals as goal

pub returns : goal.returns
returns c words s d = c.some_from.ensures ∙ miscounted-is d (record_of c.args.rec)
