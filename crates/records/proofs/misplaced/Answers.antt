-- `records::misplaced` meets its contract: the shape's lengths are the set's.
use Rattle.std.proofs.Common.{◌∙◌}
use Rattle.records.specs.Says.{record_of}
use Rattle.records.proofs.Placed.{misplaced-is}
use Rattle.records.proofs.misplaced.Goals as goal

pub returns : goal.returns
returns c words s d = c.some_above.ensures ∙ misplaced-is d (record_of c.args.rec)
