-- `records::at_end` meets its contract: at the end no length is over its position.
use Rattle.std.proofs.Common.{not, ap, ◌∙◌}
use Rattle.records.specs.Says.{record_of}
use Rattle.records.proofs.Placed.{end_is}
use Rattle.records.proofs.at_end.Goals as goal

pub returns : goal.returns
returns c words s d = ap not c.some_above.ensures ∙ end_is d (record_of c.args.rec)
