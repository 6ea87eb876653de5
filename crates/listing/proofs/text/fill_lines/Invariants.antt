-- `listing::text::fill_lines` meets its contract. The invariant: the lines of the first k words are written at the front of the slice.
-- Assumes nothing.
use Rattle.model.specs.Printed.{lines_of}
use Rattle.listing.proofs.Rows.{Filled}
use Rattle.listing.proofs.text.fill_lines.Given as goal

abbrev pub invariant-loop-k : goal.invariant-loop-k
invariant-loop-k l = Filled lines_of l.words l.initial.out l.out l.k
