-- `listing::fill_bytes` meets its contract. The invariant: the bytes of the first k words are written at the front of the slice.
-- Assumes nothing.
use Rattle.model.specs.CleanFile.{bytes_of_all}
use Rattle.listing.proofs.Rows.{Filled}
use Rattle.listing.proofs.fill_bytes.Given as goal

abbrev pub invariant-loop-k : goal.invariant-loop-k
invariant-loop-k l = Filled bytes_of_all l.words l.initial.out l.out l.k
