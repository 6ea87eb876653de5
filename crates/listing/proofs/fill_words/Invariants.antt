-- `listing::fill_words` meets its contract. The invariant: the first k words of the bytes stand at the front of the slice, which is as it was behind them.
-- Assumes nothing.
use mathlib.Core.Path.{◌≡◌}
use mathlib.Core.List.{◌++◌}
use lib.ListN.{length, take, drop}
use Rattle.model.specs.Printed.{words_in}
use Rattle.listing.proofs.fill_words.Given as goal

abbrev pub invariant-loop-k : goal.invariant-loop-k
invariant-loop-k l = (length l.words ≡ length l.initial.words) × (l.words ≡ take l.k (words_in l.bytes) ++ drop l.k l.initial.words)
