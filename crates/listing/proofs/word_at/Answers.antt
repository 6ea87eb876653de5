-- `listing::word_at` meets its contract: four bytes with their weights make a word.
-- Assumes nothing.
use borrow.Author.Rules.{rules}
use Rattle.model.specs.Printed.{word_at}
use Rattle.listing.proofs.word_at.Goals as goal

pub returns : goal.returns
unfolding word_at
returns c = search rules
