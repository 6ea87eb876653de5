-- `run_trial::try_file` is safe: a file that is decoded has no more words than there is room for.
use Rattle.std.proofs.Common.{ℕ, ◌≤◌, length, arith, sym}
use lib.ListN.{length-replicate}
use lib.Seq.{length-take-le}
use Rattle.listing.proofs.Callers.{word_count}
use Rattle.run_trial.proofs.try_file.Goals.{In-Ok-decode}
use Rattle.run_trial.proofs.try_file.Goals as goal

within : (c : In-Ok-decode) → c.in-Ok-decode.count ≤ length c.decode.new.words
within c = omega (arith, (word_count _ _ c.in-Ok-decode.ensures.value).2, c.decode.auto.words, length-replicate {A = ℕ} 4096 0)

pub slice_bounds-words-end : goal.slice_bounds-words-end
slice_bounds-words-end c = within (goal.at.slice_bounds-words-end c).In-Ok-decode

pub slice_bounds-try_set-end : goal.slice_bounds-try_set-end
slice_bounds-try_set-end c = sym (length-take-le _ _ (within (goal.at.slice_bounds-try_set-end c).In-Ok-decode))
