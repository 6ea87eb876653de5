-- `reader::accept` meets its contract, by what `read` ensures: the words of a set that was read declare it.
use mathlib.Core.Path.{sym}
use Rattle.std.proofs.lemmas.Result.{err_from_is_err_and}
use Rattle.refusals.specs.Answers.{answer_of}
use Rattle.reader.proofs.Facts.{accepted, declared, of_refused}
use Rattle.reader.proofs.accept.Goals as goal

pub returns-in_err-reading-clause-reads : goal.returns-in_err-reading-clause-reads
unfolding answer_of
returns-in_err-reading-clause-reads c =
    let p = err_from_is_err_and c.from_residual.result c.from_residual.ensures.1 in
    rw (p.1, p.2) (sym (of_refused _ _ _ c.in_err-reading.ensures))

pub invariant_of-result : goal.invariant_of-result
unfolding answer_of
invariant_of-result c = record { declares = declared _ _ c.in_ok-reading.ensures }

pub returns-clause-reads : goal.returns-clause-reads
unfolding answer_of
returns-clause-reads c = sym (accepted _ _ c.in_ok-reading.ensures)
