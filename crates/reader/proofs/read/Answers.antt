-- `reader::read` meets its contract: what all words come to, the lowest device that no task claims, and the close of a whole set.
use mathlib.Core.Path.{sym, ap, ◌∙◌}
use Rattle.std.proofs.lemmas.Result.{err_from_is_err_and}
use Rattle.model.specs.Answer.{◌then◌}
use Rattle.refusals.specs.Answers.{number_of, answer_of}
use Rattle.reader.specs.Answer.{rules_of, answer}
use Rattle.reader.specs.Follow.{Ended}
use Rattle.reader.proofs.Closing.{stopped, unclaimed, no-objection}
use Rattle.reader.proofs.read.Goals.{In_ok-read_words}
use Rattle.reader.proofs.read.Goals as goal

-- the words have no fault
whole : (c : In_ok-read_words) → Ended c.args.words.now c.read_words.new.scan
whole c = c.in_ok-read_words.ensures

pub returns-in_err-read_words : goal.returns-in_err-read_words
unfolding answer_of ◌then◌
returns-in_err-read_words c =
    let p = err_from_is_err_and c.from_residual.result c.from_residual.ensures.1 in
    rw (p.1, p.2, stopped (rules_of c.args.rules) _ _ _ c.in_err-read_words.ensures)

pub returns-in-Some : goal.returns-in-Some
unfolding answer_of number_of ◌then◌
returns-in-Some c =
    let w = whole (goal.at.returns-in-Some c).In_ok-read_words in
    rw (c.at.ensures, unclaimed _ _ w (rules_of c.args.rules) _ (sym c.unclaimed_device.ensures ∙ c.in-Some.is))

pub returns : goal.returns
returns c =
    let w = whole (goal.at.returns c).In_ok-read_words in
    c.close.ensures w.scan w.tasks w.same ∙ sym (ap answer (no-objection _ _ w (rules_of c.args.rules) (sym c.unclaimed_device.ensures ∙ c.in_default.is)))
