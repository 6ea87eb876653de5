-- `broker::agains::answer` meets its contract, by what the reader ensures of the words.
use Rattle.std.proofs.lemmas.Result.{err_from_is_err_and}
use Rattle.refusals.specs.Answers.{answer_of}
use Rattle.model.specs.Answer.{◌then◌}
use Rattle.broker.proofs.agains.answer.Goals as goal

pub returns-in_err-set : goal.returns-in_err-set
unfolding answer_of ◌then◌
returns-in_err-set c =
    let p = err_from_is_err_and c.from_residual.result c.from_residual.ensures.1 in
    rw (p.1, p.2, ← c.in_err-set.ensures.reads)

pub returns : goal.returns
unfolding answer_of ◌then◌
returns c = rw (← c.in_ok-set.ensures.reads) c.answer_on.ensures
