-- `broker::again` meets its contract: the record starts anew exactly if the answer is Ok.
use Rattle.model.specs.Answer.{if_given}
use Rattle.refusals.specs.Answers.{answer_of}
use Rattle.broker.proofs.again.Goals as goal

pub returns-in-Ok : goal.returns-in-Ok
unfolding if_given answer_of
returns-in-Ok c =
    rw (← c.answer-answer.ensures, c.in-Ok.is, c.restarted-after.ensures)

pub returns-in-Err : goal.returns-in-Err
unfolding if_given answer_of
returns-in-Err c =
    rw (← c.answer-answer.ensures, c.in-Err.is)
