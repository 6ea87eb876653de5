-- `trial::trial` meets its contract, by what the reader ensures of the words.
use mathlib.Core.Path.{◌≡◌, ap}
use Rattle.std.proofs.lemmas.Result.{err_from_is_err_and}
use Rattle.refusals.specs.Answers.{answer_of}
use Rattle.model.specs.Answer.{◌then◌}
use Rattle.trial.proofs.trial.Goals as goal

pub returns-in_err-set : goal.returns-in_err-set
unfolding answer_of ◌then◌
returns-in_err-set c =
    let p = err_from_is_err_and c.from_residual.result c.from_residual.ensures.1 in
    rw (p.1, p.2, ← c.in_err-set.ensures.reads)

pub returns : goal.returns
unfolding answer_of ◌then◌
returns c =
    let lent : c.in_ok-set.set.words.now ≡ c.args.words.now = ap (λ w. w.now) c.in_ok-set.ensures.lends in
    rw (← c.in_ok-set.ensures.reads, ← lent) c.trial_on.ensures
