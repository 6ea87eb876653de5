-- `merge::merge` meets its contract, by what the reader ensures of both sets' words.
use mathlib.Core.Path.{◌≡◌, sym}
use Rattle.std.proofs.lemmas.Result.{err_from_is_err_and}
use Rattle.model.specs.Answer.{given}
use Rattle.model.specs.Read.{read, set_in}
use Rattle.refusals.specs.Answers.{answer_of}
use Rattle.merge.proofs.Parts.{were-read}
use Rattle.merge.proofs.Answers.{first-refused, second-refused}
use Rattle.merge.proofs.merge.Goals as goal

pub returns-in_err-one : goal.returns-in_err-one
unfolding answer_of
returns-in_err-one c =
    let a = c.args in
    let p = err_from_is_err_and c.from_residual.result c.from_residual.ensures.1 in
    rw (p.1, p.2) (first-refused a.shared a.slice.now a.first.now a.second.now _ _ (sym c.in_err-one.ensures.reads))

pub returns-in_err-two : goal.returns-in_err-two
unfolding answer_of
returns-in_err-two c =
    let a = c.args in
    let p = err_from_is_err_and c.from_residual-in_err-two.result c.from_residual-in_err-two.ensures.1 in
    let read-first : read a.first.now ≡ given (set_in a.first.now) = rw c.in_ok-one.ensures.lends at (were-read c.in_ok-one.one) in
    rw (p.1, p.2)
    (second-refused a.shared a.slice.now a.first.now a.second.now read-first _ _
    (sym c.in_err-two.ensures.reads))
