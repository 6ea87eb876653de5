-- `arbiter::answers::of_trial` meets its contract: the rows are those of the trial, and all 0 where it is refused.
use mathlib.Core.Path.{◌≡◌, refl, ap}
use mathlib.Core.List.{List, [], ◌∷◌, map}
use Rattle.model.specs.Answer.{if_given, ◌then◌}
use Rattle.model.specs.Told.{tell}
use Rattle.model.specs.Trial.{no_bids}
use borrow.Author.Rules.{rules}
use Rattle.refusals.specs.Answers.{answer_of}
use Rattle.trial.specs.declared.tallies.Tally.{Tally}
use Rattle.trial.specs.Says.{tallied}
use Rattle.arbiter.specs.Told.{tally_of}
use Rattle.arbiter.proofs.answers.of_trial.Goals as goal

-- rows as hosts get them are those of the code
back : (rows : List Tally) → map tally_of (map tallied rows) ≡ rows
back [] = refl
back (row ∷ rows) = ap (λ ks. row ∷ ks) (back rows)

pub returns-in-Ok : goal.returns-in-Ok
unfolding tell if_given ◌then◌ answer_of
returns-in-Ok c = rw (c.in-Ok.is, c.valued.ensures, back c.in-Ok.tried.rows) refl

pub returns-in-Err : goal.returns-in-Err
unfolding tell if_given ◌then◌ answer_of
returns-in-Err c =
    let none : c.default.result ≡ tally_of no_bids = search rules in
    rw (c.in-Err.is, c.refuse.ensures, none) refl
