-- What the code's rows and answers say in the terms of SCOPE.md, "Trial".
use Rattle.std.specs.Prelude.{map, Result}
use Rattle.model.specs.Answer.{Answer}
use Rattle.model.specs.Trial as model
use Rattle.refusals.specs.declared.Refusal.{Refusal}
use Rattle.refusals.specs.Answers.{answer_of}
use Rattle.trial.specs.declared.tallies.Tally.{Tally}
use Rattle.trial.specs.declared.Tried.{Tried}

-- a row's four numbers
abbrev pub tallied : Tally → model.Tally
tallied k = record { granted = k.granted; busy = k.busy; held = k.held; share-spent = k.share_spent }

-- what a trial answers: its bids, its rows and the bids answered Finished
abbrev pub tried_of : Result Tried Refusal → Answer model.Tried
tried_of = answer_of (λ k. record { made = k.made; rows = map tallied k.rows; finished = k.finished })
