-- What the code's answer says in the terms of SCOPE.md, "Route".
use Rattle.std.specs.Prelude.{ℕ, List, Result}
use Rattle.model.specs.Answer.{Answer}
use Rattle.model.specs.Route.{Routed}
use Rattle.refusals.specs.declared.Refusal.{Refusal}
use Rattle.refusals.specs.Answers.{answer_of}

-- the route's length
abbrev pub length_of : Result ℕ Refusal → Answer ℕ
length_of = answer_of (λ count. count)

-- the answer beside the slice afterwards
abbrev pub routed_of : Result ℕ Refusal → List ℕ → Routed
routed_of r slice = record { answer = length_of r; route = slice }
