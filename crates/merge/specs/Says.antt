-- What the code's answer says in the terms of SCOPE.md, "Merge".
use Rattle.std.specs.Prelude.{ℕ, List, Result}
use Rattle.model.specs.Answer.{Answer, Written}
use Rattle.refusals.specs.declared.Refusal.{Refusal}
use Rattle.refusals.specs.Answers.{answer_of}

-- the number of words written
abbrev pub count_of : Result ℕ Refusal → Answer ℕ
count_of = answer_of (λ words. words)

-- the answer beside the slice afterwards
abbrev pub merged_of : Result ℕ Refusal → List ℕ → Written
merged_of r slice = record { answer = count_of r; slice = slice }
