-- What the code's answer says in the terms of SCOPE.md, "Cleaner".
use Rattle.std.specs.Prelude.{ℕ, List, Result}
use Rattle.model.specs.Answer.{Answer}
use Rattle.model.specs.Clean as model
use Rattle.refusals.specs.declared.Refusal.{Refusal}
use Rattle.refusals.specs.Answers.{answer_of}

-- the number of words written
abbrev pub count_of : Result ℕ Refusal → Answer ℕ
count_of = answer_of (λ words. words)

-- the answer beside the slice afterwards
abbrev pub cleaned_of : Result ℕ Refusal → List ℕ → model.Cleaned
cleaned_of r slice = record { answer = count_of r; slice = slice }
