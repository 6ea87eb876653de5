-- What a call answers (SCOPE.md, "Refusals"), and what it leaves in a slice that it is lent.
use Rattle.std.specs.Prelude.{ℕ, List, length}
use Rattle.model.specs.Slice.{over}

-- a value, or a refusal's number and place
pub data Answer (A : Type 0) : Type 0 where
  given : A → Answer A
  refused : ℕ → ℕ → Answer A

-- refusals first: a value goes on to what comes next, a refusal stays as it is
infixr 20 ◌then◌
unfoldable pub ◌then◌ : {A B : Type 0} → Answer A → (A → Answer B) → Answer B
given a then f = f a
refused n p then f = refused n p

-- what follows from an answer: from a value what f makes of it, from any refusal `otherwise`
unfoldable pub if_given : {A B : Type 0} → Answer A → (A → B) → B → B
if_given (given a) f otherwise = f a
if_given (refused n p) f otherwise = otherwise

-- a call that writes: the answer, with the number of words written if accepted, and the slice afterwards
pub record Written : Type 0 where
  pub answer : Answer ℕ
  pub slice : List ℕ

-- words in a slice: a refused call leaves it as it was, and beyond the words written it keeps its own
abbrev pub in_slice : Answer (List ℕ) → List ℕ → Written
in_slice made slice = record { answer = made then λ ws. given (length ws); slice = if_given made (λ ws. over ws slice) slice }
