-- What a caller needs of the contracts: which answer of the definition the code's answer is.
-- Assumes nothing.
use mathlib.Core.Path.{◌≡◌, refl}
use mathlib.Core.List.{List}
use Prim.Native.Nat.{ℕ, ◌≤◌}
use native.Mathlib.Omega.{arith}
use lib.ListN.{length}
use Rattle.std.specs.Prelude.{Result, Ok, Err}
use Rattle.model.specs.Answer.{Answer, given, refused, ◌then◌}
use Rattle.model.specs.Printed.{words_in, words_of}
use Rattle.model.proofs.Answers.{given-refused, refused-given, refused-number, refused-place, given-value}
use Rattle.model.proofs.FileWords.{words-given}
use Rattle.refusals.specs.declared.Refusal.{Refusal}
use Rattle.refusals.specs.Answers.{number_of, answer_of}

-- what a decoded file answers: its words by their number
abbrev pub Decoded : Result ℕ Refusal → Answer (List ℕ) → Type 0
Decoded r a = answer_of (λ (n : ℕ). n) r ≡ (a then λ ws. given (length ws))

-- words, so many
as-words : (a : Answer (List ℕ)) (k : ℕ) → Decoded (Ok k) a → (ws : List ℕ) × (a ≡ given ws) × (k ≡ length ws)
unfolding answer_of ◌then◌
as-words (given ws) k e = (ws, refl, given-value e)
as-words (refused n p) k e = given-refused e

-- a refusal, the same
pub as-refused : (a : Answer (List ℕ)) (r : Refusal) → Decoded (Err r) a → a ≡ refused (number_of r.reason) r.place
unfolding answer_of ◌then◌
as-refused (given ws) r e = refused-given e
as-refused (refused n p) r e = rw (refused-number e, refused-place e)

-- decoded words are all that the bytes have, and at most 4,096
pub word_count : (bs : List ℕ) (k : ℕ) → Decoded (Ok k) (words_of bs) → (words_of bs ≡ given (words_in bs)) × (k ≡ length (words_in bs)) × (k ≤ 4096)
word_count bs k e =
    let a = as-words (words_of bs) k e in
    let w = words-given bs a.0 a.1 in
    (rw w.0 at a.1, rw w.0 at a.2, omega (arith, w.1, a.2))
