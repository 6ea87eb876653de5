-- The program `clean` (SCOPE.md, "Cleaner"): from the bytes on standard input to those on standard output.
use Rattle.std.specs.Prelude.{ℕ, ◌/◌, ◌%◌, cond, List, [], ◌∷◌, ◌++◌, length, ltb}
use Rattle.model.specs.Answer.{Answer, given, refused, ◌then◌}
use Rattle.model.specs.Set.{Set}
use Rattle.model.specs.Layout.{former, encode}
use Rattle.model.specs.Read.{read_by}
use Rattle.model.specs.Clean.{cleaned}
use Rattle.model.specs.Printed.{words_of, refusal_line, Shown, shown}

-- a word's four bytes, lowest first
abbrev pub bytes_of : ℕ → List ℕ
bytes_of w = w % 0x100 ∷ w / 0x100 % 0x100 ∷ w / 0x10000 % 0x100 ∷ w / 0x1000000 ∷ []

-- the bytes of words, one word after the other
unfoldable pub bytes_of_all : List ℕ → List ℕ
bytes_of_all [] = []
bytes_of_all (w ∷ ws) = bytes_of w ++ bytes_of_all ws

-- the words of the cleaned set
abbrev pub to_write : Set → Answer (List ℕ)
to_write s = given (encode (cleaned s))

-- what there is to write: those words, or a refusal, the file's own before the set's
abbrev pub answer_to : List ℕ → Answer (List ℕ)
answer_to bs = words_of bs then λ ws. read_by former ws then to_write

-- the bytes of what there is to write
unfoldable pub output_of : Answer (List ℕ) → List ℕ
output_of (given ws) = bytes_of_all ws
output_of (refused n p) = refusal_line n p

-- what is written for bytes
abbrev pub cleaned_file : List ℕ → List ℕ
cleaned_file bs = output_of (answer_to bs)

-- a slice with room for 4,096 words, more than any cleaned set has
abbrev pub FILE : ℕ
FILE = 16384

-- what is written, in a lent slice; one that is shorter is left as it is
unfoldable pub cleaned_in : List ℕ → List ℕ → Shown
cleaned_in bs slice = cond (ltb (length slice) FILE) (record { count = 0; slice = slice }) (shown (cleaned_file bs) slice)
