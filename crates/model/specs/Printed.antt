-- The printer (SCOPE.md, "Printer"): from the bytes on standard input to the text on standard output.
use Rattle.std.specs.Prelude.{ℕ, zero, suc, ◌+◌, ◌*◌, ◌-◌, ◌/◌, ◌%◌, not, cond, List, [], ◌∷◌, ◌++◌, length, ltb, eqb}
use Prim.Native.Char.{code}
use Prim.Native.String.{String}
use Prim.Native.String as text
use Rattle.model.specs.Below.{tabulate}
use Rattle.model.specs.Slice.{over}
use Rattle.model.specs.Answer.{Answer, given, refused, ◌then◌}
use Rattle.model.specs.Set.{Set, at}
use Rattle.model.specs.Read.{read}
use Rattle.model.specs.Plan.{plan_of, plan_words}

-- the k-th word: four bytes, lowest first
unfoldable pub word_at : List ℕ → ℕ → ℕ
word_at bs k = at bs (k * 4) + at bs (k * 4 + 1) * 0x100 + at bs (k * 4 + 2) * 0x10000 + at bs (k * 4 + 3) * 0x1000000

-- all whole words
abbrev pub words_in : List ℕ → List ℕ
words_in bs = tabulate (length bs / 4) (word_at bs)

-- 2: over 16,384 bytes; 15: bytes not a multiple of 4, at the number of whole words; else the words
unfoldable pub words_of : List ℕ → Answer (List ℕ)
words_of bs =
    cond (ltb 16384 (length bs)) (refused 2 4096)
    (cond (not (eqb (length bs % 4) 0)) (refused 15 (length bs / 4))
    (given (words_in bs)))

-- 14: a plan of over 16,384 words; else its words
unfoldable pub to_print : Set → Answer (List ℕ)
to_print s = let ws = plan_words (plan_of s) in cond (ltb 16384 (length ws)) (refused 14 16384) (given ws)

-- what there is to print: the words of a plan, or a refusal
abbrev pub answer_to : List ℕ → Answer (List ℕ)
answer_to bs = words_of bs then λ ws. read ws then to_print

-- the character of a hexadecimal digit: 0 to 9 from 48 on, A to F from 65 on
abbrev pub hex_digit : ℕ → ℕ
hex_digit n = cond (ltb n 10) (48 + n) (65 + (n - 10))

-- a word's eight digits, highest first, and a line feed
abbrev pub hex_line : ℕ → List ℕ
hex_line w =
    hex_digit (w / 0x10000000 % 16) ∷ hex_digit (w / 0x1000000 % 16) ∷ hex_digit (w / 0x100000 % 16) ∷ hex_digit (w / 0x10000 % 16)
    ∷ hex_digit (w / 0x1000 % 16) ∷ hex_digit (w / 0x100 % 16) ∷ hex_digit (w / 0x10 % 16) ∷ hex_digit (w % 16) ∷ 10 ∷ []

-- the lines of words, one after the other
unfoldable pub lines_of : List ℕ → List ℕ
lines_of [] = []
lines_of (w ∷ ws) = hex_line w ++ lines_of ws

-- the lowest k decimal digits of a number, all of them if it has fewer, highest first
unfoldable pub digits : ℕ → ℕ → List ℕ
digits zero n = []
digits (suc k) n = cond (ltb n 10) ((48 + n) ∷ []) (digits k (n / 10) ++ ((48 + n % 10) ∷ []))

-- all of them: a number has no more digits than it counts, and 0 has one
abbrev pub decimal : ℕ → List ℕ
decimal n = digits (suc n) n

-- the bytes of a text: the codes of its characters
unfoldable pub codes : String → List ℕ
codes text.[] = []
codes (text.◌∷◌ c s) = code c ∷ codes s

-- a refusal's number and place, on one line
abbrev pub refusal_line : ℕ → ℕ → List ℕ
refusal_line n p = codes "refused " ++ decimal n ++ codes " at " ++ decimal p ++ (10 ∷ [])

-- the text of what there is to print
unfoldable pub text_of : Answer (List ℕ) → List ℕ
text_of (given ws) = lines_of ws
text_of (refused n p) = refusal_line n p

-- what is printed of bytes
abbrev pub printed : List ℕ → List ℕ
printed bs = text_of (answer_to bs)

-- a slice for the longest text, 16,384 lines of nine bytes
abbrev pub TEXT : ℕ
TEXT = 147456

-- how many bytes of a slice are the text, and the slice afterwards
pub record Shown : Type 0 where
  pub count : ℕ
  pub slice : List ℕ

-- a text at the front of a slice
abbrev pub shown : List ℕ → List ℕ → Shown
shown t slice = record { count = length t; slice = over t slice }

-- what is printed, in a lent slice; one that is shorter than the longest text is left as it is
unfoldable pub printed_in : List ℕ → List ℕ → Shown
printed_in bs slice = cond (ltb (length slice) TEXT) (record { count = 0; slice = slice }) (shown (printed bs) slice)
