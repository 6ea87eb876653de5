-- SCOPE.md, "Printer": what is printed of the bytes read, case by case, and what its characters stand for.
use Rattle.std.specs.Prelude.{ℕ, ◌+◌, ◌*◌, ◌-◌, ◌/◌, ◌%◌, ◌<◌, ◌≤◌, ◌≡◌, ◌⊎◌, cond, length, get_or, take, drop, ltb}
use Prim.Native.String.{String}
use mathlib.Core.List.{List, [], ◌∷◌, ◌++◌, map, flatten}
use Rattle.model.specs.Answer.{given, refused}
use Rattle.model.specs.Set.{Set}
use Rattle.model.specs.Read.{read}
use Rattle.model.specs.Plan.{plan_of, plan_words}
use Rattle.model.specs.Printed.{codes, decimal, hex_line, printed, printed_in}
use Rattle.demands.specs.Analyses.{plan_length}
use Rattle.demands.specs.Examples.{a}

-- the words of bytes: four bytes a word, lowest first
unfoldable pub fours : List ℕ → List ℕ
fours (p ∷ q ∷ r ∷ s ∷ bs) = (p + q * 0x100 + r * 0x10000 + s * 0x1000000) ∷ fours bs
fours (p ∷ q ∷ r ∷ []) = []
fours (p ∷ q ∷ []) = []
fours (p ∷ []) = []
fours [] = []

-- bytes that are words, and not too many
abbrev pub Whole : List ℕ → Type 0
Whole bs = (length bs ≤ 16384) × (length bs % 4 ≡ 0)

-- the number that characters stand for in a base, the first weighing most, where `value` says what a character counts
unfoldable pub number_from : ℕ → (ℕ → ℕ) → ℕ → List ℕ → ℕ
number_from base value n [] = n
number_from base value n (c ∷ cs) = number_from base value (n * base + value c) cs

-- a number in decimal: some digits 0 to 9 (characters 48 to 57), no 0 before others, that stand for it
pub record IsDecimal (n : ℕ) (text : List ℕ) : Type 0 where
  pub some : 0 < length text
  pub digits : (i : ℕ) → i < length text → (48 ≤ get_or text i 0) × (get_or text i 0 ≤ 57)
  pub no_zeros : 1 < length text → 48 < get_or text 0 0
  pub number : number_from 10 (λ c. c - 48) 0 text ≡ n

-- a capital hexadecimal digit, 0 to 9 or A to F (characters 65 to 70), and what it counts
abbrev pub IsHex : ℕ → Type 0
IsHex c = ((48 ≤ c) × (c ≤ 57)) ⊎ ((65 ≤ c) × (c ≤ 70))

abbrev pub hex_value : ℕ → ℕ
hex_value c = cond (ltb c 65) (c - 48) (c - 55)

-- a word on a line: eight such digits that stand for it, and a line feed (character 10)
pub record IsLine (w : ℕ) (line : List ℕ) : Type 0 where
  pub nine : length line ≡ 9
  pub ends : get_or line 8 0 ≡ 10
  pub digits : (i : ℕ) → i < 8 → IsHex (get_or line i 0)
  pub number : number_from 16 hex_value 0 (take 8 line) ≡ w

-- "refused N at P", on one line
abbrev pub refusal : ℕ → ℕ → List ℕ
refusal n p = codes "refused " ++ decimal n ++ codes " at " ++ decimal p ++ (10 ∷ [])

-- texts, a line each
unfoldable pub lines : List String → List ℕ
lines [] = []
lines (s ∷ ss) = codes s ++ (10 ∷ lines ss)

-- a file of words
abbrev pub file_of : List ℕ → List ℕ
file_of ws = flatten (map (λ w. w % 256 ∷ w / 0x100 % 256 ∷ w / 0x10000 % 256 ∷ w / 0x1000000 % 256 ∷ []) ws)

-- the five cases are all there are: each text is printed exactly where its case applies
pub record Printing : Type 0 where
  -- over 16,384 bytes
  pub too_many : (bs : List ℕ) → 16384 < length bs → printed bs ≡ refusal 2 4096
  -- else bytes that are not words, at the number of whole ones
  pub not_words : (bs : List ℕ) → length bs ≤ 16384 → (length bs % 4 ≡ 0 → ⊥) → printed bs ≡ refusal 15 (length bs / 4)
  -- else words that the reader refuses, no words (1 at 0) among them
  pub no_set : (bs : List ℕ) → Whole bs → (n p : ℕ) → read (fours bs) ≡ refused n p → printed bs ≡ refusal n p
  -- else a set whose plan has over 16,384 words
  pub too_long : (bs : List ℕ) → Whole bs → (s : Set) → read (fours bs) ≡ given s → 16384 < plan_length s → printed bs ≡ refusal 14 16384
  -- else the plan, a line a word
  pub plan : (bs : List ℕ) → Whole bs → (s : Set) → read (fours bs) ≡ given s → plan_length s ≤ 16384
      → printed bs ≡ flatten (map hex_line (plan_words (plan_of s)))
  -- what the characters are: of a word of 32 bits, as all words of a plan are, and of a number
  pub words_on_lines : (w : ℕ) → w < 0x100000000 → IsLine w (hex_line w)
  pub plan-words : (words : List ℕ) (s : Set) → read words ≡ given s → (i : ℕ) → i < plan_length s → get_or (plan_words (plan_of s)) i 0 < 0x100000000
  pub numbers : (n : ℕ) → IsDecimal n (decimal n)
  pub refused_text : codes "refused " ≡ 114 ∷ 101 ∷ 102 ∷ 117 ∷ 115 ∷ 101 ∷ 100 ∷ 32 ∷ []
  pub at_text : codes " at " ≡ 32 ∷ 97 ∷ 116 ∷ 32 ∷ []
  -- a text is never empty, and has at most 147,456 bytes
  pub text_length : (bs : List ℕ) → (0 < length (printed bs)) × (length (printed bs) ≤ 147456)
  -- in a lent slice, as the library's function leaves it: the text at the front, and its length; a slice of under 147,456 bytes is left alone, with 0
  pub in-slice : (bs slice : List ℕ) → 147456 ≤ length slice
      → printed_in bs slice ≡ record { count = length (printed bs); slice = printed bs ++ drop (length (printed bs)) slice }
  pub short_slice : (bs slice : List ℕ) → length slice < 147456 → printed_in bs slice ≡ record { count = 0; slice = slice }
  -- computed: example a, example j, no bytes, and three bytes
  pub a_prints : printed (file_of a) ≡ lines (
      "60000000" ∷ "80000103" ∷ "80010202" ∷ "60000001" ∷ "80000202" ∷ "80010103" ∷ "70000000" ∷ "80000101" ∷ "80010101" ∷ "90000006" ∷ "5000000A" ∷ [])
  pub j_prints : printed (file_of (0x10000001 ∷ 0x20000000 ∷ 0x30000000 ∷ 0x30000000 ∷ [])) ≡ lines ("refused 8 at 3" ∷ [])
  pub nothing_prints : printed [] ≡ lines ("refused 1 at 0" ∷ [])
  pub three_bytes_print : printed (1 ∷ 0 ∷ 0 ∷ []) ≡ lines ("refused 15 at 0" ∷ [])
