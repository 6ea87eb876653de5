-- SCOPE.md, "Cleaner", the program `clean`: what is written for the bytes read, case by case.
use Rattle.std.specs.Prelude.{ℕ, ◌/◌, ◌%◌, ◌<◌, ◌≤◌, ◌≡◌, List, [], ◌∷◌, ◌++◌, length, drop}
use Rattle.model.specs.Answer.{given, refused}
use Rattle.model.specs.Set.{Set}
use Rattle.model.specs.Layout.{encode, former}
use Rattle.model.specs.Read.{read_by}
use Rattle.model.specs.Clean.{cleaned}
use Rattle.model.specs.CleanFile.{cleaned_file, cleaned_in}
use Rattle.demands.specs.Printer.{fours, Whole, refusal, lines, file_of}

-- the four cases are all there are: each file is written exactly where its case applies
pub record CleanProgram : Type 0 where
  -- over 16,384 bytes
  pub too_many : (bs : List ℕ) → 16384 < length bs → cleaned_file bs ≡ refusal 2 4096
  -- else bytes that are not words, at the number of whole ones
  pub not_words : (bs : List ℕ) → length bs ≤ 16384 → (length bs % 4 ≡ 0 → ⊥) → cleaned_file bs ≡ refusal 15 (length bs / 4)
  -- else words that the former rules refuse, no words (1 at 0) among them
  pub no_set : (bs : List ℕ) → Whole bs → (n p : ℕ) → read_by former (fours bs) ≡ refused n p → cleaned_file bs ≡ refusal n p
  -- else the cleaned set's words, four bytes a word, lowest first; and whoever reads them has these words again
  pub cleans : (bs : List ℕ) → Whole bs → (s : Set) → read_by former (fours bs) ≡ given s → cleaned_file bs ≡ file_of (encode (cleaned s))
  pub reads_back : (bs : List ℕ) → Whole bs → (s : Set) → read_by former (fours bs) ≡ given s
      → Whole (cleaned_file bs) × (fours (cleaned_file bs) ≡ encode (cleaned s))
  -- a file is never empty, and has at most 16,384 bytes
  pub file_length : (bs : List ℕ) → (0 < length (cleaned_file bs)) × (length (cleaned_file bs) ≤ 16384)
  -- in a lent slice, as the library's function leaves it: the file at the front, and its length; a slice of under 16,384 bytes is left alone, with 0
  pub in-slice : (bs slice : List ℕ) → 16384 ≤ length slice
      → cleaned_in bs slice ≡ record { count = length (cleaned_file bs); slice = cleaned_file bs ++ drop (length (cleaned_file bs)) slice }
  pub short_slice : (bs slice : List ℕ) → length slice < 16384 → cleaned_in bs slice ≡ record { count = 0; slice = slice }
  -- computed: the set that example g was, a set whose claim has three units, example j, a claim of too many units, no bytes, and three bytes
  pub g_written : cleaned_file (file_of (0x10000008 ∷ 0x20000000 ∷ 0x50000002 ∷ [])) ≡ 0 ∷ 0 ∷ 0 ∷ 0x20 ∷ 1 ∷ 0 ∷ 0 ∷ 0x50 ∷ []
  pub units_written : cleaned_file (file_of (0x10000003 ∷ 0x10000004 ∷ 0x20000000 ∷ 0x30020001 ∷ 0x40000001 ∷ 0x50000005 ∷ []))
      ≡ file_of (0x10000004 ∷ 0x20000000 ∷ 0x30020000 ∷ 0x40000000 ∷ 0x50000004 ∷ [])
  pub j_written : cleaned_file (file_of (0x10000001 ∷ 0x20000000 ∷ 0x30000000 ∷ 0x30000000 ∷ [])) ≡ lines ("refused 8 at 3" ∷ [])
  pub too_many_written : cleaned_file (file_of (0x10000002 ∷ 0x20000000 ∷ 0x30020000 ∷ [])) ≡ lines ("refused 28 at 2" ∷ [])
  pub nothing_written : cleaned_file [] ≡ lines ("refused 1 at 0" ∷ [])
  pub three_bytes_written : cleaned_file (1 ∷ 0 ∷ 0 ∷ []) ≡ lines ("refused 15 at 0" ∷ [])
