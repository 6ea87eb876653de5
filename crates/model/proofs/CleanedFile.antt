-- What there is to write for words, by what the cleaner leaves in 4,096 words, which a cleaned set always fits; what is written for bytes, and how long it is.
use Prim.Native.Nat.{ℕ, ◌<◌, ◌≤◌}
use native.Mathlib.Omega.{arith}
use mathlib.Core.Path.{◌≡◌, refl, sym, ap, ◌∙◌}
use mathlib.Core.List.{List, [], ◌∷◌}
use lib.ListN.{length, take, drop, length-append}
use lib.Seq.{take_at}
use borrow.Author.Tests.{le-ltb}
use Rattle.model.specs.Answer.{given, refused, ◌then◌, if_given}
use Rattle.model.specs.Slice.{over}
use Rattle.model.specs.Set.{Set}
use Rattle.model.specs.Layout.{word, END, body, with_end, encode, former}
use Rattle.model.specs.Read.{read_by}
use Rattle.model.specs.Clean.{cleaned, clean_fits, clean}
use Rattle.model.specs.Printed.{words_of, refusal_line, shown}
use Rattle.model.specs.CleanFile.{to_write, output_of, cleaned_file, FILE, cleaned_in}
use Rattle.model.proofs.Bools.{by_cases}
use Rattle.model.proofs.Answers.{given-refused, given-value, then-refused, then-given, then_same}
use Rattle.model.proofs.ReadExact.{read-sound}
use Rattle.model.proofs.ReadNumbers.{read_small}
use Rattle.model.proofs.Cleaned.{cleaned-formed}
use Rattle.model.proofs.Rows.{fours, length-rows}
use Rattle.model.proofs.FileShown.{in-long, in-short, by-words, by-none, text-fits}

-- a set has words, and a cleaned one that was read at most 4,096
some_words : (s : Set) → 0 < length (encode s)
unfolding with_end
some_words s = omega (arith, length-append (body s) (word END (length (body s)) ∷ []))

few_words : (words : List ℕ) (s : Set) → read_by former words ≡ given s → length (encode (cleaned s)) ≤ 4096
few_words words s e = (cleaned-formed s (read-sound words s e).1).words

-- the words that there are to write
written-words : (words ws : List ℕ) → (read_by former words then to_write) ≡ given ws → (0 < length ws) × (length ws ≤ 4096)
written-words words ws e =
    let r = (then-given to_write (read_by former words) ws).0 e in
    let n = ap length (given-value r.2) in
    (omega (arith, some_words (cleaned r.0)), omega (arith, few_words words r.0 r.1))

module _ (words slice : List ℕ) (most : length slice ≡ 4096) where
  -- the words of a set that is read always have room
  fitted : (read_by former words then clean_fits slice) ≡ (read_by former words then to_write)
  unfolding clean_fits
  fitted =
      then_same (clean_fits slice) to_write (read_by former words)
      (λ s e. rw (le-ltb (length slice) (length (encode (cleaned s))) (omega (arith, few_words words s e))))

  -- cleaned: the words that the slice has at its front
  pub made : (n : ℕ) → (clean words slice).answer ≡ given n → ((read_by former words then to_write) ≡ given (take n (clean words slice).slice)) × (n ≤ 4096)
  unfolding if_given
  made n e =
      let r = (then-given _ (read_by former words then clean_fits slice) n).0 e in
      let q : (read_by former words then to_write) ≡ given r.0 = sym fitted ∙ r.1 in
      let front : take n (over r.0 slice) ≡ r.0 = take_at r.0 (drop (length r.0) slice) n (given-value r.2) in
      (rw (r.1, front) q, omega (arith, (written-words words r.0 q).1, given-value r.2))

  -- refused: with the same number and place
  pub turned_back : (n p : ℕ) → (clean words slice).answer ≡ refused n p → (read_by former words then to_write) ≡ refused n p
  turned_back n p e =
      by_cases ((then-refused _ (read_by former words then clean_fits slice) n p).0 e) (λ q. sym fitted ∙ q) (λ r. given-refused r.2)

-- ---- what is written
module _ (bs : List ℕ) where
  -- by what the bytes are
  pub of_words : (ws : List ℕ) → words_of bs ≡ given ws → cleaned_file bs ≡ output_of (read_by former ws then to_write)
  of_words = by-words (λ ws. read_by former ws then to_write) output_of bs

  pub of_none : (n p : ℕ) → words_of bs ≡ refused n p → cleaned_file bs ≡ refusal_line n p
  unfolding output_of
  of_none = by-none (λ ws. read_by former ws then to_write) output_of bs

  -- into a slice that is long enough, and into one that is not
  pub long-enough : (slice : List ℕ) → FILE ≤ length slice → shown (cleaned_file bs) slice ≡ cleaned_in bs slice
  unfolding cleaned_in
  long-enough = in-long FILE (cleaned_file bs)

  pub too_short : (slice : List ℕ) → length slice < FILE → record { count = 0; slice = slice } ≡ cleaned_in bs slice
  unfolding cleaned_in
  too_short = in-short FILE (cleaned_file bs)

-- never nothing, nor more than the longest file
pub cleaned-file-fits : (bs : List ℕ) → (0 < length (cleaned_file bs)) × (length (cleaned_file bs) ≤ FILE)
unfolding output_of
cleaned-file-fits bs =
    text-fits (λ ws. read_by former ws then to_write) output_of bs FILE (omega arith) (λ n p. refl)
    (λ ws vs e. let c = written-words ws vs e in (omega (arith, length-rows fours vs), omega (arith, length-rows fours vs)))
    (λ ws n p e. by_cases ((then-refused to_write (read_by former ws) n p).0 e) (λ q. read_small former ws n p q) (λ r. given-refused r.2))
