-- What the code answers, case by case, is what the definition says.
use Prim.Native.Nat.{ℕ, ◌<◌, ◌≤◌}
use mathlib.Core.Path.{◌≡◌, sym, ap, ◌∙◌}
use mathlib.Core.List.{List}
use lib.ListN.{length}
use borrow.Author.Tests.{lt-ltb, le-ltb}
use Rattle.model.specs.Answer.{given, refused, ◌then◌, if_given}
use Rattle.model.specs.Slice.{over}
use Rattle.model.specs.Set.{Set}
use Rattle.model.specs.Layout.{former, encode}
use Rattle.model.specs.Read.{Reading, read_by}
use Rattle.model.specs.Clean.{cleaned, clean_fits, Cleaned, clean}
use Rattle.cleaner.specs.Numbers.{former_set, clean_words}

-- what becomes of a reading in a slice
abbrev made : Reading → List ℕ → Cleaned
made x slice =
    let fitting = x then clean_fits slice in
    record { answer = fitting then λ ws. given (length ws); slice = if_given fitting (λ ws. over ws slice) slice }

module _ (s : Set) (slice : List ℕ) where
  short-made : length slice < length (encode (cleaned s)) → record { answer = refused 25 (length (encode (cleaned s))); slice = slice } ≡ made (given s) slice
  unfolding ◌then◌ if_given clean_fits
  short-made h = rw (lt-ltb (length slice) (length (encode (cleaned s))) h)

  fits-made : length (encode (cleaned s)) ≤ length slice
      → record { answer = given (length (encode (cleaned s))); slice = over (encode (cleaned s)) slice } ≡ made (given s) slice
  unfolding ◌then◌ if_given clean_fits
  fits-made h = rw (le-ltb (length slice) (length (encode (cleaned s))) h)

module _ (words slice : List ℕ) where
  -- the former rules' refusal
  pub refused-set : (n p : ℕ) → read_by former words ≡ refused n p → record { answer = refused n p; slice = slice } ≡ clean words slice
  unfolding ◌then◌ if_given
  refused-set n p e = rw e

  module _ (e : read_by former words ≡ given (former_set words)) where
    -- 25: nothing is written
    pub too_short : length slice < length (clean_words words) → record { answer = refused 25 (length (clean_words words)); slice = slice } ≡ clean words slice
    too_short h = short-made (former_set words) slice h ∙ ap (λ (x : Reading). made x slice) (sym e)

    pub cleans : length (clean_words words) ≤ length slice → record { answer = given (length (clean_words words)); slice = over (clean_words words) slice } ≡ clean words slice
    cleans h = fits-made (former_set words) slice h ∙ ap (λ (x : Reading). made x slice) (sym e)
