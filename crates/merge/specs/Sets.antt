-- The merged words, and the numbers of the second set's devices: for the contracts of its own functions.
use Rattle.std.specs.Prelude.{ℕ, ◌<◌, ◌≡◌, List, length}
use Rattle.model.specs.Set.{Set, at}
use Rattle.model.specs.Layout.{encode}
use Rattle.model.specs.Read.{set_in}
use Rattle.model.specs.Merge.{merged_number, merged}

-- the set that the two make, and its words
abbrev pub merged_set : ℕ → List ℕ → List ℕ → Set
merged_set k first second = merged k (set_in first) (set_in second)

abbrev pub merged_words : ℕ → List ℕ → List ℕ → List ℕ
merged_words k first second = encode (merged_set k first second)

-- the number of each of so many devices of the second set, where the first has n
pub record NumbersAre (n k devices : ℕ) (numbers : List ℕ) : Type 0 where
  pub sixteen : length numbers ≡ 16
  pub each : (d : ℕ) → d < devices → at numbers d ≡ merged_number n k d
