-- New numbers for the devices, and what the cleaner's functions may assume of an accepted set: for the contracts of its own functions.
use Rattle.std.specs.Prelude.{ℕ, ◌<◌, ◌≡◌, Bool, false, List, length, get_or}
use Rattle.model.specs.Below.{how_many, tabulate}
use Rattle.model.specs.Answer.{given}
use Rattle.model.specs.Set.{Set, claimed, at}
use Rattle.model.specs.Layout.{former, encode}
use Rattle.model.specs.Read.{set_of, read_by}
use Rattle.model.specs.Clean.{cleaned}
use Rattle.shape.specs.declared.Shape.{Shape}
use Rattle.shape.specs.ShapeOf.{shape_of}
use Rattle.cleaner.specs.declared.Numbering.{Numbering}

-- how many devices before d are marked
abbrev pub marks_before : List Bool → ℕ → ℕ
marks_before marks d = how_many d (λ e. get_or marks e false)

-- the number of each of so many devices is that of the marked ones before it
pub record NumbersAre (devices : ℕ) (marks : List Bool) (numbers : List ℕ) : Type 0 where
  pub sixteen : length numbers ≡ 16
  pub each : (d : ℕ) → d < devices → at numbers d ≡ marks_before marks d

-- and so many are marked
pub record Numbers (devices : ℕ) (marks : List Bool) (r : Numbering) : Type 0 where
  pub numbers : NumbersAre devices marks r.numbers
  pub count : r.count ≡ marks_before marks devices

-- the set that words declare by the former rules, and the words of the cleaned one
abbrev pub former_set : List ℕ → Set
former_set words = set_of (read_by former words)

abbrev pub clean_words : List ℕ → List ℕ
clean_words words = encode (cleaned (former_set words))

-- the former rules accept the words, this is the shape of the set, and these are the devices that its tasks claim
pub record Accepted (words : List ℕ) (shape : Shape) (marks : List Bool) : Type 0 where
  pub accepted : read_by former words ≡ given (former_set words)
  pub shaped : shape ≡ shape_of (former_set words)
  pub marked : marks ≡ tabulate 16 (claimed (former_set words).tasks)
