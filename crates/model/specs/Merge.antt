-- The merge (SCOPE.md, "Merge"; refusals 29 to 31): two sets as one whose first k devices are the same ones, and its words in a lent slice.
use Rattle.std.specs.Prelude.{ℕ, ◌+◌, ◌-◌, ◌<◌, ◌≤◌, ◌≡◌, not, cond, ◌||◌, List, ◌++◌, length, drop, eqb, ltb}
use Rattle.model.specs.Below.{lowest}
use Rattle.model.specs.Answer.{Answer, given, refused, ◌then◌, Written, in_slice}
use Rattle.model.specs.Set.{Set, at}
use Rattle.model.specs.Layout.{encode}
use Rattle.model.specs.Read.{read}
use Rattle.model.specs.Clean.{renamed_tasks}

-- the number in the merged set of the second set's device d, where the first set has n: the first k keep theirs, the others follow the first set's
unfoldable pub merged_number : ℕ → ℕ → ℕ → ℕ
merged_number n k d = cond (ltb d k) d (n + (d - k))

module _ (k : ℕ) (s t : Set) where
  -- the two sets as one: the second set's devices from k on follow the first's, and its tasks come after, naming the devices by their new numbers
  abbrev pub merged : Set
  merged = record {
    capacities = s.capacities ++ drop k t.capacities;
    tasks = s.tasks ++ renamed_tasks (merged_number (length s.capacities) k) t.tasks;
  }

  -- the first k devices can be the same ones: both sets have as many, with the same capacities
  pub record Shares : Type 0 where
    pub of_first : k ≤ length s.capacities
    pub of_second : k ≤ length t.capacities
    pub same : (d : ℕ) → d < k → at s.capacities d ≡ at t.capacities d

  -- the lowest of the first k devices whose two capacities are unequal, k if there is none
  abbrev pub first_unequal : ℕ
  first_unequal = lowest k (λ d. not (eqb (at s.capacities d) (at t.capacities d)))

  -- 29: k above either device count; 30: unequal capacities among the first k; 31: a slice shorter than the merged set's words; then the refusal that those words
  -- bring; else the words
  unfoldable pub merge_fits : List ℕ → Answer (List ℕ)
  merge_fits slice =
      let ws = encode merged in
      cond (ltb (length s.capacities) k || ltb (length t.capacities) k) (refused 29 0)
      (cond (ltb first_unequal k) (refused 30 first_unequal)
      (cond (ltb (length slice) (length ws)) (refused 31 (length ws))
      (read ws then λ u. given ws)))

-- the words of the merged set in a lent slice; both sets are read first, the first one's refusal winning
abbrev pub merge : List ℕ → List ℕ → ℕ → List ℕ → Written
merge first second k slice = in_slice (read first then λ s. read second then λ t. merge_fits k s t slice) slice
