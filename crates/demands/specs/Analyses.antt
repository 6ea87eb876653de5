-- SCOPE.md, "Plan" and "Analysis" (refusals 13 and 14): the words of a plan; the analysis' answer and both slices afterwards, for words that read as a set.
use Rattle.std.specs.Prelude.{ℕ, suc, ◌+◌, ◌*◌, ◌<◌, ◌≤◌, ◌≡◌, length, drop, replicate}
use mathlib.Core.List.{List, [], ◌∷◌, ◌++◌, map, flatten}
use Rattle.model.specs.Answer.{given, refused}
use Rattle.model.specs.Set.{Set, lengths_of, size}
use Rattle.model.specs.Box.{Box}
use Rattle.model.specs.Map.{map_of}
use Rattle.model.specs.Plan.{Plan, plan_of, plan_words}
use Rattle.model.specs.Analysis.{planned, analyse}
use Rattle.model.specs.Read.{read}

-- one word a task of kind 8, from task t on: bits 23 to 16 task, 15 to 8 lowest, 7 to 0 highest position
unfoldable pub sides_from : ℕ → Box → List ℕ
sides_from t [] = []
sides_from t (i ∷ b) = (0x80000000 + t * 0x10000 + i.low * 0x100 + i.high) ∷ sides_from (suc t) b

-- each forbidden box as kind 6, with the device as field, and each unsafe box as kind 7, with field 0, its sides behind it; then kind 9 for each dead state that is reached, kind A
-- for each of the others, with the rank as field
abbrev pub list_of : Plan → List ℕ
list_of p =
    flatten (map (λ f. (0x60000000 + f.device) ∷ sides_from 0 f.box) p.forbidden)
    ++ flatten (map (λ b. 0x70000000 ∷ sides_from 0 b) p.unsafe)
    ++ map (λ r. 0x90000000 + r) p.reached
    ++ map (λ r. 0xA0000000 + r) p.unreached

-- how many words the plan of a set has
abbrev pub plan_length : Set → ℕ
plan_length s = length (plan_words (plan_of s))

-- the three cases are all there are: each answer comes exactly where its case applies
pub record OfAnalysis (words : List ℕ) (s : Set) : Type 0 where
  -- the map has a byte a state; the plan has a header and a word a task for each box, a word for each dead state, and END
  pub map_length : length (map_of s) ≡ size (lengths_of s)
  pub plan-length : plan_length s
      ≡ (length (plan_of s).forbidden + length (plan_of s).unsafe) * (1 + length s.tasks) + length (plan_of s).reached + length (plan_of s).unreached + 1
  -- a map slice shorter than the grid brings 13 with the grid, and both slices stay as they were
  pub map_short : (map plan : List ℕ) → length map < size (lengths_of s)
      → analyse words map plan ≡ record { answer = refused 13 (size (lengths_of s)); map = map; plan = plan }
  -- else a plan slice shorter than the plan brings 14 with the slice's length: the finished map, and a plan slice of zeros
  pub plan_short : (map plan : List ℕ) → size (lengths_of s) ≤ length map → length plan < plan_length s
      → analyse words map plan
      ≡ record { answer = refused 14 (length plan); map = map_of s ++ drop (size (lengths_of s)) map; plan = replicate (length plan) 0 }
  -- else it is accepted, with the plan's length and the set's parts per thousand, of which `PerThousand` says more; beyond map and plan the slices keep what they had
  pub made : (map plan : List ℕ) → size (lengths_of s) ≤ length map → plan_length s ≤ length plan
      → analyse words map plan
      ≡ record { answer = given (planned s (plan_length s)); map = map_of s ++ drop (size (lengths_of s)) map; plan = plan_words (plan_of s) ++ drop (plan_length s) plan }

pub record Analyses : Type 0 where
  -- the words of a plan, and END as in a set
  pub plan-words : (p : Plan) → plan_words p ≡ list_of p ++ ((0x50000000 + length (list_of p)) ∷ [])
  pub analyses : (words : List ℕ) (s : Set) → read words ≡ given s → OfAnalysis words s
