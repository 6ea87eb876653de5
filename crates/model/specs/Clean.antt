-- The cleaner (SCOPE.md, "Cleaner"; refusals 1 to 12 and 28 by the former rules, 25): a set without the devices that no task claims, and its words in a lent slice.
use Rattle.std.specs.Prelude.{ℕ, suc, Bool, cond, List, [], ◌∷◌, map, length, ltb}
use Rattle.model.specs.Below.{how_many}
use Rattle.model.specs.Slice.{over}
use Rattle.model.specs.Answer.{Answer, given, refused, ◌then◌, if_given}
use Rattle.model.specs.Set.{Action, claim, release, Task, Set, claimed}
use Rattle.model.specs.Layout.{former, encode}
use Rattle.model.specs.Read.{read_by}

-- of the devices from d on, which have these capacities, the capacities of those that pass a test
unfoldable pub kept_from : (ℕ → Bool) → ℕ → List ℕ → List ℕ
kept_from f d [] = []
kept_from f d (c ∷ cs) = let more = kept_from f (suc d) cs in cond (f d) (c ∷ more) more

-- the new number of device d: how many devices before it some task claims
abbrev pub new_number : List Task → ℕ → ℕ
new_number tasks d = how_many d (claimed tasks)

-- an action with another number for its device and the units that it has
unfoldable pub renamed : (ℕ → ℕ) → Action → Action
renamed f (claim d e) = claim (f d) e
renamed f (release d) = release (f d)

-- the tasks with other numbers for the devices
abbrev pub renamed_tasks : (ℕ → ℕ) → List Task → List Task
renamed_tasks f tasks = map (map (renamed f)) tasks

-- the set without the devices that no task claims: the others keep their order and capacities, and the actions name them by their new numbers
abbrev pub cleaned : Set → Set
cleaned s = record { capacities = kept_from (claimed s.tasks) 0 s.capacities; tasks = renamed_tasks (new_number s.tasks) s.tasks }

-- 25: a slice shorter than the cleaned set's words; else those words
unfoldable pub clean_fits : List ℕ → Set → Answer (List ℕ)
clean_fits slice s = let ws = encode (cleaned s) in cond (ltb (length slice) (length ws)) (refused 25 (length ws)) (given ws)

-- the answer, with the number of words written if accepted, and the slice afterwards
pub record Cleaned : Type 0 where
  pub answer : Answer ℕ
  pub slice : List ℕ

-- a refused call leaves the slice as it was, and beyond the words written it keeps its own
abbrev pub clean : List ℕ → List ℕ → Cleaned
clean words slice =
    let fitting = read_by former words then clean_fits slice in
    record { answer = fitting then λ ws. given (length ws); slice = if_given fitting (λ ws. over ws slice) slice }
