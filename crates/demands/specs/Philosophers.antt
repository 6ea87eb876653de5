-- Five philosophers: a larger set that the definitions still compute, for auditors who want to evaluate them. Each of five tasks claims its left device,
-- then its right one, then releases both: 3,125 states.
use Rattle.std.specs.Prelude.{ℕ, ◌+◌, ◌%◌, ◌≡◌, [], ◌∷◌, map}
use Rattle.model.specs.Set.{Set, Task, claim, release, lengths_of, size}
use Rattle.model.specs.Plan.{unsafe_of, dead_of, reached_of, unreached_of}
use Rattle.demands.specs.Terms.{◌to◌}

-- the task between devices i and i + 1, counted round
abbrev pub philosopher : ℕ → Task
philosopher i = claim i 0 ∷ claim ((i + 1) % 5) 0 ∷ release i ∷ release ((i + 1) % 5) ∷ []

-- five of them round a table of five devices
abbrev pub five : Set
five = record { capacities = 1 ∷ 1 ∷ 1 ∷ 1 ∷ 1 ∷ []; tasks = map philosopher (0 ∷ 1 ∷ 2 ∷ 3 ∷ 4 ∷ []) }

-- what their analysis finds
pub record Philosophers : Type 0 where
  pub states : size (lengths_of five) ≡ 3125
  -- the one dead state is that where each task holds its left device: rank 781, which is reached
  pub dead : dead_of five ≡ 781 ∷ []
  pub reached : reached_of five ≡ 781 ∷ []
  pub unreached : unreached_of five ≡ []
  -- it is the one unsafe state too
  pub unsafe : unsafe_of five ≡ (1 to 1 ∷ 1 to 1 ∷ 1 to 1 ∷ 1 to 1 ∷ 1 to 1 ∷ []) ∷ []
