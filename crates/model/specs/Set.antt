-- The set (SCOPE.md, "Sets"): devices with their capacities, tasks with their actions, and what a task keeps to.
use Rattle.std.specs.Prelude.{ℕ, suc, ◌*◌, ◌<◌, ◌≤◌, ◌≡◌, Bool, true, false, not, cond, ◌&&◌, ◌||◌, List, [], ◌∷◌, map, length, get_or, eqb}

-- a claim of a device with its extra units, those beside the first; or a release of a device, which gives all units back
pub data Action : Type 0 where
  claim : ℕ → ℕ → Action
  release : ℕ → Action

-- the device that an action names
unfoldable pub device_of : Action → ℕ
device_of (claim d e) = d
device_of (release d) = d

-- whether an action is a claim
unfoldable pub is_claim : Action → Bool
is_claim (claim d e) = true
is_claim (release d) = false

-- the units that an action takes: one and the extra ones for a claim
unfoldable pub units_taken : Action → ℕ
units_taken (claim d e) = suc e
units_taken (release d) = 0

-- a straight list of actions
abbrev pub Task : Type 0
Task = List Action

-- the capacity of each device, and the actions of each task
pub record Set : Type 0 where
  pub capacities : List ℕ
  pub tasks : List Task

-- the action count L of each task
abbrev pub lengths : List Task → List ℕ
lengths = map length

-- the same of a set
abbrev pub lengths_of : Set → List ℕ
lengths_of s = lengths s.tasks

-- task t, and its action p counted from 0
abbrev pub task_at : Set → ℕ → Task
task_at s t = get_or s.tasks t []

abbrev pub action_at : Set → ℕ → ℕ → Action
action_at s t p = get_or (task_at s t) p (claim 0 0)

-- whether some action of a task claims device d
unfoldable pub claims : ℕ → Task → Bool
claims d [] = false
claims d (claim c e ∷ rest) = eqb c d || claims d rest
claims d (release c ∷ rest) = claims d rest

-- whether some task claims device d
unfoldable pub claimed : List Task → ℕ → Bool
claimed [] d = false
claimed (task ∷ tasks) d = claims d task || claimed tasks d

-- the number at place t of a list, 0 past its end
abbrev pub at : List ℕ → ℕ → ℕ
at l t = get_or l t 0

-- the number of states: the product of (L + 1) over the tasks
unfoldable pub size : List ℕ → ℕ
size [] = 1
size (l ∷ ls) = suc l * size ls

-- the rest of a task that holds device d now (h) or not: it claims d only while it doesn't hold it, releases it only while it does, and doesn't hold it
-- at its close
unfoldable pub balanced : ℕ → Bool → Task → Bool
balanced d h [] = not h
balanced d h (claim c e ∷ rest) = cond (eqb c d) (not h && balanced d true rest) (balanced d h rest)
balanced d h (release c ∷ rest) = cond (eqb c d) (h && balanced d false rest) (balanced d h rest)

-- a task of a set with these capacities: at most 255 actions on declared devices, no claim of more units than its device has, balanced for each device
pub record GoodTask (capacities : List ℕ) (task : Task) : Type 0 where
  pub actions : length task ≤ 255
  pub declared : (p : ℕ) → p < length task → device_of (get_or task p (claim 0 0)) < length capacities
  pub units : (p : ℕ) → p < length task → units_taken (get_or task p (claim 0 0)) ≤ at capacities (device_of (get_or task p (claim 0 0)))
  pub balance : (d : ℕ) → balanced d false task ≡ true
