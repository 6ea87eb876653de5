-- The units that claims take, and the most of them for each device.
use Rattle.std.specs.Prelude.{ℕ, ◌+◌, ◌<◌, ◌≤◌, ◌≡◌, List, length}
use Rattle.model.specs.Set.{Action, device_of, units_taken, Set, task_at, action_at, at}
use Rattle.model.specs.Layout.{action_of}

-- an action of an accepted set: on one of at most 16 devices, of at most 8 units
abbrev pub Small : Action → Type 0
Small a = (device_of a < 16) × (units_taken a ≤ 8)

-- the n actions from `start` on are there, each such an action
pub record Reads (words : List ℕ) (start n : ℕ) : Type 0 where
  pub inside : (p : ℕ) → p < n → start + p < length words
  pub small : (p : ℕ) → p < n → Small (action_of (at words (start + p)))

-- an action takes no more than the most units of its device
abbrev pub Within : List ℕ → Action → Type 0
Within most a = units_taken a ≤ at most (device_of a)

-- the most units after n actions more: none falls
pub record TaskNoted (words : List ℕ) (start n : ℕ) (before after : List ℕ) : Type 0 where
  pub kept : (d : ℕ) → at before d ≤ at after d
  pub within : (p : ℕ) → p < n → Within after (action_of (at words (start + p)))

-- the most units of the first n tasks of a set
abbrev pub MostUnits : Set → ℕ → List ℕ → Type 0
MostUnits s n most = (t p : ℕ) → t < n → p < length (task_at s t) → Within most (action_at s t p)

-- no action of a set takes more than m units of device d
abbrev pub NoMore : Set → ℕ → ℕ → Type 0
NoMore s d m = (t p : ℕ) → t < length s.tasks → p < length (task_at s t) → device_of (action_at s t p) ≡ d → units_taken (action_at s t p) ≤ m
