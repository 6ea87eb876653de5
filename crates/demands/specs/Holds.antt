-- SCOPE.md, "States and holds": what a task holds, the units held of a device, and the permitted states.
use Rattle.std.specs.Prelude.{ℕ, suc, ◌-◌, ◌<◌, ◌≤◌, ◌≡◌, ◌↔◌, true, length, get_or}
use mathlib.Core.List.{[], ◌∷◌, Memᴰ}
use Rattle.model.specs.Set.{claim, release, Task, Set, lengths_of, task_at, at}
use Rattle.model.specs.Layout.{Rules, WellFormedBy}
use Rattle.model.specs.State.{State, InGrid}
use Rattle.model.specs.Hold.{Hold, holds, units_at, held, permitted}
use Rattle.model.specs.Map.{map_of}
use Rattle.demands.specs.Terms.{◌to◌, sum_below, Ordered, StillHeldWith, StillHeld}

-- a claim of device d that is the task's action p (counted from 1, so at place p - 1), released by action q, is a hold over positions p to q - 1; its units are one
-- and the extra ones of the claim
pub record IsHold (d : ℕ) (task : Task) (h : Hold) : Type 0 where
  pub counted : 1 ≤ h.over.low
  pub claimed : (e : ℕ) × (get_or task (h.over.low - 1) (claim 0 0) ≡ claim d e) × (h.units ≡ suc e)
  pub lasts : h.over.low ≤ h.over.high
  pub before_close : h.over.high < length task
  pub released : get_or task h.over.high (claim 0 0) ≡ release d
  pub unbroken : (q : ℕ) → h.over.low ≤ q → q < h.over.high → get_or task q (claim 0 0) ≡ release d → ⊥

-- of a well-formed set
pub record OfHolds (s : Set) : Type 0 where
  -- after k actions a task has the units of a device that one of them claimed and none since released
  pub after : (t d k e : ℕ) → t < length s.tasks → k ≤ length (task_at s t)
      → (units_at (holds d (task_at s t)) k ≡ suc e) ↔ StillHeldWith d e (task_at s t) k
  -- and else none: a release gives all units back
  pub after_none : (t d k : ℕ) → t < length s.tasks → k ≤ length (task_at s t)
      → (units_at (holds d (task_at s t)) k ≡ 0) ↔ (StillHeld d (task_at s t) k → ⊥)
  -- the holds listed are all there are, by rising position, none twice
  pub listed : (t d : ℕ) (h : Hold) → t < length s.tasks → Memᴰ h (holds d (task_at s t)) ↔ IsHold d (task_at s t) h
  pub rising : (t d : ℕ) → t < length s.tasks → Ordered (λ g h. g.over.high < h.over.low) (holds d (task_at s t))
  -- the units of a device that are held are those of all tasks together
  pub together : (d : ℕ) (x : State) → InGrid (lengths_of s) x
      → held d s.tasks x ≡ sum_below (length s.tasks) (λ t. units_at (holds d (task_at s t)) (at x t))
  -- a state is permitted exactly if of no device more are held than its capacity
  pub permits : (x : State)
      → (permitted s x ≡ true) ↔ ((d : ℕ) → d < length s.capacities → held d s.tasks x ≤ at s.capacities d)

-- a task that claims device 0 twice, and one that claims it once, over capacity 1
abbrev pub twice : Set
twice = record { capacities = 1 ∷ []; tasks = (claim 0 0 ∷ release 0 ∷ claim 0 0 ∷ release 0 ∷ []) ∷ (claim 0 0 ∷ release 0 ∷ []) ∷ [] }

pub record HoldsRight : Type 0 where
  pub holds_right : (rules : Rules) (s : Set) → WellFormedBy rules s → OfHolds s
  -- each of the two holds counts: positions 1 and 3 are holds, and each is forbidden while the other task holds the device
  pub twice_holds : holds 0 (task_at twice 0) ≡ record { over = 1 to 1; units = 1 } ∷ record { over = 3 to 3; units = 1 } ∷ []
  pub twice_map : map_of twice ≡ 0 ∷ 0 ∷ 0 ∷ 0 ∷ 1 ∷ 0 ∷ 0 ∷ 0 ∷ 0 ∷ 0 ∷ 1 ∷ 0 ∷ 0 ∷ 0 ∷ 0 ∷ []
