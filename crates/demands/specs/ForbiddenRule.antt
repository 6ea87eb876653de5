-- SCOPE.md, "Forbidden boxes", after the published rule, with units counted: which boxes a set has, and in which order; the table of task sets.
use Rattle.std.specs.Prelude.{ℕ, zero, suc, ◌-◌, ◌/◌, ◌%◌, ◌<◌, ◌≤◌, ◌≡◌, ◌↔◌, ◌⊎◌, true, cond, length, get_or, eqb, ltb}
use mathlib.Core.List.{List, [], ◌∷◌, Memᴰ, map}
use Rattle.model.specs.Set.{claim, units_taken, Task, Set, task_at, at}
use Rattle.model.specs.Layout.{Rules, WellFormedBy}
use Rattle.model.specs.Hold.{Interval}
use Rattle.model.specs.Box.{Box, side}
use Rattle.model.specs.Forbidden.{Forbidden, forbidden}
use Rattle.model.specs.TaskTable.{table}
use Rattle.demands.specs.Terms.{◌to◌, sum_below, before, Ordered}
use Rattle.demands.specs.Holds.{IsHold}

-- the tasks, ascending, that a box has over a hold, from task t on: a hold starts at 1 or later, and every other task is over 0 to L
unfoldable pub tasks_from : ℕ → Box → List ℕ
tasks_from t [] = []
tasks_from t (i ∷ b) = let rest = tasks_from (suc t) b in cond (ltb 0 i.low) (t ∷ rest) rest

-- the ascending task list of a box
abbrev pub task_list : Box → List ℕ
task_list b = tasks_from 0 b

-- the units of a task's side in a box: those of the claim that its hold starts with, none where the task is over 0 to L
unfoldable pub side_units : Task → Interval → ℕ
side_units task i = cond (ltb 0 i.low) (units_taken (get_or task (i.low - 1) (claim 0 0))) 0

-- of all sides together
abbrev pub box_units : Set → Box → ℕ
box_units s b = sum_below (length s.tasks) (λ t. side_units (task_at s t) (side b t))

-- a box for each device and each choice of holds, one a task, whose units exceed the capacity but no longer do when any single hold is left out: those tasks over
-- their holds, every other over 0 to L
pub record OfRule (s : Set) (f : Forbidden) : Type 0 where
  pub device : f.device < length s.capacities
  pub sides : length f.box ≡ length s.tasks
  pub over_hold : (t : ℕ) → t < length s.tasks → 0 < (side f.box t).low
      → IsHold f.device (task_at s t) (record { over = side f.box t; units = side_units (task_at s t) (side f.box t) })
  pub over_all : (t : ℕ) → t < length s.tasks → (side f.box t).low ≡ 0 → side f.box t ≡ 0 to length (task_at s t)
  pub exceeds : at s.capacities f.device < box_units s f.box
  pub none_spare : (t : ℕ) → t < length s.tasks → 0 < (side f.box t).low
      → box_units s f.box - side_units (task_at s t) (side f.box t) ≤ at s.capacities f.device

-- where the boxes of a device with one task list start: a task's holds by rising position, the first task's weighing most
abbrev pub lows : Box → List ℕ
lows b = map (λ i. i.low) b

-- task lists: smaller sets first, equal sizes by their ascending task lists
abbrev pub ListBefore : List ℕ → List ℕ → Type 0
ListBefore l m = (length l < length m) ⊎ ((length l ≡ length m) × (before l m ≡ true))

-- the order: by device, then by task list, then by choice of holds
abbrev pub Precedes : Forbidden → Forbidden → Type 0
Precedes f g =
    (f.device < g.device)
    ⊎ ((f.device ≡ g.device)
    × (ListBefore (task_list f.box) (task_list g.box)
    ⊎ ((task_list f.box ≡ task_list g.box) × (before (lows f.box) (lows g.box) ≡ true))))

-- the ascending task list of a byte with bit i for task i, of j bits from task t on
unfoldable pub bits_from : ℕ → ℕ → ℕ → List ℕ
bits_from zero t m = []
bits_from (suc j) t m = let rest = bits_from j (suc t) (m / 2) in cond (eqb (m % 2) 1) (t ∷ rest) rest

-- the ascending task list of a table entry
abbrev pub tasks_of : ℕ → List ℕ
tasks_of m = bits_from 8 0 m

-- the same of table entries
abbrev pub Smaller : ℕ → ℕ → Type 0
Smaller m k = ListBefore (tasks_of m) (tasks_of k)

pub record ForbiddenRule : Type 0 where
  -- the forbidden boxes of a well-formed set are those of the rule, each once, in that order
  pub rule : (rules : Rules) (s : Set) → WellFormedBy rules s → (f : Forbidden) → Memᴰ f (forbidden s) ↔ OfRule s f
  pub order : (rules : Rules) (s : Set) → WellFormedBy rules s → Ordered Precedes (forbidden s)
  -- the table has the 255 non-empty sets of eight tasks, each once, in that order
  pub entries : length table ≡ 255
  pub bytes : (m : ℕ) → Memᴰ m table → (1 ≤ m) × (m ≤ 255)
  pub table_order : Ordered Smaller table
