-- The rows of a device's side words, ROW places for each task: one for each hold, and last the one over all positions; and the units of the holds, in the same places.
use Rattle.std.specs.Prelude.{ℕ, ◌+◌, ◌*◌, ◌<◌, ◌≤◌, ◌≡◌, true, false, List, length, get_or}
use Rattle.model.specs.Below.{tabulate}
use Rattle.model.specs.Set.{Task, Set, task_at, at, balanced}
use Rattle.model.specs.Layout.{action_of}
use Rattle.model.specs.Hold.{Hold, holds}
use Rattle.model.specs.Plan.{side_word}
use Rattle.forbidden_boxes.specs.Units.{Reads}

-- the places of a row, the last of them, and the places of eight rows
abbrev pub ROW : ℕ
ROW = 128

abbrev pub WHOLE : ℕ
WHOLE = 127

abbrev pub ROWS : ℕ
ROWS = 1024

-- the task whose n actions stand among the words from `start` on
unfoldable pub task_in : List ℕ → ℕ → ℕ → Task
task_in words start n = tabulate n (λ p. action_of (at words (start + p)))

-- its words are there, and it claims and releases device d as it should
pub record Acts (words : List ℕ) (start n d : ℕ) : Type 0 where
  pub reads : Reads words start n
  pub balance : balanced d false (task_in words start n) ≡ true

-- hold j of a list
abbrev pub nth : List Hold → ℕ → Hold
nth hs j = get_or hs j (record { over = record { low = 0; high = 0 }; units = 0 })

-- place i has the side word and the units of a hold of task t
pub record HoldAt (rows units : List ℕ) (i t : ℕ) (h : Hold) : Type 0 where
  pub side : at rows i ≡ side_word t h.over
  pub taken : at units i ≡ h.units

-- the row of task t begins with these holds, n of them
pub record RowHolds (t : ℕ) (hs : List Hold) (n : ℕ) (rows units : List ℕ) : Type 0 where
  pub count : n ≡ length hs
  pub few : n ≤ WHOLE
  pub each : (j : ℕ) → j < n → HoldAt rows units (t * ROW + j) t (nth hs j)

-- the places as they were, up to task t's row
abbrev pub RowsBefore : ℕ → List ℕ → List ℕ → Type 0
RowsBefore t before after = (i : ℕ) → i < t * ROW → at after i ≡ at before i

-- the holds of device d are in the row of task t, the rows before it are kept
pub record HoldSides (words : List ℕ) (start n d t : ℕ) (rows₀ units₀ : List ℕ) (count : ℕ) (rows units : List ℕ) : Type 0 where
  pub listed : RowHolds t (holds d (task_in words start n)) count rows units
  pub kept : RowsBefore t rows₀ rows
  pub kept_units : RowsBefore t units₀ units

-- the row of task t, all of it
pub record Row (d t : ℕ) (task : Task) (count : ℕ) (rows units : List ℕ) : Type 0 where
  pub listed : RowHolds t (holds d task) count rows units
  pub whole : at rows (t * ROW + WHOLE) ≡ side_word t (record { low = 0; high = length task })

-- that row is made of the words, and the others are as before
pub record RowMade (words : List ℕ) (start n d t : ℕ) (rows₀ units₀ : List ℕ) (count : ℕ) (rows units : List ℕ) : Type 0 where
  pub row : Row d t (task_in words start n) count rows units
  pub kept : RowsBefore t rows₀ rows
  pub kept_units : RowsBefore t units₀ units

-- eight rows and eight numbers of holds, and no task with more holds than its row has room for
pub record Sized (rows units holds : List ℕ) : Type 0 where
  pub eight_rows : length rows ≡ ROWS
  pub eight_units : length units ≡ ROWS
  pub eight_holds : length holds ≡ 8
  pub few : (t : ℕ) → at holds t ≤ WHOLE

-- the rows of the first n tasks of a set
pub record RowsMade (s : Set) (n d : ℕ) (holds rows units : List ℕ) : Type 0 where
  pub sized : Sized rows units holds
  pub row : (t : ℕ) → t < n → Row d t (task_at s t) (at holds t) rows units

-- `sides` has the words over all positions of the n tasks from t on
abbrev pub Whole : List ℕ → List ℕ → ℕ → ℕ → Type 0
Whole rows sides t n = (u : ℕ) → t ≤ u → u < t + n → at sides u ≡ at rows (u * ROW + WHOLE)
