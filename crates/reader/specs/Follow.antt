-- How the code's scan follows the model's word by word: for the contracts of the reader's own functions.
use Rattle.std.specs.Prelude.{ℕ, ◌+◌, ◌-◌, ◌<◌, ◌≤◌, ◌≡◌, Bool, false, cond, List, length, set, drop, ltb, Option, Some, None, Result, Ok, Err}
use Rattle.model.specs.Below.{tabulate, lowest}
use Rattle.model.specs.Set.{lengths_of, claimed, at, size}
use Rattle.model.specs.Layout.{kind_of, field_of, DEVICE, TASK, CLAIM, RELEASE, END, task_words, former}
use Rattle.model.specs.Answer.{given, refused}
use Rattle.model.specs.Read.{holds_now, read_from, read_words}
use Rattle.model.specs.Read as model
use Rattle.refusals.specs.declared.Refusal.{Refusal}
use Rattle.refusals.specs.Answers.{number_of, answer_of}
use Rattle.shape.specs.ShapeOf.{padded, starts_from, weights_of}
use Rattle.reader.specs.declared.scan.Scan.{Scan}
use Rattle.reader.specs.declared.weights.Weights.{Weights}
use Rattle.reader.specs.declared.Reading.{Reading}
use Rattle.reader.specs.Answer.{answer}
use Rattle.reader.specs.Faults.{device_fault, task_fault, action_fault, word_fault}

-- a scan by its parts
abbrev pub scanned : ℕ → List ℕ → ℕ → List ℕ → List ℕ → List Bool → List Bool → Scan
scanned devices capacities tasks lengths starts held claims =
    record { devices = devices; capacities = capacities; tasks = tasks; lengths = lengths; starts = starts; held = held; claimed = claims }

-- the code's scan for a scan of the model
abbrev pub scan_of : model.Scan → Scan
scan_of m =
    let cs = m.set.capacities in
    let ts = m.set.tasks in
    scanned (length cs) (padded 16 cs) (length ts) (padded 8 (lengths_of m.set)) (padded 8 (starts_from (length cs) ts)) (tabulate 16 (holds_now m))
    (tabulate 16 (claimed ts))

-- what holds of each scan after i words without a fault and before END: the limits, the number of words, and that each device has a unit and the open task
-- holds declared devices only
pub record Limits (m : model.Scan) (i : ℕ) : Type 0 where
  pub running : m.ended ≡ false
  pub devices : length m.set.capacities ≤ 16
  pub some_unit : (d : ℕ) → d < length m.set.capacities → 1 ≤ at m.set.capacities d
  pub tasks : length m.set.tasks ≤ 8
  pub words : i ≡ length m.set.capacities + length (task_words m.set.tasks)
  pub declared : (d : ℕ) → length m.set.capacities ≤ d → holds_now m d ≡ false

-- i words led to s without a fault and without END, and reading the others from there gives the answer
pub record Reached (ws : List ℕ) (s : Scan) (i : ℕ) : Type 0 where
  pub scan : model.Scan
  pub limits : Limits scan i
  pub same : s ≡ scan_of scan
  pub rest : read_words ws ≡ read_from scan i (drop i ws)
  pub within : i ≤ length ws

-- the scan whose last task has c actions
abbrev pub counted : Scan → ℕ → Scan
counted s c = record s { lengths = set s.lengths (s.tasks - 1) c }

-- i words led to the opening of the last task, which has no action yet
pub record Opened (ws : List ℕ) (s : Scan) (i : ℕ) : Type 0 where
  pub reached : Reached ws s i
  pub some : 1 ≤ s.tasks
  pub none : at s.lengths (s.tasks - 1) ≡ 0

-- why the devices stop at index i: the word there, if there is one, is no DEVICE or has a fault
abbrev pub NoDevice : List ℕ → ℕ → ℕ → ℕ → Type 0
NoDevice ws devices tasks i = i < length ws → kind_of (at ws i) ≡ DEVICE → 0 < device_fault devices tasks (field_of (at ws i))

-- why the tasks do: it is no TASK or has a fault
abbrev pub NoTask : List ℕ → ℕ → List Bool → ℕ → Type 0
NoTask ws tasks held i = i < length ws → kind_of (at ws i) ≡ TASK → 0 < task_fault tasks held (field_of (at ws i))

-- why the actions do: it is no CLAIM (b) and no RELEASE, or has a fault
abbrev pub NoAction : List ℕ → ℕ → List ℕ → ℕ → ℕ → List Bool → ℕ → Type 0
NoAction ws devices capacities tasks l held i =
    i < length ws → (b : Bool) → kind_of (at ws i) ≡ cond b CLAIM RELEASE → 0 < action_fault devices capacities tasks l held b (field_of (at ws i))

-- why all of them do: it is END or has a fault
abbrev pub Stops : List ℕ → Scan → ℕ → Type 0
Stops ws s i = i < length ws → (kind_of (at ws i) ≡ END → ⊥) → 0 < word_fault s i (kind_of (at ws i)) (field_of (at ws i))

-- the words led to s without a fault, END the last of them, and declare this set
pub record Ended (ws : List ℕ) (s : Scan) : Type 0 where
  pub scan : model.Scan
  pub devices : length scan.set.capacities ≤ 16
  pub tasks : length scan.set.tasks ≤ 8
  pub same : s ≡ scan_of scan
  pub read : read_words ws ≡ given scan.set
  pub some : 0 < length ws

-- what all words come to: the first fault, or a whole set, which is then in s
abbrev pub ReadsAll : List ℕ → Scan → Result (Unit {0}) Refusal → Type 0
ReadsAll ws s (Ok u) = Ended ws s
ReadsAll ws s (Err r) = read_words ws ≡ refused (number_of r.reason) r.place

-- the lowest number below n that passes f, none if none does
abbrev pub lowest_found : ℕ → (ℕ → Bool) → Option ℕ
lowest_found n f = cond (ltb (lowest n f) n) (Some (lowest n f)) None

-- the grid of the action counts ls and the weights of their tasks, or a grid over 65,536 if theirs is
pub record Weighs (ls : List ℕ) (w : Weights) : Type 0 where
  pub over : 65536 < w.grid → 65536 < size ls
  pub grid : w.grid ≤ 65536 → w.grid ≡ size ls
  pub weights : w.grid ≤ 65536 → w.of ≡ padded 8 (weights_of ls)

-- the answer r after n words without a fault, END the last of them, of a set to whose devices the rules don't object
abbrev pub Closes : Scan → ℕ → Result Reading Refusal → Type 0
Closes s n r = (m : model.Scan) → length m.set.tasks ≤ 8 → s ≡ scan_of m → answer_of (λ (a : Reading). a) r ≡ answer (model.close former n m.set)
