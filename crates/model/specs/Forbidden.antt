-- The forbidden boxes of a set, in order (SCOPE.md, "Forbidden boxes", after the published rule, with counted units).
use Rattle.std.specs.Prelude.{ℕ, zero, suc, ◌+◌, ◌-◌, Bool, true, false, cond, ◌&&◌, ◌||◌, List, [], ◌∷◌, ◌++◌, map, length, eqb, ltb, leb}
use Rattle.model.specs.Set.{Task, Set}
use Rattle.model.specs.Hold.{Hold, holds}
use Rattle.model.specs.Box.{Box}

-- a task set: for each task, whether it is in the set
abbrev pub TaskSet : Type 0
TaskSet = List Bool

-- the sets of k among n tasks, by their ascending task lists
unfoldable pub choose : ℕ → ℕ → List TaskSet
choose zero zero = [] ∷ []
choose zero (suc n) = map (λ c. false ∷ c) (choose zero n)
choose (suc k) zero = []
choose (suc k) (suc n) = map (λ c. true ∷ c) (choose k n) ++ map (λ c. false ∷ c) (choose (suc k) n)

-- the sets of k to k + j - 1 among n tasks, smaller sets first
unfoldable pub sets_from : ℕ → ℕ → ℕ → List TaskSet
sets_from k zero n = []
sets_from k (suc j) n = choose k n ++ sets_from (suc k) j n

-- the non-empty sets of n tasks, smaller sets first, equal sizes by their ascending task lists
abbrev pub task_sets : ℕ → List TaskSet
task_sets n = sets_from 1 n n

-- a choice: for each task of a set one of its holds; a task outside the set stands over 0 to L and takes no units
abbrev pub Choice : Type 0
Choice = List Hold

-- what one task can stand with in a choice: its holds of device d if it is in the task set, else 0 to L
unfoldable pub sides_of : ℕ → Bool → Task → List Hold
sides_of d true task = holds d task
sides_of d false task = record { over = record { low = 0; high = length task }; units = 0 } ∷ []

-- each hold of the first list put before each choice of the second
unfoldable pub prefixed : List Hold → List Choice → List Choice
prefixed [] cs = []
prefixed (h ∷ hs) cs = map (λ c. h ∷ c) cs ++ prefixed hs cs

-- the choices of device d and a task set, the first task's hold weighing most
unfoldable pub choices_of : ℕ → TaskSet → List Task → List Choice
choices_of d [] [] = [] ∷ []
choices_of d [] (task ∷ tasks) = []
choices_of d (c ∷ cs) [] = []
choices_of d (c ∷ cs) (task ∷ tasks) = prefixed (sides_of d c task) (choices_of d cs tasks)

-- over a list of task sets
unfoldable pub choices_of_all : ℕ → List TaskSet → List Task → List Choice
choices_of_all d [] tasks = []
choices_of_all d (c ∷ cs) tasks = choices_of d c tasks ++ choices_of_all d cs tasks

-- the units of a choice together
unfoldable pub total : Choice → ℕ
total [] = 0
total (h ∷ c) = h.units + total c

-- of n units together no single hold can be left out: what is left doesn't exceed capacity s. An entry without units is a task outside the set, and no hold
unfoldable pub each_needed : ℕ → ℕ → Choice → Bool
each_needed s n [] = true
each_needed s n (h ∷ c) = (eqb h.units 0 || leb (n - h.units) s) && each_needed s n c

-- the units exceed capacity s, but no longer do when any single hold is left out
unfoldable pub just_exceeds : ℕ → Choice → Bool
just_exceeds s c = ltb s (total c) && each_needed s (total c) c

-- the box of a choice
abbrev pub box_of : Choice → Box
box_of c = map (λ h. h.over) c

-- the boxes of those choices that just exceed capacity s
unfoldable pub boxes_of : ℕ → List Choice → List Box
boxes_of s [] = []
boxes_of s (c ∷ cs) = let rest = boxes_of s cs in cond (just_exceeds s c) (box_of c ∷ rest) rest

-- device d of capacity s: task set by task set, a box for each choice of holds, one a task, that just exceeds the capacity
unfoldable pub device_boxes : ℕ → ℕ → List Task → List Box
device_boxes d s tasks = boxes_of s (choices_of_all d (task_sets (length tasks)) tasks)

-- a forbidden box with the device that it belongs to
pub record Forbidden : Type 0 where
  pub device : ℕ
  pub box : Box

-- over the devices from d on, which have these capacities
unfoldable pub forbidden_from : ℕ → List ℕ → List Task → List Forbidden
forbidden_from d [] tasks = []
forbidden_from d (s ∷ ss) tasks = map (λ b. record { device = d; box = b }) (device_boxes d s tasks) ++ forbidden_from (suc d) ss tasks

-- the forbidden boxes of a set, in order
unfoldable pub forbidden : Set → List Forbidden
forbidden s = forbidden_from 0 s.capacities s.tasks

-- their boxes alone
abbrev pub boxes : List Forbidden → List Box
boxes = map (λ f. f.box)

-- the same without their devices
abbrev pub forbidden_boxes : Set → List Box
forbidden_boxes s = boxes (forbidden s)
