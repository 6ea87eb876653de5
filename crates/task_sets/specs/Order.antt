-- The order of task sets (SCOPE.md, "Forbidden boxes"): smaller sets first, equal sizes by their ascending task lists.
-- A set is a mask with bit i for task i.
use Rattle.std.specs.Prelude.{ℕ, zero, suc, ◌+◌, ◌/◌, ◌%◌, Bool, false, cond, ◌&&◌, ◌||◌, List, [], ◌∷◌, length, ltb, eqb}

-- the tasks of a mask among n tasks from t on, ascending; the mask's lowest bit is for task t
unfoldable pub tasks_from : ℕ → ℕ → ℕ → List ℕ
tasks_from zero t m = []
tasks_from (suc n) t m = let rest = tasks_from n (suc t) (m / 2) in cond (eqb (m % 2) 1) (t ∷ rest) rest

-- the tasks of a mask of eight, ascending
abbrev pub tasks_of : ℕ → List ℕ
tasks_of m = tasks_from 8 0 m

-- two task lists of one length, by the first place where they differ
unfoldable pub list_before : List ℕ → List ℕ → Bool
list_before [] m = false
list_before (a ∷ l) [] = false
list_before (a ∷ l) (b ∷ m) = ltb a b || (eqb a b && list_before l m)

-- two masks: by the number of tasks, then by their task lists
unfoldable pub set_before : ℕ → ℕ → Bool
set_before m n =
    ltb (length (tasks_of m)) (length (tasks_of n)) || (eqb (length (tasks_of m)) (length (tasks_of n)) && list_before (tasks_of m) (tasks_of n))

-- how often m stands in a list
unfoldable pub occurs : ℕ → List ℕ → ℕ
occurs m [] = 0
occurs m (x ∷ xs) = cond (eqb m x) 1 0 + occurs m xs
