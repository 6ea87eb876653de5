-- The table of task sets (SCOPE.md, "Forbidden boxes"): the 255 non-empty sets of eight tasks, a byte each with bit i for task i.
use Rattle.std.specs.Prelude.{ℕ, zero, suc, ◌+◌, ◌*◌, ◌/◌, ◌%◌, ◌^◌, cond, List, [], ◌∷◌, map, eqb, ltb}
use Rattle.model.specs.Forbidden.{TaskSet, task_sets}

-- the byte of a task set, bit 0 for the first task
unfoldable pub mask_of : TaskSet → ℕ
mask_of [] = 0
mask_of (c ∷ cs) = cond c 1 0 + 2 * mask_of cs

-- the table
unfoldable pub table : List ℕ
table = map mask_of (task_sets 8)

-- the task set of a byte, of the first n tasks
unfoldable pub set_of_mask : ℕ → ℕ → TaskSet
set_of_mask zero m = []
set_of_mask (suc n) m = eqb (m % 2) 1 ∷ set_of_mask n (m / 2)

-- the sets among the first n tasks, as a list of bytes has them; sets with an absent task are passed over
unfoldable pub sets_in : ℕ → List ℕ → List TaskSet
sets_in n [] = []
sets_in n (m ∷ ms) = let rest = sets_in n ms in cond (ltb m (2 ^ n)) (set_of_mask n m ∷ rest) rest
