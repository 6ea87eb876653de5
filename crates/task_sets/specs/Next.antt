-- How each task set is worked out from the one before (SCOPE.md, "Forbidden boxes"): the last task that can go on goes on by one, and those behind it follow it without
-- a gap: together they are a row. So after tasks 0, 3, 6 and 7 come 0, and the row 4, 5 and 6. Where none can go on, the first tasks come, one more: after 6 and 7 come 0, 1 and 2.
-- A set is a mask with bit i for task i. A mask below 2 ^ n has none of the tasks from n on; half of a row's mask is the row one task lower.
use Rattle.std.specs.Prelude.{ℕ, zero, suc, ◌+◌, ◌-◌, ◌/◌, ◌^◌, ◌≡◌, cond, List, [], ◌∷◌, ◌++◌, ltb}
use Rattle.model.specs.TaskTable.{table}

-- a row that begins at task n, behind the tasks `before`: it comes down until it begins one past the last of these, which it replaces, or at task 0 where there are none
unfoldable pub follow : ℕ → ℕ → ℕ → ℕ
follow zero before row = row
follow (suc n) before row = cond (ltb before (2 ^ n)) (follow n before (row / 2)) (before - 2 ^ n + row)

-- what comes after the set of all tasks from n on and, before them, the tasks of mask m: from the last absent task to task 7 is a row, of a task for each behind the gap and one for
-- the last before it, and this row comes down; no set comes, 0, where no task is absent
unfoldable pub after : ℕ → ℕ → ℕ
after zero m = 0
after (suc n) m = cond (ltb m (2 ^ n)) (follow n m (2 ^ 8 - 2 ^ n)) (after n (m - 2 ^ n))

-- the next set
abbrev pub next : ℕ → ℕ
next m = after 8 m

-- j sets from m on, each worked out from the one before
unfoldable pub run : ℕ → ℕ → List ℕ
run zero m = []
run (suc j) m = m ∷ run j (next m)

pub record Walk : Type 0 where
  -- the 255 sets from task 0 alone on are the table
  pub whole : run 255 1 ≡ table
  -- and after the last of them comes none
  pub ends : run 256 1 ≡ table ++ (0 ∷ [])
