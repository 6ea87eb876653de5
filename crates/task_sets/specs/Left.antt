-- The sets that a walk has yet to come to.
use Rattle.std.specs.Prelude.{ℕ, List}
use Rattle.task_sets.specs.declared.sets.TaskSets.{TaskSets}
use Rattle.task_sets.specs.Next.{run}

abbrev pub left : TaskSets → List ℕ
left s = run s.count s.mask
