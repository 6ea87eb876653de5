-- `forbidden_boxes::sets::table_boxes` meets its contract. The invariant: the boxes of the first k sets of the table are written, and the others are left.
use Prim.Native.Nat.{ℕ}
use mathlib.Core.Path.{◌≡◌}
use lib.ListN.{drop}
use Rattle.model.specs.TaskTable.{table}
use Rattle.task_sets.specs.Left.{left}
use Rattle.plan_words.proofs.Run.{Turn}
use Rattle.forbidden_boxes.proofs.Walked.{set_at}
use Rattle.forbidden_boxes.proofs.sets.table_boxes.Given as goal

abbrev pub invariant-loop-mask : goal.invariant-loop-mask
invariant-loop-mask l =
    (k : ℕ) × (left l.mask-iterator ≡ drop k table)
    × Turn (set_at l.rows.sides l.rows.units l.rows.holds l.limit.header l.limit.capacity l.tasks l.most) l.initial.plan l.at 255 l.plan l.to k
