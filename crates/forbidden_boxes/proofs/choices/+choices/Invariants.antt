-- `forbidden_boxes::choices::choices` meets its contract. The invariant: the boxes with the first i sides of the task are written, and `next` has the sides
-- before the task, and after it the whole ones. The tasks left fall.
use Prim.Native.Nat.{◌+◌, ◌-◌}
use mathlib.Core.Path.{◌≡◌}
use lib.ListN.{length, take}
use Rattle.plan_words.proofs.Run.{Turn}
use Rattle.forbidden_boxes.specs.Rows.{Whole}
use Rattle.forbidden_boxes.proofs.Chosen.{turn}
use Rattle.forbidden_boxes.proofs.choices.+choices.Given as goal

-- the tasks left
abbrev pub decreases-choices : goal.decreases-choices
decreases-choices l = l.left

abbrev pub invariant-loop-i : goal.invariant-loop-i
invariant-loop-i l =
    Turn (turn l.rows.sides l.rows.units l.rows.holds l.limit.header l.limit.capacity l.left l.task l.mask l.sum.all l.sum.least l.first (take l.task l.initial.next)) l.initial.plan l.at l.count l.plan l.to l.i
    × (length l.next ≡ 8)
    × (take l.task l.next ≡ take l.task l.initial.next)
    × Whole l.rows.sides l.next (l.task + 1) (l.left - 1)
