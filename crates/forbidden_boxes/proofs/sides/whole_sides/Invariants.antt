-- `forbidden_boxes::sides::whole_sides` meets its contract. The invariant: the words of the tasks before t are there.
use mathlib.Core.Path.{◌≡◌}
use lib.ListN.{length}
use Rattle.forbidden_boxes.specs.Rows.{Whole}
use Rattle.forbidden_boxes.proofs.sides.whole_sides.Given as goal

abbrev pub invariant-loop-t : goal.invariant-loop-t
invariant-loop-t l = (length l.sides ≡ 8) × Whole l.rows.sides l.sides 0 l.t
