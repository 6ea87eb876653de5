-- `forbidden_boxes::rows::task_rows` meets its contract. The invariant: the rows of the tasks before t are made.
use Rattle.shape.specs.SetOf.{set_of}
use Rattle.forbidden_boxes.specs.Rows.{RowsMade}
use Rattle.forbidden_boxes.proofs.rows.task_rows.Given as goal

abbrev pub invariant-loop-t : goal.invariant-loop-t
invariant-loop-t l = RowsMade (set_of l.set) l.t l.device l.rows.holds l.rows.sides l.rows.units
