-- `forbidden_boxes::rows::task_row` meets its contract: the holds' words, then the one over all positions.
use native.Mathlib.Omega.{arith}
use Rattle.model.specs.Set.{at}
use Rattle.shape.proofs.Declared.{few-tasks}
use Rattle.forbidden_boxes.proofs.Made.{row_made}
use Rattle.forbidden_boxes.proofs.rows.task_row.Goals as goal

pub returns-clause-made : goal.returns-clause-made
returns-clause-made c =
    let a = c.args in
    let s = a.set.now in
    row_made s.words.now (at s.shape.starts a.task) (at s.shape.lengths a.task) a.device a.task a.rows.now.sides a.rows.now.units _ _ _ _
    c.hold_sides-count.ensures.listed (omega (arith, few-tasks s.declares, c.requires, c.hold_sides-count.new.rows.sized.eight_rows))
    c.side.ensures
