-- `forbidden_boxes::rows::task_rows` meets its contract. The invariant: the rows of the tasks before t are made.
use native.Mathlib.Omega.{arith}
use mathlib.Core.Path.{sym, ◌∙◌}
use Rattle.shape.specs.SetOf.{set_of}
use Rattle.shape.proofs.Declared.{few-tasks}
use Rattle.forbidden_boxes.proofs.Declared.{task-read}
use Rattle.forbidden_boxes.proofs.Made.{one-made}
use Rattle.forbidden_boxes.proofs.rows.task_rows.Goals as goal

pub loop-t-preserved : goal.loop-t-preserved
loop-t-preserved c =
    let a = c.args in
    let o = c.loop-t in
    let s = a.set.now in
    let r = c.task_row-count in
    let now = r.new.rows.sized in
    let before = o.rows.sized in
    rw r.ensures.same_holds
    (one-made (set_of s) a.device o.invariant (omega (arith, few-tasks s.declares, c.loop-t-test.true)) (now.eight_rows ∙ sym before.eight_rows)
    (now.eight_units ∙ sym before.eight_units) (task-read s.declares o.t) r.ensures.made)
