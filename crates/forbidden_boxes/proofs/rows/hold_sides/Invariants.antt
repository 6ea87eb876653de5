-- `forbidden_boxes::rows::hold_sides` meets its contract. The invariant: the holds that are closed are in the row, those to close are yet to come (`Gathering`).
use mathlib.Core.Path.{◌≡◌}
use Rattle.model.specs.Set.{at}
use Rattle.forbidden_boxes.proofs.Gather.{Gathering}
use Rattle.forbidden_boxes.proofs.rows.hold_sides.Given as goal

abbrev pub invariant-loop-p : goal.invariant-loop-p
invariant-loop-p l =
    Gathering l.set.words.now (at l.set.shape.starts l.task) (at l.set.shape.lengths l.task) l.device l.task l.initial.rows.sides l.initial.rows.units l.rows.sides l.rows.units l.count l.low l.taken l.p
    × (l.rows.holds ≡ l.initial.rows.holds)
