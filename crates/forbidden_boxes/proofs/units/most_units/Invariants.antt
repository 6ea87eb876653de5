-- `forbidden_boxes::units::most_units` meets its contract. The invariant: the first t tasks are noted.
use Rattle.shape.specs.SetOf.{set_of}
use Rattle.forbidden_boxes.specs.Units.{MostUnits}
use Rattle.forbidden_boxes.proofs.units.most_units.Given as goal

abbrev pub invariant-loop-t : goal.invariant-loop-t
invariant-loop-t l = MostUnits (set_of l.set) l.t l.most
