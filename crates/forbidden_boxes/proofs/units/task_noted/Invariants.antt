-- `forbidden_boxes::units::task_noted` meets its contract. The invariant: the first p actions are noted.
use Rattle.model.specs.Set.{at}
use Rattle.forbidden_boxes.specs.Units.{TaskNoted}
use Rattle.forbidden_boxes.proofs.units.task_noted.Given as goal

abbrev pub invariant-loop-p : goal.invariant-loop-p
invariant-loop-p l = TaskNoted l.set.words.now (at l.set.shape.starts l.task) l.p l.initial.most l.most
