-- `forbidden_boxes::units::most_units` meets its contract. The invariant: the first t tasks are noted.
use Rattle.forbidden_boxes.proofs.Most.{task-more}
use Rattle.forbidden_boxes.proofs.units.most_units.Goals as goal

pub loop-t-preserved : goal.loop-t-preserved
loop-t-preserved c =
    task-more c.args.set.now.declares c.loop-t.invariant c.task_noted.ensures
