-- `task_sets::sets::all` meets its contract: the run of 255 sets is the table.
use Rattle.task_sets.proofs.Walks.{walk}
use Rattle.task_sets.proofs.sets.all.Goals as goal

pub returns : goal.returns
returns c = walk.whole
