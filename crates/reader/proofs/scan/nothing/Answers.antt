-- `reader::scan::nothing` meets its contract: before the first word all arrays are zeros.
use mathlib.Core.Path.{refl}
use Rattle.model.specs.Below.{tabulate}
use Rattle.model.specs.Set.{claimed}
use Rattle.model.specs.Read.{last_task, held_after}
use Rattle.shape.specs.ShapeOf.{starts_from}
use Rattle.reader.proofs.scan.nothing.Goals as goal

pub returns : goal.returns
unfolding tabulate starts_from last_task held_after claimed
returns c = refl
