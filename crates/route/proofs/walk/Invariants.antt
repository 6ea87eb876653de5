-- `route::walk` meets its contract. The invariant: the code stands at a state on the way.
use Prim.Native.Nat.{◌-◌, ◌≤◌}
use lib.ListN.{take}
use Rattle.model.specs.State.{sum}
use Rattle.model.specs.Route.{steps_from, walked}
use Rattle.route.specs.Walks.{OnGrid}
use Rattle.route.proofs.Walking.{Along}
use Rattle.route.proofs.walk.Given as goal

abbrev pub invariant-loop-t : goal.invariant-loop-t
invariant-loop-t l =
    OnGrid l.map l.tasks l.lengths l.weights l.positions l.here × (l.steps ≤ l.here)
    × Along (take l.tasks l.lengths) l.map (steps_from (take l.tasks l.lengths) l.map (take l.tasks l.initial.positions))
    (walked (take l.tasks l.initial.positions) (steps_from (take l.tasks l.lengths) l.map (take l.tasks l.initial.positions))) l.initial.slice (take l.tasks l.positions) l.steps l.slice

abbrev pub decreases-loop-t : goal.decreases-loop-t
decreases-loop-t l =
    sum (take l.tasks l.lengths) - sum (take l.tasks l.positions)
