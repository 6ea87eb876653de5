-- `route::walk` meets its contract. The invariant: the code stands at a state on the way.
use borrow.Author.Rules.{rules}
use Prim.Native.Nat.{◌+◌, ◌<◌, ◌≤◌}
use native.Mathlib.Omega.{arith}
use mathlib.Core.Path.{◌≡◌}
use lib.ListN.{length, get_or, set, length-set, take}
use mir.Syntax.{w8}
use mir.Val.{Fits}
use Rattle.model.specs.Route.{first_step}
use Rattle.route.proofs.Standing.{tasks-counted, next-room, next-on-grid}
use Rattle.route.proofs.Walking.{stopped}
use Rattle.route.proofs.Stepping.{is-found, none-found, has-action, rises, falls, goes-along}
use Rattle.route.proofs.walk.Goals.{In-Some, Joined-steps-slice, then-steps-slice, else-steps-slice}
use Rattle.route.proofs.walk.Goals as goal

-- the task that the search found, by the definition
module _ (c : In-Some) where
  abbrev first : (c.in-Some.t ≡ first_step (take c.args.tasks c.args.lengths) c.args.map.now (take c.args.tasks c.loop-t.positions)) × (c.in-Some.t < c.args.tasks)
  first = is-found _ _ _ c.in-Some.ensures

  -- it has an action left
  left : get_or c.loop-t.positions c.in-Some.t 0 < get_or c.args.lengths c.in-Some.t 0
  left = has-action _ _ _ _ _ _ c.loop-t.invariant.0 _ first.0 first.1

  byte : get_or c.args.lengths c.in-Some.t 0 < 256
  byte =
      let b : Fits w8 (get_or c.args.lengths c.in-Some.t 0) = search rules in
      b.fits

  -- its step goes up, to a rank with a byte
  up : 1 ≤ get_or c.args.weights c.in-Some.t 0
  up = rises _ _ _ _ _ _ c.loop-t.invariant.0 _ first.0 first.1

  room : c.loop-t.here + get_or c.args.weights c.in-Some.t 0 < length c.args.map.now
  room = next-room _ _ _ _ _ _ c.loop-t.invariant.0 _ first.1 left

-- the slice keeps its length, and takes the step where it has room
same : (c : Joined-steps-slice) → length c.if-steps-slice.slice ≡ length c.loop-t.slice
same c =
    let k = c.loop-t in
    elim c.if-steps-slice.branch [
      | then-steps-slice w ↦ rw w.slice-is (length-set k.slice k.steps c.in-Some.t)
      | else-steps-slice w ↦ rw w.slice-is
    ]

stored : (c : Joined-steps-slice) → (
    let k = c.loop-t in
    k.steps < length k.slice → c.if-steps-slice.slice ≡ set k.slice k.steps c.in-Some.t)
stored c l = elim c.if-steps-slice.branch [ then-steps-slice w ↦ w.slice-is | else-steps-slice w ↦ absurd (omega arith) ]

pub overflow_add-positions : goal.overflow_add-positions
overflow_add-positions c = record { fits = omega (arith, left (goal.at.overflow_add-positions c).In-Some, byte (goal.at.overflow_add-positions c).In-Some) }

pub overflow_add-here : goal.overflow_add-here
overflow_add-here c = record { fits = omega (arith, room (goal.at.overflow_add-here c).In-Some) }

pub overflow_add-steps : goal.overflow_add-steps
overflow_add-steps c = record { fits = omega (arith, room (goal.at.overflow_add-steps c).In-Some, up (goal.at.overflow_add-steps c).In-Some, c.loop-t.invariant.1) }

pub loop-t-smaller : goal.loop-t-smaller
loop-t-smaller c =
    let f = first (goal.at.loop-t-smaller c).In-Some in
    falls _ _ _ _ _ _ c.loop-t.invariant.0 _ f.0 f.1

pub loop-t-preserved : goal.loop-t-preserved
loop-t-preserved c =
    let k = c.loop-t in
    let s = (goal.at.loop-t-preserved c).In-Some in
    let j = (goal.at.loop-t-preserved c).Joined-steps-slice in
    let f = first s in (
      next-on-grid _ _ _ _ _ _ k.invariant.0 _ f.1 (left s),
      omega (arith, up s, k.invariant.1),
      goes-along _ _ _ _ _ _ k.invariant.0 _ f.0 f.1 _ _ _ _ _ c.if-steps-slice.slice k.invariant.2 (same j) (stored j),
    )

pub returns : goal.returns
returns c =
    let k = c.loop-t in
    stopped _ _ _ _ _ _ _ _ k.invariant.2 k.invariant.0.grid
    (omega (arith, tasks-counted _ _ _ _ _ _ k.invariant.0, none-found _ _ c.in_default.ensures)) k.invariant.0.is-rank
