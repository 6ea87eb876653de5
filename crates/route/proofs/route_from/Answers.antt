-- `route::route_from` meets its contract, by what the walk ensures.
use native.Mathlib.Omega.{arith}
use mathlib.Core.Path.{◌∙◌}
use Rattle.refusals.specs.Answers.{number_of, answer_of}
use Rattle.route.proofs.Answers.{rank-inside, stuck, too_long, arrived}
use Rattle.route.proofs.route_from.Goals as goal

pub overflow_add-stop : goal.overflow_add-stop
overflow_add-stop c =
    record { fits = omega (arith, rank-inside _ _ _ _ _ _ c.walk-stop.ensures, c.requires.0.room) }

pub returns-then-stop-shape : goal.returns-then-stop-shape
unfolding number_of
returns-then-stop-shape c =
    c.refuse.ensures ∙ rw c.at.ensures (stuck _ _ _ _ _ _ c.walk-stop.ensures (omega (arith, c.if-stop-shape.true, c.requires.1)))

pub returns-then-slice-stop : goal.returns-then-slice-stop
unfolding number_of
returns-then-slice-stop c =
    c.refuse-then-slice-stop.ensures
    ∙ rw c.at-then-slice-stop.ensures (too_long _ _ _ _ _ _ c.walk-stop.ensures (omega (arith, c.if-stop-shape.false, c.requires.1)) c.if-slice-stop.true)

pub returns : goal.returns
unfolding answer_of
returns c =
    arrived _ _ _ _ _ _ c.walk-stop.ensures (omega (arith, c.if-stop-shape.false, c.requires.1)) c.if-slice-stop.false
