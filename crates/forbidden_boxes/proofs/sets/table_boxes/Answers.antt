-- `forbidden_boxes::sets::table_boxes` meets its contract. The invariant: the boxes of the first k sets of the table are written, and the others are left.
use Prim.Native.Nat.{ℕ, ◌+◌, ◌<◌}
use native.Mathlib.Omega.{arith}
use mathlib.Core.Path.{◌≡◌, sym, ◌∙◌}
use mathlib.Core.List.{List}
use lib.Count.{ones}
use borrow.Author.Tests.{le-ltb, ltb-false, ltb-true}
use Rattle.plan_words.proofs.Run.{placed, full, passed, finished}
use Rattle.forbidden_boxes.specs.Choices.{set_words, table_words}
use Rattle.forbidden_boxes.proofs.Walked.{comes, none_left, set_at, too_large, small-enough}
use Rattle.forbidden_boxes.proofs.sets.table_boxes.Goals.{After-set_boxes, Start}
use Rattle.forbidden_boxes.proofs.sets.table_boxes.Goals as goal

-- the words of each set
abbrev boxes : Start → ℕ → List ℕ
boxes s = let a = s.args in set_at a.rows.now.sides a.rows.now.units a.rows.now.holds a.limit.header a.limit.capacity a.tasks a.most

-- the set at hand is the table's, and not too large
this : (c : After-set_boxes) → let a = c.args in
    set_words a.rows.now.sides a.rows.now.units a.rows.now.holds a.limit.header a.limit.capacity a.tasks a.most c.in-Some.mask
    ≡ set_at a.rows.now.sides a.rows.now.units a.rows.now.holds a.limit.header a.limit.capacity a.tasks a.most c.loop-mask.invariant.0
this c =
    let a = c.args in
    let w = comes _ _ _ _ c.loop-mask.invariant.1 c.in-Some.ensures.steps in
    small-enough a.rows.now.sides a.rows.now.units a.rows.now.holds a.limit.header a.limit.capacity a.tasks a.most c.loop-mask.invariant.0 c.in-Some.mask w.this
    (le-ltb _ _ (omega (arith, ltb-false _ _ (sym c.exceeds_by_more.ensures ∙ c.if-exceeds_by_more.false))))

pub returns-then-exceeds_by_more : goal.returns-then-exceeds_by_more
unfolding table_words
returns-then-exceeds_by_more c =
    let o = c.loop-mask in
    let a = c.args in
    let f = boxes (goal.at.returns-then-exceeds_by_more c).Start in
    let w = comes _ _ _ _ o.invariant.1 c.in-Some.ensures.steps in
    let more = a.limit.capacity + 1 in
    let large : more < ones c.in-Some.mask = omega (arith, ltb-true _ _ (sym c.exceeds_by_more.ensures ∙ c.if-exceeds_by_more.true)) in
    let here = rw w.this at large in
    finished f a.plan.now a.at 255
    (passed f a.plan.now a.at 255 o.invariant.2
    (too_large a.rows.now.sides a.rows.now.units a.rows.now.holds a.limit.header a.limit.capacity a.tasks a.most o.invariant.0 here))
    (omega arith)

pub returns-in_err-to : goal.returns-in_err-to
unfolding table_words
returns-in_err-to c =
    let o = c.loop-mask in
    let w = comes _ _ _ _ o.invariant.1 c.in-Some.ensures.steps in
    rw c.from_residual.ensures
    (full (boxes (goal.at.returns-in_err-to c).Start) c.args.plan.now c.args.at 255 o.invariant.2 w.inside
    (rw (this (goal.at.returns-in_err-to c).After-set_boxes) at c.set_boxes.ensures) c.in_err-to.was)

pub loop-mask-preserved : goal.loop-mask-preserved
loop-mask-preserved c =
    let o = c.loop-mask in
    let w = comes _ _ _ _ o.invariant.1 c.in-Some.ensures.steps in (
      o.invariant.0 + 1,
      w.behind,
      placed (boxes (goal.at.loop-mask-preserved c).Start) c.args.plan.now c.args.at 255 o.invariant.2 w.inside
          (rw (this (goal.at.loop-mask-preserved c).After-set_boxes) at c.set_boxes.ensures) c.in_ok-to.was,
    )

pub returns : goal.returns
unfolding table_words
returns c =
    let o = c.loop-mask in
    finished (boxes (goal.at.returns c).Start) c.args.plan.now c.args.at 255 o.invariant.2 (none_left _ _ o.invariant.1 c.in-None.ensures.steps.0)
