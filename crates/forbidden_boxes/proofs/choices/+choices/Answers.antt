-- `forbidden_boxes::choices::choices` meets its contract. The invariant: the boxes with the first i sides of the task are written, and `next` has the sides
-- before the task, and after it the whole ones. The tasks left fall.
use Prim.Native.Nat.{ℕ, ◌+◌, ◌*◌, ◌-◌, ◌/◌, ◌<◌, ◌≤◌}
use native.Mathlib.Omega.{arith}
use mathlib.Core.Path.{◌≡◌, ◌∙◌}
use mathlib.Core.List.{List}
use lib.ListN.{take, length-set}
use lib.Seq.{take-set-le}
use Rattle.model.specs.Set.{at}
use Rattle.plan_words.specs.Words.{Wrote, up_to}
use Rattle.plan_words.proofs.After.{wrote-same}
use Rattle.plan_words.proofs.Run.{placed, full, finished}
use Rattle.forbidden_boxes.specs.Rows.{ROWS}
use Rattle.forbidden_boxes.specs.Choices.{choice_words}
use Rattle.forbidden_boxes.proofs.Chosen.{some_left, half, half-some, in_rows, chosen, whole_set, turn, each-side, same-choice, last-chosen}
use Rattle.forbidden_boxes.proofs.choices.+choices.Goals.{After-first_side-first, In-loop-i, After-choices}
use Rattle.forbidden_boxes.proofs.choices.+choices.Goals as goal

module _ (t : ℕ) where
  -- the boxes with each side of the task
  abbrev boxes : After-first_side-first t → ℕ → List ℕ
  boxes c =
      let a = c.args in
      turn a.rows.now.sides a.rows.now.units a.rows.now.holds a.limit.header a.limit.capacity a.left a.task a.mask a.sum.all a.sum.least
      c.first_side-first.result (take a.task a.sides)

  -- together they are those to write
  sides-in-turn : (c : After-first_side-first t)
      → (let a = c.args in
      choice_words a.rows.now.sides a.rows.now.units a.rows.now.holds a.limit.header a.limit.capacity a.left a.task a.mask a.sum.all a.sum.least
      (take a.task a.sides)
      ≡ up_to c.side_count-count.result 0 (boxes c))
  sides-in-turn c =
      let a = c.args in
      each-side a.rows.now.sides a.rows.now.units a.rows.now.holds a.limit.header a.limit.capacity a.left a.task a.mask a.sum.all a.sum.least
      c.first_side-first.result (take a.task a.sides)
      (some_left a.mask a.left c.requires.mask_bound c.requires.mask_nonzero) c.side_count-count.ensures c.first_side-first.ensures

  -- the side of a turn stands in the rows
  in-range : (c : In-loop-i t) → c.first_side-first.result + c.loop-i.i < ROWS
  in-range c =
      let a = c.args in
      in_rows a.task a.mask a.rows.now.sized (omega (arith, some_left a.mask a.left c.requires.mask_bound c.requires.mask_nonzero))
      c.side_count-count.ensures c.first_side-first.ensures c.loop-i-test.true

  -- what a turn makes of the plan
  turned : (c : After-choices t)
      → (let a = c.args in
      Wrote c.loop-i.plan c.loop-i.to
      (turn a.rows.now.sides a.rows.now.units a.rows.now.holds a.limit.header a.limit.capacity a.left a.task a.mask a.sum.all a.sum.least
      c.first_side-first.result (take a.task a.sides) c.loop-i.i)
      c.choices.result c.choices.new.plan)
  turned c =
      let a = c.args in
      let o = c.loop-i in
      let f = c.first_side-first.result in
      let more = some_left a.mask a.left c.requires.mask_bound c.requires.mask_nonzero in
      let k = chosen o.next (take a.task a.sides) a.task (at a.rows.now.sides (f + o.i)) (omega arith) o.invariant.2 in
      let w = c.with_side.ensures in
      wrote-same
      (same-choice a.rows.now.sides a.rows.now.units a.rows.now.holds a.limit.header a.limit.capacity (a.left - 1) (a.task + 1) (a.mask / 2) w.0 w.1 k)
      c.choices.ensures

pub returns-then-mask-eq1 : goal.returns-then-mask-eq1
returns-then-mask-eq1 t c =
    let a = c.args in
    rw (last-chosen a.rows.now.sides a.rows.now.units a.rows.now.holds a.limit.header a.limit.capacity a.left a.task a.mask a.sum.all a.sum.least
    a.sides c.if-mask-eq1.true (some_left a.mask a.left c.requires.mask_bound c.requires.mask_nonzero) (omega arith) c.requires.whole)
    c.hold_boxes.ensures

pub overflow_add-next : goal.overflow_add-next
overflow_add-next t c = omega (arith, in-range t (goal.at.overflow_add-next t c).In-loop-i)

pub offset_bounds-rows-first : goal.offset_bounds-rows-first
offset_bounds-rows-first t c = omega (arith, in-range t (goal.at.offset_bounds-rows-first t c).In-loop-i)

pub bounds-rows-first : goal.bounds-rows-first
bounds-rows-first t c = in-range t (goal.at.bounds-rows-first t c).In-loop-i

pub overflow_add-first : goal.overflow_add-first
overflow_add-first t c = omega (arith, in-range t (goal.at.overflow_add-first t c).In-loop-i)

pub bounds-rows-first-in-loop-i : goal.bounds-rows-first-in-loop-i
bounds-rows-first-in-loop-i t c = omega (arith, in-range t (goal.at.bounds-rows-first-in-loop-i t c).In-loop-i)

pub choices-requires : goal.choices-requires
choices-requires t c =
    let a = c.args in
    let r = c.requires in
    let o = c.loop-i in
    let more = some_left a.mask a.left r.mask_bound r.mask_nonzero in
    let less = half a.mask a.left r.mask_bound more in
    let odd = half-some a.mask r.mask_nonzero c.if-mask-eq1.false in
    let v = at a.rows.now.sides (c.first_side-first.result + o.i) in
    let whole = whole_set a.rows.now.sides o.next a.task (a.left - 1) v o.invariant.3 in
    let sum : c.with_side.result.all ≤ 255 * (a.task + 1) = omega (arith, c.with_side.ensures.2, r.all_bound) in
    (omega arith, (omega arith, (omega arith, (less, (odd, (whole, sum))))))

pub returns-in_err-to : goal.returns-in_err-to
returns-in_err-to t c =
    let a = c.args in
    let f = (goal.at.returns-in_err-to t c).After-first_side-first in
    rw (sides-in-turn t f, c.from_residual.ensures)
    (full (boxes t f) a.plan.now a.at c.side_count-count.result c.loop-i.invariant.0 c.loop-i-test.true
    (turned t (goal.at.returns-in_err-to t c).After-choices) c.in_err-to.was)

pub loop-i-preserved : goal.loop-i-preserved
loop-i-preserved t c =
    let a = c.args in
    let o = c.loop-i in
    let v = at a.rows.now.sides (c.first_side-first.result + o.i) in
    let p = goal.at.loop-i-preserved t c in (
      placed (boxes t p.After-first_side-first) a.plan.now a.at c.side_count-count.result o.invariant.0 c.loop-i-test.true
          (turned t p.After-choices) c.in_ok-to.was,
      length-set o.next a.task v ∙ o.invariant.1,
      take-set-le a.task o.next a.task v (omega arith) ∙ o.invariant.2,
      whole_set a.rows.now.sides o.next a.task (a.left - 1) v o.invariant.3,
    )

pub returns : goal.returns
returns t c =
    let a = c.args in
    let f = (goal.at.returns t c).After-first_side-first in
    rw (sides-in-turn t f)
    (finished (boxes t f) a.plan.now a.at c.side_count-count.result c.loop-i.invariant.0 c.loop-i-test.false)
