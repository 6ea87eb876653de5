-- `forbidden_boxes::rows::hold_sides` meets its contract. The invariant: the holds that are closed are in the row, those to close are yet to come (`Gathering`).
use Prim.Native.Nat.{◌+◌, ◌*◌, ◌<◌}
use native.Mathlib.Omega.{arith}
use mathlib.Core.Path.{◌≡◌, refl, sym, ◌∙◌}
use lib.ListN.{length}
use Rattle.model.specs.Set.{units_taken, at}
use Rattle.model.specs.Layout.{action_of}
use Rattle.shape.proofs.Declared.{few-tasks}
use Rattle.set_words.proofs.Actions.{claim-units}
use Rattle.forbidden_boxes.specs.Rows.{ROW, Acts}
use Rattle.forbidden_boxes.proofs.Declared.{reads, acts}
use Rattle.forbidden_boxes.proofs.Gather.{few, begins, claims, releases, passed, ends}
use Rattle.forbidden_boxes.proofs.rows.hold_sides.Goals.{Start, In-loop-p, After-side, After-units-taken, then-device+then-is_claim, then-device+else-is_claim, else-device}
use Rattle.forbidden_boxes.proofs.rows.hold_sides.Goals as goal

-- the task's actions are there, and claim and release the device as they should
good : (c : Start) → let a = c.args in let s = a.set.now in Acts s.words.now (at s.shape.starts a.task) (at s.shape.lengths a.task) a.device
good c = let a = c.args in acts a.set.now.declares a.device a.task c.requires

-- the task's row is one of eight
row : (c : Start) → c.args.task < 8
row c = omega (arith, few-tasks c.args.set.now.declares, c.requires)

inside : (c : In-loop-p) → let a = c.args in at a.set.now.shape.starts a.task + c.loop-p.p < length a.set.now.words.now
inside c = let a = c.args in (reads a.set.now.declares a.task c.requires).inside c.loop-p.p c.loop-p-test.true

-- a side word that is stored has room in the task's row
room : (c : After-side) → c.args.task * ROW + c.loop-p.count < 1024
room c =
    let a = c.args in
    let s = a.set.now in
    omega (
      arith,
      few-tasks s.declares,
      c.requires,
      few s.words.now (at s.shape.starts a.task) (at s.shape.lengths a.task) a.device a.task a.rows.now.sides a.rows.now.units (acts s.declares a.device a.task c.requires),
      c.loop-p.invariant.0.closed,
    )

-- the units of a claim's word are those that it takes
units-are : (c : After-units-taken)
    → (let a = c.args in
    c.units-taken.result ≡ units_taken (action_of (at a.set.now.words.now (at a.set.now.shape.starts a.task + c.loop-p.p))))
units-are c = c.units-taken.ensures ∙ sym (claim-units _ (sym c.is_claim.ensures ∙ c.if-is_claim.true))

pub loop-p-init : goal.loop-p-init
loop-p-init c =
    let a = c.args in
    let s = a.set.now in
    (begins s.words.now (at s.shape.starts a.task) (at s.shape.lengths a.task) a.device a.task a.rows.now.sides a.rows.now.units (good (goal.at.loop-p-init c).Start), refl)

pub overflow_add-word : goal.overflow_add-word
overflow_add-word c = omega (arith, inside (goal.at.overflow_add-word c).In-loop-p)

pub offset_bounds-set-start : goal.offset_bounds-set-start
offset_bounds-set-start c = omega (arith, inside (goal.at.offset_bounds-set-start c).In-loop-p)

pub bounds-set-start : goal.bounds-set-start
bounds-set-start c = inside (goal.at.bounds-set-start c).In-loop-p

pub overflow_cast-taken : goal.overflow_cast-taken
overflow_cast-taken c =
    omega (arith, units-are (goal.at.overflow_cast-taken c).After-units-taken, ((good (goal.at.overflow_cast-taken c).Start).reads.small c.loop-p.p c.loop-p-test.true).1)

pub overflow_add-rows : goal.overflow_add-rows
overflow_add-rows c = omega (arith, room (goal.at.overflow_add-rows c).After-side)

pub offset_bounds-rows-task : goal.offset_bounds-rows-task
offset_bounds-rows-task c = omega (arith, room (goal.at.offset_bounds-rows-task c).After-side)

pub bounds-rows-task : goal.bounds-rows-task
bounds-rows-task c = room (goal.at.bounds-rows-task c).After-side

pub overflow_add-rows-else-is_claim : goal.overflow_add-rows-else-is_claim
overflow_add-rows-else-is_claim c = omega (arith, room (goal.at.overflow_add-rows-else-is_claim c).After-side)

pub bounds-rows-task-else-is_claim : goal.bounds-rows-task-else-is_claim
bounds-rows-task-else-is_claim c = room (goal.at.bounds-rows-task-else-is_claim c).After-side

pub overflow_add-count : goal.overflow_add-count
overflow_add-count c = omega (arith, room (goal.at.overflow_add-count c).After-side)

pub loop-p-preserved : goal.loop-p-preserved
loop-p-preserved c =
    let a = c.args in
    let s = a.set.now in
    let o = c.loop-p in
    let words = s.words.now in
    let start = at s.shape.starts a.task in
    let n = at s.shape.lengths a.task in
    let start-of = (goal.at.loop-p-preserved c).Start in
    let g = good start-of in
    let r = row start-of in
    elim c.if-device.branch [
      | then-device+then-is_claim w ↦
          let claim = sym w.is_claim.ensures ∙ w.if-is_claim.true in
          rw (w.rows-is, w.count-is, w.low-is, w.taken-is) (
            claims words start n a.device a.task a.rows.now.sides a.rows.now.units g o.invariant.0 c.loop-p-test.true
                (sym c.device.ensures ∙ w.if-device.true) claim (w.units-taken.ensures ∙ sym (claim-units _ claim)),
            o.invariant.1,
          )
      | then-device+else-is_claim w ↦
          rw (w.rows-is, w.count-is, w.low-is, w.taken-is, w.side.ensures) (
            releases words start n a.device a.task a.rows.now.sides a.rows.now.units g o.invariant.0 c.loop-p-test.true
                (sym c.device.ensures ∙ w.if-device.true) (sym w.is_claim.ensures ∙ w.if-is_claim.false) (omega (arith, r, a.rows.now.sized.eight_rows))
                (omega (arith, r, a.rows.now.sized.eight_units)) (omega arith),
            o.invariant.1,
          )
      | else-device w ↦
          rw (w.rows-is, w.count-is, w.low-is, w.taken-is) (
            passed words start n a.device a.task a.rows.now.sides a.rows.now.units g o.invariant.0 c.loop-p-test.true
                (λ e. w.if-device.false (c.device.ensures ∙ e)),
            o.invariant.1,
          )
    ]

pub returns-clause-listed : goal.returns-clause-listed
returns-clause-listed c =
    let a = c.args in
    let s = a.set.now in
    ends s.words.now (at s.shape.starts a.task) (at s.shape.lengths a.task) a.device a.task a.rows.now.sides a.rows.now.units (good (goal.at.returns-clause-listed c).Start)
    c.loop-p.invariant.0 c.loop-p-test.false (omega arith)
