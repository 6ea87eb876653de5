-- `forbidden_boxes::units::task_noted` meets its contract. The invariant: the first p actions are noted.
use Prim.Native.Nat.{◌+◌, ◌<◌}
use native.Mathlib.Omega.{arith}
use mathlib.Core.Path.{◌≡◌, sym, ◌∙◌}
use lib.ListN.{length}
use Rattle.model.specs.Set.{units_taken, at}
use Rattle.model.specs.Layout.{action_of}
use Rattle.set_words.proofs.Actions.{claim-units}
use Rattle.forbidden_boxes.specs.Units.{Small}
use Rattle.forbidden_boxes.proofs.Declared.{reads}
use Rattle.forbidden_boxes.proofs.Most.{release-units, one-noted, none_more}
use Rattle.forbidden_boxes.proofs.units.task_noted.Goals.{After-units, In-loop-p, then-is_claim, else-is_claim}
use Rattle.forbidden_boxes.proofs.units.task_noted.Goals as goal

-- the action's word is there
inside : (c : In-loop-p) → let a = c.args in at a.set.now.shape.starts a.task + c.loop-p.p < length a.set.now.words.now
inside c = let a = c.args in (reads a.set.now.declares a.task c.requires).inside c.loop-p.p c.loop-p-test.true

-- it is on one of the devices, of few units
small : (c : In-loop-p) → let a = c.args in Small (action_of (at a.set.now.words.now (at a.set.now.shape.starts a.task + c.loop-p.p)))
small c = let a = c.args in (reads a.set.now.declares a.task c.requires).small c.loop-p.p c.loop-p-test.true

-- the units of a claim's word are those that it takes
units-are : (c : After-units)
    → (let a = c.args in
    c.units.result ≡ units_taken (action_of (at a.set.now.words.now (at a.set.now.shape.starts a.task + c.loop-p.p))))
units-are c =
    c.units.ensures ∙ sym (claim-units _ (sym c.is_claim.ensures ∙ c.if-is_claim.true))

pub overflow_add-word : goal.overflow_add-word
overflow_add-word c = omega (arith, inside (goal.at.overflow_add-word c).In-loop-p)

pub offset_bounds-set-start : goal.offset_bounds-set-start
offset_bounds-set-start c = omega (arith, inside (goal.at.offset_bounds-set-start c).In-loop-p)

pub bounds-set-start : goal.bounds-set-start
bounds-set-start c = inside (goal.at.bounds-set-start c).In-loop-p

pub bounds-most-device : goal.bounds-most-device
bounds-most-device c = omega (arith, c.device-device.ensures, (small (goal.at.bounds-most-device c).In-loop-p).0)

pub overflow_cast-units : goal.overflow_cast-units
overflow_cast-units c = omega (arith, units-are (goal.at.overflow_cast-units c).After-units, (small (goal.at.overflow_cast-units c).In-loop-p).1)

pub bounds-most-device-then-is_claim : goal.bounds-most-device-then-is_claim
bounds-most-device-then-is_claim c =
    omega (arith, c.device-device.ensures, (small (goal.at.bounds-most-device-then-is_claim c).In-loop-p).0)

pub loop-p-preserved : goal.loop-p-preserved
loop-p-preserved c =
    let o = c.loop-p in
    let a = c.args in
    let words = a.set.now.words.now in
    let start = at a.set.now.shape.starts a.task in
    let tells = sym c.is_claim.ensures in
    elim c.if-is_claim.branch [
      | then-is_claim w ↦
          let d = w.device-device in
          let taken = w.units.ensures ∙ sym (claim-units _ (tells ∙ w.if-is_claim.true)) in
          rw w.most-is
          (one-noted words start a.most.now o.invariant d.ensures (omega (arith, d.ensures, (small (goal.at.loop-p-preserved c).In-loop-p).0))
          (omega (arith, taken)))
      | else-is_claim w ↦
          rw w.most-is
          (none_more words start a.most.now o.invariant (release-units _ (tells ∙ w.if-is_claim.false)))
    ]
