-- `forbidden_boxes::forbidden_boxes` meets its contract. The invariant: the boxes of the devices before d are written.
use Prim.Native.Nat.{ℕ}
use mathlib.Core.List.{List}
use Rattle.shape.specs.SetOf.{set_of}
use Rattle.shape.proofs.Declared.{devices-are}
use Rattle.plan_words.proofs.Run.{placed, full, finished}
use Rattle.forbidden_boxes.specs.Choices.{device_words}
use Rattle.forbidden_boxes.proofs.Device.{all-devices}
use Rattle.forbidden_boxes.proofs.forbidden_boxes.Goals.{Start}
use Rattle.forbidden_boxes.proofs.forbidden_boxes.Goals as goal

-- the words of each device
abbrev boxes : Start → ℕ → List ℕ
boxes s = device_words (set_of s.args.set.now)

pub returns-in_err-to : goal.returns-in_err-to
returns-in_err-to c =
    let s = c.args.set.now in
    rw (← all-devices (set_of s) s.shape.devices (devices-are s.declares), c.from_residual.ensures)
    (full (boxes (goal.at.returns-in_err-to c).Start) c.args.plan.now 0 s.shape.devices c.loop-d.invariant c.loop-d-test.true c.device_boxes.ensures c.in_err-to.was)

pub loop-d-preserved : goal.loop-d-preserved
loop-d-preserved c =
    placed (boxes (goal.at.loop-d-preserved c).Start) c.args.plan.now 0 c.args.set.now.shape.devices c.loop-d.invariant c.loop-d-test.true c.device_boxes.ensures c.in_ok-to.was

pub returns : goal.returns
returns c =
    let s = c.args.set.now in
    rw (← all-devices (set_of s) s.shape.devices (devices-are s.declares))
    (finished (boxes (goal.at.returns c).Start) c.args.plan.now 0 s.shape.devices c.loop-d.invariant c.loop-d-test.false)
