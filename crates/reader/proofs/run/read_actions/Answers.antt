-- `reader::run::read_actions` meets its contract. The invariant: the words up to i led to the scan in which the task has an action for each since its start.
use borrow.Author.Tests.{eqb-true}
use Prim.Native.Nat.{ℕ, ◌-◌, ◌≤◌, ◌<◌}
use native.Mathlib.Omega.{arith}
use mathlib.Core.Path.{◌≡◌, refl, sym, ap, ◌∙◌}
use mathlib.Core.Bool.{Bool, true, false, cond}
use lib.Dec.{eqb}
use lib.ListN.{set}
use Rattle.model.specs.Set.{at}
use Rattle.model.specs.Layout.{kind_of, field_of, device_bits}
use Rattle.reader.specs.declared.scan.Scan.{Scan}
use Rattle.reader.specs.Faults.{action_fault}
use Rattle.reader.proofs.Found.{broken, free}
use Rattle.reader.proofs.FaultLaws.{action-kept}
use Rattle.reader.proofs.LastTask.{named}
use Rattle.reader.proofs.Going.{few-devices, no-action, one-action}
use Rattle.reader.proofs.run.read_actions.Goals.{After-device_bits-device, else-not-claim-via-then-not-claim+else-not-has_kind, else-not-claim-via-else-not-claim}
use Rattle.reader.proofs.run.read_actions.Goals as goal

-- a CLAIM or a RELEASE, as it is told
claims : (b : Bool) → eqb (cond b 3 4) 3 ≡ b
claims true = refl
claims false = refl

-- an action without a fault
module _ (c : After-device_bits-device) where
  abbrev word : ℕ
  word = at c.args.words.now c.loop-i.i

  abbrev s : Scan
  s = c.loop-i.scan

  abbrev claim : Bool
  claim = c.has_kind-claim.result

  faultless : action_fault s.devices s.capacities s.tasks (c.loop-i.i - c.args.from) s.held claim (field_of word) ≡ 0
  faultless = rw c.field-field.ensures at (free _ _ c.action_fault.ensures (sym c.is_some.ensures ∙ c.if-is_some.false))

  kind-is : kind_of word ≡ cond claim 3 4
  kind-is =
      elim c.else-not-claim.branch [
        | else-not-claim-via-then-not-claim+else-not-has_kind w ↦ rw w.if-not-claim.true (eqb-true (kind_of word) 4 (sym w.has_kind.ensures ∙ w.if-not-has_kind.false))
        | else-not-claim-via-else-not-claim w ↦ rw w.if-not-claim.false (eqb-true (kind_of word) 3 (sym c.has_kind-claim.ensures ∙ w.if-not-claim.false))
      ]

  few : s.devices ≤ 16
  few = few-devices _ _ _ c.loop-i.invariant.3

  -- the device that it names
  keeps : (named claim (field_of word) < s.devices) × (c.loop-i.i - c.args.from < 255) × (device_bits (field_of word) ≡ named claim (field_of word))
  keeps = action-kept _ _ _ _ _ _ _ few faultless

  names : c.device_bits-device.result ≡ named claim (field_of word)
  names = c.device_bits-device.ensures ∙ ap device_bits c.field-field.ensures ∙ keeps.2

  in_array : c.device_bits-device.result < 16
  in_array = omega (arith, keeps.0, few, names)

pub loop-i-init : goal.loop-i-init
loop-i-init c = (omega arith, omega arith, refl, no-action _ _ _ c.requires)

pub returns-then-is_some : goal.returns-then-is_some
returns-then-is_some c =
    let inv = c.loop-i.invariant in
    let some = rw c.field-field.ensures at (broken _ _ c.action_fault.ensures (sym c.is_some.ensures ∙ c.if-is_some.true)) in (
      inv.0,
      inv.1,
      inv.2,
      (λ h b k. let same : c.has_kind-claim.result ≡ b = c.has_kind-claim.ensures ∙ ap (λ (n : ℕ). eqb n 3) k ∙ claims b in rw same at some),
      inv.3,
    )

pub bounds-scan-device : goal.bounds-scan-device
bounds-scan-device c = in_array (goal.at.bounds-scan-device c).After-device_bits-device

pub bounds-scan-device-in-loop-i : goal.bounds-scan-device-in-loop-i
bounds-scan-device-in-loop-i c = in_array (goal.at.bounds-scan-device-in-loop-i c).After-device_bits-device

pub loop-i-preserved : goal.loop-i-preserved
loop-i-preserved c =
    let inv = c.loop-i.invariant in
    let a = (goal.at.loop-i-preserved c).After-device_bits-device in
    let same-tasks : c.loop-i.scan.tasks ≡ c.args.scan.now.tasks = ap (λ (x : Scan). x.tasks) inv.2 in (
      omega (arith, inv.0),
      omega (arith, inv.0, (keeps a).1),
      ap (λ (x : Scan). record x { held = set c.loop-i.scan.held c.device_bits-device.result c.has_kind-claim.result; claimed = set c.loop-i.scan.claimed c.device_bits-device.result true }) inv.2,
      rw (names a) (one-action _ c.loop-i.scan c.args.from c.loop-i.i (rw same-tasks c.requires.some) inv.3 inv.0 c.loop-i-test.true (claim a) (kind-is a) (faultless a)),
    )
