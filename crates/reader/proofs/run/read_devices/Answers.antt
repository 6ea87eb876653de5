-- `reader::run::read_devices` meets its contract. The invariant: the words up to i are DEVICEs, which are noted.
use native.Mathlib.Omega.{arith}
use borrow.Author.Tests.{eqb-true}
use Prim.Native.Nat.{ℕ}
use mathlib.Core.Path.{◌≡◌, refl, sym, subst, ◌∙◌}
use Rattle.reader.specs.Faults.{device_fault}
use Rattle.reader.specs.Follow.{Reached}
use Rattle.reader.proofs.Found.{broken, free}
use Rattle.reader.proofs.FaultLaws.{device-kept}
use Rattle.reader.proofs.Going.{adds}
use Rattle.reader.proofs.run.read_devices.Goals.{Else-is_some}
use Rattle.reader.proofs.run.read_devices.Goals as goal

-- a DEVICE without a fault
module _ (c : Else-is_some) where
  faultless : device_fault c.loop-i.i 0 c.field-capacity.result ≡ 0
  faultless = free _ _ c.device_fault.ensures (sym c.is_some.ensures ∙ c.if-is_some.false)

pub returns-then-is_some : goal.returns-then-is_some
returns-then-is_some c =
    let inv = c.loop-i.invariant in
    (subst (λ (n : ℕ). Reached c.args.words.now c.loop-i.scan n) (sym inv.1) inv.0, inv.2, λ h k. rw (inv.1, ← c.field-capacity.ensures) (broken _ _ c.device_fault.ensures (sym c.is_some.ensures ∙ c.if-is_some.true)))

pub overflow_cast-scan : goal.overflow_cast-scan
overflow_cast-scan c = record { fits = omega (arith, (device-kept _ 0 _ (faultless c)).1) }

pub bounds-scan-i : goal.bounds-scan-i
bounds-scan-i c = (device-kept _ 0 _ (faultless (goal.at.bounds-scan-i c).Else-is_some)).2

pub loop-i-preserved : goal.loop-i-preserved
loop-i-preserved c =
    let inv = c.loop-i.invariant in
    let none = faultless (goal.at.loop-i-preserved c).Else-is_some in (
      rw c.field-capacity.ensures
          (rw inv.1 at (adds _ _ _ inv.0 c.loop-i-test.true (eqb-true _ 1 (sym c.has_kind.ensures ∙ c.if-not-has_kind.false)) (omega (arith, inv.2)) (rw (inv.1, inv.2, ← c.field-capacity.ensures) none))),
      refl,
      inv.2,
    )
