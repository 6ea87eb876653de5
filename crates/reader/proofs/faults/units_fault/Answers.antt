-- `reader::faults::units_fault` meets its contract: the rules on the way to each return pick the number.
use borrow.Author.Tests.{ltb-true}
use native.Mathlib.Omega.{arith}
use Prim.Native.Nat.{suc, ◌<◌}
use mathlib.Core.Path.{◌≡◌, sym, ◌∙◌}
use mathlib.Core.Bool.{Bool, true, false, ◌&&◌}
use lib.Dec.{ltb, leb}
use Rattle.model.specs.Set.{at}
use Rattle.model.specs.Layout.{device_bits, extra_bits}
use Rattle.model.proofs.Bools.{and-true}
use Rattle.refusals.specs.Answers.{number_of}
use Rattle.reader.specs.Faults.{fault_number, units_fault}
use Rattle.reader.proofs.faults.units_fault.Goals.{After-claim_allowed, After-too_many_units, Else-not-claim_allowed, Else-too_many_actions}
use Rattle.reader.proofs.faults.units_fault.Goals as goal

-- 6, by the device that the field has
module _ (c : After-claim_allowed) where
  abbrev allowed : Bool
  allowed = ltb c.args.field 0x1000000 && ltb (device_bits c.args.field) c.args.scan.now.devices

  is-claim : c.args.claim ≡ true
  is-claim = c.if-not-claim.false

  told : c.claim_allowed.result ≡ allowed
  told = rw c.device_bits-device.ensures at c.claim_allowed.ensures

module _ (c : Else-not-claim_allowed) where
  declared : allowed c.before ≡ true
  declared = sym (told c.before) ∙ c.if-not-claim_allowed.false

  in_array : c.device_bits-device.result < 16
  in_array =
      let below = ltb-true (device_bits c.args.field) c.args.scan.now.devices (and-true (ltb c.args.field 0x1000000) _ declared).1 in
      rw c.device_bits-device.ensures (omega (arith, c.requires))

room : (c : Else-too_many_actions) → leb 255 c.args.length ≡ false
room c = sym c.too_many_actions.ensures ∙ c.if-too_many_actions.false

-- 28
module _ (c : After-too_many_units) where
  told-units : let a = c.args in c.too_many_units.result ≡ ltb (at a.scan.now.capacities (device_bits a.field)) (suc (extra_bits a.field))
  told-units = rw (c.units.ensures, c.device_bits-device.ensures) at c.too_many_units.ensures

pub returns-then-not-claim : goal.returns-then-not-claim
unfolding units_fault fault_number number_of
returns-then-not-claim c = rw c.if-not-claim.true

pub returns-then-not-claim_allowed : goal.returns-then-not-claim_allowed
unfolding units_fault fault_number number_of
returns-then-not-claim_allowed c = rw (is-claim (goal.at.returns-then-not-claim_allowed c).After-claim_allowed, sym (told (goal.at.returns-then-not-claim_allowed c).After-claim_allowed) ∙ c.if-not-claim_allowed.true)

pub returns-then-too_many_actions : goal.returns-then-too_many_actions
unfolding units_fault fault_number number_of
returns-then-too_many_actions c =
    rw (is-claim (goal.at.returns-then-too_many_actions c).After-claim_allowed, declared (goal.at.returns-then-too_many_actions c).Else-not-claim_allowed, sym c.too_many_actions.ensures ∙ c.if-too_many_actions.true)

pub returns-then-too_many_units : goal.returns-then-too_many_units
unfolding units_fault fault_number number_of
returns-then-too_many_units c =
    rw (is-claim (goal.at.returns-then-too_many_units c).After-claim_allowed, declared (goal.at.returns-then-too_many_units c).Else-not-claim_allowed, room (goal.at.returns-then-too_many_units c).Else-too_many_actions, sym (told-units (goal.at.returns-then-too_many_units c).After-too_many_units) ∙ c.if-too_many_units.true)

pub returns : goal.returns
unfolding units_fault fault_number number_of
returns c =
    rw (is-claim (goal.at.returns c).After-claim_allowed, declared (goal.at.returns c).Else-not-claim_allowed, room (goal.at.returns c).Else-too_many_actions, sym (told-units (goal.at.returns c).After-too_many_units) ∙ c.if-too_many_units.false, ← c.device_bits-device.ensures) c.held_fault.ensures
