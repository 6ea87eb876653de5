-- `set_writer::write_devices` meets its contract. The invariant: the kept devices before d are written.
use Prim.Native.Nat.{ℕ, ◌+◌, ◌<◌, ◌≤◌}
use native.Mathlib.Omega.{arith}
use mathlib.Core.Path.{◌≡◌, sym, ap, ◌∙◌}
use mathlib.Core.List.{List}
use lib.ListN.{length, take, length-take}
use lib.Seq.{get_or-take}
use Rattle.model.specs.Below.{how_many}
use Rattle.model.specs.Set.{at}
use Rattle.set_writer.proofs.Kept.{begins, place-free, taken, ends}
use Rattle.set_writer.proofs.write_devices.Invariants.{marked}
use Rattle.set_writer.proofs.write_devices.Goals.{Start}
use Rattle.set_writer.proofs.write_devices.Goals as goal

-- so many devices, and room for those that are kept
module _ (c : Start) where
  abbrev cs : List ℕ
  cs = take c.args.devices c.args.capacities.now

  all : length cs ≡ c.args.devices
  all = simp length-take (omega (arith, c.requires.devices_bound, c.requires.capacities_len))

  room : c.args.to + how_many (length cs) (marked c.args.kept.now) ≤ length c.args.out.now
  room = rw all c.requires.false_in_bounds

  -- the device d of a turn
  inside : {d : ℕ} → d < c.args.devices → d < length cs
  inside h = rw all h

  own : {d : ℕ} → d < c.args.devices → at cs d ≡ at c.args.capacities.now d
  own {d} h = get_or-take c.args.devices c.args.capacities.now d 0 h

pub loop-d-init : goal.loop-d-init
loop-d-init c = begins _ _ _ _

pub write_kept-at-requires : goal.write_kept-at-requires
write_kept-at-requires c e =
    let s = (goal.at.write_kept-at-requires c).Start in
    place-free _ _ _ _ (room s) c.loop-d.invariant (inside s c.loop-d-test.true) e

pub loop-d-preserved : goal.loop-d-preserved
loop-d-preserved c =
    let s = (goal.at.loop-d-preserved c).Start in
    let done = c.write_kept-at.ensures in
    taken _ _ _ _ (room s) c.loop-d.invariant (inside s c.loop-d-test.true) done.value (rw (own s c.loop-d-test.true) done.out_after)

pub returns : goal.returns
returns c =
    let s = (goal.at.returns c).Start in
    let inv = c.loop-d.invariant in
    let last : c.args.devices ≡ c.loop-d.d = omega (arith, inv.within, all s, c.loop-d-test.false) in
    record {
      value = inv.place ∙ ap (λ (n : ℕ). c.args.to + how_many n (marked c.args.kept.now)) (sym last);
      out_after = ends _ _ _ _ (room s) inv (omega (arith, all s, last));
    }
