-- `set_writer::write_devices` meets its contract. The invariant: the kept devices before d are written.
use Prim.Native.Nat.{ℕ}
use mathlib.Core.Bool.{Bool, false}
use mathlib.Core.List.{List}
use lib.ListN.{get_or, take}
use Rattle.set_writer.proofs.Kept.{Turn}
use Rattle.set_writer.proofs.write_devices.Given as goal

abbrev pub marked : List Bool → ℕ → Bool
marked kept d = get_or kept d false

abbrev pub invariant-loop-d : goal.invariant-loop-d
invariant-loop-d l = Turn (marked l.kept) (take l.devices l.capacities) l.initial.out l.to l.out l.at l.d
