-- `merge::first_unequal` meets its contract. The invariant: the devices before d have one capacity each.
use Prim.Native.Nat.{ℕ, ◌<◌}
use mathlib.Core.Path.{◌≡◌}
use Rattle.model.specs.Set.{at}
use Rattle.merge.proofs.first_unequal.Given as goal

abbrev pub invariant-loop-d : goal.invariant-loop-d
invariant-loop-d l = (e : ℕ) → e < l.d → at l.first e ≡ at l.second e
