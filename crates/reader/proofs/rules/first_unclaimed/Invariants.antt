-- `reader::rules::first_unclaimed` meets its contract. The invariant: each device before d is claimed.
use Prim.Native.Nat.{ℕ, ◌≤◌, ◌<◌}
use mathlib.Core.Path.{◌≡◌}
use mathlib.Core.Bool.{Bool, false, not}
use mathlib.Core.List.{List}
use lib.ListN.{get_or}
use Rattle.reader.proofs.rules.first_unclaimed.Given as goal

abbrev pub unclaimed : List Bool → ℕ → Bool
unclaimed l d = not (get_or l d false)

abbrev pub invariant-loop-d : goal.invariant-loop-d
invariant-loop-d l = (l.d ≤ l.devices) × ((t : ℕ) → t < l.d → unclaimed l.claimed t ≡ false)
