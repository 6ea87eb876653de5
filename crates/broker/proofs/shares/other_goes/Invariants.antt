-- `broker::shares::other_goes` meets its contract. The invariant: none of the tasks before t has share left and would be granted.
use Prim.Native.Nat.{ℕ, ◌+◌}
use mathlib.Core.Path.{◌≡◌}
use mathlib.Core.Bool.{Bool, false, ◌&&◌}
use mathlib.Core.List.{List}
use lib.Dec.{eqb, ltb}
use Rattle.model.specs.Below.{any}
use Rattle.model.specs.Set.{at}
use Rattle.broker.proofs.shares.other_goes.Given as goal

-- what the code tests of task t
abbrev pub tested : List ℕ → ℕ → ℕ → List ℕ → List ℕ → List ℕ → List ℕ → ℕ → Bool
tested map rank share lengths weights positions counts t =
    ltb (at counts t) share && (ltb (at positions t) (at lengths t) && eqb (at map (rank + at weights t)) 0)

abbrev pub invariant-loop-t : goal.invariant-loop-t
invariant-loop-t l = any l.t (tested l.map l.rank l.settings.share l.lengths l.weights l.positions l.counts) ≡ false
