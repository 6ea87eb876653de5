-- `route::first_step` meets its contract. The invariant: the search from t on finds what the whole search finds.
use Prim.Native.Nat.{ℕ, ◌-◌}
use mathlib.Core.Path.{◌≡◌}
use mathlib.Core.List.{List}
use lib.ListN.{take}
use Rattle.model.specs.Route.{step_from, first_step}
use Rattle.route.specs.Walks.{OnGrid}
use Rattle.route.proofs.first_step.Given as goal

-- the search among n tasks from t on
abbrev pub Searches : List ℕ → ℕ → List ℕ → List ℕ → ℕ → Type 0
Searches map n lengths positions t =
    step_from (take n lengths) map (n - t) t (take n positions) ≡ first_step (take n lengths) map (take n positions)

abbrev pub invariant-loop-t : goal.invariant-loop-t
invariant-loop-t l =
    Searches l.map l.tasks l.lengths l.positions l.t × OnGrid l.map l.tasks l.lengths l.weights l.positions l.rank
