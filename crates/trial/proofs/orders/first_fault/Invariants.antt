-- `trial::orders::first_fault` meets its contract. The invariant: no earlier place is faulty.
use Prim.Native.Nat.{ℕ, ◌<◌}
use mathlib.Core.Path.{◌≡◌}
use mathlib.Core.Bool.{false}
use Rattle.model.specs.Trial.{faulty}
use Rattle.trial.proofs.orders.first_fault.Given as goal

abbrev pub invariant-loop-place : goal.invariant-loop-place
invariant-loop-place l = (p : ℕ) → p < l.place → faulty l.tasks l.order p ≡ false
