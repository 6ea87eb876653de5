-- `forbidden_boxes::rows::claimers` meets its contract. The invariant: the claimers found and those yet to find are all.
use Prim.Native.Nat.{◌+◌, ◌-◌, ◌≤◌}
use mathlib.Core.Path.{◌≡◌}
use Rattle.forbidden_boxes.specs.Choices.{claimers_from}
use Rattle.forbidden_boxes.proofs.rows.claimers.Given as goal

-- found so far, and to be found
abbrev pub invariant-loop-t : goal.invariant-loop-t
invariant-loop-t l = (l.found ≤ l.t) × (l.found + claimers_from l.t (l.tasks - l.t) l.rows.holds ≡ claimers_from 0 l.tasks l.rows.holds)
