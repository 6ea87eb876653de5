-- `records::counts::some_from` meets its contract. The invariant: no task from the first one on and before t has a count.
use Rattle.std.proofs.Common.{◌≡◌, ℕ, ◌≤◌, Bool, false, ◌&&◌, ltb, leb, List, length}
use Rattle.model.specs.Below.{any}
use Rattle.model.specs.Set.{at}
use Rattle.records.proofs.counts.some_from.Given as goal

-- the test of task t
abbrev pub counted-from : ℕ → List ℕ → ℕ → Bool
counted-from first counts t = leb first t && ltb 0 (at counts t)

abbrev pub invariant-loop-t : goal.invariant-loop-t
invariant-loop-t l = (length l.counts ≡ 8) × (l.first ≤ l.t) × (l.t ≤ 8) × (any l.t (counted-from l.first l.counts) ≡ false)
