-- `records::rank_of` meets its contract. The invariant: with the rank of the tasks from t on, `rank` is the whole rank; and it is small enough to grow.
use Rattle.std.proofs.Common.{◌≡◌, ℕ, ◌+◌, ◌*◌, ◌<◌, ◌≤◌, List, length, take, drop}
use Rattle.model.specs.Set.{at}
use Rattle.model.specs.State.{weight, rank}
use Rattle.records.proofs.rank_of.Given as goal

-- what is counted up to task t, for every set whose weights these are
abbrev pub Counted : ℕ → List ℕ → List ℕ → ℕ → ℕ → Type 0
Counted n weights positions t r =
    (ls : List ℕ) → length ls ≡ n → ((i : ℕ) → i < n → at weights i ≡ weight ls i)
    → r + rank (drop t ls) (drop t (take n positions)) ≡ rank ls (take n positions)

abbrev pub invariant-loop-t : goal.invariant-loop-t
invariant-loop-t l =
    (l.t ≤ l.tasks) × (length l.positions ≡ 8) × (length l.weights ≡ 8) × (l.rank ≤ l.t * 16711680) × Counted l.tasks l.weights l.positions l.t l.rank
