-- SCOPE.md, "States and holds": the states of the grid, their ranks, steps and the end, over the action counts `ls`.
use Rattle.std.specs.Prelude.{ℕ, ◌+◌, ◌<◌, ◌≤◌, ◌≡◌, ◌↔◌, true, length}
use mathlib.Core.List.{List, flatten}
use Rattle.model.specs.Set.{Set, lengths_of, at, size}
use Rattle.model.specs.State.{State, InGrid, next, unfinished, start, is_end, sum, rank, state_at}
use Rattle.demands.specs.Terms.{before}

pub record OfStates (ls : List ℕ) : Type 0 where
  -- a state gives each task a position, 0 to its L
  pub grid : (x : State) → InGrid ls x ↔ ((length x ≡ length ls) × ((t : ℕ) → at x t ≤ at ls t))
  -- a rank counts the states of the grid before its own, task 0 weighing most: the ranks are the numbers below the grid, and rise as the states do
  pub below : (x : State) → InGrid ls x → rank ls x < size ls
  pub each : (r : ℕ) → r < size ls → InGrid ls (state_at ls r) × (rank ls (state_at ls r) ≡ r)
  pub rises : (x y : State) → InGrid ls x → InGrid ls y → (rank ls x < rank ls y) ↔ (before x y ≡ true)
  -- a task is unfinished exactly if its position is below its L
  pub left : (x : State) (t : ℕ) → (unfinished ls x t ≡ true) ↔ (at x t < at ls t)
  -- a step adds 1 to one task's position, and to the actions done
  pub step_same : (x : State) (t : ℕ) → t < length x → (at (next x t) t ≡ at x t + 1) × (length (next x t) ≡ length x)
  pub step_other : (x : State) (t u : ℕ) → (u ≡ t → ⊥) → at (next x t) u ≡ at x u
  pub step_sum : (x : State) (t : ℕ) → t < length x → sum (next x t) ≡ sum x + 1
  -- the start is all 0, with no action done
  pub start_zero : (t : ℕ) → at (start ls) t ≡ 0
  pub start_grid : InGrid ls (start ls)
  pub start_sum : sum (start ls) ≡ 0
  -- the end is the state whose positions are the action counts
  pub end : (x : State) → InGrid ls x → (is_end ls x ≡ true) ↔ (x ≡ ls)

pub record StatesRight : Type 0 where
  pub states : (ls : List ℕ) → OfStates ls
  -- the sum of the L is the number of actions of the set
  pub actions : (s : Set) → sum (lengths_of s) ≡ length (flatten s.tasks)
