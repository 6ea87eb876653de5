-- How the code's walk follows the model's: for the contracts of the route's own functions.
use Rattle.std.specs.Prelude.{ℕ, ◌<◌, ◌≤◌, ◌≡◌, List, length, take, replicate}
use Rattle.model.specs.Answer.{Answer, given, ◌then◌, if_given}
use Rattle.model.specs.Set.{at, size}
use Rattle.model.specs.State.{State, InGrid, weight, rank}
use Rattle.model.specs.Slice.{over}
use Rattle.model.specs.Route.{steps_from, walked, route_fits, Routed}
use Rattle.route.specs.declared.Stop.{Stop}

-- the positions are a state of the grid of the first n lengths, of rank r, and the map has a byte for each state
pub record OnGrid (map : List ℕ) (n : ℕ) (lengths weights positions : List ℕ) (r : ℕ) : Type 0 where
  pub tasks : n ≤ 8
  pub lengths_all : length lengths ≡ 8
  pub positions_all : length positions ≡ 8
  pub weighs : (t : ℕ) → t < n → at weights t ≡ weight (take n lengths) t
  pub grid : InGrid (take n lengths) (take n positions)
  pub is-rank : r ≡ rank (take n lengths) (take n positions)
  pub room : size (take n lengths) ≤ length map

-- the walk w from x stops where the model's steps end, and where they fit they stand at the slice's front
pub record WalkDone (ls m : List ℕ) (x : State) (slice : List ℕ) (w : Stop) (after : List ℕ) : Type 0 where
  pub steps : w.steps ≡ length (steps_from ls m x)
  pub grid : InGrid ls (walked x (steps_from ls m x))
  pub ends : w.rank ≡ rank ls (walked x (steps_from ls m x))
  pub kept : length after ≡ length slice
  pub written : length (steps_from ls m x) ≤ length slice → after ≡ over (steps_from ls m x) slice

-- what becomes of a route's steps, or of a refusal, in a slice: how many there are, and the steps at its front or 255 everywhere; steps that it has no room
-- for are refused
abbrev pub fitted : Answer (List ℕ) → List ℕ → Routed
fitted found slice =
    let steps = found then λ ts. route_fits slice ts in
    record { answer = steps then λ ts. given (length ts); route = if_given steps (λ ts. over ts slice) (replicate (length slice) 255) }
