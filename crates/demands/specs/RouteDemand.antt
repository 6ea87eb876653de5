-- The route's demand: on the map made for a set, from every open state there is a route, through open states to the end; "no route" is said of unsafe
-- states only.
use Rattle.std.specs.Prelude.{ℕ, ◌-◌, ◌<◌, ◌≤◌, ◌≡◌, false, List, [], ◌∷◌, ◌++◌, length, drop}
use Rattle.model.specs.Answer.{given, refused}
use Rattle.model.specs.Set.{Set, lengths_of, at, size}
use Rattle.model.specs.State.{State, next, sum, rank}
use Rattle.model.specs.Hold.{permitted}
use Rattle.model.specs.Read.{read}
use Rattle.model.specs.Analysis.{analyse}
use Rattle.model.specs.Record.{Record, state_in}
use Rattle.model.specs.Route.{Routed, route}
use Rattle.demands.specs.MapDemand.{IsOpen, IsUnsafe}
use Rattle.demands.specs.Calls.{Unfit, no_route}

-- the actions left at a state
abbrev pub actions_left : Set → State → ℕ
actions_left s x = sum (lengths_of s) - sum x

-- the steps lead from x to the end through open states, each that of the smallest task whose step leads to an open state
abbrev pub Arrives : Set → State → List ℕ → Type 0
Arrives s x [] = x ≡ lengths_of s
Arrives s x (t ∷ ts) =
    (at x t < at (lengths_of s) t)
    × IsOpen s (next x t)
    × ((u : ℕ) → u < t → at x u < at (lengths_of s) u → IsOpen s (next x u) → ⊥)
    × Arrives s (next x t) ts

-- the route out from the state x in a slice
pub record RouteRight (s : Set) (x : State) (slice : List ℕ) (out : Routed) : Type 0 where
  -- from an open state, in a slice with room: one byte for each action left, and beyond them the slice keeps its bytes
  pub arrives : IsOpen s x → actions_left s x ≤ length slice
      → (steps : List ℕ) × Arrives s x steps × (length steps ≡ actions_left s x)
      × (out ≡ record { answer = given (length steps); route = steps ++ drop (length steps) slice })
  -- a shorter slice is refused with the length needed
  pub too_short : IsOpen s x → length slice < actions_left s x → out ≡ no_route 21 (actions_left s x) slice
  -- an unsafe state has no route, and 20 is said of unsafe states only
  pub no-route : IsUnsafe s x → out ≡ no_route 20 (rank (lengths_of s) x) slice
  pub only_unsafe : (p : ℕ) → out.answer ≡ refused 20 p → IsUnsafe s x × (p ≡ rank (lengths_of s) x)
  -- a forbidden state is no record's
  pub forbidden : permitted s x ≡ false → out ≡ no_route 16 0 slice

-- the route's demand
pub record RouteDemand : Type 0 where
  -- for all words that read as a set and a map slice with room for its map, as the analysis leaves it, and every record of eight positions that fits the set
  pub routes : (words map plan : List ℕ) (s : Set) → read words ≡ given s → size (lengths_of s) ≤ length map
      → (r : Record) → length r.positions ≡ 8 → (Unfit s r → ⊥) → (slice : List ℕ)
      → RouteRight s (state_in s r) slice (route words (analyse words map plan).map r slice)
