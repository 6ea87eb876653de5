-- SCOPE.md, "Map" and "Plan": open, unsafe and dead states, what each byte of the map says, and which states are reached.
use Rattle.std.specs.Prelude.{ℕ, ◌<◌, ◌≤◌, ◌≡◌, ◌↔◌, true, false, List, [], ◌∷◌}
use Rattle.model.specs.Set.{Set, lengths_of, at}
use Rattle.model.specs.State.{State, InGrid, next, start, rank}
use Rattle.model.specs.Hold.{permitted}
use Rattle.model.specs.Run.{CanEnd, Reached, Dead}
use Rattle.model.specs.Map.{map_of}

module _ (s : Set) where
  -- allowed steps of these tasks, in this order, lead from x to y: each adds 1 to an unfinished task's position, and the new state is permitted
  abbrev pub Leads : State → List ℕ → State → Type 0
  Leads x [] y = x ≡ y
  Leads x (t ∷ ts) y = (at x t < at (lengths_of s) t) × (permitted s (next x t) ≡ true) × Leads (next x t) ts y

  -- some sequence of allowed steps, the empty one counted, reaches the end
  abbrev pub ReachesEnd : State → Type 0
  ReachesEnd x = (ts : List ℕ) × Leads x ts (lengths_of s)

  -- reached: the start, and each state to which an allowed step leads from a reached one
  pub data IsReached : State → Type 0 where
    no_step_made : IsReached (start (lengths_of s))
    one_step_more : {x : State} (t : ℕ) → IsReached x → at x t < at (lengths_of s) t → permitted s (next x t) ≡ true → IsReached (next x t)

  -- dead: permitted, not the end, no allowed step
  pub record IsDead (x : State) : Type 0 where
    pub is_permitted : permitted s x ≡ true
    pub not_the_end : x ≡ lengths_of s → ⊥
    pub no_step : (t : ℕ) → at x t < at (lengths_of s) t → permitted s (next x t) ≡ false

  -- open: permitted, and the end can be reached
  abbrev pub IsOpen : State → Type 0
  IsOpen x = (permitted s x ≡ true) × ReachesEnd x

  -- unsafe: permitted, and the end can't be reached
  abbrev pub IsUnsafe : State → Type 0
  IsUnsafe x = (permitted s x ≡ true) × (ReachesEnd x → ⊥)

  -- a slice with one byte for each state, at its rank: 1 forbidden; 3 dead; 2 unsafe but not dead; 0 open; no other
  pub record Bytes (map : List ℕ) : Type 0 where
    pub forbidden : (x : State) → InGrid (lengths_of s) x → (at map (rank (lengths_of s) x) ≡ 1) ↔ (permitted s x ≡ false)
    pub dead : (x : State) → InGrid (lengths_of s) x → (at map (rank (lengths_of s) x) ≡ 3) ↔ IsDead x
    pub unsafe : (x : State) → InGrid (lengths_of s) x → (at map (rank (lengths_of s) x) ≡ 2) ↔ (IsUnsafe x × (IsDead x → ⊥))
    pub open_state : (x : State) → InGrid (lengths_of s) x → (at map (rank (lengths_of s) x) ≡ 0) ↔ IsOpen x
    pub no_other : (x : State) → InGrid (lengths_of s) x → at map (rank (lengths_of s) x) ≤ 3

-- of the states of a set
pub record MapDemand : Type 0 where
  -- the bytes of a set's map, whichever rules the set keeps
  pub map_bytes : (s : Set) → Bytes s (map_of s)
  -- the definitions of Run say the same
  pub can_end : (s : Set) (x : State) → InGrid (lengths_of s) x → CanEnd (lengths_of s) (permitted s) x ↔ ReachesEnd s x
  pub dead : (s : Set) (x : State) → InGrid (lengths_of s) x → Dead (lengths_of s) (permitted s) x ↔ IsDead s x
  pub reached : (s : Set) (x : State) → Reached (lengths_of s) (permitted s) x ↔ IsReached s x
  -- reached are the states to which some sequence of allowed steps leads from the start
  pub reached_by : (s : Set) (x : State) → IsReached s x ↔ ((ts : List ℕ) × Leads s (start (lengths_of s)) ts x)
  -- a dead state is unsafe, and from every unsafe state allowed steps lead to a dead one
  pub dead_unsafe : (s : Set) (x : State) → InGrid (lengths_of s) x → IsDead s x → IsUnsafe s x
  pub unsafe_dead : (s : Set) (x : State) → InGrid (lengths_of s) x → IsUnsafe s x → (ts : List ℕ) × (y : State) × Leads s x ts y × IsDead s y
  -- where no dead state is reached, every reached state is open
  pub none_reached : (s : Set) → ((y : State) → IsReached s y → IsDead s y → ⊥) → (x : State) → IsReached s x → IsOpen s x
