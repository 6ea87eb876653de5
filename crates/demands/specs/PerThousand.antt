-- SCOPE.md, "Parts per thousand": how much of the grid is unsafe, by the numbers that an accepted analysis answers.
use Rattle.std.specs.Prelude.{ℕ, ◌+◌, ◌*◌, ◌<◌, ◌≤◌, ◌≡◌, ◌↔◌, true, not, ◌||◌, length, eqb}
use mathlib.Core.List.{List, Memᴰ}
use Rattle.model.specs.Answer.{given}
use Rattle.model.specs.Set.{Set, lengths_of, at, size}
use Rattle.model.specs.Read.{read, set_in}
use Rattle.model.specs.State.{State, InGrid, start}
use Rattle.model.specs.Hold.{permitted}
use Rattle.model.specs.Analysis.{Planned, analyse}
use Rattle.demands.specs.Terms.{how_many, Ordered}
use Rattle.demands.specs.MapDemand.{IsOpen, IsUnsafe, IsDead}
use Rattle.demands.specs.Analyses.{OfAnalysis}

-- n states of the grid have P: a list has each of them, once, and no other state, and is n long
pub record NumberOf (ls : List ℕ) (P : State → Type 0) (n : ℕ) : Type 0 where
  pub states : List State
  pub each : (x : State) → Memᴰ x states ↔ (InGrid ls x × P x)
  pub once : Ordered (λ x y. x ≡ y → ⊥) states
  pub as_many : length states ≡ n

-- what the numbers p of an accepted analysis say of its set s, and of the map slice m as it leaves it
pub record OfGrid (s : Set) (m : List ℕ) (p : Planned) : Type 0 where
  -- the permitted states of the grid, and the unsafe ones, dead ones included
  pub permitted_count : ℕ
  pub unsafe_count : ℕ
  pub permitted_states : NumberOf (lengths_of s) (λ x. permitted s x ≡ true) permitted_count
  pub unsafe-states : NumberOf (lengths_of s) (IsUnsafe s) unsafe_count
  pub dead_included : (x : State) → InGrid (lengths_of s) x → IsDead s x → Memᴰ x unsafe-states.states
  -- they are counts of map bytes, over the grid only: of those other than 1, and of 2 and 3
  pub permitted_bytes : permitted_count ≡ how_many (size (lengths_of s)) (λ r. not (eqb (at m r) 1))
  pub unsafe_bytes : unsafe_count ≡ how_many (size (lengths_of s)) (λ r. eqb (at m r) 2 || eqb (at m r) 3)
  -- 1,000 times the unsafe states divided by the permitted ones, as quotient and exact remainder
  pub divided : 1000 * unsafe_count ≡ p.quotient * permitted_count + p.remainder
  pub below : p.remainder < permitted_count
  -- there is a permitted state: the start, which is open, so that fewer states are unsafe than permitted and the quotient is at most 999
  pub never_0 : 0 < permitted_count
  pub start_open : IsOpen s (start (lengths_of s))
  pub fewer : unsafe_count < permitted_count
  pub at_most : p.quotient ≤ 999
  -- both numbers are 0 exactly if no state is unsafe
  pub all_safe : ((p.quotient ≡ 0) × (p.remainder ≡ 0)) ↔ ((x : State) → InGrid (lengths_of s) x → IsUnsafe s x → ⊥)

-- a refused analysis answers neither number: a refusal has no place for them, and a host is told 0 and 0 (`Hosts.of_refused`)
pub record PerThousand : Type 1 where
  -- so many states have P, and not another number of them
  pub one_number : (ls : List ℕ) (P : State → Type 0) (n k : ℕ) → NumberOf ls P n → NumberOf ls P k → n ≡ k
  -- an analysis of a set is accepted exactly if its map and plan have room, as `Analyses` says: so nothing below is said of no set
  pub answers : (words : List ℕ) (s : Set) → read words ≡ given s → OfAnalysis words s
  -- every accepted analysis
  pub accepted : (words map plan : List ℕ) (p : Planned) → (analyse words map plan).answer ≡ given p → OfGrid (set_in words) (analyse words map plan).map p
  -- the numbers are the set's: whatever the slices held and however long they were, all accepted analyses of the same words answer the same
  pub same : (words map plan map₂ plan₂ : List ℕ) (p p₂ : Planned)
      → (analyse words map plan).answer ≡ given p → (analyse words map₂ plan₂).answer ≡ given p₂ → p ≡ p₂
