-- The broker in service: the map as an analysis leaves it in a slice, and what holds of the record between calls.
use Prim.Native.Nat.{ℕ, zero, suc, ◌<◌, ◌≤◌}
use native.Mathlib.Omega.{arith}
use native.Mathlib.Numerals.{add-one}
use mathlib.Core.Path.{◌≡◌, refl, ap, ◌∙◌}
use mathlib.Core.Bool.{Bool, true, false, cond}
use mathlib.Core.List.{List, [], ◌∷◌}
use lib.ListN.{length, take, drop, set, replicate, length-append, length-set, length-map, get_or-append}
use lib.Seq.{get_or-take, get_or-set_other, take-set-lt}
use lib.Dec.{ltb, leb}
use borrow.Author.Tests.{ltb-true, ltb-false, le-ltb, leb-true}
use Rattle.model.specs.Answer.{given}
use Rattle.model.specs.Set.{Task, Set, lengths, lengths_of, at, size}
use Rattle.model.specs.Layout.{WellFormed}
use Rattle.model.specs.State.{State, next, start, rank}
use Rattle.model.specs.Hold.{permitted}
use Rattle.model.specs.Map.{map_of}
use Rattle.model.specs.Slice.{over}
use Rattle.model.specs.Record.{Record, state_in, misplaced, miscounted, unfit, map_fits, placed}
use Rattle.model.specs.Broker.{used_up, in_window, grant}
use Rattle.model.proofs.Bools.{by_bool, any-true, any_none}
use Rattle.model.proofs.States.{unfinished-task, start_grid}
use Rattle.model.proofs.Ranks.{rank_lt}
use Rattle.model.proofs.MapExact.{map-right}
use Rattle.model.proofs.Lists.{at-zeros}
use Rattle.model.proofs.DeadRanks.{map_length}
use Rattle.model.proofs.StartOpen.{start_open}
use Rattle.model.proofs.Moves.{moves, moves-unfinished, Good, moves-good}

-- a slice that holds the map of a set at its front
pub record Carries (s : Set) (m : List ℕ) : Type 0 where
  pub room : length (map_of s) ≤ length m
  pub same : (r : ℕ) → r < size (lengths_of s) → at m r ≡ at (map_of s) r

-- such a slice is long enough: 13 does not apply
pub carries-fits : (s : Set) (m : List ℕ) → Carries s m → map_fits s m ≡ given (size (lengths_of s))
unfolding map_fits
carries-fits s m c = rw (le-ltb (length m) (size (lengths_of s)) (omega (arith, c.room, map_length s)))

-- a slice with the map written over its front
pub over-carries : (s : Set) (slice : List ℕ) → Carries s (over (map_of s) slice)
over-carries s slice = record {
  room = omega (arith, length-append (map_of s) (drop (length (map_of s)) slice));
  same = λ r h. get_or-append (map_of s) (drop (length (map_of s)) slice) 0 r (omega (arith, map_length s));
}

-- a record in service: eight positions, those of the tasks a state of the grid that is open, the others 0, and eight counts, 0 for absent tasks
pub record InService (s : Set) (r : Record) : Type 0 where
  pub eight : length r.positions ≡ 8
  pub good : Good (lengths_of s) (permitted s) (state_in s r)
  pub absent : (t : ℕ) → length s.tasks ≤ t → at r.positions t ≡ 0
  pub eight-counts : length r.counts ≡ 8
  pub absent-counts : (t : ℕ) → length s.tasks ≤ t → at r.counts t ≡ 0

-- as many zeros as there are tasks are the start
zeros-start : (k : ℕ) (tasks : List Task) → length tasks ≤ k → take (length tasks) (replicate k 0) ≡ start (lengths tasks)
zeros-start k [] h = refl
zeros-start zero (task ∷ tasks) h = absurd (omega arith)
zeros-start (suc k) (task ∷ tasks) h = ap (λ x. 0 ∷ x) (zeros-start k tasks (omega arith))

module _ (s : Set) (w : WellFormed s) where
  -- with all positions 0 the state is the start
  pub start-state : take (length s.tasks) (replicate 8 0) ≡ start (lengths_of s)
  start-state = zeros-start 8 s.tasks w.tasks

  -- a record with all positions and counts 0 is fit for service, whatever its grant number
  pub start-serves : (g : ℕ) → InService s (record { positions = replicate 8 0; grants = g; counts = replicate 8 0 })
  start-serves g = record {
    eight = refl;
    good = rw start-state (record { grid = start_grid (lengths_of s); is_open = start_open s w });
    absent = λ t h. at-zeros 8 t;
    eight-counts = refl;
    absent-counts = λ t h. at-zeros 8 t;
  }

-- a grant moves the state by one step of that task
pub grant-state : (s : Set) (window : ℕ) (r : Record) (t : ℕ) → t < length s.tasks → state_in s (grant window r t) ≡ next (state_in s r) t
grant-state s window r t h =
    rw (take-set-lt, get_or-take (length s.tasks) r.positions t 0 h) (ap (set (state_in s r) t) (add-one (at r.positions t)))

-- only a task of the set moves
pub moves-task : (s : Set) (x : State) (t : ℕ) → moves (lengths_of s) (map_of s) x t ≡ true → t < length s.tasks
moves-task s x t e =
    omega (arith, length-map s.tasks length, unfinished-task (lengths_of s) x t (moves-unfinished (lengths_of s) (map_of s) x t e))

-- a window keeps what holds of eight zeros and of its counts, whichever of the two it leaves: eight counts, and those that were 0
module _ (window : ℕ) (counts : List ℕ) where
  window-keeps : (P : List ℕ → Type 0) → P (replicate 8 0) → P counts → P (in_window window counts)
  unfolding in_window
  window-keeps P zeros same = either (used_up window counts)
    where
      either : (b : Bool) → P (cond b (replicate 8 0) counts)
      either true = zeros
      either false = same

  pub window-eight : length counts ≡ 8 → length (in_window window counts) ≡ 8
  window-eight e = window-keeps (λ l. length l ≡ 8) refl e

  pub window-zero : (t : ℕ) → at counts t ≡ 0 → at (in_window window counts) t ≡ 0
  window-zero t e = window-keeps (λ l. at l t ≡ 0) (at-zeros 8 t) e

-- where no absent task has a count, 16's part on counts does not apply
pub not-miscounted : (s : Set) (r : Record) → ((t : ℕ) → length s.tasks ≤ t → at r.counts t ≡ 0) → miscounted s r ≡ false
unfolding miscounted
not-miscounted s r absent =
    any_none 8 _ λ t h.
    by_bool (leb (length s.tasks) t)
    (λ l. rw (l, absent t (leb-true (length s.tasks) t l)))
    (λ l. rw l)

module _ (s : Set) (r : Record) (i : InService s r) where
  -- a grant where the state moves leaves the record fit for service
  pub grant-serves : (window t : ℕ) → moves (lengths_of s) (map_of s) (state_in s r) t ≡ true → InService s (grant window r t)
  grant-serves window t e =
      let h = moves-task s (state_in s r) t e in
      record {
        eight = length-set r.positions t _ ∙ i.eight;
        good = rw (grant-state s window r t h) (moves-good (lengths_of s) (permitted s) (state_in s r) t i.good.grid e);
        absent = λ u l. get_or-set_other r.positions t u _ 0 (λ q. omega arith) ∙ i.absent u l;
        eight-counts = window-eight window _ (length-set r.counts t _ ∙ i.eight-counts);
        absent-counts = λ u l. window-zero window _ u (get_or-set_other r.counts t u _ 0 (λ q. omega arith) ∙ i.absent-counts u l);
      }

  -- no position is over its L, which counts as 0 for an absent task
  position-fits : (t : ℕ) → at r.positions t ≤ at (lengths_of s) t
  position-fits t =
      by_bool (ltb t (length s.tasks))
      (λ e. rw (get_or-take (length s.tasks) r.positions t 0 (ltb-true t (length s.tasks) e)) at (i.good.grid.fits t))
      (λ e. omega (arith, i.absent t (ltb-false t (length s.tasks) e)))

  -- 16's part on positions does not apply
  not-misplaced : misplaced s r ≡ false
  unfolding misplaced
  not-misplaced =
      by_bool (misplaced s r)
      (λ e.
      let q = any-true 8 (λ t. ltb (at (lengths_of s) t) (at r.positions t)) e in
      absurd (omega (arith, ltb-true (at (lengths_of s) q.0) (at r.positions q.0) q.2, position-fits q.0)))
      (λ e. e)

  pub is-fit : unfit s r ≡ false
  is-fit = rw (not-misplaced, not-miscounted s r i.absent-counts)

  pub is-placed : placed s r ≡ given (state_in s r)
  unfolding placed
  is-placed = rw is-fit

  -- the record's own byte is 0
  pub own-byte : (m : List ℕ) → Carries s m → at m (rank (lengths_of s) (state_in s r)) ≡ 0
  own-byte m c =
      let x = state_in s r in
      rw (c.same (rank (lengths_of s) x) (rank_lt (lengths_of s) x i.good.grid))
      ((map-right (lengths_of s) (permitted s) x i.good.grid).open_state.1 i.good.is_open)
