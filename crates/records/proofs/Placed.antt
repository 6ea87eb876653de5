-- What a declared set's shape tells of a record: its positions against the lengths, and where its state stands.
use Rattle.std.proofs.Common.{◌≡◌, ℕ, ◌<◌, ◌≤◌, Bool, true, false, not, ◌&&◌, ltb, leb, List, length, sym, ap, ◌∙◌, arith, length-take-le, get_or-take, ltb-false, ltb-true, lt-ltb}
use lib.ListN.{length-map, get_or-eq_default}
use Rattle.model.specs.Below.{any}
use Rattle.model.specs.Set.{Set, lengths_of, at, size}
use Rattle.model.specs.State.{is_end, InGrid}
use Rattle.model.specs.Answer.{given, refused}
use Rattle.model.specs.Record.{Record, state_in, misplaced, miscounted, unfit, map_fits, placed}
use Rattle.model.proofs.Bools.{by_bool, true-not-false, or-false, any-true, any_false, any-intro, any_same}
use Rattle.model.proofs.States.{unfinished-task, end-finished, end-intro}
use Rattle.model.proofs.Ranks.{rank_lt}
use Rattle.shape.specs.declared.Shape.{Shape}
use Rattle.shape.specs.Declares.{Declares}
use Rattle.shape.proofs.Declared.{length_at, tasks-are, few-tasks}
use Rattle.records.specs.Ranked.{Ranked}

-- the test of `some_above`: place t of the numbers is over its limit
abbrev pub above : List ℕ → List ℕ → ℕ → Bool
above limits numbers t = ltb (at limits t) (at numbers t)

module _ {words : List ℕ} {shape : Shape} {s : Set} (d : Declares words shape s) where
  pub lengths-count : length (lengths_of s) ≡ shape.tasks
  lengths-count = length-map s.tasks length ∙ sym (tasks-are d)

  module _ (r : Record) where
    -- the shape's lengths decide whether a position is over its own
    pub misplaced-is : any 8 (above shape.lengths r.positions) ≡ misplaced s r
    unfolding misplaced
    misplaced-is = any_same 8 _ _ (λ t _. rw (length_at d t))

    -- and its number of tasks whether an absent one has a count
    pub miscounted-is : any 8 (λ t. leb shape.tasks t && ltb 0 (at r.counts t)) ≡ miscounted s r
    unfolding miscounted
    miscounted-is = rw (tasks-are d)

    -- a task of the set is as far as its place in the record says
    pub position-is : (t : ℕ) → t < shape.tasks → at (state_in s r) t ≡ at r.positions t
    position-is t h = get_or-take (length s.tasks) r.positions t 0 (omega (arith, tasks-are d))

    not_end : any 8 (above r.positions shape.lengths) ≡ true → is_end (lengths_of s) (state_in s r) ≡ false
    not_end e =
        let q = any-true 8 (above r.positions shape.lengths) e in
        let l = ltb-true (at r.positions q.0) (at shape.lengths q.0) q.2 in
        let p = lt-ltb (at r.positions q.0) (at (lengths_of s) q.0) (omega (arith, length_at d q.0)) in
        let i = unfinished-task (lengths_of s) r.positions q.0 p in
        let u = lt-ltb (at (state_in s r) q.0) (at (lengths_of s) q.0)
        (omega (arith, length_at d q.0, position-is q.0 (omega (arith, lengths-count)))) in
        by_bool (is_end (lengths_of s) (state_in s r)) (λ f. absurd (end-finished (lengths_of s) (state_in s r) f q.0 u)) (λ f. f)

    ended : any 8 (above r.positions shape.lengths) ≡ false → is_end (lengths_of s) (state_in s r) ≡ true
    ended e = end-intro (lengths_of s) (state_in s r) λ t u.
        let i = unfinished-task (lengths_of s) (state_in s r) t u in
        let l = ltb-true (at (state_in s r) t) (at (lengths_of s) t) u in
        let o = lt-ltb (at r.positions t) (at shape.lengths t) (omega (arith, length_at d t, position-is t (omega (arith, lengths-count)))) in
        true-not-false _ (any-intro 8 (above r.positions shape.lengths) t (omega (arith, lengths-count, few-tasks d)) o) e

    -- the state is the end exactly if no length is over its position
    pub end_is : not (any 8 (above r.positions shape.lengths)) ≡ is_end (lengths_of s) (state_in s r)
    end_is =
        by_bool (any 8 (above r.positions shape.lengths))
        (λ e. ap not e ∙ sym (not_end e))
        (λ e. ap not e ∙ sym (ended e))

    -- eight positions that are not misplaced give a state of the grid
    module _ (eight : length r.positions ≡ 8) (right : misplaced s r ≡ false) where
      few : length (state_in s r) ≡ length s.tasks
      few = length-take-le (length s.tasks) r.positions (omega (arith, d.well_formed.tasks))

      fits : (t : ℕ) → at (state_in s r) t ≤ at (lengths_of s) t
      unfolding misplaced
      fits t =
          by_bool (ltb t (length s.tasks))
          (λ e.
          let l = ltb-true t (length s.tasks) e in
          let p = any_false 8 (above (lengths_of s) r.positions) right t (omega (arith, d.well_formed.tasks)) in
          rw (get_or-take (length s.tasks) r.positions t 0 l) (ltb-false (at (lengths_of s) t) (at r.positions t) p))
          (λ e.
          let l = ltb-false t (length s.tasks) e in
          rw (get_or-eq_default (state_in s r) 0 {n = t} (omega (arith, few))) (omega arith))

      state-grid : InGrid (lengths_of s) (state_in s r)
      state-grid = record { count = few ∙ sym (length-map s.tasks length); fits = fits }

-- the tests by which the model's first answers are had
module _ (s : Set) (m : List ℕ) where
  pub map_short : ltb (length m) (size (lengths_of s)) ≡ true → map_fits s m ≡ refused 13 (size (lengths_of s))
  unfolding map_fits
  map_short e = rw e

  pub map-fits : ltb (length m) (size (lengths_of s)) ≡ false → map_fits s m ≡ given (size (lengths_of s))
  unfolding map_fits
  map-fits e = rw e

module _ (s : Set) (r : Record) where
  pub not-placed : unfit s r ≡ true → placed s r ≡ refused 16 0
  unfolding placed
  not-placed e = rw e

  pub is-placed : unfit s r ≡ false → placed s r ≡ given (state_in s r)
  unfolding placed
  is-placed e = rw e

module _ {words : List ℕ} {shape : Shape} {s : Set} (d : Declares words shape s) {m : List ℕ} {r : Record} {k : ℕ} (f : Ranked s m r k) where
  pub ranked-grid : InGrid (lengths_of s) (state_in s r)
  ranked-grid = state-grid d r f.eight (or-false (misplaced s r) (miscounted s r) f.fits).0

  -- the state's own byte stands in the map
  pub ranked-inside : k < length m
  ranked-inside =
      omega (arith, f.ranked, rank_lt (lengths_of s) (state_in s r) ranked-grid, ltb-false (length m) (size (lengths_of s)) f.room)
