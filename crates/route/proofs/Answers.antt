-- What the code answers, case by case, is what the definition says.
use Prim.Native.Nat.{ℕ, ◌+◌, ◌<◌, ◌≤◌}
use native.Mathlib.Omega.{arith}
use mathlib.Core.Path.{◌≡◌, sym, ap, ◌∙◌}
use mathlib.Core.Bool.{true, false, not}
use mathlib.Core.List.{List}
use lib.ListN.{length, take}
use lib.Dec.{ltb}
use borrow.Author.Tests.{lt-ltb, le-ltb, eq-eqb, ne_eqb, ltb-false}
use Rattle.model.specs.Answer.{Answer, given, refused, ◌then◌, if_given}
use Rattle.model.specs.Set.{Set, lengths_of, at, size}
use Rattle.model.specs.State.{State, is_end}
use Rattle.model.specs.Read.{read}
use Rattle.model.specs.Record.{Record, unfit}
use Rattle.model.specs.Route.{steps_from, walked, route_from, route_fits, route_steps, route}
use Rattle.model.proofs.Ranks.{rank_lt}
use Rattle.shape.specs.declared.Shape.{Shape}
use Rattle.shape.specs.Declares.{Declares}
use Rattle.shape.proofs.Declared.{tasks-are, grid-is, few-tasks, lengths_all, lengths-taken, weight-at}
use Rattle.records.specs.Ranked.{Ranked}
use Rattle.records.proofs.Placed.{map_short, map-fits, not-placed, is-placed, ranked-grid}
use Rattle.route.specs.declared.Stop.{Stop}
use Rattle.route.specs.Walks.{OnGrid, WalkDone, fitted}
use Rattle.route.proofs.LastRank.{before-end}

-- at the end of the walk w from x
module _ (ls m : List ℕ) (x : State) (slice : List ℕ) (w : Stop) (after : List ℕ) (walks : WalkDone ls m x slice w after) where
  end_is : not (is_end ls (walked x (steps_from ls m x))) ≡ ltb (w.rank + 1) (size ls)
  end_is = before-end ls (walked x (steps_from ls m x)) walks.grid ∙ ap (λ (k : ℕ). ltb (k + 1) (size ls)) (sym walks.ends)

  -- its last rank is one of the grid
  pub rank-inside : w.rank < size ls
  rank-inside = omega (arith, walks.ends, rank_lt ls (walked x (steps_from ls m x)) walks.grid)

  pub stuck : w.rank + 1 < size ls → fitted (refused 18 w.rank) after ≡ fitted (route_from ls m x) slice
  unfolding route_from ◌then◌ if_given
  stuck h = rw (end_is, lt-ltb (w.rank + 1) (size ls) h, walks.ends, walks.kept)

  module _ (h : size ls ≤ w.rank + 1) where
    pub too_long : length after < w.steps → fitted (refused 21 w.steps) after ≡ fitted (route_from ls m x) slice
    unfolding route_from route_fits ◌then◌ if_given
    too_long l =
        let k : length slice < length (steps_from ls m x) = omega (arith, walks.steps, walks.kept) in
        rw (end_is, le-ltb (w.rank + 1) (size ls) h, lt-ltb (length slice) (length (steps_from ls m x)) k, walks.steps, walks.kept)

    pub arrived : w.steps ≤ length after → record { answer = given w.steps; route = after } ≡ fitted (route_from ls m x) slice
    unfolding route_from route_fits ◌then◌ if_given
    arrived l =
        let k : length (steps_from ls m x) ≤ length slice = omega (arith, walks.steps, walks.kept) in
        rw (end_is, le-ltb (w.rank + 1) (size ls) h, le-ltb (length slice) (length (steps_from ls m x)) k, walks.steps, walks.written k)

-- the same steps, in the same slice
pub same-fitted : (slice : List ℕ) {found steps : Answer (List ℕ)} → found ≡ steps → fitted found slice ≡ fitted steps slice
same-fitted slice e = ap (λ (a : Answer (List ℕ)). fitted a slice) e

-- on an accepted set
module _ {words : List ℕ} {shape : Shape} {s : Set} (d : Declares words shape s) (m : List ℕ) (r : Record) where
  pub short : ltb (length m) (size (lengths_of s)) ≡ true → refused 13 shape.grid ≡ route_steps s m r
  unfolding route_steps ◌then◌
  short e = rw (map_short s m e, grid-is d)

  pub bad_record : ltb (length m) (size (lengths_of s)) ≡ false → unfit s r ≡ true → refused 16 0 ≡ route_steps s m r
  unfolding route_steps ◌then◌
  bad_record room e = rw (map-fits s m room, not-placed s r e)

  -- then by the own byte of the state, whose rank is k
  module _ (k : ℕ) (f : Ranked s m r k) where
    state-is : take shape.tasks r.positions ≡ take (length s.tasks) r.positions
    state-is = rw (tasks-are d)

    pub on-grid : OnGrid m shape.tasks shape.lengths shape.weights r.positions k
    on-grid = record {
      tasks = few-tasks d;
      lengths_all = lengths_all d;
      positions_all = f.eight;
      weighs = rw (lengths-taken d) (weight-at d);
      grid = rw (lengths-taken d, state-is) (ranked-grid d f);
      is-rank = rw (lengths-taken d, state-is) f.ranked;
      room = rw (lengths-taken d) (ltb-false (length m) (size (lengths_of s)) f.room);
    }

    pub own-forbidden : at m k ≡ 1 → refused 16 0 ≡ route_steps s m r
    unfolding route_steps ◌then◌
    own-forbidden e = rw (map-fits s m f.room, is-placed s r f.fits, ← f.ranked, eq-eqb (at m k) 1 e)

    pub own-unsafe : 1 < at m k → at m k ≤ 3 → refused 20 k ≡ route_steps s m r
    unfolding route_steps ◌then◌
    own-unsafe l h =
        rw (map-fits s m f.room, is-placed s r f.fits, ← f.ranked)
        (rw (ne_eqb (at m k) 1 (omega arith), le-ltb 3 (at m k) h, ne_eqb (at m k) 0 (omega arith)))

    pub own-unknown : 3 < at m k → refused 18 k ≡ route_steps s m r
    unfolding route_steps ◌then◌
    own-unknown l =
        rw (map-fits s m f.room, is-placed s r f.fits, ← f.ranked)
        (rw (ne_eqb (at m k) 1 (omega arith), lt-ltb 3 (at m k) l))

    pub own_open : at m k ≡ 0 → route_from (take shape.tasks shape.lengths) m (take shape.tasks r.positions) ≡ route_steps s m r
    unfolding route_steps ◌then◌
    own_open e =
        rw (lengths-taken d, state-is, map-fits s m f.room, is-placed s r f.fits, ← f.ranked, e)

-- the reader's part
module _ (words m : List ℕ) (r : Record) (slice : List ℕ) where
  pub refused-set : (n p : ℕ) → read words ≡ refused n p → fitted (refused n p) slice ≡ route words m r slice
  unfolding ◌then◌ if_given
  refused-set n p e = rw e

  pub accepted-set : (s : Set) → read words ≡ given s → fitted (route_steps s m r) slice ≡ route words m r slice
  unfolding ◌then◌
  accepted-set s e = rw e
