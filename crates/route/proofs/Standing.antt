-- What the code reads at a state that it stands at, and where a step leads it.
use Prim.Native.Nat.{ℕ, ◌+◌, ◌<◌}
use native.Mathlib.Omega.{arith}
use native.Mathlib.Numerals.{add-one}
use mathlib.Core.Path.{◌≡◌, sym, ap, ◌∙◌}
use mathlib.Core.Bool.{Bool, true, ◌&&◌}
use mathlib.Core.List.{List}
use lib.ListN.{length, take, set, length-set}
use lib.Seq.{get_or-take, take-set-lt, length-take-le}
use lib.Dec.{ltb, eqb}
use borrow.Author.Tests.{lt-ltb}
use Rattle.model.specs.Set.{at}
use Rattle.model.specs.State.{State, next, unfinished, rank}
use Rattle.model.proofs.States.{next-grid}
use Rattle.model.proofs.Ranks.{rank_lt, rank-next}
use Rattle.model.proofs.Moves.{moves}
use Rattle.route.specs.Walks.{OnGrid}

module _ (map : List ℕ) (n : ℕ) (lengths weights positions : List ℕ) (r : ℕ) (s : OnGrid map n lengths weights positions r) where
  abbrev ls : List ℕ
  ls = take n lengths

  abbrev x : State
  x = take n positions

  pub tasks-counted : length (take n lengths) ≡ n
  tasks-counted = length-take-le n lengths (omega (arith, s.tasks, s.lengths_all))

  module _ (t : ℕ) (h : t < n) where
    pub unfinished-is : unfinished (take n lengths) (take n positions) t ≡ ltb (at positions t) (at lengths t)
    unfinished-is = rw (get_or-take n positions t 0 h, get_or-take n lengths t 0 h)

    next-rank : rank ls (next x t) ≡ r + at weights t
    next-rank =
        let k : t < length ls = omega (arith, tasks-counted) in
        rank-next ls x t s.grid.count k ∙ rw (s.is-rank, s.weighs t h)

    -- the byte at the next rank decides
    pub moves-is : moves (take n lengths) map (take n positions) t ≡ (ltb (at positions t) (at lengths t) && eqb (at map (r + at weights t)) 0)
    moves-is =
        ap (λ (b : Bool). b && eqb (at map (rank ls (next x t))) 0) unfinished-is
        ∙ ap (λ (k : ℕ). ltb (at positions t) (at lengths t) && eqb (at map k) 0) next-rank

    pub next-is : take n (set positions t (at positions t + 1)) ≡ next (take n positions) t
    next-is = rw (take-set-lt, get_or-take n positions t 0 h) (ap (set x t) (add-one (at positions t)))

    module _ (l : at positions t < at lengths t) where
      has-step : unfinished ls x t ≡ true
      has-step = unfinished-is ∙ lt-ltb (at positions t) (at lengths t) l

      -- the next rank has a byte
      pub next-room : r + at weights t < length map
      next-room = omega (arith, rank_lt ls (next x t) (next-grid ls x s.grid t has-step), next-rank, s.room)

      -- the code stands at the next state
      pub next-on-grid : OnGrid map n lengths weights (set positions t (at positions t + 1)) (r + at weights t)
      next-on-grid = record {
        tasks = s.tasks;
        lengths_all = s.lengths_all;
        positions_all = length-set positions t (at positions t + 1) ∙ s.positions_all;
        weighs = s.weighs;
        grid = rw next-is (next-grid ls x s.grid t has-step);
        is-rank = sym (ap (rank ls) next-is ∙ next-rank);
        room = s.room;
      }
