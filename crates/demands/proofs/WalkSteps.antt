-- The walk as it is defined: each step that of the smallest task that lands on byte 0, and it stops where none does.
use Prim.Native.Nat.{ℕ, zero, suc, ◌+◌, ◌<◌}
use native.Mathlib.Omega.{arith}
use mathlib.Core.Path.{◌≡◌}
use mathlib.Core.Bool.{true}
use mathlib.Core.List.{List}
use lib.ListN.{length}
use lib.Dec.{eqb, ltb}
use borrow.Author.Tests.{ltb-true, ltb-false, lt-ltb, eqb-true}
use Rattle.model.specs.Set.{Set, lengths_of, at}
use Rattle.model.specs.State.{State, InGrid, next, unfinished, sum}
use Rattle.model.specs.Route.{first_step, walk, walked}
use Rattle.model.proofs.Bools.{by_bool, true-not-false, and-true}
use Rattle.model.proofs.States.{unfinished-task, next-grid}
use Rattle.model.proofs.Sums.{sum-next, sum_lt}
use Rattle.model.proofs.Moves.{moves}
use Rattle.model.proofs.RouteStep.{step-lands, step-found, step-smallest}
use Rattle.demands.specs.Calls.{byte_of, Walk, stops, goes}

module _ (s : Set) (m : List ℕ) where
  abbrev ls : List ℕ
  ls = lengths_of s

  -- a step onto byte 0
  onto : (y : State) (t : ℕ) → at y t < at ls t → byte_of s m (next y t) ≡ 0 → moves ls m y t ≡ true
  onto y t l b = rw (lt-ltb (at y t) (at ls t) l, b)

  -- the walk as it is defined, with as many steps as actions are left
  pub walk_is : (k : ℕ) (y : State) → InGrid ls y → sum y + k ≡ sum ls → Walk s m y (walk ls m k y) (walked y (walk ls m k y))
  unfolding walk walked
  walk_is zero y g h = stops {y = y} λ t l b. let n = sum_lt ls y g t l in omega arith
  walk_is (suc k) y g h =
      let t = first_step ls m y in
      by_bool (ltb t (length ls))
      (λ e.
      let o = step-lands ls m y (length ls) 0 (omega (arith, ltb-true t (length ls) e)) in
      let q = and-true (unfinished ls y t) (eqb (byte_of s m (next y t)) 0) o in
      let u = ltb-true t (length ls) e in
      rw e (goes {y = y} t
      (record {
        left = ltb-true (at y t) (at ls t) q.0;
        lands = eqb-true (byte_of s m (next y t)) 0 q.1;
        none_smaller = λ u l i b. true-not-false (moves ls m y u) (onto y u i b) (step-smallest ls m y (length ls) 0 u (omega arith) l);
      })
      (walk_is k (next y t) (next-grid ls y g t q.0) (omega (arith, sum-next y t (omega (arith, g.count)))))))
      (λ e. rw e (stops {y = y} λ u l b.
      let i = onto y u l b in
      let f = step-found ls m y (length ls) 0 u (omega arith) (omega (arith, unfinished-task ls y u (lt-ltb (at y u) (at ls u) l))) i in
      omega (arith, ltb-false t (length ls) e)))

  pub walk-grid : {y z : State} {ts : List ℕ} → Walk s m y ts z → InGrid ls y → InGrid ls z
  walk-grid (stops n) g = g
  walk-grid {y} (goes t i w) g = walk-grid w (next-grid ls y g t (lt-ltb (at y t) (at ls t) i.left))
