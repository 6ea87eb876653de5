-- After a grant the record still fits the set, and the rank of its state has gone up by the task's weight: so a caller that bids on and on need not look again.
use Prim.Native.Nat.{ℕ, ◌+◌, ◌<◌, ◌≤◌}
use native.Mathlib.Omega.{arith}
use mathlib.Core.Path.{◌≡◌, sym, ◌∙◌}
use mathlib.Core.Bool.{true, false}
use mathlib.Core.List.{List}
use lib.ListN.{length, set, length-set, length-map}
use lib.Seq.{get_or-take, get_or-set_same, get_or-set_other}
use lib.Dec.{eqb, leb}
use borrow.Author.Tests.{eqb-true, eqb-false, ltb-true, ltb-false, le-ltb, leb-true}
use Rattle.model.specs.Set.{Set, lengths_of, at}
use Rattle.model.specs.State.{unfinished}
use Rattle.model.specs.Record.{Record, state_in, misplaced, miscounted}
use Rattle.model.specs.Broker.{Settings, is_granted, bid_answer, grant}
use Rattle.model.proofs.Bools.{by_bool, any_false, any_none, or-false}
use Rattle.model.proofs.States.{unfinished-task}
use Rattle.model.proofs.Moves.{moves-unfinished}
use Rattle.model.proofs.Records.{grant-state, window-zero}
use Rattle.model.proofs.BidAnswers.{would-move, granted-tells}
use Rattle.shape.specs.declared.Shape.{Shape}
use Rattle.shape.specs.Declares.{Declares}
use Rattle.shape.proofs.Declared.{tasks-are}
use Rattle.records.specs.Ranked.{Ranked}
use Rattle.broker.proofs.MapCases.{next-is}

module _ {words : List ℕ} {shape : Shape} {s : Set} (d : Declares words shape s) {m : List ℕ} {r : Record} {k : ℕ} (f : Ranked s m r k) (c : Settings) (t : ℕ)
    (g : is_granted (bid_answer s m c r t) ≡ true) where
  left_over : unfinished (lengths_of s) (state_in s r) t ≡ true
  left_over = moves-unfinished (lengths_of s) m (state_in s r) t (sym (would-move s m (state_in s r) t) ∙ (granted-tells s m c r t g).would)

  -- the task is one of the set's
  pub granted-task : t < length s.tasks
  granted-task = omega (arith, length-map s.tasks length, unfinished-task (lengths_of s) (state_in s r) t left_over)

  -- whose position may rise
  rises : at r.positions t + 1 ≤ at (lengths_of s) t
  rises =
      let l = ltb-true (at (state_in s r) t) (at (lengths_of s) t) left_over in
      omega (arith, get_or-take (length s.tasks) r.positions t 0 granted-task)

  -- the tests of the record before
  in_place : misplaced s r ≡ false
  in_place = (or-false (misplaced s r) (miscounted s r) f.fits).0

  in_count : miscounted s r ≡ false
  in_count = (or-false (misplaced s r) (miscounted s r) f.fits).1

  still_placed : misplaced s (grant c.window r t) ≡ false
  unfolding misplaced
  still_placed =
      any_none 8 _ λ u h.
      by_bool (eqb u t)
      (λ e. rw (eqb-true u t e, get_or-set_same r.positions t (at r.positions t + 1) 0 (omega (arith, f.eight, eqb-true u t e))) (le-ltb _ _ rises))
      (λ e. rw (get_or-set_other r.positions t u (at r.positions t + 1) 0 (eqb-false u t e)) (any_false 8 _ in_place u h))

  still-counted : miscounted s (grant c.window r t) ≡ false
  unfolding miscounted
  still-counted =
      any_none 8 _ λ u h.
      by_bool (leb (length s.tasks) u)
      (λ e.
      let l = leb-true (length s.tasks) u e in
      let none = rw e at (any_false 8 _ in_count u h) in
      let before : at r.counts u ≡ 0 = omega (arith, ltb-false 0 (at r.counts u) none) in
      let other = get_or-set_other r.counts t u (at r.counts t + 1) 0 (λ q. omega (arith, granted-task)) in
      rw (e, window-zero c.window (set r.counts t (at r.counts t + 1)) u (other ∙ before)))
      (λ e. rw e)

  pub granted-ranked : Ranked s m (grant c.window r t) (k + at shape.weights t)
  granted-ranked = record {
    eight = length-set r.positions t _ ∙ f.eight;
    room = f.room;
    fits = rw (still_placed, still-counted);
    ranked = rw (grant-state s c.window r t granted-task) (next-is d f t (omega (arith, tasks-are d, granted-task)));
  }
