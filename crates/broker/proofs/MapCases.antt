-- What a task would be answered by set and map, case by case: what the code finds in words, shape, map and record is what the definition says.
use Prim.Native.Nat.{ℕ, ◌+◌, ◌<◌, ◌≤◌}
use native.Mathlib.Omega.{arith}
use mathlib.Core.Path.{◌≡◌, sym, ap, ◌∙◌}
use mathlib.Core.Bool.{◌&&◌}
use mathlib.Core.List.{List}
use lib.ListN.{length}
use lib.Dec.{eqb, ltb}
use borrow.Author.Tests.{lt-ltb, le-ltb, le-leb, lt-leb, ltb-false}
use Rattle.model.specs.Answer.{given, refused}
use Rattle.model.specs.Set.{device_of, Set, lengths_of, task_at, action_at, at, size}
use Rattle.model.specs.State.{next, rank}
use Rattle.model.specs.Layout.{action_of}
use Rattle.model.specs.Record.{Record, state_in}
use Rattle.model.specs.Broker.{finished, bid_byte, map_answer, would_be_granted}
use Rattle.model.proofs.Ranks.{rank_lt, rank-next}
use Rattle.model.proofs.States.{next-grid}
use Rattle.model.proofs.BidAnswers.{would-move}
use Rattle.shape.specs.declared.Shape.{Shape}
use Rattle.shape.specs.Declares.{Declares}
use Rattle.shape.proofs.Declared.{tasks-are, length_at, length-is, weight-at}
use Rattle.records.specs.Ranked.{Ranked}
use Rattle.records.proofs.Placed.{lengths-count, position-is, ranked-grid}

module _ {words : List ℕ} {shape : Shape} {s : Set} (d : Declares words shape s) {m : List ℕ} {r : Record} {k : ℕ} (f : Ranked s m r k) (t : ℕ) where
  pub no_task : shape.tasks ≤ t → refused 17 t ≡ map_answer s m (state_in s r) t
  unfolding map_answer
  no_task h =
      let l : length s.tasks ≤ t = omega (arith, tasks-are d) in
      rw (le-leb _ _ l)

  module _ (task : t < shape.tasks) where
    task-in : t < length s.tasks
    task-in = omega (arith, tasks-are d)

    pub done : at shape.lengths t ≤ at r.positions t → given finished ≡ map_answer s m (state_in s r) t
    unfolding map_answer
    done h =
        let l : at (lengths_of s) t ≤ at (state_in s r) t = omega (arith, length_at d t, position-is d r t task) in
        rw (lt-leb _ _ task-in, le-ltb _ _ l)

    pub next-is : k + at shape.weights t ≡ rank (lengths_of s) (next (state_in s r) t)
    next-is =
        let e = rank-next (lengths_of s) (state_in s r) t (ranked-grid d f).count (omega (arith, lengths-count d)) in
        omega (arith, f.ranked, weight-at d t task)

    -- the task would be granted, as the code tests it
    pub would-is : (ltb (at r.positions t) (at shape.lengths t) && eqb (at m (k + at shape.weights t)) 0) ≡ would_be_granted s m (state_in s r) t
    would-is = rw (next-is, ← position-is d r t task, length_at d t) (sym (would-move s m (state_in s r) t))

    module _ (left_over : at r.positions t < at shape.lengths t) where
      more : at (state_in s r) t < at (lengths_of s) t
      more = omega (arith, length_at d t, position-is d r t task)

      pub next-in : k + at shape.weights t < length m
      next-in =
          let y = next-grid (lengths_of s) (state_in s r) (ranked-grid d f) t (lt-ltb _ _ more) in
          let room = ltb-false (length m) (size (lengths_of s)) f.room in
          omega (arith, next-is, rank_lt (lengths_of s) (next (state_in s r) t) y)

      action-in : at r.positions t < length (task_at s t)
      action-in = omega (arith, length-is d t)

      pub word_in : at shape.starts t + at r.positions t < length words
      word_in = d.inside t (at r.positions t) action-in

      pub by_byte : (e : ℕ) → e ≡ device_of (action_of (at words (at shape.starts t + at r.positions t)))
          → bid_byte (at m (k + at shape.weights t)) (k + at shape.weights t) e ≡ map_answer s m (state_in s r) t
      unfolding map_answer
      by_byte e named =
          let same : e ≡ device_of (action_at s t (at r.positions t)) = named ∙ ap device_of (d.action t (at r.positions t) action-in) in
          rw (lt-leb _ _ task-in, lt-ltb _ _ more) (rw (← next-is, position-is d r t task, same))
