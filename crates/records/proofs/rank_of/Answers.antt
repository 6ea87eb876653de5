-- `records::rank_of` meets its contract. The invariant: with the rank of the tasks from t on, `rank` is the whole rank; and it is small enough to grow.
use Rattle.std.proofs.Common.{◌≡◌, ℕ, ◌+◌, ◌*◌, ◌<◌, ◌≤◌, List, length, take, drop, mul-le-mul, add-one, arith, drop_of_length-le, length-take-le, get_or-take, w8, Fits, rules}
use Rattle.model.specs.Set.{lengths_of, at}
use Rattle.model.specs.State.{rank}
use Rattle.shape.proofs.Declared.{tasks-are, few-tasks, weight-at, weight-small}
use Rattle.shape.proofs.Sizes.{rank-drop}
use Rattle.records.proofs.Placed.{lengths-count}
use Rattle.records.proofs.rank_of.Invariants.{Counted}
use Rattle.records.proofs.rank_of.Goals.{In-loop-t}
use Rattle.records.proofs.rank_of.Goals as goal

counted-more : (n : ℕ) (weights positions : List ℕ) (t r : ℕ) → t < n → n ≤ length positions → Counted n weights positions t r
    → Counted n weights positions (t + 1) (r + at positions t * at weights t)
counted-more n weights positions t r h k counted ls e w =
    let few = length-take-le n positions k in
    let here = rank-drop ls (take n positions) t (omega arith) (omega arith) in
    let p = get_or-take n positions t 0 h in
    rw (add-one t, w t h, ← p) (omega (arith, counted ls e w, here))

-- no task is left
whole : (n : ℕ) (positions : List ℕ) (t r : ℕ) (ls : List ℕ) → length ls ≤ t → r + rank (drop t ls) (drop t (take n positions)) ≡ rank ls (take n positions)
    → r ≡ rank ls (take n positions)
unfolding rank
whole n positions t r ls h e = let z = rw (drop_of_length-le ls {i = t} h) at e in omega arith

few : (c : In-loop-t) → c.loop-t.t < 8
few c = let p = c.requires in omega (arith, few-tasks p.2)

position : (c : In-loop-t) → at c.args.rec.positions c.loop-t.t < 256
position c = let b : Fits w8 (at c.args.rec.positions c.loop-t.t) = search rules in b.fits

share : (c : In-loop-t) →
    let a = c.args in
    let t = c.loop-t.t in
    at a.rec.positions t * at a.shape.weights t ≤ 16711680
share c =
    let p = c.requires in
    mul-le-mul {n₂ = 255} {m₂ = 65536} (omega (arith, position c)) (weight-small p.2 c.loop-t.t (omega arith))

pub overflow_mul-rank : goal.overflow_mul-rank
overflow_mul-rank c = record { fits = omega (arith, share (goal.at.overflow_mul-rank c).In-loop-t) }

pub overflow_add-rank : goal.overflow_add-rank
overflow_add-rank c = record { fits = omega (arith, share (goal.at.overflow_add-rank c).In-loop-t, few (goal.at.overflow_add-rank c).In-loop-t) }

pub loop-t-preserved : goal.loop-t-preserved
loop-t-preserved c =
    let k = c.loop-t in
    let a = c.args in
    let room = few-tasks c.requires.2 in (
      search rules,
      k.invariant.1,
      k.invariant.2,
      omega (arith, share (goal.at.loop-t-preserved c).In-loop-t),
      counted-more a.shape.tasks a.shape.weights a.rec.positions k.t k.rank (omega arith) (omega arith) k.invariant.4,
    )

pub returns : goal.returns
returns c words s d =
    let k = c.loop-t in
    let a = c.args in
    let ls = lengths_of s in
    rw (← tasks-are d)
    (whole a.shape.tasks a.rec.positions k.t k.rank ls (omega (arith, lengths-count d)) (k.invariant.4 ls (lengths-count d) (weight-at d)))
