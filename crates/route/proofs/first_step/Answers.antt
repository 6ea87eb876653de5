-- `route::first_step` meets its contract. The invariant: the search from t on finds what the whole search finds.
use borrow.Author.Tests.{lt-ltb, le-ltb, eq-eqb, ne_eqb}
use Prim.Native.Nat.{ℕ, suc, ◌+◌, ◌-◌, ◌<◌, ◌≤◌}
use native.Mathlib.Omega.{arith}
use native.Mathlib.Numerals.{add-one}
use mathlib.Core.Path.{◌≡◌, sym, ◌∙◌}
use mathlib.Core.Bool.{Bool, true, false, ◌&&◌}
use mathlib.Core.List.{List}
use lib.Dec.{ltb, eqb}
use lib.ListN.{length, get_or, take}
use Rattle.model.specs.State.{State}
use Rattle.model.specs.Route.{step_from}
use Rattle.model.proofs.Moves.{moves}
use Rattle.route.proofs.Standing.{moves-is, next-room}
use Rattle.route.proofs.first_step.Goals.{In-loop-t, Then-positions-t, else-positions-t-via-then-positions-t+else-map-rank-eq-OPEN, else-positions-t-via-else-positions-t}
use Rattle.route.proofs.first_step.Goals as goal

module _ (ls m : List ℕ) (n t : ℕ) (x : State) (h : t < n) where
  abbrev one_more : n - t ≡ suc (n - (t + 1))
  one_more = omega arith

  found : moves ls m x t ≡ true → step_from ls m (n - t) t x ≡ t
  unfolding step_from
  found e = rw (one_more, e)

  later : moves ls m x t ≡ false → step_from ls m (n - t) t x ≡ step_from ls m (n - (t + 1)) (t + 1) x
  unfolding step_from
  later e = rw (one_more, e, add-one t)

none : (ls m : List ℕ) (n t : ℕ) (x : State) → n ≤ t → t ≤ n → step_from ls m (n - t) t x ≡ n
unfolding step_from
none ls m n t x h k = let z : n - t ≡ 0 = omega arith in rw z (omega arith)

-- the next state's byte stands in the map
room : (c : Then-positions-t) → (
    let a = c.args in
    let t = c.loop-t.t in
    a.rank + get_or a.weights t 0 < length a.map.now)
room c =
    let a = c.args in
    let k = c.loop-t in
    next-room a.map.now a.tasks a.lengths a.weights a.positions a.rank k.invariant.1 k.t (omega arith) c.if-positions-t.true

-- whether the task at hand has a step onto an open byte
abbrev Moves : In-loop-t → Bool
Moves c =
    let a = c.args in
    moves (take a.tasks a.lengths) a.map.now (take a.tasks a.positions) c.loop-t.t

-- as the code's tests have it
tested : (c : In-loop-t) → (
    let a = c.args in
    let t = c.loop-t.t in
    Moves c ≡ (ltb (get_or a.positions t 0) (get_or a.lengths t 0) && eqb (get_or a.map.now (a.rank + get_or a.weights t 0) 0) 0))
tested c =
    let a = c.args in
    let k = c.loop-t in
    moves-is a.map.now a.tasks a.lengths a.weights a.positions a.rank k.invariant.1 k.t (omega arith)

pub overflow_add-rank : goal.overflow_add-rank
overflow_add-rank c = record { fits = omega (arith, room (goal.at.overflow_add-rank c).Then-positions-t) }

pub bounds-map-rank : goal.bounds-map-rank
bounds-map-rank c = room (goal.at.bounds-map-rank c).Then-positions-t

pub returns-then-map-rank-eq-OPEN : goal.returns-then-map-rank-eq-OPEN
returns-then-map-rank-eq-OPEN c =
    let k = c.loop-t in
    let moving : Moves (goal.at.returns-then-map-rank-eq-OPEN c).In-loop-t ≡ true = rw (tested (goal.at.returns-then-map-rank-eq-OPEN c).In-loop-t, lt-ltb _ _ c.if-positions-t.true, eq-eqb _ _ c.if-map-rank-eq-OPEN.true) in
    let first = sym k.invariant.0 ∙ found _ _ c.args.tasks k.t _ (omega arith) moving in
    rw (first, lt-ltb k.t c.args.tasks (omega arith))

pub loop-t-preserved : goal.loop-t-preserved
loop-t-preserved c =
    let k = c.loop-t in
    let i = (goal.at.loop-t-preserved c).In-loop-t in
    let passed_over : Moves i ≡ false =
    rw (tested i) (elim c.else-positions-t.branch [
      | else-positions-t-via-then-positions-t+else-map-rank-eq-OPEN w ↦ rw (lt-ltb _ _ w.if-positions-t.true, ne_eqb _ _ w.if-map-rank-eq-OPEN.false)
      | else-positions-t-via-else-positions-t w ↦ rw (le-ltb _ _ w.if-positions-t.false)
    ])
    in
    (sym (later _ _ c.args.tasks k.t _ (omega arith) passed_over) ∙ k.invariant.0, k.invariant.1)

pub returns : goal.returns
returns c =
    let k = c.loop-t in
    let first = sym k.invariant.0 ∙ none _ _ c.args.tasks k.t _ (omega arith) (omega arith) in
    rw (first, le-ltb c.args.tasks c.args.tasks (omega arith))
