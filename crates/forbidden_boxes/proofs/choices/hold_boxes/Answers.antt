-- `forbidden_boxes::choices::hold_boxes` meets its contract. The invariant: the boxes with the first i holds are written.
use Rattle.std.proofs.Common.{is_le, is_lt, nat_cmp}
use Prim.Native.Nat.{ℕ, ◌+◌, ◌*◌}
use native.Mathlib.Omega.{arith}
use mathlib.Core.Path.{◌≡◌, refl, sym, ap, ◌∙◌}
use mathlib.Core.Bool.{Bool, true, false, cond, ◌&&◌}
use mathlib.Core.List.{List, [], ◌∷◌}
use lib.ListN.{take, set}
use lib.Dec.{ltb, leb}
use Rattle.model.specs.Set.{at}
use Rattle.plan_words.specs.Words.{up_to}
use Rattle.plan_words.proofs.UpTo.{same-words}
use Rattle.plan_words.proofs.After.{wrote_none, wrote-same}
use Rattle.plan_words.proofs.Run.{placed, full, finished}
use Rattle.forbidden_boxes.specs.Rows.{ROW}
use Rattle.forbidden_boxes.specs.Choices.{hold_words}
use Rattle.forbidden_boxes.proofs.Between.{between}
use Rattle.forbidden_boxes.proofs.choices.hold_boxes.Invariants.{box_at}
use Rattle.forbidden_boxes.proofs.choices.hold_boxes.Goals.{After-missing_units-missing, then-contains+in_ok-to, else-contains}
use Rattle.forbidden_boxes.proofs.choices.hold_boxes.Goals as goal

-- the boxes to write
abbrev boxes : After-missing_units-missing → ℕ → List ℕ
boxes c =
    let a = c.args in
    let m = c.missing_units-missing.result in
    box_at a.rows.now.sides a.rows.now.units a.limit.header m.start m.end (a.task + a.left) a.task a.sides.now

-- they are those of the holds that just exceed the capacity
together : (c : After-missing_units-missing)
    → (let a = c.args in
    hold_words a.rows.now.sides a.rows.now.units a.limit.header a.limit.capacity (a.task + a.left) a.task a.sides.now a.sum.all a.sum.least (at a.rows.now.holds a.task)
    ≡ up_to (at a.rows.now.holds a.task) 0 (boxes c))
unfolding hold_words
together c =
    let a = c.args in
    sym
    (same-words _ _
    (λ i.
    let box = a.limit.header ∷ take (a.task + a.left) (set a.sides.now a.task (at a.rows.now.sides (a.task * ROW + i))) in
    ap (λ (b : Bool). cond b box []) (c.missing_units-missing.ensures (at a.rows.now.units (a.task * ROW + i))))
    (at a.rows.now.holds a.task) 0)

-- what the test of the i-th hold tells
told : (c : After-missing_units-missing) (i : ℕ) {r : Bool}
    → (let a = c.args in let m = c.missing_units-missing.result in let u = at a.rows.now.units (a.task * ROW + i) in
    r ≡ (is_le (nat_cmp m.start u) && is_lt (nat_cmp u m.end)) → r ≡ (leb m.start u && ltb u m.end))
told c i = let a = c.args in let m = c.missing_units-missing.result in between m.start m.end (at a.rows.now.units (a.task * ROW + i))

-- a hold that passes the test has its box, one that fails none
passes : (c : After-missing_units-missing) (i : ℕ) {r : Bool}
    → (let a = c.args in let m = c.missing_units-missing.result in let u = at a.rows.now.units (a.task * ROW + i) in
    r ≡ (leb m.start u && ltb u m.end) → r ≡ true
    → (a.limit.header ∷ take (a.task + a.left) (set a.sides.now a.task (at a.rows.now.sides (a.task * ROW + i)))) ≡ boxes c i)
passes c i e t = rw (sym e ∙ t)

fails : (c : After-missing_units-missing) (i : ℕ) {r : Bool}
    → (let a = c.args in let m = c.missing_units-missing.result in let u = at a.rows.now.units (a.task * ROW + i) in
    r ≡ (leb m.start u && ltb u m.end) → r ≡ false → [] ≡ boxes c i)
fails c i e t = rw (sym e ∙ t)

pub returns-in_err-to : goal.returns-in_err-to
returns-in_err-to c =
    let a = c.args in
    let k = (goal.at.returns-in_err-to c).After-missing_units-missing in
    rw (together k, c.from_residual.ensures)
    (full (boxes k) a.plan.now a.at (at a.rows.now.holds a.task) c.loop-i.invariant c.loop-i-test.true
    (wrote-same (passes k c.loop-i.i (told k c.loop-i.i c.contains.ensures.value) c.if-contains.true) c.write_box.ensures) c.in_err-to.was)

pub loop-i-preserved : goal.loop-i-preserved
loop-i-preserved c =
    let a = c.args in
    let o = c.loop-i in
    let k = (goal.at.loop-i-preserved c).After-missing_units-missing in
    elim c.if-contains.branch [
      | then-contains+in_ok-to w ↦
          rw (w.to-is, w.plan-is)
          (placed (boxes k) a.plan.now a.at (at a.rows.now.holds a.task) o.invariant c.loop-i-test.true
          (wrote-same (passes k o.i (told k c.loop-i.i c.contains.ensures.value) w.if-contains.true) w.write_box.ensures) w.in_ok-to.was)
      | else-contains w ↦
          rw (w.to-is, w.plan-is)
          (placed (boxes k) a.plan.now a.at (at a.rows.now.holds a.task) o.invariant c.loop-i-test.true
          (wrote-same (fails k o.i (told k c.loop-i.i c.contains.ensures.value) w.if-contains.false) (wrote_none (omega (arith, o.invariant.room, o.invariant.same)))) refl)
    ]

pub returns : goal.returns
returns c =
    let a = c.args in
    let k = (goal.at.returns c).After-missing_units-missing in
    rw (together k) (finished (boxes k) a.plan.now a.at (at a.rows.now.holds a.task) c.loop-i.invariant c.loop-i-test.false)
