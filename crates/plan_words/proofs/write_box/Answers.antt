-- `plan_words::write_box` meets its contract. The invariant: after the header, the first j sides are written, one word a turn.
use native.Mathlib.Omega.{arith}
use Prim.Native.Nat.{ℕ, ◌+◌, ◌<◌}
use mathlib.Core.Path.{◌≡◌, sym, ap, ◌∙◌}
use mathlib.Core.List.{List, [], ◌∷◌}
use lib.ListN.{length, take, set, get_or, length-set}
use Rattle.plan_words.specs.Words.{up_to}
use Rattle.plan_words.proofs.After.{wrote_one, wrote-more}
use Rattle.model.proofs.Lists.{get_d_set}
use Rattle.plan_words.proofs.UpTo.{word_at, words-from}
use Rattle.plan_words.proofs.Run.{stored_one, finished}
use Rattle.plan_words.proofs.write_box.Goals as goal

pub loop-j-preserved : goal.loop-j-preserved
loop-j-preserved c =
    let o = c.loop-j in
    let a = c.args in
    let p : List ℕ = set a.plan.now a.at a.header in
    let ws : List ℕ = set a.sides.now a.task a.word in
    let v : ℕ = c.side_of.result in
    let e : v ≡ get_or ws o.j 0 = c.side_of.ensures ∙ sym (get_d_set a.sides.now a.task o.j a.word (omega arith)) in
    let k : a.at + 1 + (o.j + 1) ≡ a.at + 1 + o.j + 1 = omega arith in
    let room : a.at + 1 + o.j < length o.plan = omega (arith, o.invariant.0.same) in
    let h = c.loop-j-test.true in
    (rw k (stored_one (word_at ws) p (a.at + 1) a.count o.invariant.0 h (ap (λ (x : ℕ). x ∷ []) (sym e)) room), o.invariant.1)

pub returns : goal.returns
returns c =
    let o = c.loop-j in
    let a = c.args in
    let p : List ℕ = set a.plan.now a.at a.header in
    let ws : List ℕ = set a.sides.now a.task a.word in
    let n : length ws ≡ length a.sides.now = length-set a.sides.now a.task a.word in
    let w = finished (word_at ws) p (a.at + 1) a.count o.invariant.0 c.loop-j-test.false in
    let e : up_to a.count 0 (word_at ws) ≡ take a.count ws = words-from ws a.count 0 (omega arith) in
    let j : o.j ≡ a.count = omega (arith, o.invariant.0.within) in
    wrote-more (wrote_one {v = a.header} (omega arith)) (rw (e, j) at w)
