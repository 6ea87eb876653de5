-- `forbidden_boxes::device_boxes` meets its contract: a device whose tasks or claimers can't exceed its capacity has no boxes; else its rows give them.
use Prim.Native.Nat.{◌*◌, ◌≤◌}
use native.Mathlib.Omega.{arith}
use mathlib.Core.Path.{sym, ◌∙◌}
use borrow.Author.Tests.{ltb-false}
use Rattle.model.specs.Set.{at}
use Rattle.shape.proofs.Declared.{few-tasks}
use Rattle.plan_words.proofs.After.{wrote_none}
use Rattle.forbidden_boxes.proofs.Claims.{claimers-le}
use Rattle.forbidden_boxes.proofs.Device.{device-written, device-passed, device-unclaimed}
use Rattle.forbidden_boxes.proofs.device_boxes.Goals as goal

pub returns-then-not-can_exceed : goal.returns-then-not-can_exceed
returns-then-not-can_exceed c =
    let a = c.args in
    let s = a.set.now in
    let few : s.shape.tasks * a.most ≤ at s.shape.capacities a.device = ltb-false _ _ (sym c.can_exceed.ensures ∙ c.if-not-can_exceed.true) in
    rw (device-passed s.declares a.device a.most c.requires.no_more few) (wrote_none (omega arith))

pub can_exceed-requires-2 : goal.can_exceed-requires-2
can_exceed-requires-2 c =
    let s = c.args.set.now in
    omega (arith, c.claimers.ensures, few-tasks s.declares, claimers-le 0 s.shape.tasks c.task_rows.new.rows.holds)

pub returns-then-not-can_exceed-2 : goal.returns-then-not-can_exceed-2
returns-then-not-can_exceed-2 c =
    let a = c.args in
    let s = a.set.now in
    let few : c.claimers.result * a.most ≤ at s.shape.capacities a.device =
    ltb-false _ _ (sym c.can_exceed-2.ensures ∙ c.if-not-can_exceed-2.true) in
    rw (device-unclaimed s.declares a.device a.most c.requires.no_more c.task_rows.ensures c.claimers.result c.claimers.ensures few)
    (wrote_none (omega arith))

pub returns : goal.returns
returns c =
    let a = c.args in
    rw (← device-written a.set.now.declares a.device a.most c.requires.no_more c.task_rows.ensures (omega arith), ← c.forbidden_box-header.ensures) c.table_boxes.ensures
