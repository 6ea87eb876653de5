-- `forbidden_boxes::rows::claimers` meets its contract. The invariant: the claimers found and those yet to find are all.
use native.Mathlib.Omega.{arith}
use borrow.Author.Tests.{eq-eqb, ne_eqb}
use Rattle.forbidden_boxes.proofs.Claims.{claimers-step, claimers-none}
use Rattle.forbidden_boxes.proofs.rows.claimers.Goals.{then-rows-t-ne0, else-rows-t-ne0}
use Rattle.forbidden_boxes.proofs.rows.claimers.Goals as goal

pub loop-t-preserved : goal.loop-t-preserved
loop-t-preserved c =
    let a = c.args in
    let o = c.loop-t in
    let s = claimers-step o.t a.tasks a.rows.now.holds c.loop-t-test.true in
    elim c.if-rows-t-ne0.branch [
      | then-rows-t-ne0 w ↦ (omega arith, omega (arith, rw (ne_eqb _ _ w.if-rows-t-ne0.true) at s, o.invariant.1))
      | else-rows-t-ne0 w ↦ (omega arith, omega (arith, rw (eq-eqb _ _ w.if-rows-t-ne0.false) at s, o.invariant.1))
    ]

pub returns : goal.returns
returns c =
    let a = c.args in
    let o = c.loop-t in
    omega (arith, o.invariant.1, claimers-none o.t a.tasks a.rows.now.holds c.loop-t-test.false)
