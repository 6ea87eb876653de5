-- `forbidden_boxes::sum::with_side` meets its contract: a task outside the set adds nothing, one in it its hold's units.
use Prim.Native.Nat.{◌%◌}
use native.Mathlib.Omega.{arith}
use borrow.Author.Tests.{eq-eqb, ne_eqb}
use Rattle.forbidden_boxes.specs.Choices.{sum_with, least_with}
use Rattle.forbidden_boxes.proofs.sum.with_side.Goals as goal

pub returns-then-mask-eq0 : goal.returns-then-mask-eq0
unfolding sum_with least_with
returns-then-mask-eq0 c =
    let out = ne_eqb (c.args.mask % 2) 1 (λ z. absurd (omega (arith, c.if-mask-eq0.true, z))) in
    (rw out, rw out, omega arith)

pub returns : goal.returns
unfolding sum_with least_with
returns c =
    let in-set = eq-eqb (c.args.mask % 2) 1 (omega (arith, c.if-mask-eq0.false)) in
    (rw in-set, rw in-set (omega arith), omega arith)
