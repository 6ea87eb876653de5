-- `task_sets::next_set` meets its contract. The invariant: what follows the tasks yet to be looked at is what follows the set.
use native.Mathlib.Omega.{arith}
use mathlib.Core.Path.{refl, ◌∙◌}
use Rattle.task_sets.specs.Next.{after}
use Rattle.task_sets.proofs.Walks.{behind_more, gap-found}
use Rattle.task_sets.proofs.next_set.Goals as goal

pub returns-then-mask-eq-ALL_TASKS : goal.returns-then-mask-eq-ALL_TASKS
unfolding after
returns-then-mask-eq-ALL_TASKS c = rw c.if-mask-eq-ALL_TASKS.true refl

pub loop-gap-init : goal.loop-gap-init
loop-gap-init c = (7, refl, omega arith, refl)

pub loop-gap-preserved : goal.loop-gap-preserved
loop-gap-preserved c =
    let o = c.loop-gap in
    behind_more c.args.mask o.before o.gap o.invariant c.loop-gap-test.true

pub returns : goal.returns
returns c =
    let o = c.loop-gap in
    let g = gap-found c.args.mask o.before o.gap o.invariant c.loop-gap-test.false in
    c.follow.ensures g.0 g.1 ∙ g.2
