-- `plan_reader::locate` meets its contract: 22 first, then what the walk answers.
use Rattle.std.proofs.Common.{sym, arith}
use mathlib.Core.Logic.{inl, inr}
use Rattle.refusals.specs.Answers as refusals
use Rattle.refusals.specs.Answers.{answer_of}
use Rattle.model.proofs.Bools.{by_cases}
use Rattle.model.proofs.Located.{uncounted}
use Rattle.plan_reader.proofs.locate.Goals as goal

pub returns-then-tasks-eq0 : goal.returns-then-tasks-eq0
unfolding answer_of refusals.number_of
returns-then-tasks-eq0 c =
    rw c.at.ensures (sym (uncounted c.args.state c.args.plan.now c.args.tasks (by_cases c.then-tasks-eq0.either inl (λ t. inr (omega (arith, t))))))
