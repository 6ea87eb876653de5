-- `reader::run::read_tasks` meets its contract. The invariant: the words up to i led to the scan of the tasks noted so far, and no action goes on there.
use Prim.Native.Nat.{◌+◌, ◌<◌}
use borrow.Author.Tests.{eqb-true}
use mathlib.Core.Path.{◌≡◌, refl, sym, ◌∙◌}
use native.Mathlib.Omega.{arith}
use Rattle.model.specs.Set.{at}
use Rattle.model.specs.Layout.{field_of}
use Rattle.reader.specs.Faults.{task_fault, action_fault}
use Rattle.reader.specs.Follow.{Opened}
use Rattle.reader.proofs.Found.{broken, free}
use Rattle.reader.proofs.FaultLaws.{task-kept}
use Rattle.reader.proofs.Going.{with_task, opens}
use Rattle.reader.proofs.run.read_tasks.Goals.{Else-is_some}
use Rattle.reader.proofs.run.read_tasks.Goals as goal

-- a TASK without a fault
module _ (c : Else-is_some) where
  faultless : task_fault c.loop-i.scan.tasks c.loop-i.scan.held (field_of (at c.args.words.now c.loop-i.i)) ≡ 0
  faultless = rw c.field.ensures at (free _ _ c.task_fault.ensures (sym c.is_some.ensures ∙ c.if-is_some.false))

  room : c.loop-i.scan.tasks < 8
  room = (task-kept _ _ _ faultless).0

  opened : Opened c.args.words.now (with_task c.loop-i.scan c.loop-i.i) (c.loop-i.i + 1)
  opened = opens _ _ _ c.loop-i.invariant.3 c.loop-i-test.true (eqb-true _ 2 (sym c.has_kind.ensures ∙ c.if-not-has_kind.false)) faultless

pub loop-i-init : goal.loop-i-init
unfolding action_fault
loop-i-init c = (refl, (λ e. refl), (λ h b e. rw c.requires.1 (omega arith)), c.requires.0)

pub bounds-scan-task : goal.bounds-scan-task
bounds-scan-task c = room (goal.at.bounds-scan-task c).Else-is_some

pub read_actions-i-requires : goal.read_actions-i-requires
read_actions-i-requires c = opened (goal.at.read_actions-i-requires c).Else-is_some

pub returns-then-is_some : goal.returns-then-is_some
returns-then-is_some c =
    let inv = c.loop-i.invariant in
    (inv.0, inv.1, (λ h k. rw c.field.ensures at (broken _ _ c.task_fault.ensures (sym c.is_some.ensures ∙ c.if-is_some.true))), inv.2, inv.3)
