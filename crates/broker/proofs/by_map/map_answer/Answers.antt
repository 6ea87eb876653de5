-- `broker::by_map::map_answer` meets its contract: each answer is the definition's, by the law for its case.
use Prim.Native.Nat.{ℕ, ◌+◌, ◌<◌}
use native.Mathlib.Omega.{arith}
use mathlib.Core.Path.{◌∙◌}
use lib.ListN.{length}
use Rattle.model.specs.Set.{at}
use Rattle.refusals.specs.Answers.{number_of, answer_of}
use Rattle.broker.specs.Says.{named}
use Rattle.broker.proofs.MapCases.{no_task, done, next-in, word_in, by_byte}
use Rattle.broker.proofs.by_map.map_answer.Goals.{Else-set-task-2}
use Rattle.broker.proofs.by_map.map_answer.Goals as goal

-- what is known of the next state and the next action, where the task has one left
module _ (c : Else-set-task-2) where
  abbrev task : ℕ
  task = c.args.task

  next-below : c.args.rank + at c.args.set.now.shape.weights task < length c.args.map.now
  next-below = next-in c.args.set.now.declares c.requires task c.if-set-task.false c.if-set-task-2.false

  action-below : at c.args.set.now.shape.starts task + at c.args.rec.positions task < length c.args.set.now.words.now
  action-below = word_in c.args.set.now.declares c.requires task c.if-set-task.false c.if-set-task-2.false

pub returns-then-set-task : goal.returns-then-set-task
unfolding answer_of number_of
returns-then-set-task c =
    rw c.at.ensures (no_task c.args.set.now.declares c.requires _ c.if-set-task.true)

pub returns-then-set-task-2 : goal.returns-then-set-task-2
unfolding answer_of named
returns-then-set-task-2 c =
    done c.args.set.now.declares c.requires _ c.if-set-task.false c.if-set-task-2.true

pub overflow_add-next : goal.overflow_add-next
overflow_add-next c = record { fits = omega (arith, next-below (goal.at.overflow_add-next c).Else-set-task-2) }

pub overflow_add-action : goal.overflow_add-action
overflow_add-action c = record { fits = omega (arith, action-below (goal.at.overflow_add-action c).Else-set-task-2) }

pub bounds-map-next : goal.bounds-map-next
bounds-map-next c = next-below (goal.at.bounds-map-next c).Else-set-task-2

pub offset_bounds-set-action : goal.offset_bounds-set-action
offset_bounds-set-action c =
    omega (arith, action-below (goal.at.offset_bounds-set-action c).Else-set-task-2)

pub bounds-set-action : goal.bounds-set-action
bounds-set-action c = action-below (goal.at.bounds-set-action c).Else-set-task-2

pub returns : goal.returns
returns c =
    c.byte_answer.ensures ∙ by_byte c.args.set.now.declares c.requires _ c.if-set-task.false c.if-set-task-2.false _ c.device.ensures
