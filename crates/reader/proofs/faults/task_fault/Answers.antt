-- `reader::faults::task_fault` meets its contract: the rules on the way to each return pick the number.
use mathlib.Core.Path.{◌≡◌, sym, ◌∙◌}
use mathlib.Core.Bool.{true, false}
use lib.Dec.{eqb, leb}
use Rattle.refusals.specs.Answers.{number_of}
use Rattle.reader.specs.Faults.{fault_number, task_fault}
use Rattle.reader.proofs.faults.task_fault.Goals.{Else-not-field_empty, Else-too_many_tasks}
use Rattle.reader.proofs.faults.task_fault.Goals as goal

-- the rules kept so far
allowed : (c : Else-not-field_empty) → eqb c.args.field 0 ≡ true
allowed c = sym c.field_empty.ensures ∙ c.if-not-field_empty.false

room : (c : Else-too_many_tasks) → leb 8 c.args.tasks ≡ false
room c = sym c.too_many_tasks.ensures ∙ c.if-too_many_tasks.false

pub returns-then-not-field_empty : goal.returns-then-not-field_empty
unfolding task_fault fault_number number_of
returns-then-not-field_empty c = rw (sym c.field_empty.ensures ∙ c.if-not-field_empty.true)

pub returns-then-too_many_tasks : goal.returns-then-too_many_tasks
unfolding task_fault fault_number number_of
returns-then-too_many_tasks c = rw (allowed (goal.at.returns-then-too_many_tasks c).Else-not-field_empty, sym c.too_many_tasks.ensures ∙ c.if-too_many_tasks.true)

pub returns-then-still_held : goal.returns-then-still_held
unfolding task_fault fault_number number_of
returns-then-still_held c =
    rw (allowed (goal.at.returns-then-still_held c).Else-not-field_empty, room (goal.at.returns-then-still_held c).Else-too_many_tasks, sym c.still_held.ensures ∙ c.if-still_held.true)

pub returns : goal.returns
unfolding task_fault fault_number number_of
returns c =
    rw (allowed (goal.at.returns c).Else-not-field_empty, room (goal.at.returns c).Else-too_many_tasks, sym c.still_held.ensures ∙ c.if-still_held.false)
