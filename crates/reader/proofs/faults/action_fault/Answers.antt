-- `reader::faults::action_fault` meets its contract: the rules on the way to each return pick the number.
use mathlib.Core.Path.{◌≡◌, sym, ◌∙◌}
use mathlib.Core.Bool.{true, false}
use lib.Dec.{eqb, ltb, leb}
use Rattle.refusals.specs.Answers.{number_of}
use Rattle.reader.specs.Faults.{fault_number, action_fault}
use Rattle.reader.proofs.faults.action_fault.Goals.{Else-before_any_task, Else-not-device_declared, Else-too_many_actions}
use Rattle.reader.proofs.faults.action_fault.Goals as goal

-- the rules kept so far
in_order : (c : Else-before_any_task) → eqb c.args.scan.now.tasks 0 ≡ false
in_order c = sym c.before_any_task.ensures ∙ c.if-before_any_task.false

named : (c : Else-not-device_declared) → let a = c.args in ltb a.field a.scan.now.devices ≡ true
named c = sym c.device_declared.ensures ∙ c.if-not-device_declared.false

room : (c : Else-too_many_actions) → leb 255 c.args.length ≡ false
room c = sym c.too_many_actions.ensures ∙ c.if-too_many_actions.false

pub returns-then-before_any_task : goal.returns-then-before_any_task
unfolding action_fault fault_number number_of
returns-then-before_any_task c = rw (sym c.before_any_task.ensures ∙ c.if-before_any_task.true)

pub returns-then-not-device_declared : goal.returns-then-not-device_declared
unfolding action_fault fault_number number_of
returns-then-not-device_declared c =
    rw (in_order (goal.at.returns-then-not-device_declared c).Else-before_any_task, sym c.device_declared.ensures ∙ c.if-not-device_declared.true) c.units_fault.ensures

pub returns-then-too_many_actions : goal.returns-then-too_many_actions
unfolding action_fault fault_number number_of
returns-then-too_many_actions c =
    rw (in_order (goal.at.returns-then-too_many_actions c).Else-before_any_task, named (goal.at.returns-then-too_many_actions c).Else-not-device_declared, sym c.too_many_actions.ensures ∙ c.if-too_many_actions.true)

pub returns : goal.returns
unfolding action_fault fault_number number_of
returns c =
    rw (in_order (goal.at.returns c).Else-before_any_task, named (goal.at.returns c).Else-not-device_declared, room (goal.at.returns c).Else-too_many_actions) c.held_fault.ensures
