-- `reader::faults::device_fault` meets its contract: the rules on the way to each return pick the number.
use mathlib.Core.Path.{◌≡◌, sym, ◌∙◌}
use mathlib.Core.Bool.{true, false, ◌&&◌}
use lib.Dec.{ltb, leb}
use Rattle.refusals.specs.Answers.{number_of}
use Rattle.reader.specs.Faults.{fault_number, device_fault}
use Rattle.reader.proofs.faults.device_fault.Goals.{Else-after_a_task, Else-not-capacity_allowed}
use Rattle.reader.proofs.faults.device_fault.Goals as goal

-- the rules kept so far
in_order : (c : Else-after_a_task) → ltb 0 c.args.tasks ≡ false
in_order c = sym c.after_a_task.ensures ∙ c.if-after_a_task.false

allowed : (c : Else-not-capacity_allowed) → let f = c.args.field in (leb 1 f && leb f 8) ≡ true
allowed c = sym c.capacity_allowed.ensures ∙ c.if-not-capacity_allowed.false

pub returns-then-after_a_task : goal.returns-then-after_a_task
unfolding device_fault fault_number number_of
returns-then-after_a_task c = rw (sym c.after_a_task.ensures ∙ c.if-after_a_task.true)

pub returns-then-not-capacity_allowed : goal.returns-then-not-capacity_allowed
unfolding device_fault fault_number number_of
returns-then-not-capacity_allowed c = rw (in_order (goal.at.returns-then-not-capacity_allowed c).Else-after_a_task, sym c.capacity_allowed.ensures ∙ c.if-not-capacity_allowed.true)

pub returns-then-too_many_devices : goal.returns-then-too_many_devices
unfolding device_fault fault_number number_of
returns-then-too_many_devices c =
    rw (in_order (goal.at.returns-then-too_many_devices c).Else-after_a_task, allowed (goal.at.returns-then-too_many_devices c).Else-not-capacity_allowed, sym c.too_many_devices.ensures ∙ c.if-too_many_devices.true)

pub returns : goal.returns
unfolding device_fault fault_number number_of
returns c =
    rw (in_order (goal.at.returns c).Else-after_a_task, allowed (goal.at.returns c).Else-not-capacity_allowed, sym c.too_many_devices.ensures ∙ c.if-too_many_devices.false)
