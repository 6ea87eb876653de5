-- `reader::faults::held_fault` meets its contract: the rule and the kind pick the number.
use mathlib.Core.Path.{◌≡◌, sym, ◌∙◌}
use mathlib.Core.Bool.{true, beq}
use Rattle.refusals.specs.Answers.{number_of}
use Rattle.reader.specs.Faults.{fault_number, held_fault}
use Rattle.reader.proofs.faults.held_fault.Goals.{Else-not-conflicts}
use Rattle.reader.proofs.faults.held_fault.Goals as goal

broken : (c : Else-not-conflicts) → let a = c.args in beq a.held a.claim ≡ true
broken c = sym c.conflicts.ensures ∙ c.if-not-conflicts.false

pub returns-then-not-conflicts : goal.returns-then-not-conflicts
unfolding held_fault fault_number number_of
returns-then-not-conflicts c = rw (sym c.conflicts.ensures ∙ c.if-not-conflicts.true)

pub returns-then-claim : goal.returns-then-claim
unfolding held_fault fault_number number_of
returns-then-claim c = rw (broken (goal.at.returns-then-claim c).Else-not-conflicts, c.if-claim.true)

pub returns : goal.returns
unfolding held_fault fault_number number_of
returns c = rw (broken (goal.at.returns c).Else-not-conflicts, c.if-claim.false)
