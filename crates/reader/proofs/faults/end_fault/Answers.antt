-- `reader::faults::end_fault` meets its contract: the rules on the way to each return pick the number.
use mathlib.Core.Path.{◌≡◌, sym, ◌∙◌}
use mathlib.Core.Bool.{true, false}
use lib.Dec.{eqb}
use Rattle.refusals.specs.Answers.{number_of}
use Rattle.reader.specs.Faults.{fault_number, end_fault}
use Rattle.reader.proofs.faults.end_fault.Goals.{Else-before_any_task, Else-not-counts_words}
use Rattle.reader.proofs.faults.end_fault.Goals as goal

-- the rules kept so far
in_order : (c : Else-before_any_task) → eqb c.args.tasks 0 ≡ false
in_order c = sym c.before_any_task.ensures ∙ c.if-before_any_task.false

allowed : (c : Else-not-counts_words) → let a = c.args in eqb a.field a.i ≡ true
allowed c = sym c.counts_words.ensures ∙ c.if-not-counts_words.false

pub returns-then-before_any_task : goal.returns-then-before_any_task
unfolding end_fault fault_number number_of
returns-then-before_any_task c = rw (sym c.before_any_task.ensures ∙ c.if-before_any_task.true)

pub returns-then-not-counts_words : goal.returns-then-not-counts_words
unfolding end_fault fault_number number_of
returns-then-not-counts_words c = rw (in_order (goal.at.returns-then-not-counts_words c).Else-before_any_task, sym c.counts_words.ensures ∙ c.if-not-counts_words.true)

pub returns-then-still_held : goal.returns-then-still_held
unfolding end_fault fault_number number_of
returns-then-still_held c =
    rw (in_order (goal.at.returns-then-still_held c).Else-before_any_task, allowed (goal.at.returns-then-still_held c).Else-not-counts_words, sym c.still_held.ensures ∙ c.if-still_held.true)

pub returns : goal.returns
unfolding end_fault fault_number number_of
returns c =
    rw (in_order (goal.at.returns c).Else-before_any_task, allowed (goal.at.returns c).Else-not-counts_words, sym c.still_held.ensures ∙ c.if-still_held.false)
