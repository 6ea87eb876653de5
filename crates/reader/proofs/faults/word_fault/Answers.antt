-- `reader::faults::word_fault` meets its contract: the kind picks the function that finds the fault.
use borrow.Author.Tests.{ne_eqb}
use Prim.Native.Nat.{◌<◌}
use native.Mathlib.Omega.{arith}
use mathlib.Core.Path.{◌≡◌, sym, ap, ◌∙◌}
use Rattle.model.specs.Layout.{kind_of}
use Rattle.model.proofs.Bools.{by_cases}
use Rattle.refusals.specs.Answers.{number_of as refusal}
use Rattle.set_words.specs.declared.kinds.Kind.{Kind}
use Rattle.set_words.specs.declared.kinds.Kind.TheVariants.{Device, Task, Claim, Release, End, ForbiddenBox, UnsafeBox, Side, DeadState, UnreachedState}
use Rattle.set_words.specs.Kinds.{number_of}
use Rattle.set_words.proofs.Named.{named-number, named-none}
use Rattle.reader.specs.Faults.{fault_number, word_fault}
use Rattle.reader.proofs.faults.word_fault.Goals.{In-Some}
use Rattle.reader.proofs.faults.word_fault.Goals as goal

-- the kind of the word, where a number names one
named : (c : In-Some) → kind_of c.args.word ≡ number_of c.in-Some.kind
named c = named-number (kind_of c.args.word) c.in-Some.kind (sym c.named_kind.ensures ∙ c.in-Some.is)

is : (c : In-Some) (k : Kind) → c.in-Some.kind ≡ k → kind_of c.args.word ≡ number_of k
is c k e = named c ∙ ap number_of e

pub returns-in_default : goal.returns-in_default
unfolding fault_number refusal word_fault
returns-in_default c =
    let n = kind_of c.args.word in
    let e = sym c.named_kind.ensures ∙ c.in_default.is in
    rw (named-none n Device e, named-none n Task e, named-none n Claim e, named-none n Release e, named-none n End e)

pub returns-in-Device : goal.returns-in-Device
unfolding word_fault
returns-in-Device c = c.device_fault.ensures ∙ rw (is (goal.at.returns-in-Device c).In-Some Device c.in-Device.is, c.field-field.ensures)

pub returns-in-Task : goal.returns-in-Task
unfolding word_fault
returns-in-Task c = c.task_fault.ensures ∙ rw (is (goal.at.returns-in-Task c).In-Some Task c.in-Task.is, c.field-field.ensures)

pub returns-in-Claim : goal.returns-in-Claim
unfolding word_fault
returns-in-Claim c =
    c.action_fault.ensures ∙ rw (is (goal.at.returns-in-Claim c).In-Some Claim c.in-Claim.is, c.field-field.ensures, c.saturating_sub.ensures)

pub returns-in-Release : goal.returns-in-Release
unfolding word_fault
returns-in-Release c =
    c.action_fault-in-Release.ensures ∙ rw (is (goal.at.returns-in-Release c).In-Some Release c.in-Release.is, c.field-field.ensures, c.saturating_sub.ensures)

pub returns-in-End : goal.returns-in-End
unfolding word_fault
returns-in-End c = c.end_fault.ensures ∙ rw (is (goal.at.returns-in-End c).In-Some End c.in-End.is, c.field-field.ensures)

pub returns-in-ForbiddenBox : goal.returns-in-ForbiddenBox
unfolding fault_number refusal word_fault
returns-in-ForbiddenBox c =
    let n = kind_of c.args.word in
    let w : (k : Kind) → 5 < number_of k → c.in-Some.kind ≡ k → 5 < n = λ k h e. rw (is (goal.at.returns-in-ForbiddenBox c).In-Some k e) h in
    let p : 5 < n =
    by_cases c.in-ForbiddenBox.is (w ForbiddenBox (omega arith)) λ a.
    by_cases a (w UnsafeBox (omega arith)) λ b.
    by_cases b (w Side (omega arith)) λ d.
    by_cases d (w DeadState (omega arith)) (w UnreachedState (omega arith)) in
    rw (ne_eqb n 1 (λ e. omega (arith, p)), ne_eqb n 2 (λ e. omega (arith, p)), ne_eqb n 3 (λ e. omega (arith, p)), ne_eqb n 4 (λ e. omega (arith, p)), ne_eqb n 5 (λ e. omega (arith, p)))
