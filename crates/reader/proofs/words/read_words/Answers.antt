-- `reader::words::read_words` meets its contract: where the words in a row stop, the word there and the words after it tell the answer.
use borrow.Author.Rules.{rules}
use borrow.Author.Tests.{lt-ltb, le-ltb, eq-eqb, ne_eqb}
use Prim.Native.Nat.{ℕ, ◌≤◌}
use mathlib.Core.Path.{◌≡◌, sym, ap, ◌∙◌}
use mathlib.Core.List.{List}
use lib.ListN.{length}
use Rattle.model.specs.Set.{at}
use Rattle.model.specs.Layout.{kind_of, field_of}
use Rattle.model.specs.Read.{nothing_read, read_from, read_words}
use Rattle.refusals.specs.Answers.{number_of}
use Rattle.reader.specs.Faults.{fault_number, word_fault}
use Rattle.reader.proofs.Found.{numbered}
use Rattle.reader.proofs.Steps.{start-limits}
use Rattle.reader.proofs.Ending.{no_end, fault-here, after_end, whole}
use Rattle.reader.proofs.words.read_words.Goals.{In_default}
use Rattle.reader.proofs.words.read_words.Goals as goal

started : (ws : List ℕ) → (length ws ≡ 0 → ⊥) → length ws ≤ 4096 → read_words ws ≡ read_from nothing_read 0 ws
unfolding read_words
started ws h k = rw (ne_eqb _ _ h, le-ltb _ _ k)

-- the word where the run stops has no fault
faultless : (c : In_default) → word_fault c.read_runs-i.new.scan c.read_runs-i.result (kind_of (at c.args.words.now c.read_runs-i.result)) (field_of (at c.args.words.now c.read_runs-i.result)) ≡ 0
unfolding fault_number
faultless c = sym c.word_fault.ensures ∙ ap fault_number c.in_default.is

pub returns-then-n-eq0 : goal.returns-then-n-eq0
unfolding read_words number_of
returns-then-n-eq0 c = rw (c.at.ensures, eq-eqb _ _ c.if-n-eq0.true)

pub returns-then-n-gt-MAX_WORDS : goal.returns-then-n-gt-MAX_WORDS
unfolding read_words number_of
returns-then-n-gt-MAX_WORDS c = rw (c.at-then-n-gt-MAX_WORDS.ensures, ne_eqb _ _ c.if-n-eq0.false, lt-ltb _ _ c.if-n-gt-MAX_WORDS.true)

pub read_runs-i-requires : goal.read_runs-i-requires
read_runs-i-requires c = (
  record { scan = nothing_read; limits = start-limits; same = c.requires; rest = started _ c.if-n-eq0.false c.if-n-gt-MAX_WORDS.false; within = search rules },
  c.requires,
)

pub returns-then-n-i : goal.returns-then-n-i
unfolding number_of
returns-then-n-i c = rw c.at-then-n-i.ensures (no_end _ _ _ c.read_runs-i.ensures.0 c.if-n-i.true)

pub returns-in-Some : goal.returns-in-Some
unfolding fault_number
returns-in-Some c =
    let number = sym c.word_fault.ensures ∙ ap fault_number c.in-Some.is in
    rw c.at-in-Some.ensures (rw number at (fault-here _ _ _ c.read_runs-i.ensures.0 c.if-n-i.false (rw number (numbered c.in-Some.reason))))

pub returns-then-i-n : goal.returns-then-i-n
unfolding number_of
returns-then-i-n c =
    let there = c.read_runs-i.ensures in
    rw c.at-then-i-n.ensures
    (after_end _ _ _ there.0 c.if-n-i.false there.1 (faultless (goal.at.returns-then-i-n c).In_default) c.if-i-n.true)

pub returns : goal.returns
returns c =
    let there = c.read_runs-i.ensures in
    whole _ _ _ there.0 c.if-n-i.false there.1 (faultless (goal.at.returns c).In_default) c.if-i-n.false
