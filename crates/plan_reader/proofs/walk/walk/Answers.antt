-- `plan_reader::walk::walk` meets its contract: each word that is taken keeps what the invariant says, and what ends the walk is the answer.
use Rattle.std.proofs.Common.{sym, ap, ◌≡◌, ◌∙◌, ◌<◌, length, None, arith, rules}
use Rattle.model.specs.Set.{at}
use Rattle.refusals.specs.Answers as refusals
use Rattle.refusals.specs.Answers.{answer_of}
use Rattle.plan_reader.specs.Walk.{word_at}
use Rattle.plan_reader.proofs.Ends.{begins, end_missing, word-there, none-there, side-turn, head-turn, end-turn, taken-keeps, refused-told}
use Rattle.plan_reader.proofs.walk.walk.Goals.{In-Some, then-task-tasks+in_ok-seen, else-task-tasks+else-has_kind+in_ok-seen-2}
use Rattle.plan_reader.proofs.walk.walk.Goals as goal

-- the word of a turn: what the struct says of its words is so of the plan's
there : (c : In-Some) → (c.loop-word.plan.at < length c.args.words.now) × (at c.args.words.now c.loop-word.plan.at ≡ c.in-Some.word)
there c =
    let o = c.loop-word in
    word-there c.args.words.now o.plan.at c.in-Some.word
    (sym (ap (λ ws. word_at ws o.plan.at) o.invariant.0) ∙ (sym c.word.ensures ∙ c.in-Some.is))

pub loop-word-init : goal.loop-word-init
loop-word-init c =
    let f = c.first-plan.ensures in
    (ap (λ p. p.now) f.0, omega arith, rw (f.1, c.before-seen.ensures) (begins c.args.tasks c.args.state c.args.words.now (omega arith) (omega arith)))

pub loop-word-preserved : goal.loop-word-preserved
loop-word-preserved c =
    let o = c.loop-word in
    let t = there (goal.at.loop-word-preserved c).In-Some in
    let n = c.next-plan.ensures in (
      ap (λ p. p.now) n.0 ∙ o.invariant.0,
      omega arith,
      rw n.1
          (elim c.if-task-tasks.branch [
            | then-task-tasks+in_ok-seen w ↦
                rw w.seen-is
                (taken-keeps _ _ _ o.seen o.plan.at t.0 (omega arith) _
                (rw (w.take_side.ensures, ← t.1) (side-turn _ _ _ o.seen o.plan.at t.0 (omega arith) (omega arith) (omega arith))) _ w.in_ok-seen.was ∙ o.invariant.2)
            | else-task-tasks+else-has_kind+in_ok-seen-2 w ↦
                rw w.seen-is
                (taken-keeps _ _ _ o.seen o.plan.at t.0 (omega arith) _
                (rw (w.take_head.ensures, ← t.1) (head-turn _ _ _ o.seen o.plan.at t.0 (omega arith) (omega arith) (omega arith) (rw t.1 (sym w.has_kind.ensures ∙ w.if-has_kind.false)))) _
                w.in_ok-seen-2.was
                ∙ o.invariant.2)
          ]),
    )

pub returns-in_err-seen : goal.returns-in_err-seen
returns-in_err-seen c =
    let o = c.loop-word in
    let t = there (goal.at.returns-in_err-seen c).In-Some in
    refused-told c.args.tasks c.args.state c.args.words.now o.seen o.plan.at t.0 (omega arith) _
    (rw (c.take_side.ensures, ← t.1) (side-turn _ _ _ o.seen o.plan.at t.0 (omega arith) (omega arith) (omega arith))) c.in_err-seen.field-0.0 _ c.in_err-seen.was (search rules)
    ∙ o.invariant.2

pub returns-in_err-seen-2 : goal.returns-in_err-seen-2
returns-in_err-seen-2 c =
    let o = c.loop-word in
    let t = there (goal.at.returns-in_err-seen-2 c).In-Some in
    refused-told c.args.tasks c.args.state c.args.words.now o.seen o.plan.at t.0 (omega arith) _
    (rw (c.take_head.ensures, ← t.1) (head-turn _ _ _ o.seen o.plan.at t.0 (omega arith) (omega arith) (omega arith) (rw t.1 (sym c.has_kind.ensures ∙ c.if-has_kind.false))))
    c.in_err-seen-2.field-0.0 _ c.in_err-seen-2.was (search rules)
    ∙ o.invariant.2

pub returns-then-has_kind : goal.returns-then-has_kind
returns-then-has_kind c =
    let o = c.loop-word in
    let t = there (goal.at.returns-then-has_kind c).In-Some in
    rw (c.take_end.ensures, ← t.1)
    (end-turn c.args.tasks c.args.state c.args.words.now o.seen o.plan.at t.0 (omega arith) (omega arith) (omega arith) (rw t.1 (sym c.has_kind.ensures ∙ c.if-has_kind.true))
    ∙ o.invariant.2)

pub returns : goal.returns
unfolding answer_of refusals.number_of
returns c =
    let o = c.loop-word in
    let none : word_at c.args.words.now o.plan.at ≡ None = sym (ap (λ ws. word_at ws o.plan.at) o.invariant.0) ∙ (sym c.word.ensures ∙ search rules) in
    let over : o.plan.at ≡ length c.args.words.now = omega (arith, none-there c.args.words.now o.plan.at none) in
    rw (c.at.ensures, over) (sym (end_missing c.args.tasks c.args.state c.args.words.now o.seen o.plan.at over) ∙ o.invariant.2)
