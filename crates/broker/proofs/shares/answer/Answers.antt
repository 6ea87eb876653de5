-- `broker::shares::answer` meets its contract: Share spent takes the place of Granted alone.
use borrow.Author.Rules.{rules}
use mathlib.Core.Path.{◌≡◌, sym, ap, ◌∙◌}
use mathlib.Core.Bool.{true}
use Rattle.std.proofs.lemmas.Result.{err_from_is_err_and}
use Rattle.model.specs.Record.{state_in}
use Rattle.model.specs.Broker.{is_granted, would_be_granted, shared_answer}
use Rattle.shape.specs.SetOf.{set_of}
use Rattle.records.specs.Says.{record_of}
use Rattle.refusals.specs.Answers.{answer_of}
use Rattle.broker.specs.declared.answers.Bid.TheVariants.{Granted}
use Rattle.broker.specs.Says.{named}
use Rattle.broker.proofs.Granted.{not-granted}
use Rattle.broker.proofs.BidCases.{would-left}
use Rattle.broker.proofs.shares.answer.Goals.{After-eq, else-eq-via-then-eq+else-spent, else-eq-via-else-eq}
use Rattle.broker.proofs.shares.answer.Goals as goal

-- where the map grants the task
module _ (c : After-eq) (granted : c.eq.result ≡ true) where
  is : c.in_ok-answer.answer ≡ Granted
  is = search (rules, c.eq.ensures, granted)

  would : would_be_granted (set_of c.args.set.now) c.args.map.now (state_in (set_of c.args.set.now) (record_of c.args.rec)) c.args.task ≡ true
  unfolding is_granted answer_of named
  would = rw (← c.in_ok-answer.ensures, is)

pub returns-in_err-answer : goal.returns-in_err-answer
unfolding shared_answer is_granted answer_of
returns-in_err-answer c =
    let p = err_from_is_err_and c.from_residual.result c.from_residual.ensures.1 in
    rw (p.1, p.2, ← c.in_err-answer.ensures)

pub spent-requires : goal.spent-requires
spent-requires c =
    (c.requires, (would-left _ c.args.set.now.declares.well_formed _ (record_of c.args.rec) _ (would (goal.at.spent-requires c).After-eq c.if-eq.true)).0)

pub returns-then-spent : goal.returns-then-spent
unfolding shared_answer answer_of named
returns-then-spent c =
    rw (would (goal.at.returns-then-spent c).After-eq c.if-eq.true, ← c.spent.ensures, c.if-spent.true)

pub returns : goal.returns
unfolding shared_answer
returns c =
    let e = c.in_ok-answer.ensures in
    elim c.else-eq.branch [
      | else-eq-via-then-eq+else-spent w ↦
          rw (would (goal.at.returns c).After-eq w.if-eq.true, ← w.spent.ensures, w.if-spent.false) e
      | else-eq-via-else-eq w ↦
          let other : c.in_ok-answer.answer ≡ Granted → ⊥ = λ q. search (rules, q, w.if-eq.ensures) in
          rw (ap is_granted (sym e) ∙ not-granted _ other) e
    ]
