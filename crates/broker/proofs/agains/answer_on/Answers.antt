-- `broker::agains::answer_on` meets its contract: each answer is the definition's, by the law for its case.
use mathlib.Core.Path.{sym, ◌∙◌}
use Rattle.refusals.specs.Answers.{number_of, answer_of}
use Rattle.records.specs.Says.{record_of}
use Rattle.broker.proofs.AgainCases.{again-unfit, again-early, again-restarts}
use Rattle.broker.proofs.agains.answer_on.Goals as goal

pub returns-then-unfit : goal.returns-then-unfit
unfolding answer_of number_of
returns-then-unfit c =
    let d = c.args.set.now.declares in
    rw c.at.ensures (again-unfit _ (record_of c.args.rec) (sym (c.unfit.ensures _ _ d) ∙ c.if-unfit.true))

pub returns-then-at_end : goal.returns-then-at_end
unfolding answer_of
returns-then-at_end c =
    let d = c.args.set.now.declares in
    again-restarts _ (record_of c.args.rec) (sym (c.unfit.ensures _ _ d) ∙ c.if-unfit.false)
    (sym (c.at_end.ensures _ _ d) ∙ c.if-at_end.true)

pub returns : goal.returns
unfolding answer_of number_of
returns c =
    let d = c.args.set.now.declares in
    rw c.at-2.ensures (again-early _ (record_of c.args.rec) (sym (c.unfit.ensures _ _ d) ∙ c.if-unfit.false)
    (sym (c.at_end.ensures _ _ d) ∙ c.if-at_end.false) _ (c.rank_of.ensures _ _ d))
