-- `broker::bids::answer_at` meets its contract: each answer is the definition's, by the law for its case.
use mathlib.Core.Path.{◌∙◌}
use Rattle.refusals.specs.Answers.{number_of, answer_of}
use Rattle.records.proofs.Placed.{ranked-inside}
use Rattle.broker.proofs.BidCases.{not-open, all-used, shared}
use Rattle.broker.proofs.bids.answer_at.Goals as goal

pub bounds-map-rank : goal.bounds-map-rank
bounds-map-rank c = ranked-inside c.args.set.now.declares c.requires.0

pub returns-then-map-rank-ne-OPEN : goal.returns-then-map-rank-ne-OPEN
unfolding answer_of number_of
returns-then-map-rank-ne-OPEN c =
    let p = c.requires in
    rw c.at.ensures (not-open _ _ _ _ _ p.1 _ p.0 c.if-map-rank-ne-OPEN.true)

pub returns-then-window-used : goal.returns-then-window-used
unfolding answer_of number_of
returns-then-window-used c =
    let p = c.requires in
    rw c.at-then-window-used.ensures (all-used _ _ _ _ _ p.1 _ p.0 c.if-map-rank-ne-OPEN.false (rw c.used.ensures at c.if-window-used.true))

pub returns : goal.returns
returns c =
    let p = c.requires in
    c.answer.ensures ∙ shared _ _ _ _ _ p.1 _ p.0 c.if-map-rank-ne-OPEN.false (rw c.used.ensures at c.if-window-used.false)
