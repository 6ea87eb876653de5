-- `broker::bids::answer_on` meets its contract: each answer is the definition's, by the law for its case.
use borrow.Author.Rules.{rules}
use mathlib.Core.Path.{◌≡◌, sym, ◌∙◌}
use mathlib.Core.Bool.{true, false, ◌&&◌}
use lib.ListN.{length}
use lib.Dec.{ltb}
use Rattle.model.specs.Set.{lengths_of, size}
use Rattle.model.specs.Read.{set_in}
use Rattle.model.specs.Broker.{is_setting}
use Rattle.shape.proofs.Declared.{grid-is}
use Rattle.refusals.specs.Answers.{number_of, answer_of}
use Rattle.records.specs.Says.{record_of}
use Rattle.records.specs.Ranked.{Ranked}
use Rattle.records.proofs.Placed.{ranked-inside}
use Rattle.broker.proofs.BidCases.{short, bad_setting, bad_record, not-open, all-used, shared}
use Rattle.broker.proofs.bids.answer_on.Goals.{After-rank_of-rank, Else-not-allowed, Else-too_short}
use Rattle.broker.proofs.bids.answer_on.Goals as goal

-- where the map has room
roomy : (c : Else-too_short) → ltb (length c.args.map.now) (size (lengths_of (set_in c.args.set.now.words.now))) ≡ false
roomy c = sym (c.too_short.ensures _ _ c.args.set.now.declares) ∙ c.if-too_short.false

-- and the settings are allowed
allowed : (c : Else-not-allowed) → (is_setting c.args.settings.share && is_setting c.args.settings.window) ≡ true
allowed c = sym c.allowed.ensures ∙ c.if-not-allowed.false

-- what is known once the rank is made
eight : (c : After-rank_of-rank) → length (record_of c.args.rec).positions ≡ 8
eight c = search rules

found : (c : After-rank_of-rank) → Ranked (set_in c.args.set.now.words.now) c.args.map.now (record_of c.args.rec) c.rank_of-rank.result
found c =
    let d = c.args.set.now.declares in
    record {
      eight = eight c;
      room = sym (c.too_short.ensures _ _ d) ∙ c.if-too_short.false;
      fits = sym (c.unfit.ensures _ _ d) ∙ c.if-unfit.false;
      ranked = c.rank_of-rank.ensures _ _ d;
    }

pub returns-then-too_short : goal.returns-then-too_short
unfolding answer_of number_of
returns-then-too_short c =
    let d = c.args.set.now.declares in
    rw c.at.ensures (short _ _ _ _ _ (sym (c.too_short.ensures _ _ d) ∙ c.if-too_short.true) _ (grid-is d))

pub returns-then-not-allowed : goal.returns-then-not-allowed
unfolding answer_of number_of
returns-then-not-allowed c =
    rw c.at-then-not-allowed.ensures (bad_setting _ _ _ _ _ (roomy (goal.at.returns-then-not-allowed c).Else-too_short) (sym c.allowed.ensures ∙ c.if-not-allowed.true))

pub returns-then-unfit : goal.returns-then-unfit
unfolding answer_of number_of
returns-then-unfit c =
    rw c.at-then-unfit.ensures (bad_record _ _ _ _ _ (roomy (goal.at.returns-then-unfit c).Else-too_short) (allowed (goal.at.returns-then-unfit c).Else-not-allowed) (sym (c.unfit.ensures _ _ c.args.set.now.declares) ∙ c.if-unfit.true))

pub bounds-map-rank : goal.bounds-map-rank
bounds-map-rank c = ranked-inside c.args.set.now.declares (found (goal.at.bounds-map-rank c).After-rank_of-rank)

pub returns-then-map-rank-ne-OPEN : goal.returns-then-map-rank-ne-OPEN
unfolding answer_of number_of
returns-then-map-rank-ne-OPEN c =
    rw c.at-then-map-rank-ne-OPEN.ensures (not-open _ _ _ _ _ (allowed (goal.at.returns-then-map-rank-ne-OPEN c).Else-not-allowed) _ (found (goal.at.returns-then-map-rank-ne-OPEN c).After-rank_of-rank) c.if-map-rank-ne-OPEN.true)

pub returns-then-settings-used : goal.returns-then-settings-used
unfolding answer_of number_of
returns-then-settings-used c =
    rw c.at-then-settings-used.ensures (all-used _ _ _ _ _ (allowed (goal.at.returns-then-settings-used c).Else-not-allowed) _ (found (goal.at.returns-then-settings-used c).After-rank_of-rank) c.if-map-rank-ne-OPEN.false (rw c.used.ensures at c.if-settings-used.true))

pub answer-requires : goal.answer-requires
answer-requires c = found (goal.at.answer-requires c).After-rank_of-rank

pub returns : goal.returns
returns c =
    c.answer.ensures ∙ shared _ _ _ _ _ (allowed (goal.at.returns c).Else-not-allowed) _ (found (goal.at.returns c).After-rank_of-rank) c.if-map-rank-ne-OPEN.false (rw c.used.ensures at c.if-settings-used.false)
