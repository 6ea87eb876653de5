-- `route::route_on` meets its contract: each answer is the definition's, by the law for its case.
use borrow.Author.Rules.{rules}
use native.Mathlib.Omega.{arith}
use mathlib.Core.Path.{sym, ap, ◌∙◌}
use Rattle.model.specs.Set.{size}
use Rattle.shape.specs.SetOf.{set_of}
use Rattle.shape.proofs.Declared.{grid-is, lengths-taken}
use Rattle.refusals.specs.Answers.{number_of}
use Rattle.records.specs.Says.{record_of}
use Rattle.records.specs.Ranked.{Ranked}
use Rattle.records.proofs.Placed.{ranked-inside}
use Rattle.route.proofs.Answers.{same-fitted, short, bad_record, on-grid, own-forbidden, own-unsafe, own-unknown, own_open}
use Rattle.route.proofs.route_on.Goals.{After-rank_of-rank}
use Rattle.route.proofs.route_on.Goals as goal

-- what is known once the rank is made
found : (c : After-rank_of-rank) → Ranked (set_of c.args.set.now) c.args.map.now (record_of c.args.rec) c.rank_of-rank.result
found c =
    let d = c.args.set.now.declares in
    record {
      eight = search rules;
      room = sym (c.too_short.ensures _ _ d) ∙ c.if-too_short.false;
      fits = sym (c.unfit.ensures _ _ d) ∙ c.if-unfit.false;
      ranked = c.rank_of-rank.ensures _ _ d;
    }

pub returns-then-too_short : goal.returns-then-too_short
unfolding number_of
returns-then-too_short c =
    let d = c.args.set.now.declares in
    c.refuse.ensures
    ∙ rw c.at.ensures (same-fitted c.args.slice.now (short d c.args.map.now (record_of c.args.rec) (sym (c.too_short.ensures _ _ d) ∙ c.if-too_short.true)))

pub unfit-requires : goal.unfit-requires
unfit-requires c = (_, _, c.args.set.now.declares)

pub returns-then-unfit : goal.returns-then-unfit
unfolding number_of
returns-then-unfit c =
    let d = c.args.set.now.declares in
    c.refuse-then-unfit.ensures
    ∙ rw c.at-then-unfit.ensures (same-fitted c.args.slice.now
    (bad_record d c.args.map.now (record_of c.args.rec) (sym (c.too_short.ensures _ _ d) ∙ c.if-too_short.false)
    (sym (c.unfit.ensures _ _ d) ∙ c.if-unfit.true)))

pub rank_of-rank-requires : goal.rank_of-rank-requires
rank_of-rank-requires c = (_, _, c.args.set.now.declares)

pub bounds-map-rank : goal.bounds-map-rank
bounds-map-rank c = ranked-inside c.args.set.now.declares (found (goal.at.bounds-map-rank c).After-rank_of-rank)

pub route_from-requires : goal.route_from-requires
route_from-requires c =
    let d = c.args.set.now.declares in
    (on-grid d _ (record_of c.args.rec) _ (found (goal.at.route_from-requires c).After-rank_of-rank), grid-is d ∙ sym (ap size (lengths-taken d)))

pub returns-in-0 : goal.returns-in-0
returns-in-0 c =
    let f = found (goal.at.returns-in-0 c).After-rank_of-rank in
    c.route_from.ensures
    ∙ same-fitted c.args.slice.now (own_open c.args.set.now.declares _ (record_of c.args.rec) _ f c.in-0.is)

pub returns-in-1 : goal.returns-in-1
unfolding number_of
returns-in-1 c =
    let f = found (goal.at.returns-in-1 c).After-rank_of-rank in
    c.refuse-in-1.ensures
    ∙ rw c.at-in-1.ensures (same-fitted c.args.slice.now (own-forbidden c.args.set.now.declares _ (record_of c.args.rec) _ f c.in-1.is))

pub returns-in-2 : goal.returns-in-2
unfolding number_of
returns-in-2 c =
    let f = found (goal.at.returns-in-2 c).After-rank_of-rank in
    c.refuse-in-2.ensures
    ∙ rw c.at-in-2.ensures (same-fitted c.args.slice.now (own-unsafe c.args.set.now.declares _ (record_of c.args.rec) _ f (omega arith) (omega arith)))

pub returns-in_default : goal.returns-in_default
unfolding number_of
returns-in_default c =
    let f = found (goal.at.returns-in_default c).After-rank_of-rank in
    c.refuse-in_default.ensures
    ∙ rw c.at-in_default.ensures (same-fitted c.args.slice.now (own-unknown c.args.set.now.declares _ (record_of c.args.rec) _ f (omega arith)))
