-- `trial::bidding::bid_rounds` meets its contract: each bid keeps what `Trying` says, and each way out is one of its laws.
use borrow.Author.Rules.{rules}
use Prim.Native.Nat.{ℕ, ◌+◌, ◌<◌}
use native.Mathlib.Omega.{arith}
use mathlib.Core.Path.{◌≡◌, refl, sym, ap, subst, ◌∙◌}
use mathlib.Core.Bool.{true, false, cond}
use Rattle.std.specs.Prelude.{Ok}
use Rattle.model.specs.Set.{lengths_of, at}
use Rattle.model.specs.State.{is_end}
use Rattle.model.specs.Record.{state_in}
use Rattle.model.specs.Answer.{Answer, given}
use Rattle.model.specs.Broker as model
use Rattle.model.specs.Broker.{is_granted, bid_answer, grant}
use Rattle.model.specs.Trial.{no_bids, is_finished}
use Rattle.model.proofs.Bools.{by_bool}
use Rattle.model.proofs.Counts.{byte-cond, byte_small}
use Rattle.model.proofs.Ranks.{rank_lt}
use Rattle.refusals.specs.Answers.{answer_of}
use Rattle.shape.specs.SetOf.{set_of}
use Rattle.shape.proofs.Declared.{few-tasks}
use Rattle.shape.proofs.WereRead.{accepted}
use Rattle.records.specs.Says.{record_of}
use Rattle.records.specs.Ranked.{Ranked}
use Rattle.records.proofs.Placed.{ranked-grid}
use Rattle.broker.specs.declared.answers.Bid.{Bid}
use Rattle.broker.specs.declared.answers.Bid.TheVariants.{Granted, Finished, ShareSpent, Busy, Held}
use Rattle.broker.specs.Says.{settings_of, named, bid_of}
use Rattle.broker.proofs.BidCases.{granted-rises}
use Rattle.broker.proofs.Granted.{not-granted}
use Rattle.broker.proofs.Moved.{granted-ranked}
use Rattle.trial.specs.declared.tallies.Tally.{Tally}
use Rattle.trial.proofs.Kept.{Keeps, keeps-none, keeps-more}
use Rattle.trial.proofs.Trying.{tally_of, begins, next-lap, over, stops, refuses, made-small, moves}
use Rattle.trial.proofs.bidding.bid_rounds.Goals.{After-eq, After-eq-in-loop-place, Joined-eq, in-Some, in-None+in-Ok, then-eq, else-eq}
use Rattle.trial.proofs.bidding.bid_rounds.Goals as goal

-- a row of zeros is that of no bids
no-bids : (k : Tally) → (k.granted ≡ 0) × ((k.busy ≡ 0) × ((k.held ≡ 0) × (k.share_spent ≡ 0))) → k ≡ tally_of no_bids
no-bids k zero =
    let e : ◌≡◌ {A = Tally} (record { granted = k.granted; busy = k.busy; held = k.held; share_spent = k.share_spent }) (tally_of no_bids) =
    rw (zero.0, zero.1.0, zero.1.1.0, zero.1.1.1) in e

not_finished : (b : Bid) → (b ≡ Finished → ⊥) → is_finished (named b) ≡ false
unfolding is_finished named
not_finished Granted other = refl
not_finished Finished other = absurd (other refl)
not_finished ShareSpent other = refl
not_finished (Busy d) other = refl
not_finished (Held r) other = refl

-- the task that bids, and what it is answered on the set
abbrev task : After-eq → ℕ
task c = at c.args.order.now c.loop-place.place

abbrev answer-of : After-eq → Answer model.Bid
answer-of c =
    let a = c.args in
    bid_answer (set_of a.set.now) a.map.now (settings_of a.settings) (record_of c.loop-place.rec) (task c)

-- it is one of the set's
task-of : (c : After-eq) → task c < 8
task-of c =
    omega (arith, c.requires.order_fits.2 c.loop-place.place (omega (arith, c.loop-place-test.true)), few-tasks c.args.set.now.declares)

-- what it is answered: as is kept, or, where nothing is, by the broker; and that is kept
asked : (c : After-eq) → (
    let a = c.args in
    (bid_of (Ok c.match-kept-task.bid) ≡ answer-of c)
    × Keeps (bid_answer (set_of a.set.now) a.map.now (settings_of a.settings) (record_of c.loop-place.rec)) c.match-kept-task.kept)
asked c =
    let k = c.loop-place.invariant.1 in
    elim c.match-kept-task.branch [
      | in-Some w ↦
          (ap (λ b. bid_of (Ok b)) w.bid-is ∙ k.right (task c) _ w.in-Some.is, subst (Keeps _) (sym w.kept-is) k)
      | in-None+in-Ok w ↦ (
        ap (λ b. bid_of (Ok b)) w.bid-is ∙ w.in-Ok.ensures,
        subst (Keeps _) (sym w.kept-is) (keeps-more k (task c) (task-of c) _ w.in-Ok.ensures),
      )
    ]

-- the code's test tells whether it is granted
says : (c : After-eq) → is_granted (bid_of (Ok c.match-kept-task.bid)) ≡ c.eq.result
unfolding is_granted answer_of named
says c =
    by_bool c.eq.result
    (λ e.
    let is : c.match-kept-task.bid ≡ Granted = search (rules, c.eq.ensures, e) in
    ap (λ b. is_granted (bid_of (Ok b))) is ∙ sym e)
    (λ e.
    let other : c.match-kept-task.bid ≡ Granted → ⊥ = λ q. search (rules, q, c.eq.ensures, e) in
    not-granted _ other ∙ sym e)

goes : (c : After-eq) → c.eq.result ≡ true → is_granted (answer-of c) ≡ true
goes c e = ap is_granted (sym (asked c).0) ∙ says c ∙ e

-- and whether it is Finished
says_finished : (c : After-eq-in-loop-place) → is_finished (named c.match-kept-task.bid) ≡ c.eq-in-loop-place.result
unfolding is_finished named
says_finished c =
    by_bool c.eq-in-loop-place.result
    (λ e.
    let is : c.match-kept-task.bid ≡ Finished = search (rules, c.eq-in-loop-place.ensures, e) in
    ap (λ b. is_finished (named b)) is ∙ sym e)
    (λ e.
    let other : c.match-kept-task.bid ≡ Finished → ⊥ = λ q. search (rules, q, c.eq-in-loop-place.ensures, e) in
    not_finished _ other ∙ sym e)

-- the number of bids fits
fits : (c : Joined-eq) → c.loop-place.made < 4294967295
fits c =
    made-small _ _ _ _ _ _ c.loop-place.invariant.0 c.loop-test.true (omega (arith, c.loop-place-test.true)) (omega (arith, c.ranges.rounds.fits)) c.requires.order_fits.1

pub loop-init : goal.loop-init
loop-init c =
    let d = c.args.set.now.declares in
    let f = c.fresh-rec.ensures in
    let s = set_of c.args.set.now in
    let e = c.at_end-ended.ensures _ _ d ∙ ap (λ r. is_end (lengths_of s) (state_in s r)) f in
    (rw (f, no-bids c.default-rows.result c.default-rows.ensures) (begins _ _ _ _ _ _ d.well_formed c.requires.map_fits _ e), keeps-none _)

pub returns-then-ended : goal.returns-then-ended
unfolding answer_of
returns-then-ended c =
    sym (stops _ _ _ _ _ _ c.loop-place.invariant.0 c.loop-test.true (omega (arith, c.loop-place-test.true)) c.if-ended.true)

pub returns-in-Err : goal.returns-in-Err
unfolding answer_of
returns-in-Err c =
    sym (refuses _ _ _ _ _ _ c.loop-place.invariant.0 c.loop-test.true (omega (arith, c.loop-place-test.true)) (accepted c.args.set.now.declares) c.if-ended.false _ _
    (sym c.in-Err.ensures))

pub granted-rec-requires : goal.granted-rec-requires
granted-rec-requires c =
    let j = (goal.at.granted-rec-requires c).After-eq in
    granted-rises _ c.args.set.now.declares.well_formed _ _ _ (task j) (goes j c.if-eq.true)

pub overflow_add-rank : goal.overflow_add-rank
overflow_add-rank c =
    let j = (goal.at.overflow_add-rank c).After-eq in
    let d = c.args.set.now.declares in
    let g = granted-ranked d c.loop-place.invariant.0.ranked (settings_of c.args.settings) (task j) (goes j c.if-eq.true) in
    record { fits = omega (arith, g.ranked, rank_lt _ _ (ranked-grid d g), d.well_formed.grid) }

pub overflow_add-made : goal.overflow_add-made
overflow_add-made c = record { fits = omega (arith, fits c) }

pub with-requires : goal.with-requires
with-requires c =
    let j = goal.at.with-requires c in
    let s = c.loop-place.invariant.0.small (task j.After-eq) in
    let l = fits j.Joined-eq in
    (omega (arith, s.granted-small, l), omega (arith, s.busy-small, l), omega (arith, s.held_small, l), omega (arith, s.spent-small, l))

pub overflow_add-finished : goal.overflow_add-finished
overflow_add-finished c =
    record { fits = omega (arith, byte_small c.eq-in-loop-place.result, c.loop-place.invariant.0.few, fits (goal.at.overflow_add-finished c).Joined-eq) }

pub loop-place-preserved : goal.loop-place-preserved
unfolding answer_of
loop-place-preserved c =
    let j = (goal.at.loop-place-preserved c).After-eq in
    let a = c.args in
    let d = a.set.now.declares in
    let l = c.loop-place in
    let b = named c.match-kept-task.bid in
    let answered : answer-of j ≡ given b = sym (asked j).0 in
    -- the record, its rank and whether every task is finished, as the bid leaves them
    let q : (record_of c.if-eq.rec ≡ cond (is_granted (given b)) (grant a.settings.window (record_of l.rec) (task j)) (record_of l.rec))
    × Ranked (set_of a.set.now) a.map.now (record_of c.if-eq.rec) c.if-eq.rank
    × (c.if-eq.ended ≡ is_end (lengths_of (set_of a.set.now)) (state_in (set_of a.set.now) (record_of c.if-eq.rec)))
    × Keeps (bid_answer (set_of a.set.now) a.map.now (settings_of a.settings) (record_of c.if-eq.rec)) c.if-eq.kept =
    elim c.if-eq.branch [
      | then-eq w ↦
          (rw (w.rec-is, w.rank-is, w.ended-is, w.kept-is) (
            rw (says j ∙ w.if-eq.true) w.granted-rec.ensures,
            rw w.granted-rec.ensures (granted-ranked d l.invariant.0.ranked (settings_of a.settings) (task j) (goes j w.if-eq.true)),
            w.at_end-ended-then-eq.ensures _ _ d,
            keeps-none _,
          ))
      | else-eq w ↦
          (rw (w.rec-is, w.rank-is, w.ended-is, w.kept-is) (
            rw (says j ∙ w.if-eq.false),
            l.invariant.0.ranked,
            l.invariant.0.is-ended,
            (asked j).1,
          ))
    ] in (
      moves _ _ _ _ _ _ l.invariant.0 c.loop-test.true (omega (arith, c.loop-place-test.true)) (accepted d) c.if-ended.false b answered
          (record_of c.if-eq.rec) q.0 c.if-eq.rank q.1 c.if-eq.ended q.2 (task-of j)
          c.with.result c.with.ensures
          _ (ap (λ (n : ℕ). l.finished + n) (byte-cond c.eq-in-loop-place.result ∙ ap (λ x. cond x 1 0) (sym (says_finished (goal.at.loop-place-preserved c).After-eq-in-loop-place)))),
      q.3,
    )

pub loop-preserved : goal.loop-preserved
loop-preserved c =
    (next-lap _ _ _ _ _ _ c.loop-place.invariant.0 (omega arith), c.loop-place.invariant.1)

pub returns : goal.returns
unfolding answer_of
returns c = sym (over _ _ _ _ _ _ c.loop.invariant.0 (omega arith) refl)
