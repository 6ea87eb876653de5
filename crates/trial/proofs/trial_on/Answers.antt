-- `trial::trial_on` meets its contract: each answer is the definition's, by the law for its case.
use borrow.Author.Tests.{ltb-true, ltb-false}
use Prim.Native.Nat.{◌≤◌}
use native.Mathlib.Omega.{arith}
use mathlib.Core.Path.{◌≡◌, refl, sym, ap, ◌∙◌}
use mathlib.Core.Bool.{true, false, ◌&&◌}
use lib.ListN.{length}
use lib.Dec.{ltb}
use Rattle.model.specs.Set.{lengths_of, size}
use Rattle.model.specs.Broker.{is_setting}
use Rattle.model.proofs.Bools.{by_bool}
use Rattle.refusals.specs.Answers.{number_of, answer_of}
use Rattle.shape.specs.SetOf.{set_of}
use Rattle.shape.proofs.Declared.{grid-is, tasks-are}
use Rattle.broker.specs.Says.{settings_of}
use Rattle.trial.proofs.TrialCases.{fault_in, some_fault, no_fault, short, bad_setting, empty-order, bad_order, right-order, names-task, few-places}
use Rattle.trial.proofs.trial_on.Goals.{After-first_fault, Else-not-allowed, Else-too_short}
use Rattle.trial.proofs.trial_on.Goals as goal

-- where the map has room
roomy : (c : Else-too_short) → ltb (length c.args.map.now) (size (lengths_of (set_of c.args.set.now))) ≡ false
roomy c = sym (c.too_short.ensures _ _ c.args.set.now.declares) ∙ c.if-too_short.false

-- and the settings are allowed
allowed : (c : Else-not-allowed) → (is_setting c.args.settings.share && is_setting c.args.settings.window) ≡ true
allowed c = sym c.allowed.ensures ∙ c.if-not-allowed.false

-- the first faulty place, by the set's own count of tasks
first : (c : After-first_fault) → c.first_fault.result ≡ fault_in c.args.order.now (length (set_of c.args.set.now).tasks)
first c = c.first_fault.ensures ∙ ap (fault_in c.args.order.now) (tasks-are c.args.set.now.declares)

pub returns-then-too_short : goal.returns-then-too_short
unfolding answer_of number_of
returns-then-too_short c =
    let d = c.args.set.now.declares in
    rw c.at.ensures (short _ _ _ _ _ _ (sym (c.too_short.ensures _ _ d) ∙ c.if-too_short.true) _ (grid-is d))

pub returns-then-not-allowed : goal.returns-then-not-allowed
unfolding answer_of number_of
returns-then-not-allowed c =
    rw c.at-then-not-allowed.ensures (bad_setting _ _ _ _ _ _ (roomy (goal.at.returns-then-not-allowed c).Else-too_short) (sym c.allowed.ensures ∙ c.if-not-allowed.true))

pub returns-then-order-eq0 : goal.returns-then-order-eq0
unfolding answer_of number_of
returns-then-order-eq0 c =
    let j = goal.at.returns-then-order-eq0 c in
    rw c.at-then-order-eq0.ensures (empty-order _ _ _ _ _ _ (roomy j.Else-too_short) (allowed j.Else-not-allowed) c.if-order-eq0.true)

pub returns-in-Some : goal.returns-in-Some
unfolding answer_of number_of
returns-in-Some c =
    let j = goal.at.returns-in-Some c in
    let f = some_fault _ _ c.in-Some.place (sym c.in-Some.is ∙ first j.After-first_fault) in
    rw c.at-in-Some.ensures (bad_order _ _ _ _ _ _ (roomy j.Else-too_short) (allowed j.Else-not-allowed) _ f.0 c.if-order-eq0.false f.1)

-- an order without a faulty place has at most 255 of them, and each names a task
pub bid_rounds-requires : goal.bid_rounds-requires
bid_rounds-requires c =
    let j = goal.at.bid_rounds-requires c in
    let a = c.args in
    let room = roomy j.Else-too_short in
    let right = allowed j.Else-not-allowed in
    let none = no_fault _ _ (sym c.in_default.is ∙ first j.After-first_fault) in
    let n = length a.order.now in
    let i = few-places a.set.now.words.now a.map.now a.order.now a.rounds (settings_of a.settings) (set_of a.set.now) room right _ refl c.if-order-eq0.false none in
    let few : n ≤ 255 = by_bool (ltb 255 n) (λ e. absurd (omega (arith, i 255 (ltb-true 255 n e)))) (λ e. ltb-false 255 n e) in
    let names = names-task a.set.now.words.now a.map.now a.order.now a.rounds (settings_of a.settings) (set_of a.set.now) room right _ refl c.if-order-eq0.false none in
    record {
      map_fits = room;
      allowed = right;
      order_fits = (omega (arith, c.if-order-eq0.false), few, λ i h. omega (arith, names i h, tasks-are a.set.now.declares));
    }

pub returns : goal.returns
returns c =
    let j = goal.at.returns c in
    let none = no_fault _ _ (sym c.in_default.is ∙ first j.After-first_fault) in
    c.bid_rounds.ensures ∙ right-order _ _ _ _ _ _ (roomy j.Else-too_short) (allowed j.Else-not-allowed) _ refl c.if-order-eq0.false none
