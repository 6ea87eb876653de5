-- `broker::bid` meets its contract: the record moves exactly if the answer is Granted.
use borrow.Author.Rules.{rules}
use mathlib.Core.Path.{◌≡◌, sym, ap, ◌∙◌}
use mathlib.Core.Bool.{true}
use Rattle.std.specs.Prelude.{Ok}
use Rattle.model.specs.Broker.{is_granted}
use Rattle.refusals.specs.Answers.{answer_of}
use Rattle.broker.specs.declared.answers.Bid.TheVariants.{Granted}
use Rattle.broker.specs.Says.{named, bid_of}
use Rattle.broker.proofs.Granted.{not_granted_or_refused}
use Rattle.broker.proofs.BidCases.{granted-left}
use Rattle.broker.proofs.bid.Goals.{After-eq}
use Rattle.broker.proofs.bid.Goals as goal

is : (c : After-eq) → c.eq.result ≡ true → c.answer-answer.result ≡ Ok Granted
is c granted = search (rules, c.eq.ensures, granted)

pub granted-after-requires : goal.granted-after-requires
unfolding answer_of named
granted-after-requires c =
    granted-left _ _ _ _ _ (sym c.answer-answer.ensures ∙ ap bid_of (is (goal.at.granted-after-requires c).After-eq c.if-eq.true))

pub returns-then-eq : goal.returns-then-eq
unfolding is_granted answer_of named
returns-then-eq c =
    rw (← c.answer-answer.ensures, is (goal.at.returns-then-eq c).After-eq c.if-eq.true, c.granted-after.ensures)

pub returns-else-eq : goal.returns-else-eq
returns-else-eq c =
    let other : c.answer-answer.result ≡ Ok Granted → ⊥ = λ q. search (rules, q, c.if-eq.ensures) in
    rw (← c.answer-answer.ensures, not_granted_or_refused _ other)
