-- A bid that is answered otherwise than Granted, or refused.
use mathlib.Core.Path.{◌≡◌, refl, ap}
use mathlib.Core.Bool.{false}
use Rattle.std.specs.Prelude.{Result, Ok, Err}
use Rattle.model.specs.Broker.{is_granted}
use Rattle.refusals.specs.declared.Refusal.{Refusal}
use Rattle.refusals.specs.Answers.{answer_of}
use Rattle.broker.specs.declared.answers.Bid.{Bid}
use Rattle.broker.specs.declared.answers.Bid.TheVariants.{Granted, Finished, ShareSpent, Busy, Held}
use Rattle.broker.specs.Says.{named, bid_of}

pub not-granted : (b : Bid) → (b ≡ Granted → ⊥) → is_granted (bid_of (Ok b)) ≡ false
unfolding is_granted answer_of named
not-granted Granted other = absurd (other refl)
not-granted Finished other = refl
not-granted ShareSpent other = refl
not-granted (Busy d) other = refl
not-granted (Held r) other = refl

pub not_granted_or_refused : (a : Result Bid Refusal) → (a ≡ Ok Granted → ⊥) → is_granted (bid_of a) ≡ false
unfolding is_granted answer_of
not_granted_or_refused (Ok b) other = not-granted b (λ q. other (ap Ok q))
not_granted_or_refused (Err r) other = refl
