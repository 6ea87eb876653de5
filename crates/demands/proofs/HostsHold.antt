-- A host hears what was told.
use Prim.Native.Nat.{ℕ}
use mathlib.Core.Path.{◌≡◌, refl, sym, ap, ◌∙◌}
use Rattle.model.specs.Answer.{Answer, given, refused, ◌then◌, if_given}
use Rattle.model.specs.Broker.{Bid, granted, finished, share-spent, busy, held, Again, restarted}
use Rattle.model.specs.Trial.{Tried}
use Rattle.model.specs.Analysis.{Planned}
use Rattle.model.specs.StoredPlan.{Location, in-forbidden, in-unsafe, in_neither}
use Rattle.model.specs.Told.{
  tell,
  bid_numbers,
  location_numbers,
  tell_analysis,
  tell_route,
  tell_bid,
  tell_again,
  tell_location,
  tell_cleaned,
  tell_trial,
  hear,
  bid_heard,
  location_heard,
  hear_analysis,
  hear_number,
  hear_bid,
  hear_again,
  hear_location,
  hear_trial,
}
use Rattle.demands.specs.Hosts.{Hosts}

hears-analysis : (a : Answer Planned) → hear_analysis (tell_analysis a) ≡ a
unfolding tell if_given hear
hears-analysis (given p) = refl
hears-analysis (refused n p) = refl

hears-route : (a : Answer ℕ) → hear_number (tell_route a) ≡ a
unfolding tell hear
hears-route (given n) = refl
hears-route (refused n p) = refl

hears-cleaned : (a : Answer ℕ) → hear_number (tell_cleaned a) ≡ a
unfolding tell hear
hears-cleaned (given n) = refl
hears-cleaned (refused n p) = refl

hears-trial : (a : Answer Tried) → hear_trial (tell_trial a) ≡ a
unfolding tell if_given hear ◌then◌
hears-trial (given k) = refl
hears-trial (refused n p) = refl

hears-bid : (a : Answer Bid) → hear_bid (tell_bid a) ≡ a
unfolding tell hear bid_numbers bid_heard
hears-bid (given granted) = refl
hears-bid (given finished) = refl
hears-bid (given share-spent) = refl
hears-bid (given (busy d)) = refl
hears-bid (given (held r)) = refl
hears-bid (refused n p) = refl

hears-again : (a : Answer Again) → hear_again (tell_again a) ≡ a
unfolding tell hear
hears-again (given restarted) = refl
hears-again (refused n p) = refl

hears-location : (a : Answer Location) → hear_location (tell_location a) ≡ a
unfolding tell hear location_numbers location_heard
hears-location (given (in-forbidden i)) = refl
hears-location (given (in-unsafe i)) = refl
hears-location (given in_neither) = refl
hears-location (refused n p) = refl

-- what is heard as it was told is told apart
apart : {A T : Type 0} (tells : A → T) (hears : T → A) → ((a : A) → hears (tells a) ≡ a) → (a b : A) → tells a ≡ tells b → a ≡ b
apart tells hears same a b e = sym (same a) ∙ ap hears e ∙ same b

pub hosts-hold : Hosts
unfolding tell if_given bid_numbers location_numbers ◌then◌
hosts-hold = record {
  of_refused = λ n p. (refl, refl, refl, refl, refl, refl, refl);
  of_planned = λ p. refl;
  of_routed = λ n. refl;
  of_granted = refl;
  of_finished = refl;
  of_busy = λ d. refl;
  of_held = λ r. refl;
  of_restarted = refl;
  of_forbidden = λ i. refl;
  of_unsafe = λ i. refl;
  of_neither = refl;
  of_spent = refl;
  of_tried = λ k. refl;
  of-cleaned = λ n. refl;
  of_accepted = λ s. refl;
  of_faulty = λ n p. refl;
  heard_told = (hears-analysis, hears-route, hears-bid, hears-again, hears-location, hears-cleaned, hears-trial);
  told_apart = (
    apart tell_analysis hear_analysis hears-analysis,
    apart tell_route hear_number hears-route,
    apart tell_bid hear_bid hears-bid,
    apart tell_again hear_again hears-again,
    apart tell_location hear_location hears-location,
    apart tell_cleaned hear_number hears-cleaned,
    apart tell_trial hear_trial hears-trial,
  );
}
