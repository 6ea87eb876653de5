-- What hosts are told, in the numbers that include/arbiter.h names: no answer is lost in them; of a set that is read they tell the grid.
use Rattle.std.specs.Prelude.{ℕ, ◌≡◌, List, replicate}
use Rattle.model.specs.Answer.{Answer, given, refused}
use Rattle.model.specs.Set.{Set, lengths_of, size}
use Rattle.model.specs.Broker.{Bid, granted, finished, share-spent, busy, held, Again, restarted}
use Rattle.model.specs.Trial.{Tally, Tried}
use Rattle.model.specs.Analysis.{Planned}
use Rattle.model.specs.StoredPlan.{Location, in-forbidden, in-unsafe, in_neither}
use Rattle.model.specs.Told.{
  Told,
  AnalysisTold,
  TrialTold,
  tell_reading,
  tell_analysis,
  tell_route,
  tell_bid,
  tell_again,
  tell_location,
  tell_cleaned,
  tell_trial,
  hear_analysis,
  hear_number,
  hear_bid,
  hear_again,
  hear_location,
  hear_trial,
}
use Rattle.demands.specs.Trials.{empty_row}

-- a kind, a refusal's number and a value
abbrev pub numbers : ℕ → ℕ → ℕ → Told
numbers k n v = record { kind = k; refusal = n; value = v }

-- of an analysis, with the quotient and the remainder beside them
abbrev pub analysis_numbers : ℕ → ℕ → ℕ → ℕ → ℕ → AnalysisTold
analysis_numbers k n v q r = record { answer = numbers k n v; quotient = q; remainder = r }

-- of a trial, with the rows and the bids answered Finished beside them
abbrev pub trial_numbers : ℕ → ℕ → ℕ → List Tally → ℕ → TrialTold
trial_numbers k n v rows f = record { answer = numbers k n v; rows = rows; finished = f }

pub record Hosts : Type 0 where
  -- a refusal of any call: kind 0, its number and its place, of an analysis with 0 and 0, and of a trial with eight rows of 0 and 0; an answer of zeros is no call's, since no refusal has number 0 (`Refusals`)
  pub of_refused : (n p : ℕ)
      → (tell_analysis (refused n p) ≡ analysis_numbers 0 n p 0 0)
      × (tell_route (refused n p) ≡ numbers 0 n p)
      × (tell_bid (refused n p) ≡ numbers 0 n p)
      × (tell_again (refused n p) ≡ numbers 0 n p)
      × (tell_location (refused n p) ≡ numbers 0 n p)
      × (tell_cleaned (refused n p) ≡ numbers 0 n p)
      × (tell_trial (refused n p) ≡ trial_numbers 0 n p (replicate 8 empty_row) 0)
  -- a value's kind is one call's alone
  pub of_planned : (p : Planned) → tell_analysis (given p) ≡ analysis_numbers 2 0 p.words p.quotient p.remainder
  pub of_routed : (n : ℕ) → tell_route (given n) ≡ numbers 3 0 n
  pub of_granted : tell_bid (given granted) ≡ numbers 4 0 0
  pub of_finished : tell_bid (given finished) ≡ numbers 5 0 0
  pub of_busy : (d : ℕ) → tell_bid (given (busy d)) ≡ numbers 6 0 d
  pub of_held : (r : ℕ) → tell_bid (given (held r)) ≡ numbers 7 0 r
  pub of_restarted : tell_again (given restarted) ≡ numbers 8 0 0
  pub of_forbidden : (i : ℕ) → tell_location (given (in-forbidden i)) ≡ numbers 9 0 i
  pub of_unsafe : (i : ℕ) → tell_location (given (in-unsafe i)) ≡ numbers 10 0 i
  pub of_neither : tell_location (given in_neither) ≡ numbers 11 0 0
  pub of-cleaned : (n : ℕ) → tell_cleaned (given n) ≡ numbers 12 0 n
  pub of_spent : tell_bid (given share-spent) ≡ numbers 13 0 0
  pub of_tried : (k : Tried) → tell_trial (given k) ≡ trial_numbers 14 0 k.made k.rows k.finished
  -- a set that is read is told with its grid, one that is refused as every refusal
  pub of_accepted : (s : Set) → tell_reading (given s) ≡ numbers 1 0 (size (lengths_of s))
  pub of_faulty : (n p : ℕ) → tell_reading (refused n p) ≡ numbers 0 n p
  -- a host hears every answer of an analysis, a route, a bid, an again, a question, the cleaner and a trial as it was given, so no two of them are told alike
  pub heard_told : ((a : Answer Planned) → hear_analysis (tell_analysis a) ≡ a)
      × ((a : Answer ℕ) → hear_number (tell_route a) ≡ a)
      × ((a : Answer Bid) → hear_bid (tell_bid a) ≡ a)
      × ((a : Answer Again) → hear_again (tell_again a) ≡ a)
      × ((a : Answer Location) → hear_location (tell_location a) ≡ a)
      × ((a : Answer ℕ) → hear_number (tell_cleaned a) ≡ a)
      × ((a : Answer Tried) → hear_trial (tell_trial a) ≡ a)
  pub told_apart : ((a b : Answer Planned) → tell_analysis a ≡ tell_analysis b → a ≡ b)
      × ((a b : Answer ℕ) → tell_route a ≡ tell_route b → a ≡ b)
      × ((a b : Answer Bid) → tell_bid a ≡ tell_bid b → a ≡ b)
      × ((a b : Answer Again) → tell_again a ≡ tell_again b → a ≡ b)
      × ((a b : Answer Location) → tell_location a ≡ tell_location b → a ≡ b)
      × ((a b : Answer ℕ) → tell_cleaned a ≡ tell_cleaned b → a ≡ b)
      × ((a b : Answer Tried) → tell_trial a ≡ tell_trial b → a ≡ b)
