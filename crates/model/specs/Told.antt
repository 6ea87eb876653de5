-- What hosts are told of the answers, in numbers (SCOPE.md, "Refusals"; include/arbiter.h names the kinds for C).
use Rattle.std.specs.Prelude.{ℕ, cond, List, replicate, eqb}
use Rattle.model.specs.Answer.{Answer, given, refused, ◌then◌, if_given}
use Rattle.model.specs.Set.{lengths_of, size}
use Rattle.model.specs.Read.{Reading}
use Rattle.model.specs.Analysis.{Planned}
use Rattle.model.specs.Broker.{Bid, granted, finished, share-spent, busy, held, Again, restarted}
use Rattle.model.specs.Trial.{Tally, Tried, no_bids}
use Rattle.model.specs.StoredPlan.{Location, in-forbidden, in-unsafe, in_neither}

-- the version of the library, 6.0.0: major times 10,000, minor times 100, patch
abbrev pub VERSION : ℕ
VERSION = 60000

-- a kind, a refusal's number and a value; 0 where there is none
pub record Told : Type 0 where
  pub kind : ℕ
  pub refusal : ℕ
  pub value : ℕ

-- a kind that has neither number nor value, and one with a value
abbrev plain : ℕ → Told
plain k = record { kind = k; refusal = 0; value = 0 }

abbrev valued : ℕ → ℕ → Told
valued k v = record { kind = k; refusal = 0; value = v }

-- an answer: a value as its call tells it; a refusal has kind 0, its number, and its place as the value
unfoldable pub tell : {A : Type 0} → (A → Told) → Answer A → Told
tell tells (given a) = tells a
tell tells (refused n p) = record { kind = 0; refusal = n; value = p }

-- each value of a bid by its kind
unfoldable pub bid_numbers : Bid → Told
bid_numbers granted = plain 4
bid_numbers finished = plain 5
bid_numbers (busy d) = valued 6 d
bid_numbers (held r) = valued 7 r
bid_numbers share-spent = plain 13

-- each value of a question to a stored plan
unfoldable pub location_numbers : Location → Told
location_numbers (in-forbidden i) = valued 9 i
location_numbers (in-unsafe i) = valued 10 i
location_numbers in_neither = plain 11

-- a set that is read: kind 1 with its grid
abbrev pub tell_reading : Reading → Told
tell_reading = tell (λ s. valued 1 (size (lengths_of s)))

-- what is told of an analysis: the answer, with the number of plan words, and beside it the quotient and the remainder, 0 and 0 where it is refused
pub record AnalysisTold : Type 0 where
  pub answer : Told
  pub quotient : ℕ
  pub remainder : ℕ

-- each of the three numbers of an accepted analysis in its place
abbrev pub tell_analysis : Answer Planned → AnalysisTold
tell_analysis a = record {
  answer = tell (λ p. valued 2 p.words) a;
  quotient = if_given a (λ p. p.quotient) 0;
  remainder = if_given a (λ p. p.remainder) 0;
}

-- a route, with its length
abbrev pub tell_route : Answer ℕ → Told
tell_route = tell (λ n. valued 3 n)

-- a bid and an again
abbrev pub tell_bid : Answer Bid → Told
tell_bid = tell bid_numbers

abbrev pub tell_again : Answer Again → Told
tell_again = tell (λ v. plain 8)

-- what is told of a trial: the answer, with the number of bids made, and beside it the rows and the bids answered Finished, all 0 where it is refused
pub record TrialTold : Type 0 where
  pub answer : Told
  pub rows : List Tally
  pub finished : ℕ

-- the answer alone
abbrev pub tell_made : Answer ℕ → Told
tell_made = tell (λ n. valued 14 n)

abbrev pub tell_trial : Answer Tried → TrialTold
tell_trial a = record {
  answer = tell_made (a then λ k. given k.made);
  rows = if_given a (λ k. k.rows) (replicate 8 no_bids);
  finished = if_given a (λ k. k.finished) 0;
}

-- a question to a stored plan, with the index of the box's first word
abbrev pub tell_location : Answer Location → Told
tell_location = tell location_numbers

-- the cleaner, with the number of words written
abbrev pub tell_cleaned : Answer ℕ → Told
tell_cleaned = tell (λ n. valued 12 n)

-- the merge, with the number of words written
abbrev pub tell_merged : Answer ℕ → Told
tell_merged = tell (λ n. valued 15 n)

-- how a host hears an answer: kind 0 as a refusal, any other kind as a value of the call that it made
unfoldable pub hear : {A : Type 0} → (Told → A) → Told → Answer A
hear hears a = cond (eqb a.kind 0) (refused a.refusal a.value) (given (hears a))

-- of a bid the kind tells which value
unfoldable pub bid_heard : Told → Bid
bid_heard a =
    cond (eqb a.kind 4) granted
    (cond (eqb a.kind 5) finished
    (cond (eqb a.kind 6) (busy a.value)
    (cond (eqb a.kind 7) (held a.value)
    share-spent)))

-- an analysis: the number, and the two beside it
abbrev pub hear_analysis : AnalysisTold → Answer Planned
hear_analysis t = hear (λ a. record { words = a.value; quotient = t.quotient; remainder = t.remainder }) t.answer

-- a route, the cleaner or the merge: the number
abbrev pub hear_number : Told → Answer ℕ
hear_number = hear (λ a. a.value)

-- a bid and an again
abbrev pub hear_bid : Told → Answer Bid
hear_bid = hear bid_heard

abbrev pub hear_again : Told → Answer Again
hear_again = hear (λ a. restarted)

-- a trial: the number, and what stands beside it
abbrev pub hear_trial : TrialTold → Answer Tried
hear_trial t = hear (λ a. record { made = a.value; rows = t.rows; finished = t.finished }) t.answer

-- of a question the kind tells which value
unfoldable pub location_heard : Told → Location
location_heard a =
    cond (eqb a.kind 9) (in-forbidden a.value)
    (cond (eqb a.kind 10) (in-unsafe a.value)
    in_neither)

abbrev pub hear_location : Told → Answer Location
hear_location = hear location_heard
