-- SCOPE.md, "Trial": what a trial counts are the broker's own answers over its list of bids, cut where every task is finished. Stated over lists of calls.
use Rattle.std.specs.Prelude.{ℕ, ◌+◌, ◌*◌, ◌<◌, ◌≤◌, ◌≡◌, ◌⊎◌, ◌&&◌, length, get_or, take, replicate, eqb}
use mathlib.Core.List.{List, [], ◌∷◌, ◌++◌, map, flatten}
use Rattle.model.specs.Answer.{Answer, given, refused}
use Rattle.model.specs.Below.{tabulate}
use Rattle.model.specs.Set.{Set, lengths_of, task_at, at, size}
use Rattle.model.specs.State.{sum}
use Rattle.model.specs.Read.{read}
use Rattle.model.specs.Analysis.{analyse}
use Rattle.model.specs.Record.{Record, fresh, state_in}
use Rattle.model.specs.Broker.{Settings, Bid, granted, finished, share-spent, busy, held, bid, bids, after_calls, IsRound}
use Rattle.model.specs.Trial.{Tally, Tried, trial}
use Rattle.demands.specs.Terms.{how_many}
use Rattle.demands.specs.Calls.{Allowed}

-- the column that an answer is counted in: those of a row in their order, and 4 for Finished, which no row has; a refusal is counted in none
unfoldable pub column : Answer Bid → ℕ
column (given granted) = 0
column (given (busy d)) = 1
column (given (held r)) = 2
column (given share-spent) = 3
column (given finished) = 4
column (refused n p) = 5

-- no bid
abbrev pub empty_row : Tally
empty_row = record { granted = 0; busy = 0; held = 0; share-spent = 0 }

-- the row of task t
abbrev pub row_of : Tried → ℕ → Tally
row_of k t = get_or k.rows t empty_row

-- the four numbers of a row together
abbrev pub together : Tally → ℕ
together k = k.granted + k.busy + k.held + k.share-spent

-- on words and map, from a fresh record, these tasks bid one after another, each with settings c
module _ (words m : List ℕ) (c : Settings) (ts : List ℕ) where
  -- the record before the i-th of them, as the bids before it left it
  abbrev pub record_before : ℕ → Record
  record_before i = after_calls words m fresh (map (bids c) (take i ts))

  -- what that one is answered
  abbrev pub answer_to : ℕ → Answer Bid
  answer_to i = (bid words m c (record_before i) (at ts i)).answer

  -- how many bids of task t are answered in column j
  abbrev pub answered_in : ℕ → ℕ → ℕ
  answered_in j t = how_many (length ts) (λ i. eqb (at ts i) t && eqb (column (answer_to i)) j)

  -- all that is counted of them: each task's answers in its own row, and beside the rows the bids answered Finished, of whichever task
  abbrev pub counts_of : Tried
  counts_of = record {
    made = length ts;
    rows = tabulate 8 (λ t. record { granted = answered_in 0 t; busy = answered_in 1 t; held = answered_in 2 t; share-spent = answered_in 3 t });
    finished = how_many (length ts) (λ i. eqb (column (answer_to i)) 4);
  }

-- an order of tasks of a set s
module _ (s : Set) (order : List ℕ) where
  -- a place of the order that names an absent task, or is the 256th or a later one
  abbrev pub Faulty : ℕ → Type 0
  Faulty i = (length s.tasks ≤ at order i) ⊎ (255 ≤ i)

  -- the first faulty place of an order, 0 where it is empty
  abbrev pub FirstFaulty : ℕ → Type 0
  FirstFaulty i = ((order ≡ []) × (i ≡ 0)) ⊎ ((i < length order) × Faulty i × ((j : ℕ) → j < i → Faulty j → ⊥))

  -- a right order: 1 to 255 tasks of the set
  abbrev pub IsRight : Type 0
  IsRight = (1 ≤ length order) × (length order ≤ 255) × ((i : ℕ) → i < length order → at order i < length s.tasks)

-- a trial of settings c on the words of a set s and a map, with an order of tasks and a number of rounds
module _ (words m : List ℕ) (s : Set) (order : List ℕ) (rounds : ℕ) (c : Settings) where
  -- all bids: the order, round after round
  abbrev pub all_bids : List ℕ
  all_bids = flatten (replicate rounds order)

  -- after the bids of these tasks every task is finished
  abbrev pub AllFinished : List ℕ → Type 0
  AllFinished ts = state_in s (after_calls words m fresh (map (bids c) ts)) ≡ lengths_of s

  -- ts bid first and `later` would after them; before each of ts some task is unfinished, and each of them is answered with a value
  pub record BidSoFar (ts later : List ℕ) : Type 0 where
    pub listed : ts ++ later ≡ all_bids
    pub not_finished : (i : ℕ) → i < length ts → AllFinished (take i ts) → ⊥
    pub answered : (i : ℕ) → i < length ts → (b : Bid) × (answer_to words m c ts i ≡ given b)

  -- and there the trial ends with an answer: all have bid; or every task is finished; or the next bid is refused
  pub data Ends (ts : List ℕ) : List ℕ → Answer Tried → Type 0 where
    all_bid : Ends ts [] (given (counts_of words m c ts))
    all_finished : (later : List ℕ) → AllFinished ts → Ends ts later (given (counts_of words m c ts))
    next_refused : (t : ℕ) (later : List ℕ) (n p : ℕ) → (AllFinished ts → ⊥) → (bid words m c (after_calls words m fresh (map (bids c) ts)) t).answer ≡ refused n p
        → Ends ts (t ∷ later) (refused n p)

  -- on an accepted set: the first refusal that applies, else the bids
  pub record OfTrial : Type 0 where
    pub map_short : length m < size (lengths_of s) → trial words m order rounds c ≡ refused 13 (size (lengths_of s))
    pub bad_setting : size (lengths_of s) ≤ length m → (Allowed c → ⊥) → trial words m order rounds c ≡ refused 26 0
    pub bad_order : size (lengths_of s) ≤ length m → Allowed c → (i : ℕ) → FirstFaulty s order i → trial words m order rounds c ≡ refused 27 i
    -- else the bids, cut where the trial ends: only one such ts fits, since a longer one has a bid after that, and a shorter one doesn't end
    pub tries : size (lengths_of s) ≤ length m → Allowed c → IsRight s order
        → (ts later : List ℕ) × BidSoFar ts later × Ends ts later (trial words m order rounds c)

  -- a trial that isn't refused
  pub record OfTried (k : Tried) : Type 0 where
    -- what is counted are the answers to as many bids of the list as are made, before each of which some task is unfinished
    pub counted : k ≡ counts_of words m c (take k.made all_bids)
    pub no_sooner : (i : ℕ) → i < k.made → AllFinished (take i all_bids) → ⊥
    -- the numbers of the rows and the Finished ones together are the bids made
    pub adds_up : sum (map together k.rows) + k.finished ≡ k.made
    -- at most the rounds times the order's length, and fewer only if every task is finished
    pub at_most : k.made ≤ rounds * length order
    pub fewer : k.made < rounds * length order → AllFinished (take k.made all_bids)
    -- a task's granted is its position after the bids made, so it is its action count exactly if the task is finished
    pub position : (t : ℕ) → t < length s.tasks → (row_of k t).granted ≡ at (state_in s (after_calls words m fresh (map (bids c) (take k.made all_bids)))) t
    -- eight rows, those of absent tasks 0
    pub eight : length k.rows ≡ 8
    pub absent : (t : ℕ) → length s.tasks ≤ t → row_of k t ≡ empty_row

  -- on the set's own map, with settings that are allowed and a right order: never refused
  pub record OfOwnMap : Type 0 where
    pub tried : (k : Tried) × (trial words m order rounds c ≡ given k)
    -- with an order that names every task, and as many rounds as the set has actions or more, every task is finished, and each task's granted is its action count
    pub goes_home : IsRound (length s.tasks) order → sum (lengths_of s) ≤ rounds → (k : Tried) → trial words m order rounds c ≡ given k
        → AllFinished (take k.made all_bids) × ((t : ℕ) → t < length s.tasks → (row_of k t).granted ≡ length (task_at s t))

pub record Trials : Type 0 where
  -- an order is right or has a first faulty place
  pub right_or_faulty : (s : Set) (order : List ℕ) → IsRight s order ⊎ ((i : ℕ) × FirstFaulty s order i)
  -- a refused set: its refusal
  pub faults : (words m order : List ℕ) (rounds : ℕ) (c : Settings) (n p : ℕ) → read words ≡ refused n p → trial words m order rounds c ≡ refused n p
  pub trials_right : (words : List ℕ) (s : Set) → read words ≡ given s → (m order : List ℕ) (rounds : ℕ) (c : Settings) → OfTrial words m s order rounds c
  pub trials_count : (words : List ℕ) (s : Set) → read words ≡ given s → (m order : List ℕ) (rounds : ℕ) (c : Settings) (k : Tried)
      → trial words m order rounds c ≡ given k → OfTried words m s order rounds c k
  -- without rounds, and on a set without actions, no bid is made: so nothing is counted, whatever the map's bytes
  pub no-bids : (words : List ℕ) (s : Set) → read words ≡ given s → (m order : List ℕ) (rounds : ℕ) (c : Settings) → size (lengths_of s) ≤ length m → Allowed c
      → IsRight s order → (rounds ≡ 0) ⊎ (sum (lengths_of s) ≡ 0)
      → trial words m order rounds c ≡ given (record { made = 0; rows = replicate 8 empty_row; finished = 0 })
  -- for all words that read as a set and a map slice with room for its map
  pub own_map : (words map plan : List ℕ) (s : Set) → read words ≡ given s → size (lengths_of s) ≤ length map → (order : List ℕ) (rounds : ℕ) (c : Settings) → Allowed c
      → IsRight s order → OfOwnMap words (analyse words map plan).map s order rounds c
