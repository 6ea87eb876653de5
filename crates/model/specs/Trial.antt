-- Trying settings before a shift (SCOPE.md, "Trial"; refusals 13, 26 and 27, and a bid's 16 and 18).
use Rattle.std.specs.Prelude.{ℕ, ◌+◌, Bool, true, false, cond, ◌||◌, length, get_or, set, replicate, eqb, ltb, leb}
use mathlib.Core.List.{List, [], ◌∷◌, flatten}
use Rattle.model.specs.Below.{lowest}
use Rattle.model.specs.Answer.{Answer, given, refused, ◌then◌}
use Rattle.model.specs.Set.{Set, lengths_of, at}
use Rattle.model.specs.State.{is_end}
use Rattle.model.specs.Read.{read}
use Rattle.model.specs.Record.{Record, fresh, state_in, map_fits}
use Rattle.model.specs.Broker.{Settings, settled, Bid, granted, finished, share-spent, busy, held, bid}

-- a task's row: how many of its bids were answered Granted, Busy, Held and Share spent
pub record Tally : Type 0 where
  pub granted : ℕ
  pub busy : ℕ
  pub held : ℕ
  pub share-spent : ℕ

-- what a trial counts: its bids, a row for each of eight tasks, and the bids answered Finished
pub record Tried : Type 0 where
  pub made : ℕ
  pub rows : List Tally
  pub finished : ℕ

-- no bid of a task, and none at all
abbrev pub no_bids : Tally
no_bids = record { granted = 0; busy = 0; held = 0; share-spent = 0 }

abbrev pub untried : Tried
untried = record { made = 0; rows = replicate 8 no_bids; finished = 0 }

-- a row with one more answer of its task: Finished has no place in it
unfoldable pub row_with : Bid → Tally → Tally
row_with granted k = record { granted = k.granted + 1; busy = k.busy; held = k.held; share-spent = k.share-spent }
row_with (busy d) k = record { granted = k.granted; busy = k.busy + 1; held = k.held; share-spent = k.share-spent }
row_with (held r) k = record { granted = k.granted; busy = k.busy; held = k.held + 1; share-spent = k.share-spent }
row_with share-spent k = record { granted = k.granted; busy = k.busy; held = k.held; share-spent = k.share-spent + 1 }
row_with finished k = k

-- whether a bid is answered Finished
unfoldable pub is_finished : Bid → Bool
is_finished finished = true
is_finished granted = false
is_finished share-spent = false
is_finished (busy d) = false
is_finished (held r) = false

-- one more bid is made, of task t and answered b
abbrev pub counted : Tried → ℕ → Bid → Tried
counted k t b = record {
  made = k.made + 1;
  rows = set k.rows t (row_with b (get_or k.rows t no_bids));
  finished = k.finished + cond (is_finished b) 1 0;
}

-- a place of an order that names none of n tasks, or is past the 255 that an order may have
abbrev pub faulty : ℕ → List ℕ → ℕ → Bool
faulty n order i = leb 255 i || leb n (at order i)

-- 27: an empty order, at place 0; else the first faulty place; else the order
unfoldable pub ordered : Set → List ℕ → Answer (List ℕ)
ordered s order =
    let place = lowest (length order) (faulty (length s.tasks) order) in
    cond (eqb (length order) 0 || ltb place (length order)) (refused 27 place) (given order)

-- the tasks that bid: down the order, round after round
abbrev pub rounds_of : List ℕ → ℕ → List ℕ
rounds_of order rounds = flatten (replicate rounds order)

-- on words and map, with settings c throughout: from record r on these tasks bid, until every task of s is finished, which is looked at before each bid, or one is
-- refused; k is what was counted before
unfoldable pub try_from : List ℕ → List ℕ → Settings → Set → Tried → Record → List ℕ → Answer Tried
try_from words m c s k r [] = given k
try_from words m c s k r (t ∷ ts) =
    cond (is_end (lengths_of s) (state_in s r)) (given k)
    ((bid words m c r t).answer then λ b. try_from words m c s (counted k t b) (bid words m c r t).after ts)

-- a trial on an accepted set, whose words are these: the first refusal that applies, else the answers of a fresh broker, counted
unfoldable pub trial_on : List ℕ → List ℕ → List ℕ → ℕ → Settings → Set → Answer Tried
trial_on words m order rounds c s =
    map_fits s m then λ grid.
    settled c then λ settings.
    ordered s order then λ right.
    try_from words m c s untried fresh (rounds_of order rounds)

-- a trial of settings c: words, map and order are lent
abbrev pub trial : List ℕ → List ℕ → List ℕ → ℕ → Settings → Answer Tried
trial words m order rounds c = read words then trial_on words m order rounds c
