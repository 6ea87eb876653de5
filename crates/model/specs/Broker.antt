-- The broker (SCOPE.md, "Broker" and "Fair shares"; refusals 13, 16 to 19 and 26): bid, again, and lists of calls.
use Rattle.std.specs.Prelude.{ℕ, ◌+◌, ◌%◌, ◌<◌, Bool, true, false, not, cond, ◌&&◌, ◌||◌, ◌≡◌, length, set, replicate, eqb, ltb, leb}
use mathlib.Core.List.{List, [], ◌∷◌, ◌++◌, Memᴰ, map}
use Rattle.model.specs.Below.{any}
use Rattle.model.specs.Answer.{Answer, given, refused, ◌then◌, if_given}
use Rattle.model.specs.Set.{Set, device_of, lengths_of, action_at, at}
use Rattle.model.specs.State.{State, next, unfinished, is_end, sum, rank}
use Rattle.model.specs.Read.{read}
use Rattle.model.specs.Record.{Record, map_fits, placed}

-- the settings that a bid brings: each task's share of a window's grants, and how many grants a window has
pub record Settings : Type 0 where
  pub share : ℕ
  pub window : ℕ

-- what a bid answers: granted; the task is finished; its share is spent; the device is busy; held, with the next state's rank
pub data Bid : Type 0 where
  granted finished share-spent : Bid
  busy held : ℕ → Bid

-- what an again answers at the end
pub data Again : Type 0 where
  restarted : Again

-- what a call answers, and the record afterwards
pub record Served (A : Type 0) : Type 0 where
  pub answer : Answer A
  pub after : Record

-- the answer of a bid whose next state has rank r and byte b, and whose next action names device d
unfoldable pub bid_byte : ℕ → ℕ → ℕ → Answer Bid
bid_byte b r d =
    cond (ltb 3 b) (refused 18 r)
    (cond (eqb b 1) (given (busy d))
    (cond (eqb b 2 || eqb b 3) (given (held r))
    (given granted)))

-- the answer to task t in state x by set and map alone, before its share is looked at: the first that applies
unfoldable pub map_answer : Set → List ℕ → State → ℕ → Answer Bid
map_answer s m x t =
    let ls = lengths_of s in
    let y = next x t in
    cond (leb (length s.tasks) t) (refused 17 t)
    (cond (not (unfinished ls x t)) (given finished)
    (bid_byte (at m (rank ls y)) (rank ls y) (device_of (action_at s t (at x t)))))

-- whether a bid is answered Granted
unfoldable pub is_granted : Answer Bid → Bool
is_granted (given granted) = true
is_granted (given finished) = false
is_granted (given share-spent) = false
is_granted (given (busy d)) = false
is_granted (given (held r)) = false
is_granted (refused n p) = false

-- a bid of task t would be granted in state x
abbrev pub would_be_granted : Set → List ℕ → State → ℕ → Bool
would_be_granted s m x t = is_granted (map_answer s m x t)

-- a setting is 1 to 255
abbrev pub is_setting : ℕ → Bool
is_setting n = leb 1 n && leb n 255

-- 26: share or window outside 1 to 255; else the settings
unfoldable pub settled : Settings → Answer Settings
settled c = cond (is_setting c.share && is_setting c.window) (given c) (refused 26 0)

-- task t has share left: fewer grants in the present window than its share
abbrev pub share_left : Settings → Record → ℕ → Bool
share_left c r t = ltb (at r.counts t) c.share

-- another task than t, with share left, would be granted in the same state x
unfoldable pub other_goes : Set → List ℕ → Settings → Record → State → ℕ → Bool
other_goes s m c r x t = any (length s.tasks) (λ u. not (eqb u t) && (share_left c r u && would_be_granted s m x u))

-- a bid that would be granted is answered Share spent if its task has had its share or more and another with share left would be granted in the same state;
-- else the answer is by set and map
unfoldable pub shared_answer : Set → List ℕ → Settings → Record → State → ℕ → Answer Bid
shared_answer s m c r x t =
    cond (would_be_granted s m x t && (not (share_left c r t) && other_goes s m c r x t)) (given share-spent) (map_answer s m x t)

-- the window's grants are used up
abbrev pub used_up : ℕ → List ℕ → Bool
used_up window counts = leb window (sum counts)

-- the answer of a bid of task t on an accepted set and a map: the first that applies
unfoldable pub bid_answer : Set → List ℕ → Settings → Record → ℕ → Answer Bid
bid_answer s m c r t =
    map_fits s m then λ grid.
    settled c then λ settings.
    placed s r then λ x.
    cond (not (eqb (at m (rank (lengths_of s) x)) 0)) (refused 16 0)
    (cond (used_up c.window r.counts) (refused 16 0)
    (shared_answer s m c r x t))

-- the counts as a window keeps them: all 0 once its grants are used up
unfoldable pub in_window : ℕ → List ℕ → List ℕ
in_window window counts = cond (used_up window counts) (replicate 8 0) counts

-- a grant: that position rises by 1, the grant number by 1, FFFFFFFF being followed by 0, and the task's count by 1; if that
-- uses up the window's grants, all counts become 0
abbrev pub grant : ℕ → Record → ℕ → Record
grant window r t = record {
  positions = set r.positions t (at r.positions t + 1);
  grants = (r.grants + 1) % 0x100000000;
  counts = in_window window (set r.counts t (at r.counts t + 1));
}

-- without a grant nothing changes
abbrev pub answered : ℕ → Record → ℕ → Answer Bid → Served Bid
answered window r t a = record { answer = a; after = cond (is_granted a) (grant window r t) r }

-- a bid of task t with settings c: words and map are lent with the record
abbrev pub bid : List ℕ → List ℕ → Settings → Record → ℕ → Served Bid
bid words m c r t = answered c.window r t (read words then λ s. bid_answer s m c r t)

-- the answer of an again on an accepted set: 16, then 19 before the end
unfoldable pub again_answer : Set → Record → Answer Again
again_answer s r =
    placed s r then λ x.
    let ls = lengths_of s in
    cond (not (is_end ls x)) (refused 19 (rank ls x)) (given restarted)

-- at the end all positions become 0, the grant number stays, and the counts are cleared
abbrev pub restart : Record → Record
restart r = record { positions = replicate 8 0; grants = r.grants; counts = replicate 8 0 }

-- again takes the words and no map; a refused one changes nothing
abbrev pub again : List ℕ → Record → Served Again
again words r =
    let a = read words then λ s. again_answer s r in
    record { answer = a; after = if_given a (λ v. restart r) r }

-- a call of a list: a bid of a task, with settings of its own, or an again
pub data Call : Type 0 where
  bids : Settings → ℕ → Call
  agains : Call

-- settings that are kept throughout a list: each of its bids brings them
abbrev pub Keeps : Settings → List Call → Type 0
Keeps c cs = (d : Settings) (t : ℕ) → Memᴰ (bids d t) cs → d ≡ c

-- the record after a list of calls, each given the record as the last one left it, where `after_call` gives the record after one
unfoldable pub after_list : {R : Type 0} → (R → Call → R) → R → List Call → R
after_list after_call r [] = r
after_list after_call r (c ∷ cs) = after_list after_call (after_call r c) cs

-- how many calls of a list are granted, where `is_grant` tells of one call whether it is
unfoldable pub granted_in : {R : Type 0} → (R → Call → R) → (R → Call → Bool) → R → List Call → ℕ
granted_in after_call is_grant r [] = 0
granted_in after_call is_grant r (c ∷ cs) = cond (is_grant r c) 1 0 + granted_in after_call is_grant (after_call r c) cs

module _ (words m : List ℕ) where
  -- the record after a call on words and map
  unfoldable pub after_call : Record → Call → Record
  after_call r (bids c t) = (bid words m c r t).after
  after_call r agains = (again words r).after

  -- whether a call is answered Granted: no again is
  unfoldable pub is_grant : Record → Call → Bool
  is_grant r (bids c t) = is_granted (bid words m c r t).answer
  is_grant r agains = false

  -- the record after a list of calls on words and map
  abbrev pub after_calls : Record → List Call → Record
  after_calls = after_list after_call

  -- how many of them are answered Granted
  abbrev pub grant_count : Record → List Call → ℕ
  grant_count = granted_in after_call is_grant

-- a round: a list of bids that names each of n tasks at least once
abbrev pub IsRound : ℕ → List ℕ → Type 0
IsRound n ts = (t : ℕ) → t < n → Memᴰ t ts

-- the bids of a list of rounds, with settings c kept throughout
unfoldable pub round_calls : Settings → List (List ℕ) → List Call
round_calls c [] = []
round_calls c (r ∷ rs) = map (bids c) r ++ round_calls c rs
