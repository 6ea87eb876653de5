-- SCOPE.md, "Broker", "Fair shares" and "Route": bid, again and route on any map, record and settings. For each case of the answer when it comes, with the record or
-- slice afterwards; the cases of a call are all there are. Then lists of calls.
use Rattle.std.specs.Prelude.{ℕ, ◌+◌, ◌%◌, ◌<◌, ◌≤◌, ◌≡◌, ◌↔◌, ◌⊎◌, length, drop, set, replicate}
use mathlib.Core.List.{List, [], ◌∷◌, ◌++◌, map, flatten, Memᴰ}
use Rattle.model.specs.Answer.{Answer, given, refused}
use Rattle.model.specs.Set.{Action, release, Set, lengths_of, task_at, action_at, at, size}
use Rattle.model.specs.State.{State, next, sum, rank}
use Rattle.model.specs.Read.{read}
use Rattle.model.specs.Analysis.{analyse}
use Rattle.model.specs.Record.{Record, fresh, state_in}
use Rattle.model.specs.Broker.{
  Settings,
  restarted,
  granted,
  finished,
  share-spent,
  busy,
  held,
  Served,
  bid,
  again,
  Call,
  bids,
  agains,
  Keeps,
  after_call,
  after_calls,
  grant_count,
  IsRound,
  round_calls,
}
use Rattle.model.specs.Route.{Routed, route}
use Rattle.demands.specs.Terms.{Claims}

-- an answer that leaves the record as it was
abbrev pub unchanged : {A : Type 0} → Answer A → Record → Served A
unchanged a r = record { answer = a; after = r }

-- a refused route fills its slice with 255
abbrev pub no_route : ℕ → ℕ → List ℕ → Routed
no_route n p slice = record { answer = refused n p; route = replicate (length slice) 255 }

-- a refused set: every call answers the reader's number and place; slices and record stay, but a route's slice is filled
pub record OfFaulty (words : List ℕ) (n p : ℕ) : Type 0 where
  pub analyses : (map plan : List ℕ) → analyse words map plan ≡ record { answer = refused n p; map = map; plan = plan }
  pub bids_refused : (m : List ℕ) (c : Settings) (r : Record) (t : ℕ) → bid words m c r t ≡ unchanged (refused n p) r
  pub agains_refused : (r : Record) → again words r ≡ unchanged (refused n p) r
  pub routes : (m : List ℕ) (r : Record) (slice : List ℕ) → route words m r slice ≡ no_route n p slice

-- settings that a bid may bring: share and window from 1 to 255
abbrev pub Allowed : Settings → Type 0
Allowed c = ((1 ≤ c.share) × (c.share ≤ 255)) × ((1 ≤ c.window) × (c.window ≤ 255))

-- an action names a device, whatever its units
abbrev pub Names : Action → ℕ → Type 0
Names a d = Claims a d ⊎ (a ≡ release d)

module _ (s : Set) (m : List ℕ) where
  -- the byte that a map has for a state
  abbrev pub byte_of : State → ℕ
  byte_of y = at m (rank (lengths_of s) y)

  -- task t is the smallest whose step from y lands on byte 0
  pub record IsSmallest (y : State) (t : ℕ) : Type 0 where
    pub left : at y t < at (lengths_of s) t
    pub lands : byte_of (next y t) ≡ 0
    pub none_smaller : (u : ℕ) → u < t → at y u < at (lengths_of s) u → byte_of (next y u) ≡ 0 → ⊥

  -- the walk from one state to another: always the smallest task whose step lands on byte 0, until no step does
  pub data Walk : State → List ℕ → State → Type 0 where
    stops : {y : State} → ((t : ℕ) → at y t < at (lengths_of s) t → byte_of (next y t) ≡ 0 → ⊥) → Walk y [] y
    goes : {y z : State} {ts : List ℕ} (t : ℕ) → IsSmallest y t → Walk (next y t) ts z → Walk y (t ∷ ts) z

module _ (s : Set) (r : Record) where
  -- the record's state: the positions of the set's tasks
  pub record OfState : Type 0 where
    pub count : length (state_in s r) ≡ length s.tasks
    pub positions : (t : ℕ) → t < length s.tasks → at (state_in s r) t ≡ at r.positions t

  -- a record that doesn't fit the set: a position over its L, or a position or a count that is not 0 for an absent task
  abbrev pub Unfit : Type 0
  Unfit =
      ((t : ℕ) × (t < length s.tasks) × (length (task_at s t) < at r.positions t))
      ⊎ (((t : ℕ) × (length s.tasks ≤ t) × (t < 8) × (at r.positions t ≡ 0 → ⊥))
      ⊎ ((t : ℕ) × (length s.tasks ≤ t) × (t < 8) × (at r.counts t ≡ 0 → ⊥)))

  module _ (m : List ℕ) where
    -- a map m has room, the record fits the set, and its own byte is 0
    abbrev pub Ready : Type 0
    Ready = (size (lengths_of s) ≤ length m) × (Unfit → ⊥) × (byte_of s m (state_in s r) ≡ 0)

    -- for a bid besides: the settings are allowed, and the counts together are below the window
    abbrev pub ReadyFor : Settings → Type 0
    ReadyFor c = Ready × Allowed c × (sum r.counts < c.window)

    -- a task that would be granted: it has an action left, and its next state's byte is 0
    abbrev pub WouldGo : ℕ → Type 0
    WouldGo t = (at (state_in s r) t < length (task_at s t)) × (byte_of s m (next (state_in s r) t) ≡ 0)

    -- another task than t that has share left and would be granted
    abbrev pub OtherGoes : Settings → ℕ → Type 0
    OtherGoes c t = (u : ℕ) × (u ≡ t → ⊥) × (at r.counts u < c.share) × WouldGo u

-- the record r after a grant to task t that leaves these counts: that position rises by 1 and the grant number by 1, FFFFFFFF being followed by 0
abbrev pub moved : Record → ℕ → List ℕ → Record
moved r t counts = record { positions = set r.positions t (at r.positions t + 1); grants = (r.grants + 1) % 0x100000000; counts = counts }

-- on the words of an accepted set s and a record r of eight positions, for a bid of eight counts
module _ (words : List ℕ) (s : Set) (r : Record) where
  -- the record's state
  abbrev x : State
  x = state_in s r

  -- again looks at no settings
  pub record OfAgain : Type 0 where
    pub bad_record : Unfit s r → again words r ≡ unchanged (refused 16 0) r
    pub not_ended : (Unfit s r → ⊥) → (x ≡ lengths_of s → ⊥) → again words r ≡ unchanged (refused 19 (rank (lengths_of s) x)) r
    -- at the end all positions become 0, the grant number stays, and the counts are cleared
    pub at-end : x ≡ lengths_of s → (Unfit s r → ⊥)
        → again words r
        ≡ record { answer = given restarted; after = record { positions = replicate 8 0; grants = r.grants; counts = replicate 8 0 } }

  module _ (m : List ℕ) where
    -- a bid of task t with settings c
    pub record OfBid (c : Settings) (t : ℕ) : Type 0 where
      pub map_short : length m < size (lengths_of s) → bid words m c r t ≡ unchanged (refused 13 (size (lengths_of s))) r
      pub bad_setting : size (lengths_of s) ≤ length m → (Allowed c → ⊥) → bid words m c r t ≡ unchanged (refused 26 0) r
      pub bad_record : size (lengths_of s) ≤ length m → Allowed c → Unfit s r ⊎ ((byte_of s m x ≡ 0 → ⊥) ⊎ (c.window ≤ sum r.counts))
          → bid words m c r t ≡ unchanged (refused 16 0) r
      pub no_task : ReadyFor s r m c → length s.tasks ≤ t → bid words m c r t ≡ unchanged (refused 17 t) r
      pub is-finished : ReadyFor s r m c → t < length s.tasks → length (task_at s t) ≤ at x t → bid words m c r t ≡ unchanged (given finished) r
      -- by the next state's byte
      pub bad_byte : ReadyFor s r m c → at x t < length (task_at s t) → 3 < byte_of s m (next x t)
          → bid words m c r t ≡ unchanged (refused 18 (rank (lengths_of s) (next x t))) r
      pub is_busy : ReadyFor s r m c → at x t < length (task_at s t) → byte_of s m (next x t) ≡ 1 → (d : ℕ) → Names (action_at s t (at x t)) d
          → bid words m c r t ≡ unchanged (given (busy d)) r
      pub is_held : ReadyFor s r m c → at x t < length (task_at s t) → (byte_of s m (next x t) ≡ 2) ⊎ (byte_of s m (next x t) ≡ 3)
          → bid words m c r t ≡ unchanged (given (held (rank (lengths_of s) (next x t)))) r
      -- a task that would be granted, has had its share or more, and another with share left would be granted
      pub is_spent : ReadyFor s r m c → WouldGo s r m t → c.share ≤ at r.counts t → OtherGoes s r m c t
          → bid words m c r t ≡ unchanged (given share-spent) r
      -- otherwise it is granted: its count rises by 1 while the window has grants left after this one, and with the window's last grant all counts become 0
      pub is-granted : ReadyFor s r m c → WouldGo s r m t → (at r.counts t < c.share) ⊎ (OtherGoes s r m c t → ⊥) → sum r.counts + 1 < c.window
          → bid words m c r t ≡ record { answer = given granted; after = moved r t (set r.counts t (at r.counts t + 1)) }
      pub last_granted : ReadyFor s r m c → WouldGo s r m t → (at r.counts t < c.share) ⊎ (OtherGoes s r m c t → ⊥) → sum r.counts + 1 ≡ c.window
          → bid words m c r t ≡ record { answer = given granted; after = moved r t (replicate 8 0) }

    -- a walk from an open state, one byte a step: 18 where it stops before the end, 21 where the slice is shorter
    pub record Walks (slice : List ℕ) : Type 0 where
      pub steps : List ℕ
      pub last : State
      pub walk : Walk s m x steps last
      pub stuck : (last ≡ lengths_of s → ⊥) → route words m r slice ≡ no_route 18 (rank (lengths_of s) last) slice
      pub short : last ≡ lengths_of s → length slice < length steps → route words m r slice ≡ no_route 21 (length steps) slice
      pub arrives : last ≡ lengths_of s → length steps ≤ length slice
          → route words m r slice ≡ record { answer = given (length steps); route = steps ++ drop (length steps) slice }

    -- a route
    pub record OfRoute (slice : List ℕ) : Type 0 where
      pub map_short : length m < size (lengths_of s) → route words m r slice ≡ no_route 13 (size (lengths_of s)) slice
      pub bad_record : size (lengths_of s) ≤ length m → Unfit s r ⊎ (byte_of s m x ≡ 1) → route words m r slice ≡ no_route 16 0 slice
      pub bad_byte : size (lengths_of s) ≤ length m → (Unfit s r → ⊥) → 3 < byte_of s m x → route words m r slice ≡ no_route 18 (rank (lengths_of s) x) slice
      pub no-route : size (lengths_of s) ≤ length m → (Unfit s r → ⊥) → (byte_of s m x ≡ 2) ⊎ (byte_of s m x ≡ 3)
          → route words m r slice ≡ no_route 20 (rank (lengths_of s) x) slice
      pub from_open : Ready s r m → Walks slice

-- lists of calls on words and a map
pub record OfLists (words m : List ℕ) : Type 0 where
  pub a_bid : (r : Record) (c : Settings) (t : ℕ) → after_call words m r (bids c t) ≡ (bid words m c r t).after
  pub an_again : (r : Record) → after_call words m r agains ≡ (again words r).after
  -- each call gets the record as the last one left it
  pub no_call : (r : Record) → after_calls words m r [] ≡ r
  pub more_calls : (r : Record) (k : Call) (cs : List Call) → after_calls words m r (k ∷ cs) ≡ after_calls words m (after_call words m r k) cs
  -- the count of the bids answered Granted: no again is one
  pub none_granted : (r : Record) → grant_count words m r [] ≡ 0
  pub one_granted : (r : Record) (c : Settings) (t : ℕ) (cs : List Call) → (bid words m c r t).answer ≡ given granted
      → grant_count words m r (bids c t ∷ cs) ≡ 1 + grant_count words m (bid words m c r t).after cs
  pub other_answer : (r : Record) (c : Settings) (t : ℕ) (cs : List Call) → ((bid words m c r t).answer ≡ given granted → ⊥)
      → grant_count words m r (bids c t ∷ cs) ≡ grant_count words m (bid words m c r t).after cs
  pub again-answer : (r : Record) (cs : List Call) → grant_count words m r (agains ∷ cs) ≡ grant_count words m (again words r).after cs

pub record Calls : Type 0 where
  pub faults : (words : List ℕ) (n p : ℕ) → read words ≡ refused n p → OfFaulty words n p
  pub states : (words : List ℕ) (s : Set) → read words ≡ given s → (r : Record) → length r.positions ≡ 8 → OfState s r
  pub agains_right : (words : List ℕ) (s : Set) → read words ≡ given s → (r : Record) → length r.positions ≡ 8 → OfAgain words s r
  pub bids_right : (words : List ℕ) (s : Set) → read words ≡ given s → (r : Record) → length r.counts ≡ 8 → (m : List ℕ) (c : Settings) (t : ℕ)
      → OfBid words s r m c t
  pub routes_right : (words : List ℕ) (s : Set) → read words ≡ given s → (r : Record) → length r.positions ≡ 8 → (m slice : List ℕ)
      → OfRoute words s r m slice
  pub lists : (words m : List ℕ) → OfLists words m
  -- the fresh record: all 0
  pub fresh_record : fresh ≡ record { positions = replicate 8 0; grants = 0; counts = replicate 8 0 }
  -- settings that are kept throughout a list: those of each of its bids
  pub kept : (c : Settings) (cs : List Call) → Keeps c cs ↔ ((d : Settings) (t : ℕ) → Memᴰ (bids d t) cs → d ≡ c)
  -- a round names each of n tasks at least once; a list of rounds is the list of their bids
  pub round : (n : ℕ) (ts : List ℕ) → IsRound n ts ↔ ((t : ℕ) → t < n → Memᴰ t ts)
  pub rounds : (c : Settings) (rs : List (List ℕ)) → round_calls c rs ≡ map (bids c) (flatten rs)
