-- SCOPE.md, "Broker" and "Fair shares", in service: the set's own map, and the record as the last call left it.
use Rattle.std.specs.Prelude.{ℕ, ◌<◌, ◌≤◌, ◌≡◌, ◌⊎◌, false, List, length}
use Rattle.model.specs.Answer.{given, refused}
use Rattle.model.specs.Set.{release, Set, lengths_of, task_at, action_at, at, size}
use Rattle.model.specs.State.{State, InGrid, next, sum, rank}
use Rattle.model.specs.Hold.{permitted}
use Rattle.model.specs.Read.{read}
use Rattle.model.specs.Layout.{Rules, WellFormedBy}
use Rattle.model.specs.Analysis.{analyse}
use Rattle.model.specs.Record.{Record, fresh, state_in}
use Rattle.model.specs.Broker.{Settings, granted, finished, share-spent, busy, held, grant, bid, again, Call, after_calls}
use Rattle.demands.specs.Terms.{Claims}
use Rattle.demands.specs.MapDemand.{IsOpen, IsUnsafe}
use Rattle.demands.specs.Calls.{unchanged, Allowed, Names}

-- a record r that bids and agains left, and the map m made for the set
module _ (words m : List ℕ) (s : Set) (r : Record) where
  -- the record's state
  abbrev x : State
  x = state_in s r

  -- a bid with settings c that are allowed, where the record's counts together are below the window
  module _ (c : Settings) where
    -- Granted, with the record moved on
    abbrev pub Goes : ℕ → Type 0
    Goes t = bid words m c r t ≡ record { answer = given granted; after = grant c.window r t }

    -- Share spent
    abbrev pub Spent : ℕ → Type 0
    Spent t = bid words m c r t ≡ unchanged (given share-spent) r

    pub record OfBidding : Type 0 where
      -- it is refused only with 17, where there is no such task
      pub only_17 : (t n p : ℕ) → (bid words m c r t).answer ≡ refused n p → (length s.tasks ≤ t) × (n ≡ 17) × (p ≡ t)
      -- a task at its close is Finished; else the next state decides: open Granted or Share spent, unsafe Held with its rank, forbidden Busy with the device
      pub is-finished : (t : ℕ) → t < length s.tasks → length (task_at s t) ≤ at x t → bid words m c r t ≡ unchanged (given finished) r
      pub with_share : (t : ℕ) → at x t < length (task_at s t) → IsOpen s (next x t) → at r.counts t < c.share → Goes t
      pub goes_or_spent : (t : ℕ) → at x t < length (task_at s t) → IsOpen s (next x t) → Goes t ⊎ Spent t
      pub is_held : (t : ℕ) → at x t < length (task_at s t) → IsUnsafe s (next x t) → bid words m c r t ≡ unchanged (given (held (rank (lengths_of s) (next x t)))) r
      pub is_busy : (t : ℕ) → at x t < length (task_at s t) → permitted s (next x t) ≡ false → (d : ℕ) → Names (action_at s t (at x t)) d
          → bid words m c r t ≡ unchanged (given (busy d)) r
      -- a release is Granted or Share spent, so that Busy and Held only ever answer a claim; Busy names its device, whatever the units
      pub release_goes : (t d : ℕ) → at x t < length (task_at s t) → action_at s t (at x t) ≡ release d → Goes t ⊎ Spent t
      pub busy_claim : (t d : ℕ) → (bid words m c r t).answer ≡ given (busy d) → (at x t < length (task_at s t)) × Claims (action_at s t (at x t)) d
      pub held_claim : (t p : ℕ) → (bid words m c r t).answer ≡ given (held p)
          → (at x t < length (task_at s t)) × (p ≡ rank (lengths_of s) (next x t)) × ((d : ℕ) × Claims (action_at s t (at x t)) d)
      -- beyond its share a task is granted only where no other task with share left would be
      pub beyond_share : (t : ℕ) → (bid words m c r t).answer ≡ given granted → c.share ≤ at r.counts t
          → (u : ℕ) → (u ≡ t → ⊥) → at r.counts u < c.share → at x u < length (task_at s u) → IsOpen s (next x u) → ⊥
      -- Share spent is answered only to a task that has had its share or more, while another task with share left would be granted, and is if it bids
      pub spent_other : (t : ℕ) → (bid words m c r t).answer ≡ given share-spent
          → (c.share ≤ at r.counts t) × ((u : ℕ) × (u ≡ t → ⊥) × (at r.counts u < c.share) × Goes u)
      -- so before the end some task is granted: no state has all its would-be grants spent
      pub some_goes : (x ≡ lengths_of s → ⊥) → (t : ℕ) × Goes t

  pub record OfService : Type 0 where
    -- eight positions and eight counts, those of absent tasks 0
    pub eight : (length r.positions ≡ 8) × (length r.counts ≡ 8)
    pub absent : (t : ℕ) → length s.tasks ≤ t → (at r.positions t ≡ 0) × (at r.counts t ≡ 0)
    -- an again is refused only with 19
    pub only_19 : (n p : ℕ) → (again words r).answer ≡ refused n p → (n ≡ 19) × (p ≡ rank (lengths_of s) x)
    -- settings that are not allowed bring 26, and counts that together reach the window 16; else a bid is as above
    pub not_allowed : (c : Settings) (t : ℕ) → (Allowed c → ⊥) → bid words m c r t ≡ unchanged (refused 26 0) r
    pub used-up : (c : Settings) (t : ℕ) → Allowed c → c.window ≤ sum r.counts → bid words m c r t ≡ unchanged (refused 16 0) r
    pub bidding : (c : Settings) → Allowed c → sum r.counts < c.window → OfBidding c

pub record Service : Type 0 where
  -- at an open state of the grid a release leads to an open state
  pub release_open : (rules : Rules) (s : Set) → WellFormedBy rules s → (x : State) → InGrid (lengths_of s) x → IsOpen s x
      → (t d : ℕ) → at x t < length (task_at s t) → action_at s t (at x t) ≡ release d → IsOpen s (next x t)
  -- for all words that read as a set and a map slice with room for its map, after every list of calls from a fresh record
  pub service : (words map plan : List ℕ) (s : Set) → read words ≡ given s → size (lengths_of s) ≤ length map → (cs : List Call)
      → (let m = (analyse words map plan).map in
      OfService words m s (after_calls words m fresh cs))
