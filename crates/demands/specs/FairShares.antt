-- SCOPE.md, "Fair shares": what settings that are kept throughout bring, and that shares at or above the window change no answer.
use Rattle.std.specs.Prelude.{ℕ, ◌+◌, ◌%◌, ◌<◌, ◌≤◌, ◌≡◌, not, cond, List, length, set, eqb}
use Rattle.model.specs.Answer.{Answer, given, refused, ◌then◌}
use Rattle.model.specs.Set.{Set, lengths_of, at, size}
use Rattle.model.specs.State.{sum, rank}
use Rattle.model.specs.Read.{read}
use Rattle.model.specs.Analysis.{analyse}
use Rattle.model.specs.Record.{Record, fresh, map_fits, placed}
use Rattle.model.specs.Broker.{Settings, Bid, Served, map_answer, is_granted, bid, again, Call, bids, agains, Keeps, after_list, after_calls}
use Rattle.demands.specs.Calls.{Allowed}

-- the broker as it was without shares: a bid brings no settings and counts nothing, so that from a fresh record the counts stay 0
unfoldable pub plain_answer : Set → List ℕ → Record → ℕ → Answer Bid
plain_answer s m r t =
    map_fits s m then λ grid.
    placed s r then λ x.
    cond (not (eqb (at m (rank (lengths_of s) x)) 0)) (refused 16 0) (map_answer s m x t)

abbrev pub plain_grant : Record → ℕ → Record
plain_grant r t = record { positions = set r.positions t (at r.positions t + 1); grants = (r.grants + 1) % 0x100000000; counts = r.counts }

abbrev pub plain_bid : List ℕ → List ℕ → Record → ℕ → Served Bid
plain_bid words m r t =
    let a = read words then λ s. plain_answer s m r t in
    record { answer = a; after = cond (is_granted a) (plain_grant r t) r }

-- the record that it leaves after a call, and after a list of calls from a fresh record
unfoldable pub after_plain : List ℕ → List ℕ → Record → Call → Record
after_plain words m r (bids c t) = (plain_bid words m r t).after
after_plain words m r agains = (again words r).after

abbrev pub plainly : List ℕ → List ℕ → List Call → Record
plainly words m cs = after_list (after_plain words m) fresh cs

-- a record r of this broker and a record f of that one, under settings c: the next call is answered alike, and what they have in common is the same
pub record Alike (words m : List ℕ) (c : Settings) (r f : Record) : Type 0 where
  pub positions : r.positions ≡ f.positions
  pub grants : r.grants ≡ f.grants
  pub bids_alike : (t : ℕ) → (bid words m c r t).answer ≡ (plain_bid words m f t).answer
  pub agains_alike : (again words r).answer ≡ (again words f).answer

pub record FairShares : Type 0 where
  -- on all words and maps, under settings kept throughout whose share is at or above the window: after every list of calls from a fresh record
  pub shares_off : (words m : List ℕ) (c : Settings) → Allowed c → c.window ≤ c.share → (cs : List Call) → Keeps c cs
      → Alike words m c (after_calls words m fresh cs) (plainly words m cs)
  -- under any settings that are allowed and kept throughout the counts together, and so each task's, stay below the window
  pub below_window : (words m : List ℕ) (c : Settings) → Allowed c → (cs : List Call) → Keeps c cs
      → (sum (after_calls words m fresh cs).counts < c.window) × ((t : ℕ) → at (after_calls words m fresh cs).counts t < c.window)
  -- so in service, on the map made for the set, a bid is refused only with 17
  pub only_17 : (words map plan : List ℕ) (s : Set) → read words ≡ given s → size (lengths_of s) ≤ length map → (c : Settings) → Allowed c → (cs : List Call) → Keeps c cs
      → (t n p : ℕ) → (let m = (analyse words map plan).map in
      (bid words m c (after_calls words m fresh cs) t).answer ≡ refused n p → (length s.tasks ≤ t) × (n ≡ 17) × (p ≡ t))
