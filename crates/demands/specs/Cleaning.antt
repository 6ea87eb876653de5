-- SCOPE.md, "Cleaner": what becomes of a set, and which calls are answered how.
use Rattle.std.specs.Prelude.{ℕ, ◌<◌, ◌≤◌, ◌≡◌, ◌↔◌, List, [], ◌∷◌, ◌++◌, map, length, take, drop, replicate}
use Rattle.model.specs.Answer.{given, refused}
use Rattle.model.specs.Set.{Set, claim, release, lengths_of, task_at, action_at, at}
use Rattle.model.specs.Layout.{encode, former, WellFormedBy}
use Rattle.model.specs.Read.{read_by, read}
use Rattle.model.specs.State.{State}
use Rattle.model.specs.Hold.{permitted}
use Rattle.model.specs.Map.{map_of}
use Rattle.model.specs.Plan.{plan_of}
use Rattle.model.specs.Clean.{new_number, cleaned, Cleaned, clean}
use Rattle.demands.specs.Terms.{IsClaimed, AllClaimed, LowestUnclaimed}

module _ (s : Set) where
  -- the new number of a device
  abbrev new : ℕ → ℕ
  new = new_number s.tasks

  -- a device that is kept: some task claims it
  abbrev pub Kept : ℕ → Type 0
  Kept d = (d < length s.capacities) × IsClaimed s d

  -- t is the set that the cleaner makes of s
  pub record OfCleaned (t : Set) : Type 0 where
    -- tasks and action counts stay
    pub tasks : length t.tasks ≡ length s.tasks
    pub actions : lengths_of t ≡ lengths_of s
    -- a kept device has a number, each number is a kept device's, and the numbers are in the old order: so they are closed up, and no others would do
    pub numbered : (d : ℕ) → Kept d → new d < length t.capacities
    pub closed_up : (e : ℕ) → e < length t.capacities → (d : ℕ) × Kept d × (new d ≡ e)
    pub in_order : (c d : ℕ) → Kept c → Kept d → c < d → new c < new d
    -- it has its old capacity
    pub capacity : (d : ℕ) → Kept d → at t.capacities (new d) ≡ at s.capacities d
    -- and its old claims, with their units, and releases, in their places
    pub claims : (k p d e : ℕ) → k < length s.tasks → p < length (task_at s k) → Kept d → (action_at t k p ≡ claim (new d) e) ↔ (action_at s k p ≡ claim d e)
    pub releases : (k p d : ℕ) → k < length s.tasks → p < length (task_at s k) → Kept d → (action_at t k p ≡ release (new d)) ↔ (action_at s k p ≡ release d)
    -- the same states are permitted, and the map is the same byte for byte
    pub same_permitted : (x : State) → permitted t x ≡ permitted s x
    pub same_map : map_of t ≡ map_of s
    -- so are the unsafe boxes and the dead states, and the forbidden boxes but for their devices' numbers
    pub same_unsafe : (plan_of t).unsafe ≡ (plan_of s).unsafe
    pub same_dead : ((plan_of t).reached ≡ (plan_of s).reached) × ((plan_of t).unreached ≡ (plan_of s).unreached)
    pub same_forbidden : (plan_of t).forbidden ≡ map (λ f. record { device = new f.device; box = f.box }) (plan_of s).forbidden

-- a slice that was left alone
abbrev pub untouched : ℕ → ℕ → List ℕ → Cleaned
untouched n p slice = record { answer = refused n p; slice = slice }

-- words at the front of a slice, which keeps its own behind them
abbrev pub written : List ℕ → List ℕ → Cleaned
written ws slice = record { answer = given (length ws); slice = ws ++ drop (length ws) slice }

pub record Cleaning : Type 0 where
  -- exactly what the former rules accept is cleaned: their refusals first, then 25 with the length needed; a refused call leaves the slice as it was
  pub turned_back : (words slice : List ℕ) (n p : ℕ) → read_by former words ≡ refused n p → clean words slice ≡ untouched n p slice
  pub too_short : (words slice : List ℕ) (s : Set) → read_by former words ≡ given s → length slice < length (encode (cleaned s))
      → clean words slice ≡ untouched 25 (length (encode (cleaned s))) slice
  pub fits : (words slice : List ℕ) (s : Set) → read_by former words ≡ given s → length (encode (cleaned s)) ≤ length slice
      → clean words slice ≡ written (encode (cleaned s)) slice
  -- a slice as long as the words always does
  pub no_longer : (words : List ℕ) (s : Set) → read_by former words ≡ given s → length (encode (cleaned s)) ≤ length words
  -- what becomes of the set
  pub of-set : (s : Set) → WellFormedBy former s → OfCleaned s (cleaned s)
  -- what is written is accepted by the present rules, and is that set
  pub accepted : (words slice : List ℕ) (n : ℕ) → (clean words slice).answer ≡ given n
      → (s : Set) × (read_by former words ≡ given s) × (read (take n (clean words slice).slice) ≡ given (cleaned s))
  -- a clean set comes back word for word
  pub clean_stays : (words slice : List ℕ) (s : Set) → read words ≡ given s → length words ≤ length slice → clean words slice ≡ written words slice
  -- and so cleaning twice is cleaning once
  pub twice : (words slice : List ℕ) (n : ℕ) → (clean words slice).answer ≡ given n → (other : List ℕ) → n ≤ length other
      → clean (take n (clean words slice).slice) other ≡ written (take n (clean words slice).slice) other
  -- the present rules accept what the former ones do if each device is claimed, and nothing else
  pub both_rules : (words : List ℕ) (s : Set) → (read words ≡ given s) ↔ ((read_by former words ≡ given s) × AllClaimed s)
  -- 24 tells the lowest device that no task claims
  pub lowest : (words : List ℕ) (d : ℕ) → read words ≡ refused 24 d → (s : Set) × (words ≡ encode s) × LowestUnclaimed s d
  -- computed: of five devices, of capacities 3, 1, 4, 2 and 5, the second, fourth and fifth are kept; the slice has a word more than it needs
  pub example : (clean (0x10000003 ∷ 0x10000001 ∷ 0x10000004 ∷ 0x10000002 ∷ 0x10000005 ∷ 0x20000000 ∷ 0x30000004 ∷ 0x30000001 ∷ 0x40000004 ∷ 0x40000001
      ∷ 0x20000000 ∷ 0x20000000 ∷ 0x30000003 ∷ 0x40000003 ∷ 0x5000000E ∷ []) (7 ∷ 7 ∷ 7 ∷ 7 ∷ 7 ∷ 7 ∷ 7 ∷ 7 ∷ 7 ∷ 7 ∷ 7 ∷ 7 ∷ 7 ∷ 7 ∷ [])
      ≡ record {
        answer = given 13;
        slice = 0x10000001 ∷ 0x10000002 ∷ 0x10000005 ∷ 0x20000000 ∷ 0x30000002 ∷ 0x30000000 ∷ 0x40000002 ∷ 0x40000000
            ∷ 0x20000000 ∷ 0x20000000 ∷ 0x30000001 ∷ 0x40000001 ∷ 0x5000000C ∷ 7 ∷ [];
      })
  -- and the set that example g was, in a slice that is too short by a word
  pub short_example : clean (0x10000008 ∷ 0x20000000 ∷ 0x50000002 ∷ []) (7 ∷ []) ≡ untouched 25 2 (7 ∷ [])
  -- claims of three units and of one keep them while their device's number becomes 0; too many units are refused here too
  pub units_example : clean (0x10000003 ∷ 0x10000004 ∷ 0x20000000 ∷ 0x30020001 ∷ 0x40000001 ∷ 0x30000001 ∷ 0x40000001 ∷ 0x50000007 ∷ []) (replicate 7 7)
      ≡ record {
        answer = given 7;
        slice = 0x10000004 ∷ 0x20000000 ∷ 0x30020000 ∷ 0x40000000 ∷ 0x30000000 ∷ 0x40000000 ∷ 0x50000006 ∷ [];
      }
  pub units_refused : clean (0x10000002 ∷ 0x20000000 ∷ 0x30020000 ∷ []) (7 ∷ []) ≡ untouched 28 2 (7 ∷ [])
