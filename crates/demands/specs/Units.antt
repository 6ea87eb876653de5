-- Claims of more than one unit (SCOPE.md, "Sets", "States and holds" and "Forbidden boxes"): that sets whose claims all take one unit are answered as before, which box holds
-- a state first, that the start of every accepted set is open, and examples. Every other promise is about sets with units too, and stands in its own file.
use Rattle.std.specs.Prelude.{ℕ, suc, ◌<◌, ◌≤◌, ◌≡◌, ◌↔◌, Bool, false, not, cond, List, [], ◌∷◌, ◌++◌, map, length, get_or, ltb}
use Rattle.model.specs.Answer.{given, refused}
use Rattle.model.specs.Below.{any}
use Rattle.model.specs.Set.{claim, release, Task, Set, lengths_of, task_at, action_at, at}
use Rattle.model.specs.Layout.{WellFormed, encode}
use Rattle.model.specs.Read.{read}
use Rattle.model.specs.State.{State, InGrid, start}
use Rattle.model.specs.Hold.{holds, units_at, held, permitted}
use Rattle.model.specs.Box.{Box, side, first_box}
use Rattle.model.specs.Forbidden.{choose, choices_of_all, box_of, Forbidden, forbidden, boxes, forbidden_boxes}
use Rattle.model.specs.Since.{held_since, over_set}
use Rattle.model.specs.Map.{bytes, map_of}
use Rattle.model.specs.UnsafeBoxes.{unsafe_boxes}
use Rattle.model.specs.Reach.{marked}
use Rattle.model.specs.Record.{fresh}
use Rattle.model.specs.Broker.{granted, busy}
use Rattle.model.specs.Plan.{ranks_from, keep, unsafe_of, Plan, plan_of}
use Rattle.demands.specs.Terms.{◌to◌, how_many}
use Rattle.demands.specs.Holds.{IsHold}
use Rattle.demands.specs.ForbiddenRule.{task_list, OfRule}
use Rattle.demands.specs.Examples.{analysed, answers, settings}
use Rattle.demands.specs.MapDemand.{IsOpen}

-- each claim of the set takes one unit
abbrev pub OneUnit : Set → Type 0
OneUnit s = (t p d e : ℕ) → t < length s.tasks → p < length (task_at s t) → action_at s t p ≡ claim d e → e ≡ 0

-- ---- the rules for one unit a claim
-- how many tasks hold device d at a state
abbrev pub holders : Set → ℕ → State → ℕ
holders s d x = how_many (length s.tasks) (λ t. ltb 0 (units_at (holds d (task_at s t)) (at x t)))

-- no device has more holding tasks than its capacity
unfoldable pub plain_permitted : Set → State → Bool
plain_permitted s x = not (any (length s.capacities) (λ d. ltb (at s.capacities d) (holders s d x)))

-- device d of capacity c: a box for each set of c + 1 tasks and each choice of one hold in each
abbrev pub plain_device : ℕ → ℕ → List Task → List Box
plain_device d c tasks = map box_of (choices_of_all d (choose (suc c) (length tasks)) tasks)

-- over the devices from d on, which have these capacities
unfoldable pub plain_from : ℕ → List ℕ → List Task → List Forbidden
plain_from d [] tasks = []
plain_from d (c ∷ cs) tasks = map (λ b. record { device = d; box = b }) (plain_device d c tasks) ++ plain_from (suc d) cs tasks

abbrev pub plain_forbidden : Set → List Forbidden
plain_forbidden s = plain_from 0 s.capacities s.tasks

-- the map and the plan over these
abbrev pub plain_map : Set → List ℕ
plain_map s = bytes (lengths_of s) (plain_permitted s)

abbrev pub plain_plan : Set → Plan
plain_plan s =
    let reached = marked (lengths_of s) (plain_permitted s) in
    let dead = ranks_from 3 0 (plain_map s) in
    record {
      forbidden = plain_forbidden s;
      unsafe = unsafe_boxes (lengths_of s) (boxes (plain_forbidden s));
      reached = keep reached dead;
      unreached = keep (λ r. not (reached r)) dead;
    }

-- a box of that rule, in the words of `OfRule`: the tasks over holds are one more than the capacity
pub record OfPlainRule (s : Set) (f : Forbidden) : Type 0 where
  pub device : f.device < length s.capacities
  pub sides : length f.box ≡ length s.tasks
  pub tasks : length (task_list f.box) ≡ suc (at s.capacities f.device)
  pub over_hold : (t : ℕ) → t < length s.tasks → 0 < (side f.box t).low → IsHold f.device (task_at s t) (record { over = side f.box t; units = 1 })
  pub over_all : (t : ℕ) → t < length s.tasks → (side f.box t).low ≡ 0 → side f.box t ≡ 0 to length (task_at s t)

-- a set whose claims all have one unit has the units held, permitted states, forbidden boxes, map and plan of these rules
pub record OfOneUnit (s : Set) : Type 0 where
  pub same_units : (d : ℕ) (x : State) → held d s.tasks x ≡ holders s d x
  pub same_permitted : (x : State) → permitted s x ≡ plain_permitted s x
  pub same_boxes : forbidden s ≡ plain_forbidden s
  pub same_rule : (f : Forbidden) → OfRule s f ↔ OfPlainRule s f
  pub same_map : map_of s ≡ plain_map s
  pub same_plan : plan_of s ≡ plain_plan s

-- ---- examples
-- a task that claims device 0 with e extra units and releases it
abbrev pub turn_of : ℕ → Task
turn_of e = claim 0 e ∷ release 0 ∷ []

-- the radio patch: a gateway of capacity 3, and tasks that take 2, 2 and 1 of its channels
abbrev pub patch : Set
patch = record { capacities = 3 ∷ []; tasks = turn_of 1 ∷ turn_of 1 ∷ turn_of 0 ∷ [] }

-- its words
abbrev pub patch_words : List ℕ
patch_words =
    0x10000003 ∷ 0x20000000 ∷ 0x30010000 ∷ 0x40000000 ∷ 0x20000000 ∷ 0x30010000 ∷ 0x40000000 ∷ 0x20000000 ∷ 0x30000000 ∷ 0x40000000 ∷ 0x5000000A ∷ []

-- capacity 3, and tasks that take 1, 1, 2 and 2 units
abbrev pub mixed : Set
mixed = record { capacities = 3 ∷ []; tasks = turn_of 0 ∷ turn_of 0 ∷ turn_of 1 ∷ turn_of 1 ∷ [] }

-- two tasks of which each takes two of three channels of one gateway and then two of three of another, in opposite order
abbrev pub crossed : Set
crossed = record {
  capacities = 3 ∷ 3 ∷ [];
  tasks = (claim 0 1 ∷ claim 1 1 ∷ release 1 ∷ release 0 ∷ []) ∷ (claim 1 1 ∷ claim 0 1 ∷ release 0 ∷ release 1 ∷ []) ∷ [];
}

-- a pool of capacity 4 beside two devices of capacity 1: a task takes the first of these and three of the pool, one the second, one of the pool and the first, one two of
-- the pool and the second
abbrev pub rivals : Set
rivals = record {
  capacities = 4 ∷ 1 ∷ 1 ∷ [];
  tasks =
      (claim 1 0 ∷ claim 0 2 ∷ release 0 ∷ release 1 ∷ [])
      ∷ (claim 2 0 ∷ claim 0 0 ∷ claim 1 0 ∷ release 1 ∷ release 0 ∷ release 2 ∷ [])
      ∷ (claim 0 1 ∷ claim 2 0 ∷ release 2 ∷ release 0 ∷ [])
      ∷ [];
}

-- a claim of more units than there are: refusal 28 keeps it out
abbrev pub excessive : Set
excessive = record { capacities = 1 ∷ []; tasks = turn_of 1 ∷ [] }

pub record UnitsRight : Type 0 where
  -- nothing that stood changes
  pub one_unit : (s : Set) → OneUnit s → OfOneUnit s
  -- the first box over a state belongs to the lowest device over capacity, there to the first task set in the table's order whose units held exceed it; its sides start
  -- since when the tasks of that set hold the device, and at 0 for the others
  pub first-box : (s : Set) → WellFormed s → (x : State) → InGrid (lengths_of s) x
      → (d : ℕ) → d < length s.capacities → at s.capacities d < held d s.tasks x → ((e : ℕ) → e < d → held e s.tasks x ≤ at s.capacities e)
      → (j : ℕ) → (side (first_box (forbidden_boxes s) x) j).low ≡ cond (get_or (over_set s d x) j false) (held_since d (task_at s j) (at x j)) 0
  -- the start of every accepted set is open
  pub start_open : (words : List ℕ) (s : Set) → read words ≡ given s → IsOpen s (start (lengths_of s))
  -- and 28 is what makes it so: without it this set's start is dead
  pub without_28 : (map_of excessive ≡ 3 ∷ 1 ∷ 0 ∷ []) × (read (encode excessive) ≡ refused 28 2)
  -- the radio patch: the tasks with two units exclude each other, and nothing else is forbidden
  pub patch_read : read patch_words ≡ given patch
  pub patch_plan : (analysed patch_words 27 5).plan ≡ 0x60000000 ∷ 0x80000101 ∷ 0x80010101 ∷ 0x80020002 ∷ 0x50000004 ∷ []
  -- the second of them is told the gateway's number alone, until the first one has given both channels back
  pub patch_bids : answers patch_words (map_of patch) (settings 255 255) fresh (0 ∷ 1 ∷ 2 ∷ 0 ∷ 1 ∷ [])
      ≡ given granted ∷ given (busy 0) ∷ given granted ∷ given granted ∷ given granted ∷ []
  pub patch_boxes : forbidden patch ≡ record { device = 0; box = 1 to 1 ∷ 1 to 1 ∷ 0 to 2 ∷ [] } ∷ []
  -- task sets of two sizes make boxes for one device, the smaller one first
  pub mixed_boxes : forbidden_boxes mixed
      ≡ (0 to 2 ∷ 0 to 2 ∷ 1 to 1 ∷ 1 to 1 ∷ [])
      ∷ (1 to 1 ∷ 1 to 1 ∷ 1 to 1 ∷ 0 to 2 ∷ [])
      ∷ (1 to 1 ∷ 1 to 1 ∷ 0 to 2 ∷ 1 to 1 ∷ [])
      ∷ []
  -- where all four hold, the first box isn't that of the first holders by number, tasks 0, 1 and 2
  pub mixed_first : first_box (forbidden_boxes mixed) (1 ∷ 1 ∷ 1 ∷ 1 ∷ []) ≡ 0 to 2 ∷ 0 to 2 ∷ 1 to 1 ∷ 1 to 1 ∷ []
  -- units that cross: each task waits for channels that the other has
  pub crossed_map : map_of crossed
      ≡ 0 ∷ 0 ∷ 0 ∷ 0 ∷ 0
      ∷ 0 ∷ 3 ∷ 1 ∷ 0 ∷ 0
      ∷ 0 ∷ 1 ∷ 1 ∷ 1 ∷ 0
      ∷ 0 ∷ 0 ∷ 1 ∷ 0 ∷ 0
      ∷ 0 ∷ 0 ∷ 0 ∷ 0 ∷ 0 ∷ []
  pub crossed_unsafe : unsafe_of crossed ≡ (1 to 1 ∷ 1 to 1 ∷ []) ∷ []
  -- a holder that isn't needed is in no blocker: task 0's claim of three runs into the two of task 2, whether task 1 holds one of the pool or not, so that the unsafe box
  -- has task 1 at 1 too, before it does
  pub rivals_unsafe : unsafe_of rivals ≡ (1 to 1 ∷ 1 to 2 ∷ 1 to 1 ∷ []) ∷ []
