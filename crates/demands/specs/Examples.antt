-- The desk examples a to l, r, t and u (SCOPE.md, "Desk examples"), on the definitions alone.
use Rattle.std.specs.Prelude.{ℕ, ◌≡◌, List, [], ◌∷◌, map, length, replicate}
use Rattle.model.specs.Answer.{Answer, given, refused}
use Rattle.model.specs.Set.{Set, claim, release}
use Rattle.model.specs.Layout.{encode}
use Rattle.model.specs.Read.{read, set_in}
use Rattle.model.specs.Clean.{clean}
use Rattle.model.specs.Map.{map_of}
use Rattle.model.specs.Plan.{ranks_from, unsafe_of, dead_of, plan_of, plan_words}
use Rattle.model.specs.PerThousand.{permitted_states_of, unsafe_states_of}
use Rattle.model.specs.Analysis.{Analysed, analyse}
use Rattle.model.specs.Record.{Record, fresh}
use Rattle.model.specs.Broker.{Settings, granted, share-spent, busy, held, bids, bid, after_calls, Bid}
use Rattle.model.specs.Trial.{Tally, Tried, trial}
use Rattle.model.specs.Route.{route}
use Rattle.demands.specs.Terms.{◌to◌}

-- how many states have map byte b
abbrev pub count : Set → ℕ → ℕ
count s b = length (ranks_from b 0 (map_of s))

-- an analysis with a map slice of g bytes that no analysis writes, and a plan slice of n zeros
abbrev pub analysed : List ℕ → ℕ → ℕ → Analysed
analysed words g n = analyse words (replicate g 255) (replicate n 0)

-- the answers to the bids of these tasks with settings c, each given the record as the last one left it
unfoldable pub answers : List ℕ → List ℕ → Settings → Record → List ℕ → List (Answer Bid)
answers words m c r [] = []
answers words m c r (t ∷ ts) = (bid words m c r t).answer ∷ answers words m c (bid words m c r t).after ts

-- these settings
abbrev pub settings : ℕ → ℕ → Settings
settings share window = record { share = share; window = window }

-- example a: its words, and the map that its analysis leaves
abbrev pub a : List ℕ
a =
    0x10000001 ∷ 0x10000001 ∷ 0x20000000 ∷ 0x30000000 ∷ 0x30000001 ∷ 0x40000001 ∷ 0x40000000
    ∷ 0x20000000 ∷ 0x30000001 ∷ 0x30000000 ∷ 0x40000000 ∷ 0x40000001 ∷ 0x5000000C ∷ []

-- a's map
abbrev pub map_a : List ℕ
map_a = (analysed a 25 11).map

-- a record on a with these two positions and this grant number
abbrev pub record_a : ℕ → ℕ → ℕ → Record
record_a p q n = record { positions = p ∷ q ∷ 0 ∷ 0 ∷ 0 ∷ 0 ∷ 0 ∷ 0 ∷ []; grants = n; counts = replicate 8 0 }

-- the tasks that bid in example b
abbrev pub bids_b : List ℕ
bids_b = 0 ∷ 1 ∷ 0 ∷ 1 ∷ 0 ∷ 1 ∷ []

-- a row's four numbers, and what a trial on a counts: its bids, the rows of its two tasks, and the bids answered Finished
abbrev pub row : ℕ → ℕ → ℕ → ℕ → Tally
row g b h p = record { granted = g; busy = b; held = h; share-spent = p }

abbrev pub tried_a : ℕ → Tally → Tally → ℕ → Tried
tried_a n k l f = record { made = n; rows = k ∷ l ∷ replicate 6 (row 0 0 0 0); finished = f }

-- example d: devices a, b, c are 0, 1, 2
abbrev pub d : Set
d = record {
  capacities = 1 ∷ 1 ∷ 1 ∷ [];
  tasks =
      (claim 2 0 ∷ claim 0 0 ∷ release 2 ∷ claim 1 0 ∷ release 1 ∷ release 0 ∷ [])
      ∷ (claim 1 0 ∷ claim 2 0 ∷ release 2 ∷ claim 0 0 ∷ release 0 ∷ release 1 ∷ [])
      ∷ [];
}

-- example e
abbrev pub e : Set
e = record {
  capacities = 2 ∷ [];
  tasks = (claim 0 0 ∷ release 0 ∷ []) ∷ (claim 0 0 ∷ release 0 ∷ []) ∷ (claim 0 0 ∷ release 0 ∷ []) ∷ [];
}

-- example r: two tasks with two dead states, of which only one is reached
abbrev pub r : List ℕ
r =
    0x10000001 ∷ 0x10000001 ∷ 0x10000001 ∷ 0x20000000 ∷ 0x30000001 ∷ 0x30000000 ∷ 0x30000002 ∷ 0x40000001 ∷ 0x30000001 ∷ 0x40000000 ∷ 0x40000001 ∷ 0x40000002
    ∷ 0x20000000 ∷ 0x30000001 ∷ 0x30000000 ∷ 0x40000000 ∷ 0x30000002 ∷ 0x40000002 ∷ 0x40000001 ∷ 0x50000013 ∷ []

-- the tasks that bid in example t, on a with share 1 and window 2
abbrev pub bids_t : List ℕ
bids_t = 0 ∷ 1 ∷ 0 ∷ 1 ∷ 0 ∷ 0 ∷ []

-- SCOPE.md, "Desk examples", a to l, r, t and u
pub record Examples : Type 0 where
  -- a's plan, word for word; 1 of its 20 permitted states is unsafe
  pub a_states : (unsafe_states_of (set_in a) ≡ 1) × (permitted_states_of (set_in a) ≡ 20)
  pub a_answer : (analysed a 25 11).answer ≡ given (record { words = 11; quotient = 50; remainder = 0 })
  pub a_plan : (analysed a 25 11).plan
      ≡ 0x60000000 ∷ 0x80000103 ∷ 0x80010202 ∷ 0x60000001 ∷ 0x80000202 ∷ 0x80010103
      ∷ 0x70000000 ∷ 0x80000101 ∷ 0x80010101 ∷ 0x90000006 ∷ 0x5000000A ∷ []
  -- b's answers and grant number
  pub b_answers : answers a map_a (settings 255 255) fresh bids_b ≡ given granted ∷ given (held 6) ∷ given granted ∷ given (busy 1) ∷ given granted ∷ given granted ∷ []
  pub b_number : (after_calls a map_a fresh (map (bids (settings 255 255)) bids_b)).grants ≡ 4
  -- c's route from (0,1)
  pub c_answer : (route a map_a (record_a 0 1 0) (replicate 7 0)).answer ≡ given 7
  pub c_route : (route a map_a (record_a 0 1 0) (replicate 7 0)).route ≡ 1 ∷ 1 ∷ 0 ∷ 1 ∷ 0 ∷ 0 ∷ 0 ∷ []
  -- d's unsafe boxes, dead rank, plan and counts; its unsafe states are 5 of byte 2 and the dead one
  pub d_unsafe : unsafe_of d ≡ (2 to 3 ∷ 1 to 3 ∷ []) ∷ (1 to 1 ∷ 1 to 1 ∷ []) ∷ []
  pub d_dead : dead_of d ≡ 24 ∷ []
  pub d_plan : plan_words (plan_of d)
      ≡ 0x60000000 ∷ 0x80000205 ∷ 0x80010404 ∷ 0x60000001 ∷ 0x80000404 ∷ 0x80010105 ∷ 0x60000002 ∷ 0x80000102 ∷ 0x80010202
      ∷ 0x70000000 ∷ 0x80000203 ∷ 0x80010103 ∷ 0x70000000 ∷ 0x80000101 ∷ 0x80010101 ∷ 0x90000018 ∷ 0x50000010 ∷ []
  pub d_counts : map (count d) (0 ∷ 1 ∷ 2 ∷ 3 ∷ []) ≡ 33 ∷ 10 ∷ 5 ∷ 1 ∷ []
  -- so 6 of its 39 permitted states are unsafe: 6,000 is 153 times 39 and 33; in longer slices too, and not where the plan has no room
  pub d_states : (unsafe_states_of d ≡ 6) × (permitted_states_of d ≡ 39)
  pub d_answer : (analysed (encode d) 49 17).answer ≡ given (record { words = 17; quotient = 153; remainder = 33 })
  pub d_longer : (analysed (encode d) 60 20).answer ≡ given (record { words = 17; quotient = 153; remainder = 33 })
  pub d_shorter : (analysed (encode d) 49 16).answer ≡ refused 14 16
  -- e has one forbidden state and no unsafe one
  pub e_counts : map (count e) (0 ∷ 1 ∷ 2 ∷ 3 ∷ []) ≡ 26 ∷ 1 ∷ 0 ∷ 0 ∷ []
  pub e_unsafe : unsafe_of e ≡ []
  pub e_states : (unsafe_states_of e ≡ 0) × (permitted_states_of e ≡ 26)
  pub e_answer : (analysed (encode e) 27 5).answer ≡ given (record { words = 5; quotient = 0; remainder = 0 })
  -- f's plan is END alone
  pub f_plan : (analysed (0x20000000 ∷ 0x50000001 ∷ []) 1 1).plan ≡ 0x50000000 ∷ []
  -- g: a device that one task claims, and a capacity of 9; the set that it was before has a device that no task claims, and is cleaned to one without devices
  pub g_plan : (analysed (0x10000008 ∷ 0x20000000 ∷ 0x30000000 ∷ 0x40000000 ∷ 0x50000004 ∷ []) 3 1).plan ≡ 0x50000000 ∷ []
  pub g_refused : read (0x10000009 ∷ []) ≡ refused 6 0
  pub g_unclaimed : read (0x10000008 ∷ 0x20000000 ∷ 0x50000002 ∷ []) ≡ refused 24 0
  pub g_cleaned : clean (0x10000008 ∷ 0x20000000 ∷ 0x50000002 ∷ []) (replicate 2 0) ≡ record { answer = given 2; slice = 0x20000000 ∷ 0x50000001 ∷ [] }
  -- h to k are refused
  pub h_refused : read (0x30000000 ∷ []) ≡ refused 5 0
  pub i_refused : read (0x20000000 ∷ []) ≡ refused 11 1
  pub j_refused : read (0x10000001 ∷ 0x20000000 ∷ 0x30000000 ∷ 0x30000000 ∷ []) ≡ refused 8 3
  pub k_refused : read (0x10000001 ∷ 0x20000000 ∷ 0x30000000 ∷ 0x50000003 ∷ []) ≡ refused 10 3
  -- l: FFFFFFFF is followed by 0
  pub l_answer : (bid a map_a (settings 255 255) (record_a 0 0 0xFFFFFFFF) 0).answer ≡ given granted
  pub l_number : (bid a map_a (settings 255 255) (record_a 0 0 0xFFFFFFFF) 0).after.grants ≡ 0
  -- r's dead states: (4, 1), rank 29, to which steps lead from the start, and (4, 3), rank 31, to which none do
  pub r_plan : (analysed r 63 18).plan
      ≡ 0x60000000 ∷ 0x80000205 ∷ 0x80010202 ∷ 0x60000001 ∷ 0x80000103 ∷ 0x80010105 ∷ 0x60000001 ∷ 0x80000506 ∷ 0x80010105
      ∷ 0x60000002 ∷ 0x80000307 ∷ 0x80010404 ∷ 0x70000000 ∷ 0x80000304 ∷ 0x80010103 ∷ 0x9000001D ∷ 0xA000001F ∷ 0x50000011 ∷ []
  -- 2 of r's 35 permitted states are unsafe, one of them not reached
  pub r_states : (unsafe_states_of (set_in r) ≡ 2) × (permitted_states_of (set_in r) ≡ 35)
  pub r_answer : (analysed r 63 18).answer ≡ given (record { words = 18; quotient = 57; remainder = 5 })
  -- t: task 0's second grant comes since task 1 can't go on, and closes the window; its fourth bid would be granted too, but waits for task 1
  pub t_answers : answers a map_a (settings 1 2) fresh bids_t
      ≡ given granted ∷ given (held 6) ∷ given granted ∷ given (busy 1) ∷ given granted ∷ given share-spent ∷ []
  pub t_closed : (after_calls a map_a fresh (map (bids (settings 1 2)) (0 ∷ 1 ∷ 0 ∷ []))).counts ≡ replicate 8 0
  pub t_record : after_calls a map_a fresh (map (bids (settings 1 2)) bids_t)
      ≡ record { positions = 3 ∷ 0 ∷ 0 ∷ 0 ∷ 0 ∷ 0 ∷ 0 ∷ 0 ∷ []; grants = 3; counts = 1 ∷ 0 ∷ 0 ∷ 0 ∷ 0 ∷ 0 ∷ 0 ∷ 0 ∷ [] }
  -- in a window of 255 task 0 has three grants before it waits for task 1, and goes on as soon as task 1 has no share left either
  pub t_longer : answers a map_a (settings 1 255) fresh (0 ∷ 0 ∷ 0 ∷ 0 ∷ 1 ∷ 0 ∷ [])
      ≡ given granted ∷ given granted ∷ given granted ∷ given share-spent ∷ given granted ∷ given granted ∷ []
  -- the grants of both tasks use up a window together
  pub t_together : (after_calls a map_a fresh (map (bids (settings 1 4)) (0 ∷ 0 ∷ 0 ∷ 1 ∷ []))).counts ≡ replicate 8 0
  -- u: task 0 bids twice a round and task 1 once, until both are finished; with a share of 1 in windows of 2 one bid of task 0 waits for task 1
  pub u_free : trial a map_a (0 ∷ 0 ∷ 1 ∷ []) 8 (settings 255 255) ≡ given (tried_a 15 (row 4 0 0 0) (row 4 1 0 0) 6)
  pub u_shared : trial a map_a (0 ∷ 0 ∷ 1 ∷ []) 8 (settings 1 2) ≡ given (tried_a 15 (row 4 0 0 1) (row 4 1 0 0) 5)
  -- task 1 first: the end comes in the middle of a round, after 14 bids
  pub u_middle : trial a map_a (1 ∷ 0 ∷ 0 ∷ []) 8 (settings 1 2) ≡ given (tried_a 14 (row 4 3 2 0) (row 4 0 0 0) 1)
  -- in turns: twelve bids of the sixteen; three rounds are not enough, and without rounds there is no bid, whatever the map
  pub u_turns : trial a map_a (0 ∷ 1 ∷ []) 8 (settings 1 2) ≡ given (tried_a 12 (row 4 0 0 0) (row 4 1 1 0) 2)
  pub u_early : trial a map_a (0 ∷ 1 ∷ []) 3 (settings 1 2) ≡ given (tried_a 6 (row 3 0 0 0) (row 1 1 1 0) 0)
  pub u_none : trial a (replicate 25 2) (0 ∷ 1 ∷ []) 0 (settings 1 2) ≡ given (tried_a 0 (row 0 0 0 0) (row 0 0 0 0) 0)
  -- a start that is not open, and a byte over 3, at the first bid and after a grant
  pub u_16 : trial a (replicate 25 2) (0 ∷ 1 ∷ []) 1 (settings 1 2) ≡ refused 16 0
  pub u_18 : trial a (0 ∷ replicate 24 4) (1 ∷ []) 1 (settings 1 2) ≡ refused 18 1
  pub u_18_later : trial a (0 ∷ 0 ∷ replicate 23 4) (1 ∷ []) 2 (settings 1 2) ≡ refused 18 2
  -- orders that are empty, name task 2, and have 256 places; settings come first, and rounds don't matter
  pub u_empty : trial a map_a [] 1 (settings 1 2) ≡ refused 27 0
  pub u_absent : trial a map_a (0 ∷ 1 ∷ 2 ∷ []) 0 (settings 1 2) ≡ refused 27 2
  pub u_long : trial a map_a (replicate 256 0) 1 (settings 1 2) ≡ refused 27 255
  pub u_settings : trial a map_a [] 0 (settings 0 2) ≡ refused 26 0
  pub u_short : trial a (replicate 24 0) [] 0 (settings 0 2) ≡ refused 13 25
  pub u_order : trial a (replicate 25 2) (0 ∷ 2 ∷ []) 1 (settings 1 2) ≡ refused 27 1
  -- a set without actions is at its end, and still its order names an absent task
  pub u_behind : trial (0x20000000 ∷ 0x50000001 ∷ []) (0 ∷ []) (0 ∷ 1 ∷ []) 1 (settings 1 2) ≡ refused 27 1
