-- SCOPE.md, "Stored plans" (refusals 22 and 23): which words are a plan, which word is the first outside the layout, and where a state lies.
use Rattle.std.specs.Prelude.{ℕ, suc, ◌+◌, ◌/◌, ◌%◌, ◌<◌, ◌≤◌, ◌≡◌, ◌↔◌, ◌⊎◌, length, take}
use mathlib.Core.List.{List, [], ◌∷◌, ◌++◌, Memᴰ}
use Rattle.model.specs.Answer.{given, refused}
use Rattle.model.specs.Set.{lengths_of, at}
use Rattle.model.specs.Read.{set_in}
use Rattle.model.specs.State.{State, InGrid, rank}
use Rattle.model.specs.Box.{Box, side}
use Rattle.model.specs.Forbidden.{Forbidden}
use Rattle.model.specs.Plan.{Plan}
use Rattle.model.specs.Analysis.{Planned, analyse}
use Rattle.model.specs.StoredPlan.{Location, in-forbidden, in-unsafe, in_neither, locate}
use Rattle.demands.specs.Terms.{Ordered}
use Rattle.demands.specs.Examples.{a, analysed}
use Rattle.demands.specs.Analyses.{list_of}

-- a box for n tasks: one side each, its lowest at most its highest position, which is a byte
pub record BoxFor (n : ℕ) (b : Box) : Type 0 where
  pub every_task : length b ≡ n
  pub bounds : (t : ℕ) → t < n → ((side b t).low ≤ (side b t).high) × ((side b t).high < 256)

-- what a plan for n tasks lists: devices below 16, boxes for n tasks, and of each kind ranks of 28 bits that strictly rise
pub record ListsFor (n : ℕ) (p : Plan) : Type 0 where
  pub forbidden : (f : Forbidden) → Memᴰ f p.forbidden → (f.device < 16) × BoxFor n f.box
  pub unsafe : (b : Box) → Memᴰ b p.unsafe → BoxFor n b
  pub reached : (r : ℕ) → Memᴰ r p.reached → r < 0x10000000
  pub rising : Ordered (λ q r. q < r) p.reached
  pub unreached : (r : ℕ) → Memᴰ r p.unreached → r < 0x10000000
  pub unreached_rising : Ordered (λ q r. q < r) p.unreached

-- a plan of the layout for n tasks: END's field, of 28 bits too, holds the number of the words before it
pub record PlanFor (n : ℕ) (p : Plan) : Type 0 where
  pub lists : ListsFor n p
  pub count : length (list_of p) < 0x10000000

-- its words: boxes and ranks, and END
abbrev pub words_of : Plan → List ℕ
words_of p = list_of p ++ ((0x50000000 + length (list_of p)) ∷ [])

-- words that are a plan for n tasks
abbrev pub IsPlan : ℕ → List ℕ → Type 0
IsPlan n ws = (p : Plan) × PlanFor n p × (ws ≡ words_of p)

-- words that begin a plan for n tasks: with more behind them, or none, they are one
abbrev pub BeginsPlan : ℕ → List ℕ → Type 0
BeginsPlan n ws = (more : List ℕ) × IsPlan n (ws ++ more)

-- words that begin the boxes and ranks of a plan for n tasks; there may be more of those than END's field can count
abbrev pub BeginsLists : ℕ → List ℕ → Type 0
BeginsLists n ws = (more : List ℕ) × (p : Plan) × ListsFor n p × (ws ++ more ≡ list_of p)

-- words that keep to the layout as far as they go: they begin boxes and ranks, however many, or they are a plan, with END last
abbrev pub KeepsLayout : ℕ → List ℕ → Type 0
KeepsLayout n ws = BeginsLists n ws ⊎ IsPlan n ws

-- the layout
pub record PlanLayout : Type 0 where
  -- words are accepted for n tasks, whatever the state, exactly if n is 1 to 8 and they are a plan for n tasks
  pub exact : (x : State) (ws : List ℕ) (n : ℕ) → ((l : Location) × (locate x ws n ≡ given l)) ↔ ((1 ≤ n) × (n ≤ 8) × IsPlan n ws)
  -- no two plans have the same words, not even for different task counts
  pub one_plan : (n m : ℕ) (p q : Plan) → n ≤ 8 → m ≤ 8 → PlanFor n p → PlanFor m q → words_of p ≡ words_of q → p ≡ q

-- the word at i is the first outside the layout, or END is missing and i is the word count; `Fits` tells of a list's first words whether they are in the layout
pub record OutsideAt (Fits : List ℕ → Type 0) (n : ℕ) (ws : List ℕ) (i : ℕ) : Type 0 where
  -- there are at least i words
  pub within : i ≤ length ws
  -- those before i fit
  pub before : Fits (take i ws)
  -- with the one at i they don't
  pub outside : i < length ws → Fits (take (suc i) ws) → ⊥
  -- where there is none at i, they are all, and no plan: END is missing
  pub missing : i ≡ length ws → IsPlan n ws → ⊥

-- the refusals, each with its place
pub record PlanFaults : Type 0 where
  -- where END's field can still count nine words more, a box for eight tasks: 23 at i exactly if the words before i begin a plan and with the one at i they don't; with
  -- none at i, END is missing
  pub exact : (x : State) (ws : List ℕ) (n i : ℕ) → 1 ≤ n → n ≤ 8 → i + 9 < 0x10000000 → (locate x ws n ≡ refused 23 i) ↔ OutsideAt (BeginsPlan n) n ws i
  -- at every i, also where END's field can't count what would follow: exactly if the words before i keep to the layout and with the one at i they don't; with none at
  -- i, END is missing
  pub every_place : (x : State) (ws : List ℕ) (n i : ℕ) → 1 ≤ n → n ≤ 8 → (locate x ws n ≡ refused 23 i) ↔ OutsideAt (KeepsLayout n) n ws i
  -- 22, at 0, exactly for a task count outside 1 to 8, whatever the words and the state
  pub task-count : (x : State) (ws : List ℕ) (n i : ℕ) → (locate x ws n ≡ refused 22 i) ↔ (((n ≡ 0) ⊎ (8 < n)) × (i ≡ 0))
  -- 23 in one state is 23 in every state, at the same place
  pub any_state : (x y : State) (ws : List ℕ) (n i : ℕ) → locate x ws n ≡ refused 23 i → locate y ws n ≡ refused 23 i
  -- there is no third refusal
  pub no_others : (x : State) (ws : List ℕ) (n k i : ℕ) → locate x ws n ≡ refused k i → (k ≡ 22) ⊎ (k ≡ 23)

-- a box whose first word, of this kind, stands at index i holds the state: each task's position lies between the bounds of its word, bits 15 to 8 and 7 to 0
pub record HoldsAt (kind : ℕ) (x : State) (ws : List ℕ) (n i : ℕ) : Type 0 where
  pub there : i < length ws
  pub of_kind : at ws i / 0x10000000 ≡ kind
  pub between : (t : ℕ) → t < n → (at ws (i + 1 + t) / 256 % 256 ≤ at x t) × (at x t ≤ at ws (i + 1 + t) % 256)

-- the box of this kind at i holds the state, and none of its kind before it does
abbrev pub FirstHolds : ℕ → State → List ℕ → ℕ → ℕ → Type 0
FirstHolds kind x ws n i = HoldsAt kind x ws n i × ((j : ℕ) → j < i → HoldsAt kind x ws n j → ⊥)

-- no box of this kind holds the state
abbrev pub NoneHolds : ℕ → State → List ℕ → ℕ → Type 0
NoneHolds kind x ws n = (j : ℕ) → HoldsAt kind x ws n j → ⊥

-- where a state lies, of accepted words and eight positions
pub record Lies (x : State) (ws : List ℕ) (n : ℕ) : Type 0 where
  -- Forbidden with i: the forbidden box at i is the first that holds the state
  pub forbidden : (i : ℕ) → (locate x ws n ≡ given (in-forbidden i)) ↔ FirstHolds 6 x ws n i
  -- Unsafe with i: no forbidden box holds it, and the unsafe box at i is the first that does
  pub unsafe : (i : ℕ) → (locate x ws n ≡ given (in-unsafe i)) ↔ (NoneHolds 6 x ws n × FirstHolds 7 x ws n i)
  -- Neither: no box holds it
  pub neither : (locate x ws n ≡ given in_neither) ↔ (NoneHolds 6 x ws n × NoneHolds 7 x ws n)

-- an analysis that is accepted with k plan words
module _ (words mapped plan : List ℕ) (k : ℕ) where
  -- the tasks of its set, the plan slice as it leaves it, up to and with END, and the byte of a state in its map
  abbrev pub tasks : ℕ
  tasks = length (set_in words).tasks

  abbrev pub stored : List ℕ
  stored = take k (analyse words mapped plan).plan

  abbrev pub byte_of : State → ℕ
  byte_of x = at (analyse words mapped plan).map (rank (lengths_of (set_in words)) x)

  -- its plan, questioned at eight positions, the first of which are a state of the grid
  pub record Agrees : Type 0 where
    -- what an analysis leaves is always accepted, whatever the positions
    pub accepted : (x : State) → (l : Location) × (locate x stored tasks ≡ given l)
    -- Forbidden exactly if the map byte is 1
    pub forbidden : (x : State) → InGrid (lengths_of (set_in words)) (take tasks x)
        → ((i : ℕ) × (locate x stored tasks ≡ given (in-forbidden i))) ↔ (byte_of (take tasks x) ≡ 1)
    -- Unsafe exactly if it is 2 or 3
    pub unsafe : (x : State) → InGrid (lengths_of (set_in words)) (take tasks x)
        → ((i : ℕ) × (locate x stored tasks ≡ given (in-unsafe i))) ↔ ((byte_of (take tasks x) ≡ 2) ⊎ (byte_of (take tasks x) ≡ 3))
    -- Neither exactly if it is 0
    pub neither : (x : State) → InGrid (lengths_of (set_in words)) (take tasks x)
        → (locate x stored tasks ≡ given in_neither) ↔ (byte_of (take tasks x) ≡ 0)

-- the plan of example a, which has two tasks
abbrev pub plan_a : List ℕ
plan_a = (analysed a 25 11).plan

-- the state (p, q) of two tasks, in eight positions: those past them are 9
abbrev pub asked : ℕ → ℕ → State
asked p q = p ∷ q ∷ 9 ∷ 9 ∷ 9 ∷ 9 ∷ 9 ∷ 9 ∷ []

-- questions to the plan of example a, of which the state (1, 1) is dead and (2, 2) lies in both forbidden boxes, and to other words
pub record Questions : Type 0 where
  pub both_boxes : locate (asked 2 2) plan_a 2 ≡ given (in-forbidden 0)
  pub second_box : locate (asked 2 1) plan_a 2 ≡ given (in-forbidden 3)
  pub unsafe-box : locate (asked 1 1) plan_a 2 ≡ given (in-unsafe 6)
  pub none_holds : locate (asked 1 0) plan_a 2 ≡ given in_neither
  -- for three tasks a side is missing where the second box begins, for one task there is a side too many
  pub three_tasks : locate (asked 1 1) plan_a 3 ≡ refused 23 3
  pub one_task : locate (asked 1 1) plan_a 1 ≡ refused 23 2
  pub no_task : locate (asked 1 1) plan_a 0 ≡ refused 22 0
  pub nine_tasks : locate (asked 1 1) [] 9 ≡ refused 22 0
  -- no words, a box cut short, END missing, a word after END
  pub empty : locate (asked 1 1) [] 2 ≡ refused 23 0
  pub cut_short : locate (asked 1 1) (take 8 plan_a) 2 ≡ refused 23 8
  pub no_end : locate (asked 1 1) (take 10 plan_a) 2 ≡ refused 23 10
  pub after_end : locate (asked 1 1) (plan_a ++ (0x5000000B ∷ [])) 2 ≡ refused 23 11
  -- the same rank twice, a rank that falls, and END that counts itself
  pub same_rank : locate (asked 1 1) (0x90000006 ∷ 0x90000006 ∷ 0x50000002 ∷ []) 2 ≡ refused 23 1
  pub falling_rank : locate (asked 1 1) (0x90000006 ∷ 0x90000005 ∷ []) 2 ≡ refused 23 1
  pub counts_itself : locate (asked 1 1) (0x90000006 ∷ 0x50000002 ∷ []) 2 ≡ refused 23 1
  -- a forbidden box and an unsafe one that both hold the state; task 0 twice
  pub both_kinds : locate (asked 1 1) (0x60000000 ∷ 0x80000101 ∷ 0x80010101 ∷ 0x70000000 ∷ 0x80000101 ∷ 0x80010101 ∷ 0x50000006 ∷ []) 2
      ≡ given (in-forbidden 0)
  pub task_twice : locate (asked 1 1) (0x70000000 ∷ 0x80000101 ∷ 0x80000101 ∷ 0x50000003 ∷ []) 2 ≡ refused 23 2
  -- a forbidden box after an unsafe one; a side whose lowest position is above its highest; an unused bit that is set
  pub late_box : locate (asked 1 1) (0x70000000 ∷ 0x80000101 ∷ 0x80010101 ∷ 0x60000000 ∷ []) 2 ≡ refused 23 3
  pub exchanged : locate (asked 1 1) (0x70000000 ∷ 0x80000201 ∷ []) 2 ≡ refused 23 1
  pub unused_bit : locate (asked 1 1) (0x70000000 ∷ 0x81000101 ∷ []) 2 ≡ refused 23 1
  -- device 16; a field other than 0 in kind 7; a box after a rank
  pub high_device : locate (asked 1 1) (0x60000010 ∷ []) 2 ≡ refused 23 0
  pub unsafe_field : locate (asked 1 1) (0x70000001 ∷ []) 2 ≡ refused 23 0
  pub after_rank : locate (asked 1 1) (0x90000006 ∷ 0x70000000 ∷ []) 2 ≡ refused 23 1
  -- kind A after kind 9, whatever ranks that has, and where there is none
  pub lower_rank : locate (asked 1 1) (0x90000006 ∷ 0xA0000005 ∷ 0x50000002 ∷ []) 2 ≡ given in_neither
  pub equal_rank : locate (asked 1 1) (0x90000006 ∷ 0xA0000006 ∷ 0x50000002 ∷ []) 2 ≡ given in_neither
  pub only_unreached : locate (asked 1 1) (0xA0000000 ∷ 0xA0000001 ∷ 0x50000002 ∷ []) 2 ≡ given in_neither
  -- kind A with the same rank twice, and with one that falls; kind 9 and a box after it; kind B
  pub same_unreached : locate (asked 1 1) (0x90000001 ∷ 0xA0000006 ∷ 0xA0000006 ∷ []) 2 ≡ refused 23 2
  pub falling_unreached : locate (asked 1 1) (0xA0000006 ∷ 0xA0000005 ∷ []) 2 ≡ refused 23 1
  pub late_rank : locate (asked 1 1) (0xA0000005 ∷ 0x90000006 ∷ []) 2 ≡ refused 23 1
  pub after_unreached : locate (asked 1 1) (0xA0000006 ∷ 0x70000000 ∷ []) 2 ≡ refused 23 1
  pub unknown_kind : locate (asked 1 1) (0xB0000006 ∷ []) 2 ≡ refused 23 0

pub record StoredPlans : Type 0 where
  pub layout : PlanLayout
  pub faults : PlanFaults
  -- of accepted words, at eight positions
  pub lies : (x : State) (ws : List ℕ) (n : ℕ) → length x ≡ 8 → (l : Location) × (locate x ws n ≡ given l) → Lies x ws n
  -- positions past the task count are unread
  pub unread : (x y : State) (ws : List ℕ) (n : ℕ) → length x ≡ 8 → length y ≡ 8 → ((t : ℕ) → t < n → at x t ≡ at y t) → locate x ws n ≡ locate y ws n
  -- of every accepted analysis, whatever the slices held and however long they are
  pub agrees : (words mapped plan : List ℕ) (p : Planned) → (analyse words mapped plan).answer ≡ given p → Agrees words mapped plan p.words
  pub questions : Questions
