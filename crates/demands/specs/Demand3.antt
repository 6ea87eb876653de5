-- Demand 3: a permitted state lies in an unsafe box exactly when no allowed steps lead from it to the end; after every list of bids and agains the broker's state
-- lies in no box and its grant number counts the grants modulo 2^32; as many rounds of bids as the set has actions bring every task home. Each bid of a list has
-- settings of its own; the bids of the rounds all bring the same, from 1 to 255.
use Rattle.std.specs.Prelude.{ℕ, ◌%◌, ◌≤◌, ◌≡◌, ◌↔◌, true, false, length}
use mathlib.Core.List.{List, map, Memᴰ}
use Rattle.model.specs.Answer.{given, refused}
use Rattle.model.specs.Set.{Set, lengths_of}
use Rattle.model.specs.Read.{read, set_in}
use Rattle.model.specs.State.{State, sum, InGrid}
use Rattle.model.specs.Hold.{permitted}
use Rattle.model.specs.Box.{covered}
use Rattle.model.specs.Plan.{Plan, plan_of, plan_from}
use Rattle.model.specs.Analysis.{Planned, analyse}
use Rattle.model.specs.Record.{fresh, state_in}
use Rattle.model.specs.Broker.{Settings, Call, after_calls, grant_count, IsRound, round_calls}
use Rattle.demands.specs.MapDemand.{ReachesEnd, IsOpen, Bytes}
use Rattle.demands.specs.Analyses.{OfAnalysis}
use Rattle.demands.specs.Calls.{Allowed}

-- the state after a list of calls from a fresh record, each bid lent these words and this map and with settings of its own, each again these words
abbrev pub state_after : List ℕ → List ℕ → List Call → State
state_after words map cs = state_in (set_in words) (after_calls words map fresh cs)

-- what holds of the map slice that an analysis of the words leaves, whether the plan fitted (accepted) or not (14)
pub record OfMap (words map : List ℕ) : Type 0 where
  -- each state of the grid has its byte
  pub bytes : Bytes (set_in words) map
  -- after every list of bids and agains, refused ones among them, whatever their settings, the state is open (so it is too at the start and after each call: every beginning of a list is one)
  pub open_after : (cs : List Call) → InGrid (lengths_of (set_in words)) (state_after words map cs) × IsOpen (set_in words) (state_after words map cs)
  -- and the grant number is the number of bids answered Granted, modulo 2^32
  pub counted : (cs : List Call) → (after_calls words map fresh cs).grants ≡ grant_count words map fresh cs % 0x100000000
  -- under every share and window from 1 to 255 kept throughout: after at least as many rounds of bids as the set has actions every task is finished
  pub finished : (c : Settings) → Allowed c → (rs : List (List ℕ)) → ((r : List ℕ) → Memᴰ r rs → IsRound (length (set_in words).tasks) r)
      → sum (lengths_of (set_in words)) ≤ length rs → state_after words map (round_calls c rs) ≡ lengths_of (set_in words)

-- what holds besides of the set's plan p, which an accepted analysis leaves in its slice
pub record OfPlan (words m : List ℕ) (p : Plan) : Type 0 where
  -- a permitted state lies in an unsafe box exactly if no sequence of allowed steps leads from it to the end
  pub unsafe-box : (x : State) → InGrid (lengths_of (set_in words)) x → permitted (set_in words) x ≡ true
      → (covered p.unsafe x ≡ true) ↔ (ReachesEnd (set_in words) x → ⊥)
  -- after every list of bids and agains the state lies in no box
  pub no_box : (cs : List Call) → (covered (map (λ f. f.box) p.forbidden) (state_after words m cs) ≡ false) × (covered p.unsafe (state_after words m cs) ≡ false)

-- for all words and all slices lent to an analysis of them, with the slices as it leaves them, the plan read back up to its kind 5
pub record Demand3 : Type 0 where
  -- an analysis of a set is accepted exactly if its map and plan have room in the slices, as `Analyses` says: so nothing below is said of no set
  pub answers : (words : List ℕ) (s : Set) → read words ≡ given s → OfAnalysis words s
  pub accepted : (words map plan : List ℕ) (p : Planned) → (analyse words map plan).answer ≡ given p
      → OfMap words (analyse words map plan).map × OfPlan words (analyse words map plan).map (plan_from (analyse words map plan).plan)
  -- where the plan has no room, the map is the same, and what is said of the plan holds of the set's, which is not written
  pub plan_too_short : (words map plan : List ℕ) (place : ℕ) → (analyse words map plan).answer ≡ refused 14 place
      → OfMap words (analyse words map plan).map × OfPlan words (analyse words map plan).map (plan_of (set_in words))
