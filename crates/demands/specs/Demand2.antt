-- Demand 2: the reader accepts the sets of the layout and no others; the forbidden boxes are those of the published rule with units counted, and a state lies in one exactly when
-- some device has more units held than its capacity; dead states are listed once each, ascending, in kind 9 those to which allowed steps lead from the
-- start, in kind A the others.
use Rattle.std.specs.Prelude.{ℕ, ◌<◌, ◌≡◌, ◌↔◌, ◌⊎◌, true}
use mathlib.Core.List.{List, map, Memᴰ}
use Rattle.model.specs.Answer.{given}
use Rattle.model.specs.Set.{Set, lengths_of, size}
use Rattle.model.specs.Layout.{encode, Rules, present, former, WellFormedBy}
use Rattle.model.specs.Read.{read_by, set_in}
use Rattle.model.specs.State.{State, state_at, InGrid}
use Rattle.model.specs.Hold.{Overfull}
use Rattle.model.specs.Box.{covered}
use Rattle.model.specs.Forbidden.{forbidden}
use Rattle.model.specs.Plan.{unsafe_of, Plan, plan_of, plan_from}
use Rattle.model.specs.Analysis.{Planned, analyse}
use Rattle.demands.specs.Terms.{Ordered}
use Rattle.demands.specs.MapDemand.{IsDead, IsReached}

-- first part: the sets of the layout and no others, by these rules
pub record LayoutExact (rules : Rules) : Type 0 where
  -- the words of a well-formed set are accepted, and read as that set
  pub accepts : (s : Set) → WellFormedBy rules s → read_by rules (encode s) ≡ given s
  -- accepted words are the words of the set that is read, and it is well formed
  pub no_others : (words : List ℕ) (s : Set) → read_by rules words ≡ given s → (words ≡ encode s) × WellFormedBy rules s
  -- well-formed sets with equal words are equal
  pub one_set : (s r : Set) → WellFormedBy rules s → WellFormedBy rules r → encode s ≡ encode r → s ≡ r

-- the state of rank r of the set s is dead; and the state of rank r is reached
abbrev pub DeadRank : Set → ℕ → Type 0
DeadRank s r = (r < size (lengths_of s)) × IsDead s (state_at (lengths_of s) r)

abbrev pub ReachedRank : Set → ℕ → Type 0
ReachedRank s r = IsReached s (state_at (lengths_of s) r)

-- second and third part, of the plan p for the set s
pub record PlanExact (s : Set) (p : Plan) : Type 0 where
  -- the forbidden boxes are those of the set, each with its device: `ForbiddenRule` says which they are, and in which order
  pub rule : p.forbidden ≡ forbidden s
  -- a state of the grid lies in one exactly if some device has more units held than its capacity
  pub exact : (x : State) → InGrid (lengths_of s) x → (covered (map (λ f. f.box) p.forbidden) x ≡ true) ↔ Overfull s x
  -- the unsafe boxes are those of the set, in the order made: `UnsafeRule`
  pub made : p.unsafe ≡ unsafe_of s
  -- kind 9 lists, by strictly rising rank, the dead states to which allowed steps lead from the start
  pub rising : Ordered (λ q r. q < r) p.reached
  pub listed : (r : ℕ) → Memᴰ r p.reached ↔ (DeadRank s r × ReachedRank s r)
  -- kind A lists, by strictly rising rank too, the others
  pub others_rising : Ordered (λ q r. q < r) p.unreached
  pub others_listed : (r : ℕ) → Memᴰ r p.unreached ↔ (DeadRank s r × (ReachedRank s r → ⊥))
  -- so each dead state stands in one of the two, and none in both
  pub in_one : (r : ℕ) → DeadRank s r → Memᴰ r p.reached ⊎ Memᴰ r p.unreached
  pub not_in_both : (r : ℕ) → Memᴰ r p.reached → Memᴰ r p.unreached → ⊥

-- demand 2
pub record Demand2 : Type 0 where
  -- by the present rules, and by the former ones, which the cleaner reads by
  pub layout : LayoutExact present
  pub former_layout : LayoutExact former
  -- of the plan of every set
  pub of-set : (s : Set) → PlanExact s (plan_of s)
  -- where an analysis is accepted, of the plan read back from the plan slice as it leaves it, whatever the slices held and however long they are
  pub plan : (words mapped plan : List ℕ) (p : Planned) → (analyse words mapped plan).answer ≡ given p
      → PlanExact (set_in words) (plan_from (analyse words mapped plan).plan)
