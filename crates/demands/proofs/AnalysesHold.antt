-- The analysis answers and leaves what SCOPE.md, "Analysis", says, case by case.
use Prim.Native.Nat.{ℕ, ◌≤◌}
use mathlib.Core.Path.{◌≡◌, ap, ◌∙◌}
use mathlib.Core.List.{List, map}
use lib.ListN.{length}
use lib.Dec.{ltb}
use borrow.Author.Tests.{ltb-true, ltb-false, lt-ltb, le-ltb}
use Rattle.model.specs.Answer.{given, ◌then◌, if_given}
use Rattle.model.specs.Set.{Set, lengths_of, size}
use Rattle.model.specs.Read.{read}
use Rattle.model.specs.Map.{map_of}
use Rattle.model.specs.Plan.{plan_of}
use Rattle.model.specs.Record.{map_fits}
use Rattle.model.specs.Slice.{over}
use Rattle.model.specs.Analysis.{Analysed, plan_fits, analyse}
use Rattle.model.proofs.Bools.{by_bool}
use Rattle.model.proofs.DeadRanks.{map_length}
use Rattle.model.proofs.Records.{Carries, over-carries}
use Rattle.model.proofs.PlanCount.{plan-count}
use Rattle.model.proofs.PlanFitting.{plan-fits}
use Rattle.model.proofs.ReadExact.{read-sound}
use Rattle.demands.specs.Analyses.{plan_length, OfAnalysis, Analyses}
use Rattle.demands.proofs.LayoutWords.{plan-words}

module _ (words : List ℕ) (s : Set) (is_read : read words ≡ given s) where
  pub of-analysis : OfAnalysis words s
  unfolding ◌then◌ if_given map_fits plan_fits
  of-analysis = record {
    map_length = map_length s;
    plan-length = plan-count (length s.tasks) (plan_of s) (plan-fits s (read-sound words s is_read).1).lists;
    map_short = λ m p h. rw (is_read, lt-ltb (length m) (size (lengths_of s)) h);
    plan_short = λ m p h l.
        rw (is_read, le-ltb (length m) (size (lengths_of s)) h, lt-ltb (length p) (plan_length s) l, map_length s);
    made = λ m p h l.
        rw (is_read, le-ltb (length m) (size (lengths_of s)) h, le-ltb (length p) (plan_length s) l, map_length s);
  }

-- an analysis with room for the map leaves it at the slice's front, whether the plan fits or not
map-left : (words map plan : List ℕ) (s : Set) → read words ≡ given s → size (lengths_of s) ≤ length map → (analyse words map plan).map ≡ over (map_of s) map
map-left words map plan s e h =
    let of = of-analysis words s e in
    by_bool (ltb (length plan) (plan_length s))
    (λ k. ap (λ (a : Analysed). a.map) (of.plan_short map plan h (ltb-true (length plan) (plan_length s) k)) ∙ rw (map_length s))
    (λ k. ap (λ (a : Analysed). a.map) (of.made map plan h (ltb-false (length plan) (plan_length s) k)) ∙ rw (map_length s))

pub map-carries : (words map plan : List ℕ) (s : Set) → read words ≡ given s → size (lengths_of s) ≤ length map → Carries s (analyse words map plan).map
map-carries words map plan s e h = rw (map-left words map plan s e h) (over-carries s map)

pub analyses-hold : Analyses
analyses-hold = record { plan-words = plan-words; analyses = of-analysis }
