-- What each way through the analysis answers and leaves.
use Rattle.std.specs.Prelude.{Option, Some, None, Ok, Err}
use Prim.Native.Nat.{ℕ, ◌+◌, ◌<◌, ◌≤◌}
use native.Mathlib.Omega.{arith}
use mathlib.Core.Path.{◌≡◌, sym, ap, ◌∙◌}
use mathlib.Core.List.{List}
use lib.ListN.{length, drop, replicate, length-replicate}
use lib.Seq.{take_at}
use borrow.Author.Tests.{lt-ltb, le-ltb}
use Rattle.model.specs.Answer.{given, refused, ◌then◌, if_given}
use Rattle.model.specs.Set.{Set, lengths_of, size}
use Rattle.model.specs.Read.{read}
use Rattle.model.specs.Map.{map_of}
use Rattle.model.specs.Plan.{plan_of, plan_words}
use Rattle.model.specs.Record.{map_fits}
use Rattle.model.specs.Slice.{over}
use Rattle.model.specs.Analysis.{plan_fits, planned, analyse}
use Rattle.model.proofs.DeadRanks.{map_length}
use Rattle.plan_words.specs.Words.{Wrote}
use Rattle.plan_words.proofs.Write.{read_next, read-full}
use Rattle.refusals.specs.declared.Reason.TheVariants.{MapTooShort, PlanTooShort}
use Rattle.refusals.specs.declared.Refusal.{Refusal}
use Rattle.refusals.specs.Answers.{number_of, answer_of}
use Rattle.analysis.specs.declared.Planned.{Planned}
use Rattle.analysis.specs.Says.{planned_of, analysed_of}
use Rattle.analysis.specs.Sections.{HasMap}

-- the refusals of a set
pub turned_back : (words map plan : List ℕ) (r : Refusal) → refused (number_of r.reason) r.place ≡ read words → analysed_of (Err r) map plan ≡ analyse words map plan
unfolding ◌then◌ if_given answer_of
turned_back words map plan r e = rw (sym e)

-- ---- an accepted set
module _ (words map plan : List ℕ) (s : Set) (is_read : read words ≡ given s) where
  -- 13
  pub map_short : (grid : ℕ) → grid ≡ size (lengths_of s) → length map < grid
      → analysed_of (Err (record { reason = MapTooShort; place = grid })) map plan ≡ analyse words map plan
  unfolding ◌then◌ if_given map_fits answer_of number_of
  map_short grid e h = let k : length map < size (lengths_of s) = omega arith in rw (is_read, e, lt-ltb _ _ k)

  module _ (room : size (lengths_of s) ≤ length map) {made : List ℕ} (is_made : made ≡ over (map_of s) map) {q : List ℕ} {r : Option ℕ}
      (wrote : Wrote plan 0 (plan_words (plan_of s)) r q) where
    -- accepted
    pub planned-both : (count : ℕ) → r ≡ Some count → (said : Planned) → planned_of said ≡ planned s count → analysed_of (Ok said) made q ≡ analyse words map plan
    unfolding ◌then◌ if_given map_fits plan_fits answer_of
    planned-both count e said is_said =
        let f = read_next (rw e at wrote) in
        let z : 0 + length (plan_words (plan_of s)) ≡ length (plan_words (plan_of s)) = omega arith in
        rw (is_said, is_read, is_made, f.words, f.next, z, le-ltb _ _ room, le-ltb (length plan) (length (plan_words (plan_of s))) (omega (arith, f.fit)))

    -- 14
    pub plan_short : r ≡ None → (zeros : List ℕ) → zeros ≡ replicate (length q) 0 → length q ≡ length plan
        → analysed_of (Err (record { reason = PlanTooShort; place = length zeros })) made zeros ≡ analyse words map plan
    unfolding ◌then◌ if_given map_fits plan_fits answer_of number_of
    plan_short e zeros cleared same =
        let over-long = read-full (rw e at wrote) in
        let count : length zeros ≡ length plan = ap length cleared ∙ length-replicate {A = ℕ} (length q) 0 ∙ same in
        rw (is_read, is_made, count, cleared, same, le-ltb _ _ room, lt-ltb (length plan) (length (plan_words (plan_of s))) (omega arith))

-- the map stands at the slice's front
pub has-map : (s : Set) (map made : List ℕ) (grid : ℕ) → grid ≡ size (lengths_of s) → made ≡ over (map_of s) map → HasMap s grid made
has-map s map made grid e is_made = rw is_made (take_at (map_of s) (drop (length (map_of s)) map) grid (map_length s ∙ sym e))
