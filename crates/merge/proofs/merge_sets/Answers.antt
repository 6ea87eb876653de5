-- `merge::merge_sets` meets its contract: 29, 30, 31 and the merged words' refusal before anything is written, or the merged set.
use Prim.Native.Nat.{ℕ, ◌+◌, ◌-◌, ◌<◌, ◌≤◌}
use native.Mathlib.Omega.{arith}
use mathlib.Core.Path.{◌≡◌, sym, ap₂, ◌∙◌}
use mathlib.Core.Logic.{inl, inr}
use mathlib.Core.Bool.{cond, not}
use mathlib.Core.List.{List}
use lib.Dec.{eqb, ltb}
use lib.ListN.{length}
use borrow.Author.Tests.{ltb-true, ltb-false}
use Rattle.std.specs.Prelude.{Option, Some, None}
use Rattle.std.proofs.lemmas.Result.{err_from_is_err_and}
use Rattle.model.specs.Answer.{given}
use Rattle.model.specs.Below.{lowest}
use Rattle.model.specs.Set.{at}
use Rattle.model.specs.Merge.{first_unequal, Shares}
use Rattle.model.proofs.Bools.{by_bool}
use Rattle.refusals.specs.Answers.{answer_of, number_of}
use Rattle.shape.specs.declared.accepted.AcceptedSet.{AcceptedSet}
use Rattle.shape.specs.SetOf.{set_of}
use Rattle.merge.specs.Sets.{merged_words}
use Rattle.merge.proofs.Parts.{were-read, device-count, unequal-is, shares, parts}
use Rattle.merge.proofs.Answers.{too_many_shared, unequal_capacities, too_short, merge-refused, merges}
use Rattle.merge.proofs.merge_sets.Goals.{After-first_unequal, In_default, then-first-shared-via-then-first-shared, then-first-shared-via-else-first-shared+then-second-shared}
use Rattle.merge.proofs.merge_sets.Goals as goal

-- what the comparison of the shared devices tells of the two sets
module _ (a b : AcceptedSet) (k : ℕ) where
  abbrev unequal_one : ℕ
  unequal_one = lowest k (λ d. not (eqb (at a.shape.capacities d) (at b.shape.capacities d)))

  module _ (r : Option ℕ) (e : r ≡ cond (ltb unequal_one k) (Some unequal_one) None) where
    found : (x : ℕ) → r ≡ Some x → (x ≡ first_unequal k (set_of a) (set_of b)) × (x < k)
    found x i =
        by_bool (ltb unequal_one k)
        (λ t. let q : Some x ≡ Some unequal_one = sym i ∙ rw t at e in let same : x ≡ unequal_one = cc in (same ∙ unequal-is a b k, omega (arith, same, ltb-true unequal_one k t)))
        (λ f. let q : Some x ≡ None = sym i ∙ rw f at e in absurd cc)

    none_found : r ≡ None → k ≤ first_unequal k (set_of a) (set_of b)
    none_found i =
        by_bool (ltb unequal_one k)
        (λ t. let q : None ≡ Some unequal_one = sym i ∙ rw t at e in absurd cc)
        (λ f. omega (arith, unequal-is a b k, ltb-false unequal_one k f))

-- without a refusal both sets have the shared devices
enough : (c : After-first_unequal) → (c.args.shared ≤ length (set_of c.args.first.now).capacities) × (c.args.shared ≤ length (set_of c.args.second.now).capacities)
enough c = (omega (arith, device-count c.args.first.now, c.if-first-shared.false), omega (arith, device-count c.args.second.now, c.if-second-shared.false))

-- what is known once these can be the same ones
module _ (c : In_default) where
  all-same : c.args.shared ≤ first_unequal c.args.shared (set_of c.args.first.now) (set_of c.args.second.now)
  all-same = none_found c.args.first.now c.args.second.now c.args.shared _ c.first_unequal.ensures c.in_default.is

  same-ones : Shares c.args.shared (set_of c.args.first.now) (set_of c.args.second.now)
  same-ones = shares c.args.first.now c.args.second.now c.args.shared c.if-first-shared.false c.if-second-shared.false all-same

  needed : length c.args.first.now.words.now + length c.args.second.now.words.now - c.args.shared - 1
      ≡ length (merged_words c.args.shared c.args.first.now.words.now c.args.second.now.words.now)
  needed = omega (arith, (parts c.args.shared c.args.first.now c.args.second.now same-ones).all)

  -- a slice that isn't too short has room
  room : length c.args.first.now.words.now + length c.args.second.now.words.now - c.args.shared - 1 ≤ length c.args.slice.now
      → length (merged_words c.args.shared c.args.first.now.words.now c.args.second.now.words.now) ≤ length c.args.slice.now
  room h = omega (arith, needed)

pub returns-then-first-shared : goal.returns-then-first-shared
unfolding answer_of number_of
returns-then-first-shared c =
    let a = c.args in
    rw c.at.ensures
    (too_many_shared a.shared a.slice.now a.first.now.words.now a.second.now.words.now (were-read a.first.now) (were-read a.second.now)
    (elim c.then-first-shared.branch [
      | then-first-shared-via-then-first-shared w ↦ inl (omega (arith, device-count a.first.now, w.if-first-shared.true))
      | then-first-shared-via-else-first-shared+then-second-shared w ↦ inr (omega (arith, device-count a.second.now, w.if-second-shared.true))
    ]))

pub returns-in-Some : goal.returns-in-Some
unfolding answer_of number_of
returns-in-Some c =
    let n = (goal.at.returns-in-Some c).After-first_unequal in
    let a = c.args in
    let f = found a.first.now a.second.now a.shared _ c.first_unequal.ensures _ c.in-Some.is in
    rw c.at-in-Some.ensures
    (unequal_capacities a.shared a.slice.now a.first.now.words.now a.second.now.words.now (were-read a.first.now) (were-read a.second.now)
    (enough n).0 (enough n).1 _ f.0 (omega (arith, f.0, f.1)))

pub overflow_sub-needed : goal.overflow_sub-needed
overflow_sub-needed c = omega (arith, (parts c.args.shared c.args.first.now c.args.second.now (same-ones c)).all)

pub overflow_sub-needed-2 : goal.overflow_sub-needed-2
overflow_sub-needed-2 c = omega (arith, (parts c.args.shared c.args.first.now c.args.second.now (same-ones c)).all)

pub returns-then-slice-needed : goal.returns-then-slice-needed
unfolding answer_of number_of
returns-then-slice-needed c =
    let p = (goal.at.returns-then-slice-needed c).In_default in
    let h = same-ones p in
    let a = c.args in
    rw c.at-then-slice-needed.ensures
    (too_short a.shared a.slice.now a.first.now.words.now a.second.now.words.now (were-read a.first.now) (were-read a.second.now)
    h.of_first h.of_second (all-same p) _ (needed p) c.if-slice-needed.true)

pub read_merged-requires : goal.read_merged-requires
read_merged-requires c = same-ones (goal.at.read_merged-requires c).In_default

pub returns-in_err-read_merged : goal.returns-in_err-read_merged
unfolding answer_of
returns-in_err-read_merged c =
    let p = (goal.at.returns-in_err-read_merged c).In_default in
    let h = same-ones p in
    let a = c.args in
    let r = err_from_is_err_and c.from_residual.result c.from_residual.ensures.1 in
    rw (r.1, r.2)
    (merge-refused a.shared a.slice.now a.first.now.words.now a.second.now.words.now (were-read a.first.now) (were-read a.second.now)
    h.of_first h.of_second (all-same p) (room p c.if-slice-needed.false) _ _ (sym c.in_err-read_merged.ensures))

pub write_merged-requires : goal.write_merged-requires
write_merged-requires c =
    let p = (goal.at.write_merged-requires c).In_default in
    record { shares = same-ones p; second_in_bounds = room p c.if-slice-needed.false }

pub returns : goal.returns
unfolding answer_of
returns c =
    let p = (goal.at.returns c).In_default in
    let h = same-ones p in
    let a = c.args in
    ap₂ (λ (k : ℕ) (l : List ℕ). record { answer = given k; slice = l }) c.write_merged.ensures.value c.write_merged.ensures.slice_after
    ∙ merges a.shared a.slice.now a.first.now.words.now a.second.now.words.now (were-read a.first.now) (were-read a.second.now)
    h.of_first h.of_second (all-same p) (room p c.if-slice-needed.false) _ (sym c.in_ok-read_merged.ensures)
