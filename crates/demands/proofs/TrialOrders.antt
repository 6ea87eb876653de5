-- The orders of a trial: right ones and those with a first faulty place are all there are, and the definition tells them apart.
use Prim.Native.Nat.{ℕ, zero, suc, ◌+◌, ◌-◌, ◌<◌, ◌≤◌}
use native.Mathlib.Omega.{arith}
use mathlib.Core.Path.{◌≡◌, refl, sym, ap, ◌∙◌}
use mathlib.Core.Logic.{◌⊎◌, inl, inr, ⊎_elim}
use mathlib.Core.Bool.{Bool, true, false}
use mathlib.Core.List.{List, ◌++◌, flatten}
use lib.ListN.{length, length-append, get_or-append}
use lib.Seq.{get_or-drop, drop-append_seam}
use lib.Dec.{ltb, leb}
use borrow.Author.Tests.{ne_eqb, lt-ltb, le-ltb, ltb-true, ltb-false, le-leb, leb-true, leb-false}
use Rattle.model.specs.Answer.{given, refused}
use Rattle.model.specs.Below.{lowest}
use Rattle.model.specs.Set.{Set, at}
use Rattle.model.specs.Trial.{faulty, ordered, rounds_of}
use Rattle.model.proofs.Bools.{by_bool, or-true, or-false, true-not-false}
use Rattle.model.proofs.Counts.{lowest-passes, below-lowest, is-lowest, none-lowest}
use Rattle.model.proofs.Lists.{empty}
use Rattle.demands.specs.Trials.{Faulty, FirstFaulty, IsRight}

module _ (s : Set) (order : List ℕ) where
  -- the definition's test of a place
  abbrev test : ℕ → Bool
  test = faulty (length s.tasks) order

  fails : (i : ℕ) → Faulty s order i → test i ≡ true
  fails i f =
      by_bool (leb 255 i)
      (λ e. rw e)
      (λ e. rw e (⊎_elim (λ l. le-leb _ _ l) (λ l. absurd (omega (arith, leb-false 255 i e))) f))

  tells : (i : ℕ) → test i ≡ true → Faulty s order i
  tells i e = ⊎_elim (λ l. inr (leb-true 255 i l)) (λ l. inl (leb-true (length s.tasks) (at order i) l)) (or-true (leb 255 i) (leb (length s.tasks) (at order i)) e)

  passes : (i : ℕ) → (Faulty s order i → ⊥) → test i ≡ false
  passes i n = by_bool (test i) (λ e. absurd (n (tells i e))) (λ e. e)

  -- a first faulty place is refused with 27
  pub faulty-order : (i : ℕ) → FirstFaulty s order i → ordered s order ≡ refused 27 i
  unfolding ordered
  faulty-order i (inl (e, z)) = unfold lowest in rw (e, z)
  faulty-order i (inr f) =
      let first = is-lowest (length order) test i f.0 (fails i f.1) (λ j h. passes j (f.2 j h)) in
      rw (first, ne_eqb (length order) 0 (λ e. omega (arith, f.0)), lt-ltb i (length order) f.0)

  -- and a right order is none
  pub right-order : IsRight s order → ordered s order ≡ given order
  unfolding ordered
  right-order r =
      let none = none-lowest (length order) test (λ i h. passes i (⊎_elim (λ l. omega (arith, r.2 i h)) (λ l. omega (arith, r.1)))) in
      rw (none, ne_eqb (length order) 0 (λ e. omega (arith, r.0)), le-ltb (length order) (length order) (omega arith))

  -- each order is one of the two
  pub right_or_faulty : IsRight s order ⊎ ((i : ℕ) × FirstFaulty s order i)
  right_or_faulty =
      by_bool (ltb 0 (length order))
      (λ some.
      let p = lowest (length order) test in
      by_bool (ltb p (length order))
      (λ e.
      let h = ltb-true p (length order) e in
      inr (p, inr (h, tells p (lowest-passes (length order) test h), λ j l f. true-not-false (test j) (fails j f) (below-lowest (length order) test j l))))
      (λ e.
      let right : (i : ℕ) → i < length order → test i ≡ false = λ i h. below-lowest (length order) test i (omega (arith, ltb-false p (length order) e)) in
      inl (ltb-true 0 (length order) some, few right, λ i h. leb-false (length s.tasks) (at order i) (or-false (leb 255 i) (leb (length s.tasks) (at order i)) (right i h)).1)))
      (λ e. inr (0, inl (empty order (omega (arith, ltb-false 0 (length order) e)), refl)))
    where
      few : ((i : ℕ) → i < length order → test i ≡ false) → length order ≤ 255
      few right =
          by_bool (ltb 255 (length order))
          (λ e.
          let q = (or-false (leb 255 255) (leb (length s.tasks) (at order 255)) (right 255 (ltb-true 255 (length order) e))).0 in
          absurd (omega (arith, leb-false 255 255 q)))
          (λ e. ltb-false 255 (length order) e)

  -- every bid of the rounds of a right order is a task's
  pub rounds-tasks : IsRight s order → (n i : ℕ) → i < length (rounds_of order n) → at (rounds_of order n) i < length s.tasks
  unfolding flatten
  rounds-tasks r zero i h = absurd (omega arith)
  rounds-tasks r (suc n) i h =
      by_bool (ltb i (length order))
      (λ e. let l = ltb-true i (length order) e in rw (get_or-append order (rounds_of order n) 0 i l) (r.2 i l))
      (λ e.
      let l = ltb-false i (length order) e in
      let j : length order + (i - length order) ≡ i = omega arith in
      let q = sym (get_or-drop (length order) (order ++ rounds_of order n) (i - length order) 0) ∙ ap (λ rest. at rest (i - length order)) (drop-append_seam order (rounds_of order n)) in
      rw (← j, q) (rounds-tasks r n (i - length order) (omega (arith, length-append order (rounds_of order n)))))
