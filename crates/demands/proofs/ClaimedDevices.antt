-- A device is claimed by the test exactly if some action of some task claims it; and the lowest that isn't.
use Prim.Native.Nat.{ℕ, zero, suc, ◌<◌}
use native.Mathlib.Omega.{arith}
use native.Mathlib.Nat.{le_of_suc-le-suc}
use mathlib.Core.Path.{◌≡◌, refl, ap}
use mathlib.Core.Logic.{◌⊎◌, inl, inr}
use mathlib.Core.Bool.{Bool, true, false, not}
use mathlib.Core.List.{List, [], ◌∷◌}
use lib.ListN.{length, get_or}
use lib.Dec.{eqb, ltb}
use borrow.Author.Tests.{eqb-true, eq-eqb, ltb-true, ltb-false, not-true, not-false}
use Rattle.model.specs.Set.{claim, release, Task, Set, claims, claimed}
use Rattle.model.specs.Read.{first_unclaimed}
use Rattle.model.proofs.Bools.{by_bool, by_cases, true-not-false, or-true, or_right}
use Rattle.model.proofs.Counts.{lowest-passes, below-lowest, is-lowest}
use Rattle.demands.specs.Terms.{Claims, IsClaimed, AllClaimed, LowestUnclaimed}

-- ---- in a task
claims-at : (d : ℕ) (task : Task) → claims d task ≡ true → (p : ℕ) × (p < length task) × Claims (get_or task p (claim 0 0)) d
unfolding claims
claims-at d [] e = true-not-false false e refl
claims-at d (claim c u ∷ task) e =
    by_cases (or-true (eqb c d) (claims d task) e)
    (λ k. (0, omega arith, (u, ap (λ (b : ℕ). claim b u) (eqb-true c d k))))
    (λ k. let r = claims-at d task k in (suc r.0, omega (arith, r.1), r.2))
claims-at d (release c ∷ task) e = let r = claims-at d task e in (suc r.0, omega (arith, r.1), r.2)

at-claims : (d : ℕ) (task : Task) (p : ℕ) → p < length task → Claims (get_or task p (claim 0 0)) d → claims d task ≡ true
unfolding claims
at-claims d [] p h e = absurd (omega arith)
at-claims d (claim c u ∷ task) zero h e = let own = e.1 in rw (eq-eqb c d (cc))
at-claims d (release c ∷ task) zero h e = let own = e.1 in absurd (let z : ◌≡◌ {A = ℕ} 0 1 = cc in omega arith)
at-claims d (claim c u ∷ task) (suc p) h e = or_right (eqb c d) (claims d task) (at-claims d task p (le_of_suc-le-suc h) e)
at-claims d (release c ∷ task) (suc p) h e = at-claims d task p (le_of_suc-le-suc h) e

-- ---- in all of them
claimed-at : (d : ℕ) (tasks : List Task) → claimed tasks d ≡ true → (t : ℕ) × (t < length tasks) × (claims d (get_or tasks t []) ≡ true)
unfolding claimed
claimed-at d [] e = true-not-false false e refl
claimed-at d (task ∷ tasks) e =
    by_cases (or-true (claims d task) (claimed tasks d) e)
    (λ k. (0, omega arith, k))
    (λ k. let r = claimed-at d tasks k in (suc r.0, omega (arith, r.1), r.2))

at-claimed : (d : ℕ) (tasks : List Task) (t : ℕ) → t < length tasks → claims d (get_or tasks t []) ≡ true → claimed tasks d ≡ true
unfolding claimed
at-claimed d [] t h e = absurd (omega arith)
at-claimed d (task ∷ tasks) zero h e = rw e
at-claimed d (task ∷ tasks) (suc t) h e = or_right (claims d task) (claimed tasks d) (at-claimed d tasks t (le_of_suc-le-suc h) e)

module _ (s : Set) where
  pub is-claimed : (d : ℕ) → claimed s.tasks d ≡ true → IsClaimed s d
  is-claimed d e =
      let r = claimed-at d s.tasks e in
      let q = claims-at d (get_or s.tasks r.0 []) r.2 in
      (r.0, q.0, r.1, q.1, q.2)

  pub claimed-test : (d : ℕ) → IsClaimed s d → claimed s.tasks d ≡ true
  claimed-test d c = at-claimed d s.tasks c.0 c.2 (at-claims d (get_or s.tasks c.0 []) c.1 c.3 c.4)

  not-claimed : (d : ℕ) → claimed s.tasks d ≡ false → IsClaimed s d → ⊥
  not-claimed d e c = true-not-false (claimed s.tasks d) (claimed-test d c) e

  -- the test for the lowest that isn't claimed
  abbrev free : ℕ → Bool
  free d = not (claimed s.tasks d)

  pub lowest-unclaimed : first_unclaimed s < length s.capacities → LowestUnclaimed s (first_unclaimed s)
  lowest-unclaimed h =
      record {
        declared = h;
        unclaimed = not-claimed (first_unclaimed s) (not-true _ (lowest-passes (length s.capacities) free h));
        lowest = λ e k. is-claimed e (not-false _ (below-lowest (length s.capacities) free e k));
      }

  pub unclaimed-lowest : (d : ℕ) → LowestUnclaimed s d → first_unclaimed s ≡ d
  unclaimed-lowest d l =
      let none : claimed s.tasks d ≡ false = by_bool (claimed s.tasks d) (λ e. absurd (l.unclaimed (is-claimed d e))) (λ e. e) in
      is-lowest (length s.capacities) free d l.declared (rw none) (λ t k. rw (claimed-test t (l.lowest t k)))

  pub all-or-lowest : AllClaimed s ⊎ ((d : ℕ) × LowestUnclaimed s d)
  all-or-lowest =
      by_bool (ltb (first_unclaimed s) (length s.capacities))
      (λ k. inr (first_unclaimed s, lowest-unclaimed (ltb-true _ _ k)))
      (λ k. inl λ d h.
      let far = ltb-false (first_unclaimed s) (length s.capacities) k in
      is-claimed d (not-false _ (below-lowest (length s.capacities) free d (omega arith))))
