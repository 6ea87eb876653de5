-- A record that fits the set, as SCOPE.md, "Refusals", says it, and the state that it gives.
use Prim.Native.Nat.{ℕ, ◌≤◌}
use native.Mathlib.Omega.{arith}
use mathlib.Core.Path.{◌≡◌, sym, ◌∙◌}
use mathlib.Core.Logic.{inl, inr}
use mathlib.Core.Bool.{Bool, true, false, ◌&&◌}
use mathlib.Core.List.{[]}
use lib.ListN.{length, length-map, get_or-map, get_or-eq_default}
use lib.Seq.{get_or-take, length-take-le}
use lib.Dec.{ltb, leb}
use borrow.Author.Tests.{ltb-true, ltb-false, lt-ltb, leb-true, le-leb}
use Rattle.model.specs.Set.{Set, lengths_of, task_at, at}
use Rattle.model.specs.Layout.{WellFormed}
use Rattle.model.specs.State.{InGrid}
use Rattle.model.specs.Record.{Record, state_in, misplaced, miscounted, unfit}
use Rattle.model.proofs.Bools.{by_bool, by_cases, and-true, or-true, or-false, or_right, any-true, any_false, any-intro}
use Rattle.demands.specs.Calls.{Unfit}

-- the action count of a task, 0 for an absent one
module _ (s : Set) (t : ℕ) where
  pub length_at : at (lengths_of s) t ≡ length (task_at s t)
  length_at = get_or-map length s.tasks t []

  absent-length : length s.tasks ≤ t → at (lengths_of s) t ≡ 0
  absent-length h = get_or-eq_default (lengths_of s) 0 {n = t} (omega (arith, length-map s.tasks length))

module _ (s : Set) (w : WellFormed s) (r : Record) where
  -- what is tested of each task's position, and of its count
  abbrev over : ℕ → Bool
  over t = ltb (at (lengths_of s) t) (at r.positions t)

  abbrev counted : ℕ → Bool
  counted t = leb (length s.tasks) t && ltb 0 (at r.counts t)

  misplaced-told : misplaced s r ≡ true → Unfit s r
  unfolding misplaced
  misplaced-told e =
      let q = any-true 8 over e in
      let t = q.0 in
      let l = ltb-true (at (lengths_of s) t) (at r.positions t) q.2 in
      by_bool (ltb t (length s.tasks))
      (λ h. inl (t, ltb-true t (length s.tasks) h, omega (arith, length_at s t)))
      (λ h. inr (inl (t, ltb-false t (length s.tasks) h, q.1, λ z. omega (arith, l))))

  miscounted-told : miscounted s r ≡ true → Unfit s r
  unfolding miscounted
  miscounted-told e =
      let q = any-true 8 counted e in
      let t = q.0 in
      let b = and-true (leb (length s.tasks) t) (ltb 0 (at r.counts t)) q.2 in
      inr (inr (t, leb-true (length s.tasks) t b.0, q.1, λ z. omega (arith, ltb-true 0 (at r.counts t) b.1)))

  pub told-unfit : Unfit s r → unfit s r ≡ true
  unfolding misplaced miscounted
  told-unfit (inl q) =
      rw (any-intro 8 over q.0 (omega (arith, q.1, w.tasks)) (lt-ltb (at (lengths_of s) q.0) (at r.positions q.0) (omega (arith, q.2, length_at s q.0))))
  told-unfit (inr (inl q)) =
      let nonzero : at r.positions q.0 ≡ 0 → ⊥ = q.3 in
      rw (any-intro 8 over q.0 q.2 (lt-ltb (at (lengths_of s) q.0) (at r.positions q.0) (omega (arith, nonzero, absent-length s q.0 q.1))))
  told-unfit (inr (inr q)) =
      let nonzero : at r.counts q.0 ≡ 0 → ⊥ = q.3 in
      or_right (misplaced s r) (miscounted s r)
      (any-intro 8 counted q.0 q.2 (rw (le-leb (length s.tasks) q.0 q.1) (lt-ltb 0 (at r.counts q.0) (omega (arith, nonzero)))))

  pub is-fit : (Unfit s r → ⊥) → unfit s r ≡ false
  is-fit n =
      by_bool (unfit s r)
      (λ e. absurd (n (by_cases (or-true (misplaced s r) (miscounted s r) e) misplaced-told miscounted-told)))
      (λ e. e)

-- a record that fits gives a state of the grid
pub placed-grid : (s : Set) → WellFormed s → (r : Record) → length r.positions ≡ 8 → unfit s r ≡ false → InGrid (lengths_of s) (state_in s r)
unfolding misplaced
placed-grid s w r full fits = record {
  count = few ∙ sym (length-map s.tasks length);
  fits = λ t. by_bool (ltb t (length s.tasks))
      (λ e.
      let h = ltb-true t (length s.tasks) e in
      rw (get_or-take (length s.tasks) r.positions t 0 h)
      (ltb-false (at (lengths_of s) t) (at r.positions t) (any_false 8 _ (or-false (misplaced s r) (miscounted s r) fits).0 t (omega (arith, w.tasks)))))
      (λ e.
      let h = ltb-false t (length s.tasks) e in
      rw (get_or-eq_default (state_in s r) 0 {n = t} (omega (arith, few))) (omega arith));
}
  where
    few : length (state_in s r) ≡ length s.tasks
    few = length-take-le (length s.tasks) r.positions (omega (arith, w.tasks))
