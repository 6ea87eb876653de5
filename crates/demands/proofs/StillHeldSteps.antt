-- A walk over a task's actions finds a device held exactly if one of them claimed it and none since released it, and in a balanced task with that claim's units.
use Prim.Native.Nat.{ℕ, zero, suc, ◌<◌, ◌≤◌}
use native.Mathlib.Omega.{arith}
use native.Mathlib.Nat.{eq-or-lt_of_le, le_of_suc-le-suc}
use mathlib.Core.Path.{◌≡◌, refl, sym, ap, ap₂, ◌∙◌}
use mathlib.Core.Logic.{◌↔◌, ◌⊎◌, inl, inr}
use mathlib.Core.Bool.{Bool, true, false, not}
use mathlib.Core.List.{[], ◌∷◌}
use lib.ListN.{length, get_or, take, drop}
use lib.Seq.{take-suc}
use lib.Dec.{eqb}
use borrow.Author.Tests.{eqb-true, eq-eqb, ne_eqb, not-true, eqb-false, ltb-false}
use Rattle.model.specs.Set.{Action, claim, release, device_of, Task, balanced}
use Rattle.model.specs.Read.{held_after}
use Rattle.model.proofs.Bools.{by_bool, by_cases, true-not-false, and-true, or-true, or_right}
use Rattle.model.proofs.Held.{held-append, releases, balanced-first, balanced-next}
use Rattle.model.proofs.HoldWalk.{units_after, units-append, units-held}
use Rattle.demands.specs.Terms.{StillHeldWith, StillHeld, Claims}

pub not-both : {a : Action} (d c e : ℕ) → a ≡ claim c e → a ≡ release d → ⊥
not-both d c e p q = let z : ◌≡◌ {A = ℕ} 0 1 = cc in omega arith

module _ (d : ℕ) where
  -- ---- one action on
  -- it claims the device as C says, or what was held is kept, since the action doesn't release it
  abbrev Kept : Type 0 → Type 0 → Action → Type 0
  Kept C H a = C ⊎ (H × (a ≡ release d → ⊥))

  module _ (e : ℕ) where
    still-told : (task : Task) (k : ℕ) → StillHeldWith d e task (suc k)
        → Kept (get_or task k (claim 0 0) ≡ claim d e) (StillHeldWith d e task k) (get_or task k (claim 0 0))
    still-told task k s =
        by_cases (eq-or-lt_of_le (le_of_suc-le-suc s.1))
        (λ q. inl (rw q at s.2))
        (λ l. inr ((s.0, l, s.2, λ q m n. s.3 q m (omega arith)), s.3 k l (omega arith)))

    still-holds : (task : Task) (k : ℕ) → Kept (get_or task k (claim 0 0) ≡ claim d e) (StillHeldWith d e task k) (get_or task k (claim 0 0))
        → StillHeldWith d e task (suc k)
    still-holds task k (inl c) = (k, omega arith, c, λ q m n. absurd (omega arith))
    still-holds task k (inr r) =
        let s = r.0 in
        (s.0, omega arith, s.2, λ q m n f. by_cases (eq-or-lt_of_le (le_of_suc-le-suc n)) (λ z. r.1 (rw z at f)) (λ l. s.3 q m l f))

    kept-told : (n : ℕ) (a : Action) → units_after d n (a ∷ []) ≡ suc e → Kept (a ≡ claim d e) (n ≡ suc e) a
    unfolding units_after
    kept-told n (claim c u) k =
        by_bool (eqb c d)
        (λ q. let own : suc u ≡ suc e = rw q at k in inl (ap₂ claim (eqb-true c d q) (omega arith)))
        (λ q. inr (rw q at k, not-both d c u refl))
    kept-told n (release c) k =
        by_bool (eqb c d)
        (λ q. let none : 0 ≡ suc e = rw q at k in absurd (omega arith))
        (λ q. inr (rw q at k, λ z. let same : c ≡ d = cc in eqb-false c d q same))

    kept-holds : (n : ℕ) (a : Action) → (Claims a d → n ≡ 0) → Kept (a ≡ claim d e) (n ≡ suc e) a → units_after d n (a ∷ []) ≡ suc e
    unfolding units_after
    kept-holds n a f (inl q) = rw (q, eq-eqb d d refl)
    kept-holds n (claim c u) f (inr q) =
        by_bool (eqb c d)
        (λ k. absurd (omega (arith, q.0, f (u, ap (λ b. claim b u) (eqb-true c d k)))))
        (λ k. rw k q.0)
    kept-holds n (release c) f (inr q) = rw (ne_eqb c d (λ z. q.1 (ap release z))) q.0

  kept_map : {C D H K : Type 0} {a : Action} → (C → D) → (H → K) → Kept C H a → Kept D K a
  kept_map g f (inl q) = inl (g q)
  kept_map g f (inr q) = inr (f q.0, q.1)

  -- ---- whether a device is held, after the actions of any task
  held-told : (h : Bool) (a : Action) → held_after d h (a ∷ []) ≡ true → Kept (Claims a d) (h ≡ true) a
  unfolding held_after
  held-told h (claim c u) k = by_cases (or-true (eqb c d) h k) (λ q. inl (u, ap (λ b. claim b u) (eqb-true c d q))) (λ q. inr (q, not-both d c u refl))
  held-told h (release c) k =
      let r = and-true (not (eqb c d)) h k in
      inr (r.1, λ z. let same : c ≡ d = cc in eqb-false c d (not-true (eqb c d) r.0) same)

  held-holds : (h : Bool) (a : Action) → Kept (Claims a d) (h ≡ true) a → held_after d h (a ∷ []) ≡ true
  unfolding held_after
  held-holds h a (inl q) = rw (q.1, eq-eqb d d refl)
  held-holds h (claim c u) (inr q) = or_right (eqb c d) h q.0
  held-holds h (release c) (inr q) = rw (ne_eqb c d (λ z. q.1 (ap release z)), q.0)

  still_before : (task : Task) (k : ℕ) → StillHeld d task (suc k) → Kept (Claims (get_or task k (claim 0 0)) d) (StillHeld d task k) (get_or task k (claim 0 0))
  still_before task k s = kept_map (λ q. (s.0, q)) (λ q. (s.0, q)) (still-told s.0 task k s.1)

  still_after : (task : Task) (k : ℕ) → Kept (Claims (get_or task k (claim 0 0)) d) (StillHeld d task k) (get_or task k (claim 0 0)) → StillHeld d task (suc k)
  still_after task k (inl q) = (q.0, still-holds q.0 task k (inl q.1))
  still_after task k (inr q) = (q.0.0, still-holds q.0.0 task k (inr (q.0.1, q.1)))

  pub walk-still : (task : Task) (k : ℕ) → k ≤ length task → (held_after d false (take k task) ≡ true) ↔ StillHeld d task k
  unfolding held_after
  walk-still task zero l = ((λ e. true-not-false false e refl), (λ s. absurd (omega (arith, s.1.1))))
  walk-still task (suc k) l =
      let a = get_or task k (claim 0 0) in
      let h = held_after d false (take k task) in
      let before = walk-still task k (omega arith) in
      let step : held_after d false (take (suc k) task) ≡ held_after d h (a ∷ []) =
      ap (held_after d false) (take-suc task k (claim 0 0) l) ∙ held-append d false (take k task) (a ∷ []) in
      rw step (
        (λ e. still_after task k (kept_map (λ q. q) before.0 (held-told h a e))),
        (λ s. held-holds h a (kept_map (λ q. q) before.1 (still_before task k s))),
      )

  -- ---- how many units, after those of a balanced one
  -- what a task holds after k actions fits the others
  balanced-after : (h : Bool) (task : Task) (k : ℕ) → balanced d h task ≡ true → balanced d (held_after d h (take k task)) (drop k task) ≡ true
  unfolding held_after
  balanced-after h task zero b = b
  balanced-after h [] (suc k) b = b
  balanced-after h (a ∷ task) (suc k) b =
      rw (held-append d h (a ∷ []) (take k task)) (balanced-after (held_after d h (a ∷ [])) task k (balanced-next d h a task b))

  next_fits : (h : Bool) (task : Task) (k : ℕ) → k < length task → balanced d (held_after d h (take k task)) (drop k task) ≡ true
      → Claims (get_or task k (claim 0 0)) d → held_after d h (take k task) ≡ false
  unfolding held_after releases device_of
  next_fits h [] k l b c = absurd (omega arith)
  next_fits h (a ∷ task) zero l b c = balanced-first d h a task b (rw c.1 (eq-eqb d d refl)) ∙ rw c.1
  next_fits h (a ∷ task) (suc k) l b c =
      held-append d h (a ∷ []) (take k task)
      ∙ next_fits (held_after d h (a ∷ [])) task k (omega arith) (rw (held-append d h (a ∷ []) (take k task)) at b) c

  module _ (task : Task) (b : balanced d false task ≡ true) where
    -- a claim finds none of its device's units held
    claims-free : (k : ℕ) → k < length task → Claims (get_or task k (claim 0 0)) d → units_after d 0 (take k task) ≡ 0
    claims-free k l c =
        let free = next_fits false task k l (balanced-after false task k b) c in
        omega (arith, ltb-false 0 (units_after d 0 (take k task)) (sym (units-held d 0 (take k task)) ∙ free))

    pub walk-with : (e k : ℕ) → k ≤ length task → (units_after d 0 (take k task) ≡ suc e) ↔ StillHeldWith d e task k
    unfolding units_after
    walk-with e zero l = ((λ q. absurd (omega arith)), (λ s. absurd (omega (arith, s.1))))
    walk-with e (suc k) l =
        let a = get_or task k (claim 0 0) in
        let n = units_after d 0 (take k task) in
        let before = walk-with e k (omega arith) in
        let step : units_after d 0 (take (suc k) task) ≡ units_after d n (a ∷ []) =
        ap (units_after d 0) (take-suc task k (claim 0 0) l) ∙ units-append d 0 (take k task) (a ∷ []) in
        rw step (
          (λ q. still-holds e task k (kept_map (λ c. c) before.0 (kept-told e n a q))),
          (λ s. kept-holds e n a (claims-free k l) (kept_map (λ c. c) before.1 (still-told e task k s))),
        )

    -- and none exactly if no claim is unreleased
    pub walk_none : (k : ℕ) → k ≤ length task → (units_after d 0 (take k task) ≡ 0) ↔ (StillHeld d task k → ⊥)
    walk_none k l = (
      (λ z s. absurd (omega (arith, z, (walk-with s.0 k l).1 s.1))),
      (λ f. none (units_after d 0 (take k task)) refl f),
    )
      where
        none : (n : ℕ) → n ≡ units_after d 0 (take k task) → (StillHeld d task k → ⊥) → units_after d 0 (take k task) ≡ 0
        none zero e f = sym e
        none (suc n) e f = absurd (f (n, (walk-with n k l).0 (sym e)))
