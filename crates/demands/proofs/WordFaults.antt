-- A word's number in the reading is one that the word brings.
use Prim.Native.Nat.{ℕ, suc, ◌<◌, ◌≤◌}
use native.Mathlib.Omega.{arith}
use mathlib.Core.Path.{◌≡◌, refl, subst}
use mathlib.Core.Logic.{◌⊎◌, inl, inr}
use mathlib.Core.Bool.{Bool, true, false, not, cond, ◌&&◌}
use mathlib.Core.List.{List}
use lib.ListN.{length}
use lib.Dec.{eqb, ltb, leb}
use borrow.Author.Tests.{ltb-true, ltb-false, leb-true, leb-false, eqb-true, eqb-false, eq-eqb, not-true, not-false}
use Rattle.model.specs.Set.{Task, at}
use Rattle.model.specs.Layout.{device_bits, extra_bits}
use Rattle.model.specs.Read.{last_task, held_after, holds_some, out_of_order, field_allowed, too_many, too_many_units, fault}
use Rattle.model.proofs.Bools.{by_bool, true-not-false, and-true, and-false, any-true, any-intro}
use Rattle.model.proofs.Faults.{scan_of}
use Rattle.demands.specs.Turned.{kind, field, Came, Holds, Full, IsAction, Brings, no_kind, late_device, early, bad_capacity, task_field, claim-field, claims_undeclared, releases_undeclared, end_field, device_17, task_9, action_256, too-many-units, claims_held, releases_free, holds_on}
use Rattle.demands.proofs.WordsBefore.{by-five, some-passes, passes-some}
use Rattle.demands.proofs.ReadSoFar.{Going}

-- a number that is not 1 to b
outside : (b k : ℕ) → (leb 1 k && leb k b) ≡ false → (k ≡ 0) ⊎ (b < k)
outside b k e = by_bool (leb 1 k) (λ t. inr (leb-false k b (and-false (leb 1 k) (leb k b) e t))) (λ t. inl (omega (arith, leb-false 1 k t)))

module _ (ws : List ℕ) (i : ℕ) (cs : List ℕ) (ts : List Task) (g : Going ws i cs ts) where
  -- ---- what the noted set tells of the words
  pub some_task : Came ws i 2 → 0 < length ts
  some_task c = rw g.tasks (passes-some (λ j. eqb (kind ws j) 2) i c.0 c.1 (eq-eqb (kind ws c.0) 2 c.2))

  came-task : 0 < length ts → Came ws i 2
  came-task h = let r = some-passes (λ j. eqb (kind ws j) 2) i (rw g.tasks at h) in (r.0, r.1, eqb-true (kind ws r.0) 2 r.2)

  no_task : eqb (length ts) 0 ≡ true → Came ws i 2 → ⊥
  no_task e c = omega (arith, eqb-true (length ts) 0 e, some_task c)

  pub none_yet : (Came ws i 2 → ⊥) → eqb (length ts) 0 ≡ true
  none_yet n = by_bool (eqb (length ts) 0) (λ e. e) (λ e. absurd (n (came-task (omega (arith, eqb-false (length ts) 0 e)))))

  full : 0 < length ts → 255 ≤ length (last_task ts) → Full ws i
  full some l = let o = g.opened some in (o.0, omega (arith, o.1), o.2, o.3)

  pub full-length : Full ws i → 255 ≤ length (last_task ts)
  full-length f =
      let some = some_task (f.0, omega arith, f.2) in
      let o = g.opened some in
      let early : f.0 < o.0 → ⊥ = λ l. f.3 o.0 l (omega (arith, o.1)) o.2 in
      let late : o.0 < f.0 → ⊥ = λ l. o.3 f.0 l (omega arith) f.2 in
      omega (arith, o.1, f.1, early, late)

  free : (f : ℕ) → held_after f false (last_task ts) ≡ false → Holds ws i f → ⊥
  free f e h = true-not-false _ (g.holds f h) e

  holding : holds_some (scan_of cs ts) ≡ true → (d : ℕ) × Holds ws i d
  holding e = let r = any-true (length cs) _ e in (r.0, g.held r.0 r.2)

  pub holds-some : (d : ℕ) → Holds ws i d → holds_some (scan_of cs ts) ≡ true
  holds-some d h = let e = g.holds d h in any-intro (length cs) _ d (g.declared d e) e

  -- ---- the number of a word is one that it brings
  -- the first test that is met gives the number
  pick : (b : Bool) (n x m : ℕ) → (b ≡ true → Brings ws i n) → (b ≡ false → x ≡ m → Brings ws i m) → cond b n x ≡ m → Brings ws i m
  pick true n x m met missed e = subst (Brings ws i) e (met refl)
  pick false n x m met missed e = missed refl e

  module _ (m f : ℕ) (field_is : field ws i ≡ f) where
    device-brings : kind ws i ≡ 1 → fault (scan_of cs ts) i 1 f ≡ suc m → Brings ws i (suc m)
    unfolding fault out_of_order field_allowed too_many
    device-brings k =
        pick (ltb 0 (length ts)) 5 _ (suc m) (λ t. late_device k (came-task (ltb-true 0 (length ts) t))) λ t.
        pick (not (leb 1 f && leb f 8)) 6 _ (suc m) (λ u. bad_capacity k (rw field_is (outside 8 f (not-true _ u)))) λ u.
        pick (leb 16 (length cs)) 7 _ (suc m) (λ v. device_17 k (rw g.devices at (leb-true 16 (length cs) v))) λ v z. absurd (omega arith)

    task-brings : kind ws i ≡ 2 → fault (scan_of cs ts) i 2 f ≡ suc m → Brings ws i (suc m)
    unfolding fault out_of_order field_allowed too_many
    task-brings k =
        pick (not (eqb f 0)) 6 _ (suc m) (λ u. task_field k (rw field_is (eqb-false f 0 (not-true _ u)))) λ u.
        pick (leb 8 (length ts)) 7 _ (suc m) (λ v. task_9 k (rw g.tasks at (leb-true 8 (length ts) v))) λ v.
        pick (holds_some (scan_of cs ts)) 10 _ (suc m) (λ v. let r = holding v in holds_on (inl k) r.0 r.1) λ v z. absurd (omega arith)

    -- 5, 6 or 7 of a CLAIM or RELEASE, whose field is allowed or not, or else x
    action-brings : IsAction ws i → (allowed : Bool) → (allowed ≡ false → Brings ws i 6) → (x : ℕ) → (allowed ≡ true → x ≡ suc m → Brings ws i (suc m))
        → cond (eqb (length ts) 0) 5 (cond (not allowed) 6 (cond (leb 255 (length (last_task ts))) 7 x)) ≡ suc m → Brings ws i (suc m)
    action-brings k allowed bad x rest =
        pick (eqb (length ts) 0) 5 _ (suc m) (λ t. early (inl k) (no_task t)) λ t.
        pick (not allowed) 6 _ (suc m) (λ u. bad (not-true _ u)) λ u.
        pick (leb 255 (length (last_task ts))) 7 _ (suc m)
        (λ v. action_256 k (full (omega (arith, eqb-false (length ts) 0 t)) (leb-true 255 (length (last_task ts)) v))) λ v. rest (not-false _ u)

    -- a CLAIM's field that is not allowed has a bit above 23 or an undeclared device
    bad-claim : kind ws i ≡ 3 → (ltb f 0x1000000 && ltb (device_bits f) (length cs)) ≡ false → Brings ws i 6
    bad-claim k e =
        by_bool (ltb f 0x1000000)
        (λ t. claims_undeclared k (rw (field_is, ← g.devices) (ltb-false (device_bits f) (length cs) (and-false _ _ e t))))
        (λ t. claim-field k (rw field_is (ltb-false f 0x1000000 t)))

    -- more units than a declared device has
    units-bring : kind ws i ≡ 3 → device_bits f < length cs → at cs (device_bits f) < suc (extra_bits f) → Brings ws i 28
    units-bring k d l =
        let declared = g.capacities (device_bits f) d in
        too-many-units k (at cs (device_bits f)) (rw field_is declared) (rw field_is (omega (arith, l)))

    claim-brings : kind ws i ≡ 3 → fault (scan_of cs ts) i 3 f ≡ suc m → Brings ws i (suc m)
    unfolding fault out_of_order field_allowed too_many too_many_units
    claim-brings k =
        let c = device_bits f in
        action-brings (inl k) (ltb f 0x1000000 && ltb c (length cs)) (bad-claim k) _ λ t.
        pick (ltb (at cs c) (suc (extra_bits f))) 28 _ (suc m)
        (λ u. units-bring k (ltb-true c (length cs) (and-true (ltb f 0x1000000) _ t).1) (ltb-true (at cs c) (suc (extra_bits f)) u)) λ u.
        pick (held_after c false (last_task ts)) 8 _ (suc m) (λ v. claims_held k (rw field_is (g.held c v))) λ v z. absurd (omega arith)

    release-brings : kind ws i ≡ 4 → fault (scan_of cs ts) i 4 f ≡ suc m → Brings ws i (suc m)
    unfolding fault out_of_order field_allowed too_many
    release-brings k =
        action-brings (inr k) (ltb f (length cs)) (λ u. releases_undeclared k (rw (field_is, ← g.devices) (ltb-false f (length cs) u))) _ λ t.
        pick (not (held_after f false (last_task ts))) 9 _ (suc m) (λ v. releases_free k (rw field_is (free f (not-true _ v)))) λ v z. absurd (omega arith)

    end-brings : kind ws i ≡ 5 → fault (scan_of cs ts) i 5 f ≡ suc m → Brings ws i (suc m)
    unfolding fault out_of_order field_allowed too_many
    end-brings k =
        pick (eqb (length ts) 0) 5 _ (suc m) (λ t. early (inr k) (no_task t)) λ t.
        pick (not (eqb f i)) 6 _ (suc m) (λ u. end_field k (rw field_is (eqb-false f i (not-true _ u)))) λ u.
        pick (holds_some (scan_of cs ts)) 10 _ (suc m) (λ v. let r = holding v in holds_on (inr k) r.0 r.1) λ v z. absurd (omega arith)

    kind-brings : (k : ℕ) → kind ws i ≡ k → not (leb 1 k && leb k 5) ≡ true → fault (scan_of cs ts) i k f ≡ suc m → Brings ws i (suc m)
    unfolding fault
    kind-brings k q e =
        pick (not (leb 1 k && leb k 5)) 4 _ (suc m) (λ t. no_kind (rw q (outside 5 k (not-true _ t)))) λ t. true-not-false _ e t

  pub going-brings : (m : ℕ) → fault (scan_of cs ts) i (kind ws i) (field ws i) ≡ suc m → Brings ws i (suc m)
  going-brings m e =
      let k = kind ws i in
      let f = field ws i in
      by_bool (not (leb 1 k && leb k 5)) (λ t. kind-brings m f refl k refl t e) λ t.
      by-five k (not-false _ t)
      (λ z. device-brings m f refl z (rw z at e))
      (λ z. task-brings m f refl z (rw z at e))
      (λ z. claim-brings m f refl z (rw z at e))
      (λ z. release-brings m f refl z (rw z at e))
      (λ z. end-brings m f refl z (rw z at e))
