-- A word's number in the reading stands no later than each that the word brings, in the order in which they count.
use Prim.Native.Nat.{ℕ, suc, ◌<◌, ◌≤◌}
use native.Mathlib.Omega.{arith}
use mathlib.Core.Path.{◌≡◌, refl, ap}
use mathlib.Core.Logic.{◌⊎◌, inl, inr}
use mathlib.Core.Bool.{Bool, true, false, not, cond, ◌&&◌}
use mathlib.Core.List.{List}
use lib.ListN.{length}
use lib.Dec.{eqb, ltb, leb}
use borrow.Author.Tests.{lt-ltb, le-ltb, le-leb, lt-leb, ne_eqb}
use Rattle.model.specs.Set.{Task, at}
use Rattle.model.specs.Layout.{device_bits, extra_bits}
use Rattle.model.specs.Read.{last_task, held_after, holds_some, out_of_order, field_allowed, too_many, too_many_units, fault}
use Rattle.model.proofs.Bools.{by_bool, true-not-false}
use Rattle.model.proofs.Faults.{scan_of}
use Rattle.demands.specs.Turned.{in_order, place_in, kind, field, device, extra, Holds, IsAction, Brings, after_end, no_kind, late_device, early, bad_capacity, task_field, claim-field, claims_undeclared, releases_undeclared, end_field, device_17, task_9, action_256, too-many-units, claims_held, releases_free, holds_on}
use Rattle.demands.proofs.ReadSoFar.{Going}
use Rattle.demands.proofs.WordFaults.{some_task, none_yet, full-length, holds-some}

-- a's place in the order is no later than n's
abbrev pub UpTo : ℕ → ℕ → Type 0
UpTo n a = place_in in_order a ≤ place_in in_order n

-- a number, and no later than n
abbrev pub Within : ℕ → ℕ → Type 0
Within n v = (1 ≤ v) × UpTo n v

-- so is a test's number, or what the tests after it give
hit : (n : ℕ) (b : Bool) (a x : ℕ) → 1 ≤ a → UpTo n a → (b ≡ false → Within n x) → Within n (cond b a x)
hit n true a x low high rest = (low, high)
hit n false a x low high rest = rest refl

met : (n : ℕ) (b : Bool) (a x : ℕ) → 1 ≤ a → UpTo n a → b ≡ true → Within n (cond b a x)
met n b a x low high e = rw e (low, high)

-- ---- the tests on a word of each kind: one that is met gives at most its number
module _ (cs : List ℕ) (ts : List Task) (i f : ℕ) where
  device-5 : ltb 0 (length ts) ≡ true → Within 5 (fault (scan_of cs ts) i 1 f)
  unfolding fault out_of_order place_in
  device-5 e = met 5 (ltb 0 (length ts)) 5 _ (omega arith) (omega arith) e

  device-6 : (leb 1 f && leb f 8) ≡ false → Within 6 (fault (scan_of cs ts) i 1 f)
  unfolding fault out_of_order field_allowed place_in
  device-6 e =
      hit 6 (ltb 0 (length ts)) 5 _ (omega arith) (omega arith) λ t.
      met 6 (not (leb 1 f && leb f 8)) 6 _ (omega arith) (omega arith) (ap not e)

  device-7 : leb 16 (length cs) ≡ true → Within 7 (fault (scan_of cs ts) i 1 f)
  unfolding fault out_of_order field_allowed too_many place_in
  device-7 e =
      hit 7 (ltb 0 (length ts)) 5 _ (omega arith) (omega arith) λ t.
      hit 7 (not (leb 1 f && leb f 8)) 6 _ (omega arith) (omega arith) λ u.
      met 7 (leb 16 (length cs)) 7 _ (omega arith) (omega arith) e

  task-6 : eqb f 0 ≡ false → Within 6 (fault (scan_of cs ts) i 2 f)
  unfolding fault out_of_order field_allowed place_in
  task-6 e = met 6 (not (eqb f 0)) 6 _ (omega arith) (omega arith) (ap not e)

  task-7 : leb 8 (length ts) ≡ true → Within 7 (fault (scan_of cs ts) i 2 f)
  unfolding fault out_of_order field_allowed too_many place_in
  task-7 e =
      hit 7 (not (eqb f 0)) 6 _ (omega arith) (omega arith) λ t.
      met 7 (leb 8 (length ts)) 7 _ (omega arith) (omega arith) e

  task-10 : holds_some (scan_of cs ts) ≡ true → Within 10 (fault (scan_of cs ts) i 2 f)
  unfolding fault out_of_order field_allowed too_many place_in
  task-10 e =
      hit 10 (not (eqb f 0)) 6 _ (omega arith) (omega arith) λ t.
      hit 10 (leb 8 (length ts)) 7 _ (omega arith) (omega arith) λ u.
      met 10 (holds_some (scan_of cs ts)) 10 _ (omega arith) (omega arith) e

  end-5 : eqb (length ts) 0 ≡ true → Within 5 (fault (scan_of cs ts) i 5 f)
  unfolding fault out_of_order place_in
  end-5 e = met 5 (eqb (length ts) 0) 5 _ (omega arith) (omega arith) e

  end-6 : eqb f i ≡ false → Within 6 (fault (scan_of cs ts) i 5 f)
  unfolding fault out_of_order field_allowed place_in
  end-6 e =
      hit 6 (eqb (length ts) 0) 5 _ (omega arith) (omega arith) λ t.
      met 6 (not (eqb f i)) 6 _ (omega arith) (omega arith) (ap not e)

  end-10 : holds_some (scan_of cs ts) ≡ true → Within 10 (fault (scan_of cs ts) i 5 f)
  unfolding fault out_of_order field_allowed too_many place_in
  end-10 e =
      hit 10 (eqb (length ts) 0) 5 _ (omega arith) (omega arith) λ t.
      hit 10 (not (eqb f i)) 6 _ (omega arith) (omega arith) λ u.
      met 10 (holds_some (scan_of cs ts)) 10 _ (omega arith) (omega arith) e

  -- CLAIM and RELEASE, whose field is allowed or not: 5, 6 or 7, or else x
  abbrev Acts : Bool → ℕ → ℕ
  Acts allowed x = cond (eqb (length ts) 0) 5 (cond (not allowed) 6 (cond (leb 255 (length (last_task ts))) 7 x))

  acts-6 : (allowed : Bool) (x : ℕ) → allowed ≡ false → Within 6 (Acts allowed x)
  unfolding place_in
  acts-6 allowed x e =
      hit 6 (eqb (length ts) 0) 5 _ (omega arith) (omega arith) λ t.
      met 6 (not allowed) 6 _ (omega arith) (omega arith) (ap not e)

  acts-more : (n : ℕ) (allowed : Bool) (x : ℕ) → UpTo n 7 → (leb 255 (length (last_task ts)) ≡ false → Within n x) → Within n (Acts allowed x)
  unfolding place_in
  acts-more n allowed x l rest =
      hit n (eqb (length ts) 0) 5 _ (omega arith) (omega arith) λ t.
      hit n (not allowed) 6 _ (omega arith) (omega arith) λ u.
      hit n (leb 255 (length (last_task ts))) 7 _ (omega arith) l rest

  -- whether a CLAIM's field is allowed
  abbrev claim_allowed : Bool
  claim_allowed = ltb f 0x1000000 && ltb (device_bits f) (length cs)

  claim-6 : claim_allowed ≡ false → Within 6 (fault (scan_of cs ts) i 3 f)
  unfolding fault out_of_order field_allowed too_many
  claim-6 e = acts-6 claim_allowed _ e

  claim-28 : ltb (at cs (device_bits f)) (suc (extra_bits f)) ≡ true → Within 28 (fault (scan_of cs ts) i 3 f)
  unfolding fault out_of_order field_allowed too_many too_many_units place_in
  claim-28 e =
      acts-more 28 claim_allowed _ (omega arith) λ t.
      met 28 (ltb (at cs (device_bits f)) (suc (extra_bits f))) 28 _ (omega arith) (omega arith) e

  claim-8 : held_after (device_bits f) false (last_task ts) ≡ true → Within 8 (fault (scan_of cs ts) i 3 f)
  unfolding fault out_of_order field_allowed too_many too_many_units place_in
  claim-8 e =
      acts-more 8 claim_allowed _ (omega arith) λ t.
      hit 8 (ltb (at cs (device_bits f)) (suc (extra_bits f))) 28 _ (omega arith) (omega arith) λ u.
      met 8 (held_after (device_bits f) false (last_task ts)) 8 _ (omega arith) (omega arith) e

  release-6 : ltb f (length cs) ≡ false → Within 6 (fault (scan_of cs ts) i 4 f)
  unfolding fault out_of_order field_allowed too_many
  release-6 e = acts-6 (ltb f (length cs)) _ e

  release-9 : held_after f false (last_task ts) ≡ false → Within 9 (fault (scan_of cs ts) i 4 f)
  unfolding fault out_of_order field_allowed too_many place_in
  release-9 e = acts-more 9 (ltb f (length cs)) _ (omega arith) λ t. met 9 (not (held_after f false (last_task ts))) 9 _ (omega arith) (omega arith) (ap not e)

  claim-acts : (n : ℕ) → ((allowed : Bool) (x : ℕ) → Within n (Acts allowed x)) → Within n (fault (scan_of cs ts) i 3 f)
  unfolding fault out_of_order field_allowed too_many
  claim-acts n h = h claim_allowed _

  release-acts : (n : ℕ) → ((allowed : Bool) (x : ℕ) → Within n (Acts allowed x)) → Within n (fault (scan_of cs ts) i 4 f)
  unfolding fault out_of_order field_allowed too_many
  release-acts n h = h (ltb f (length cs)) _

  kind-4 : (k : ℕ) → (leb 1 k && leb k 5) ≡ false → Within 4 (fault (scan_of cs ts) i k f)
  unfolding fault place_in
  kind-4 k e = met 4 (not (leb 1 k && leb k 5)) 4 _ (omega arith) (omega arith) (ap not e)

-- one of two tests fails
second-fails : (a b : Bool) → b ≡ false → (a && b) ≡ false
second-fails true b e = e
second-fails false b e = refl

-- a number that is not 1 to b
outside : (b k : ℕ) → (k ≡ 0) ⊎ (b < k) → (leb 1 k && leb k b) ≡ false
outside b k (inl z) = rw z
outside b k (inr l) = second-fails (leb 1 k) (leb k b) (lt-leb k b l)

module _ (ws : List ℕ) (i : ℕ) (cs : List ℕ) (ts : List Task) (g : Going ws i cs ts) where
  -- a CLAIM's or RELEASE's number
  acts : (n : ℕ) → IsAction ws i → ((allowed : Bool) (x : ℕ) → Within n (Acts cs ts i (field ws i) allowed x)) → Within n (fault (scan_of cs ts) i (kind ws i) (field ws i))
  acts n (inl k) h = rw k (claim-acts cs ts i (field ws i) n h)
  acts n (inr k) h = rw k (release-acts cs ts i (field ws i) n h)

  pub going-within : (n : ℕ) → Brings ws i n → Within n (fault (scan_of cs ts) i (kind ws i) (field ws i))
  going-within n (after_end c) = absurd (g.no_end c)
  going-within n (no_kind k) = kind-4 cs ts i (field ws i) (kind ws i) (outside 5 (kind ws i) k)
  going-within n (late_device k c) = rw k (device-5 cs ts i (field ws i) (lt-ltb 0 (length ts) (some_task ws i cs ts g c)))
  going-within n (early (inl k) c) = acts 5 k (λ allowed x. met 5 (eqb (length ts) 0) 5 _ (omega arith) (omega arith) (none_yet ws i cs ts g c))
  going-within n (early (inr k) c) = rw k (end-5 cs ts i (field ws i) (none_yet ws i cs ts g c))
  going-within n (bad_capacity k c) = rw k (device-6 cs ts i (field ws i) (outside 8 (field ws i) c))
  going-within n (task_field k z) = rw k (task-6 cs ts i (field ws i) (ne_eqb (field ws i) 0 z))
  going-within n (claim-field k l) = rw k (claim-6 cs ts i (field ws i) (rw (le-ltb (field ws i) 0x1000000 l)))
  going-within n (claims_undeclared k l) = rw k (claim-6 cs ts i (field ws i) (second-fails (ltb (field ws i) 0x1000000) (ltb (device ws i) (length cs)) (le-ltb (device ws i) (length cs) (rw g.devices l))))
  going-within n (releases_undeclared k l) = rw k (release-6 cs ts i (field ws i) (le-ltb (field ws i) (length cs) (rw g.devices l)))
  going-within n (end_field k z) = rw k (end-6 cs ts i (field ws i) (ne_eqb (field ws i) i z))
  going-within n (device_17 k l) = rw k (device-7 cs ts i (field ws i) (le-leb 16 (length cs) (rw g.devices l)))
  going-within n (task_9 k l) = rw k (task-7 cs ts i (field ws i) (le-leb 8 (length ts) (rw g.tasks l)))
  going-within n (action_256 k h) =
      acts 7 k (λ allowed x. acts-more cs ts i (field ws i) 7 allowed x (omega arith)
      (λ e. true-not-false _ (le-leb 255 (length (last_task ts)) (full-length ws i cs ts g h)) e))
  going-within n (too-many-units k c d l) = rw k (claim-28 cs ts i (field ws i) (lt-ltb (at cs (device ws i)) (suc (extra ws i)) (omega (arith, (g.declares (device ws i) c d).1, l))))
  going-within n (claims_held k h) = rw k (claim-8 cs ts i (field ws i) (g.holds (device ws i) h))
  going-within n (releases_free k h) = rw k (release-9 cs ts i (field ws i) (not-held (field ws i) h))
    where
      not-held : (d : ℕ) → (Holds ws i d → ⊥) → held_after d false (last_task ts) ≡ false
      not-held d none = by_bool (held_after d false (last_task ts)) (λ e. absurd (none (g.held d e))) (λ e. e)
  going-within n (holds_on (inl k) d h) = rw k (task-10 cs ts i (field ws i) (holds-some ws i cs ts g d h))
  going-within n (holds_on (inr k) d h) = rw k (end-10 cs ts i (field ws i) (holds-some ws i cs ts g d h))

-- a number of a word stands in the order, which begins with 3
pub in_order_lem : (ws : List ℕ) (i n : ℕ) → Brings ws i n → at in_order (place_in in_order n) ≡ n
unfolding place_in
in_order_lem ws i n (after_end c) = refl
in_order_lem ws i n (no_kind k) = refl
in_order_lem ws i n (late_device k c) = refl
in_order_lem ws i n (early k c) = refl
in_order_lem ws i n (bad_capacity k c) = refl
in_order_lem ws i n (task_field k c) = refl
in_order_lem ws i n (claim-field k c) = refl
in_order_lem ws i n (claims_undeclared k c) = refl
in_order_lem ws i n (releases_undeclared k c) = refl
in_order_lem ws i n (end_field k c) = refl
in_order_lem ws i n (device_17 k c) = refl
in_order_lem ws i n (task_9 k c) = refl
in_order_lem ws i n (action_256 k c) = refl
in_order_lem ws i n (too-many-units k c d l) = refl
in_order_lem ws i n (claims_held k c) = refl
in_order_lem ws i n (releases_free k c) = refl
in_order_lem ws i n (holds_on k d c) = refl
