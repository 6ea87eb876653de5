-- The numbers that the code finds are the model's, and what a word without a fault keeps to.
use Prim.Native.Nat.{ℕ, suc, ◌-◌, ◌≤◌, ◌<◌}
use mathlib.Core.Path.{◌≡◌, refl}
use mathlib.Core.List.{List}
use mathlib.Core.Bool.{Bool, true, false, not, cond, ◌&&◌, and-false as and-nothing}
use native.Mathlib.Omega.{arith}
use borrow.Author.Tests.{lt-ltb, le-ltb, ltb-true, ltb-false, leb-true, leb-false, lt-leb, eqb-true, eqb-false, not-false}
use lib.ListN.{length, get_or}
use lib.Dec.{eqb, ltb, leb}
use Rattle.model.specs.Below.{any, tabulate}
use Rattle.model.specs.Set.{Task, lengths, at}
use Rattle.model.specs.Layout.{device_bits, extra_bits}
use Rattle.model.specs.Read.{last_task, holds_now, out_of_order, field_allowed, too_many, too_many_units, fault}
use Rattle.model.specs.Read as model
use Rattle.model.proofs.Bools.{by_bool, and-true}
use Rattle.model.proofs.Lists.{get_d_tabulate}
use Rattle.shape.specs.ShapeOf.{padded}
use Rattle.shape.proofs.Padded.{padded-at}
use Rattle.reader.specs.Faults.{some_held, device_fault, task_fault, held_fault, units_fault, action_fault, end_fault, word_fault}
use Rattle.reader.specs.Follow.{scan_of, Limits}
use Rattle.reader.proofs.Held.{any_entry}
use Rattle.reader.proofs.LastTask.{named, count-last}

-- ---- a word without a fault
-- a rule whose number doesn't come is kept
kept : (b : Bool) (n m : ℕ) → cond b (suc n) m ≡ 0 → (b ≡ false) × (m ≡ 0)
kept true n m z = absurd (omega arith)
kept false n m z = (refl, z)

pub device-kept : (devices tasks f : ℕ) → device_fault devices tasks f ≡ 0 → (tasks ≤ 0) × (f ≤ 8) × (devices < 16)
unfolding device_fault
device-kept devices tasks f e =
    let p₅ = kept (ltb 0 tasks) 4 _ e in
    let p₆ = kept (not (leb 1 f && leb f 8)) 5 _ p₅.1 in
    let p₇ = kept (leb 16 devices) 6 _ p₆.1 in (
      ltb-false 0 tasks p₅.0,
      leb-true f 8 (and-true (leb 1 f) (leb f 8) (not-false _ p₆.0)).1,
      leb-false 16 devices p₇.0,
    )

pub task-kept : (tasks : ℕ) (held : List Bool) (f : ℕ) → task_fault tasks held f ≡ 0 → (tasks < 8) × (some_held held ≡ false)
unfolding task_fault
task-kept tasks held f e =
    let p₇ = kept (leb 8 tasks) 6 _ (kept (not (eqb f 0)) 5 _ e).1 in
    (leb-false 8 tasks p₇.0, (kept (some_held held) 9 0 p₇.1).0)

-- of an action the device is in the low bits, a RELEASE's too
pub action-kept : (devices : ℕ) (cs : List ℕ) (tasks l : ℕ) (held : List Bool) (b : Bool) (f : ℕ) → devices ≤ 16 → action_fault devices cs tasks l held b f ≡ 0
    → (named b f < devices) × (l < 255) × (device_bits f ≡ named b f)
unfolding action_fault units_fault
action-kept devices cs tasks l held b f few e =
    let z = (kept (eqb tasks 0) 4 _ e).1 in
    by_bool (ltb f devices)
    (λ k.
    let below = ltb-true f devices k in
    let room = leb-false 255 l (kept (leb 255 l) 6 _ (rw k at z)).0 in
    by_bool b (λ c. rw c (omega arith, room, refl)) (λ c. rw c (below, room, omega arith)))
    (λ k. by_bool b
    (λ c.
    let p₆ = kept (not (ltb f 0x1000000 && ltb (device_bits f) devices)) 5 _ (rw (k, c) at z) in
    let below = ltb-true (device_bits f) devices (and-true (ltb f 0x1000000) _ (not-false _ p₆.0)).1 in
    rw c (below, leb-false 255 l (kept (leb 255 l) 6 _ p₆.1).0, refl))
    (λ c. absurd (omega (arith, rw (k, c) at z))))

-- ---- the model's numbers
-- a kind that is none of the five
unknown : (k : ℕ) → eqb k 1 ≡ false → eqb k 2 ≡ false → eqb k 3 ≡ false → eqb k 4 ≡ false → eqb k 5 ≡ false → (leb 1 k && leb k 5) ≡ false
unknown k a b c d e =
    by_bool (leb 1 k)
    (λ h.
    rw (
      h,
      lt-leb k 5
          (omega (arith, leb-true 1 k h, eqb-false k 1 a, eqb-false k 2 b, eqb-false k 3 c, eqb-false k 4 d, eqb-false k 5 e)),
    ))
    λ h. rw h

module _ (m : model.Scan) (i : ℕ) (ok : Limits m i) where
  abbrev cs : List ℕ
  cs = m.set.capacities

  abbrev ts : List Task
  ts = m.set.tasks

  abbrev held : List Bool
  held = tabulate 16 (holds_now m)

  -- what the array of held devices tells
  pub some-held : some_held held ≡ any (length cs) (holds_now m)
  some-held = any_entry (holds_now m) (length cs) ok.declared 16 ok.devices

  held_at : (d : ℕ) → d < length cs → get_or held d false ≡ holds_now m d
  held_at d h = get_d_tabulate 16 (holds_now m) d false (omega (arith, ok.devices))

  -- each kind's number
  pub device-fault : (f : ℕ) → device_fault (length cs) (length ts) f ≡ fault m i 1 f
  unfolding device_fault fault out_of_order field_allowed too_many
  device-fault f = rw ok.running

  pub task-fault : (f : ℕ) → task_fault (length ts) held f ≡ fault m i 2 f
  unfolding task_fault fault out_of_order field_allowed too_many
  task-fault f = rw (ok.running, some-held)

  pub end-fault : (f : ℕ) → end_fault (length ts) i held f ≡ fault m i 5 f
  unfolding end_fault fault out_of_order field_allowed too_many
  end-fault f = rw (ok.running, some-held)

  -- a CLAIM or a RELEASE of what is held or not
  claim-held : (h : Bool) → held_fault h true ≡ cond h 8 0
  unfolding held_fault
  claim-held true = refl
  claim-held false = refl

  release-held : (h : Bool) → held_fault h false ≡ cond (not h) 9 0
  unfolding held_fault
  release-held true = refl
  release-held false = refl

  -- a declared device alone has no bit of the units, and it has the one unit
  module _ (f : ℕ) (declared : ltb f (length cs) ≡ true) where
    below : f < length cs
    below = ltb-true f (length cs) declared

    bits_are : device_bits f ≡ f
    bits_are = omega (arith, below, ok.devices)

    no_extra : extra_bits f ≡ 0
    no_extra = omega (arith, below, ok.devices)

    one_unit : ltb (at cs f) 1 ≡ false
    one_unit = le-ltb (at cs f) 1 (ok.some_unit f below)

    no_bits : ltb f 0x1000000 ≡ true
    no_bits = lt-ltb f 0x1000000 (omega (arith, below, ok.devices))

  -- the number of actions of the task opened last
  abbrev count : ℕ
  count = at (padded 8 (lengths ts)) (length ts - 1)

  counted : eqb (length ts) 0 ≡ false → count ≡ length (last_task ts)
  counted some = count-last 8 ts (omega (arith, eqb-false (length ts) 0 some)) ok.tasks

  pub action-fault : (b : Bool) (f : ℕ) → action_fault (length cs) (padded 16 cs) (length ts) count held b f ≡ fault m i (cond b 3 4) f
  unfolding action_fault units_fault fault out_of_order field_allowed too_many too_many_units
  action-fault true f =
      by_bool (eqb (length ts) 0) (λ e. rw (ok.running, e)) λ some.
      by_bool (ltb f (length cs))
      (λ e. rw (ok.running, some, counted some, bits_are f e, no_extra f e, no_bits f e, e, one_unit f e, held_at f (below f e), claim-held (holds_now m f)))
      (λ e. by_bool (ltb (device_bits f) (length cs))
      (λ k.
      rw (
        ok.running,
        some,
        counted some,
        e,
        k,
        padded-at 16 cs ok.devices (device_bits f),
        held_at (device_bits f) (ltb-true (device_bits f) (length cs) k),
        claim-held (holds_now m (device_bits f)),
      ))
      (λ k. rw (ok.running, some, e, k, and-nothing)))
  action-fault false f =
      by_bool (eqb (length ts) 0) (λ e. rw (ok.running, e)) λ some.
      by_bool (ltb f (length cs))
      (λ e. rw (ok.running, some, counted some, e, held_at f (below f e), release-held (holds_now m f)))
      (λ e. rw (ok.running, some, e))

  none-known : (k f : ℕ) → (leb 1 k && leb k 5) ≡ false → 4 ≡ fault m i k f
  unfolding fault
  none-known k f e = rw (ok.running, e)

  -- so the fault of a word is the model's
  pub word-fault : (k f : ℕ) → word_fault (scan_of m) i k f ≡ fault m i k f
  unfolding word_fault
  word-fault k f =
      by_bool (eqb k 1) (λ h. rw (eqb-true k 1 h) (device-fault f)) λ a.
      by_bool (eqb k 2) (λ h. rw (eqb-true k 2 h) (task-fault f)) λ b.
      by_bool (eqb k 3) (λ h. rw (eqb-true k 3 h) (action-fault true f)) λ c.
      by_bool (eqb k 4) (λ h. rw (eqb-true k 4 h) (action-fault false f)) λ d.
      by_bool (eqb k 5) (λ h. rw (eqb-true k 5 h) (end-fault f)) λ e.
      rw (a, b, c, d, e) (none-known k f (unknown k a b c d e))
