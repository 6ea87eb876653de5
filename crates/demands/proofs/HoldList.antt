-- The holds of a balanced task, listed from a place on: each claim with its first release, by rising position.
use Prim.Native.Nat.{ℕ, zero, suc, ◌+◌, ◌-◌, ◌<◌}
use native.Mathlib.Omega.{arith}
use mathlib.Core.Path.{◌≡◌, refl, sym, ap, ◌∙◌}
use mathlib.Core.Logic.{◌↔◌}
use mathlib.Core.Bool.{Bool, true, false}
use mathlib.Core.List.{[], ◌∷◌, Memᴰ}
use lib.ListN.{length, get_or, drop, length-drop}
use lib.Seq.{get_or-drop}
use lib.Dec.{eqb}
use borrow.Author.Tests.{eqb-true, eqb-false, eq-eqb}
use Rattle.model.specs.Set.{Action, claim, release, Task, balanced}
use Rattle.model.specs.Hold.{Hold, held_to, holds_from, holds}
use Rattle.model.specs.Read.{held_after}
use Rattle.model.proofs.Bools.{by_bool, by_cases, true-not-false}
use Rattle.model.proofs.Held.{balanced-next}
use Rattle.demands.specs.Terms.{◌to◌, Ordered}
use Rattle.demands.specs.Holds.{IsHold}
use Rattle.demands.proofs.StillHeldSteps.{not-both}

module _ (d : ℕ) where
  -- action q of these is the first that releases the device
  record Until (task : Task) (q : ℕ) : Type 0 where
    inside : q < length task
    released : get_or task q (claim 0 0) ≡ release d
    unbroken : (r : ℕ) → r < q → get_or task r (claim 0 0) ≡ release d → ⊥

  later-unbroken : (a : Action) (task : Task) (q : ℕ) → (a ≡ release d → ⊥) → Until task q
      → (r : ℕ) → r < suc q → get_or (a ∷ task) r (claim 0 0) ≡ release d → ⊥
  later-unbroken a task q n u zero l e = n e
  later-unbroken a task q n u (suc r) l e = u.unbroken r (omega arith) e

  until-later : (a : Action) (task : Task) (q : ℕ) → (a ≡ release d → ⊥) → Until task q → Until (a ∷ task) (suc q)
  until-later a task q n u = record { inside = omega arith; released = u.released; unbroken = later-unbroken a task q n u }

  until-rest : (a : Action) (task : Task) (q : ℕ) → Until (a ∷ task) (suc q) → Until task q
  until-rest a task q u = record { inside = omega arith; released = u.released; unbroken = λ r l. u.unbroken (suc r) (omega arith) }

  -- what is held in a balanced task is released
  first-release : (task : Task) → balanced d true task ≡ true → (q : ℕ) × Until task q
  unfolding balanced
  first-release [] b = true-not-false false b refl
  first-release (claim e u ∷ task) b =
      by_bool (eqb e d)
      (λ k. true-not-false false (rw k at b) refl)
      (λ k. let r = first-release task (rw k at b) in (suc r.0, until-later (claim e u) task r.0 (not-both d e u refl) r.1))
  first-release (release e ∷ task) b =
      by_bool (eqb e d)
      (λ k. (0, record { inside = omega arith; released = ap release (eqb-true e d k); unbroken = λ r l. absurd (omega arith) }))
      (λ k.
      let r = first-release task (rw k at b) in
      (suc r.0, until-later (release e) task r.0 (λ z. let same : e ≡ d = cc in eqb-false e d k same) r.1))

  -- and the hold lasts to there
  held-until : (p : ℕ) (task : Task) (q : ℕ) → Until task q → held_to d p task ≡ p + q
  unfolding held_to
  held-until p [] q u = absurd (omega arith)
  held-until p (claim e v ∷ task) zero u = let e = u.released in cc
  held-until p (claim e v ∷ task) (suc q) u = omega (arith, held-until (suc p) task q (until-rest (claim e v) task q u))
  held-until p (release e ∷ task) zero u =
      let r = u.released in
      let same : e ≡ d = cc in
      rw (eq-eqb e d same) (omega arith)
  held-until p (release e ∷ task) (suc q) u =
      by_bool (eqb e d)
      (λ k. absurd (u.unbroken 0 (omega arith) (ap release (eqb-true e d k))))
      (λ k. rw k (omega (arith, held-until (suc p) task q (until-rest (release e) task q u))))

  -- a hold of a task that has done p actions and has these left
  record Spans (p : ℕ) (task : Task) (h : Hold) : Type 0 where
    start : ℕ
    lasting : ℕ
    extra : ℕ
    low : h.over.low ≡ p + suc start
    high : h.over.high ≡ p + suc start + lasting
    units : h.units ≡ suc extra
    inside : start < length task
    claimed : get_or task start (claim 0 0) ≡ claim d extra
    until : Until (drop (suc start) task) lasting

  spans-later : (p : ℕ) (a : Action) (task : Task) (h : Hold) → Spans (suc p) task h → Spans p (a ∷ task) h
  spans-later p a task h s = record {
    start = suc s.start;
    lasting = s.lasting;
    extra = s.extra;
    low = omega (arith, s.low);
    high = omega (arith, s.high);
    units = s.units;
    inside = omega (arith, s.inside);
    claimed = s.claimed;
    until = s.until;
  }

  listed-spans : (p : ℕ) (h : Bool) (task : Task) (i : Hold) → balanced d h task ≡ true → Memᴰ i (holds_from d p task) → Spans p task i
  unfolding holds_from held_after
  listed-spans p h [] i b m = absurd (mathlib.Core.List.Memᴰ.not-nil m)
  listed-spans p h (release e ∷ task) i b m =
      spans-later p (release e) task i (listed-spans (suc p) _ task i (balanced-next d h (release e) task b) m)
  listed-spans p h (claim e u ∷ task) i b m =
      let later : Memᴰ i (holds_from d (suc p) task) → Spans p (claim e u ∷ task) i =
      λ n. spans-later p (claim e u) task i (listed-spans (suc p) _ task i (balanced-next d h (claim e u) task b) n) in
      by_bool (eqb e d)
      (λ k. by_cases (mathlib.Core.List.Memᴰ.cases_cons (rw k at m)) (λ q. rw q (first k)) later)
      (λ k. later (rw k at m))
    where
      first : eqb e d ≡ true → Spans p (claim e u ∷ task) (record { over = suc p to held_to d (suc p) task; units = suc u })
      first k =
          let r = first-release task (rw k at (balanced-next d h (claim e u) task b)) in
          record {
            start = 0;
            lasting = r.0;
            extra = u;
            low = omega arith;
            high = omega (arith, held-until (suc p) task r.0 r.1);
            units = refl;
            inside = omega arith;
            claimed = ap (λ c. claim c u) (eqb-true e d k);
            until = r.1;
          }

  -- a hold by its parts
  abbrev hold : ℕ → ℕ → ℕ → Hold
  hold low high units = record { over = low to high; units = units }

  spans-listed : (p : ℕ) (task : Task) (start lasting extra : ℕ) → get_or task start (claim 0 0) ≡ claim d extra → start < length task
      → Until (drop (suc start) task) lasting → Memᴰ (hold (p + suc start) (p + suc start + lasting) (suc extra)) (holds_from d p task)
  unfolding holds_from
  spans-listed p [] start lasting x c n u = absurd (omega arith)
  spans-listed p (release e ∷ task) zero lasting x c n u = absurd (not-both e d x c refl)
  spans-listed p (claim e v ∷ task) zero lasting x c n u =
      let same : e ≡ d = cc in
      let own : v ≡ x = cc in
      let low : p + 1 ≡ suc p = omega arith in
      let high : p + 1 + lasting ≡ held_to d (suc p) task = omega (arith, held-until (suc p) task lasting u) in
      let is : hold (p + 1) (p + 1 + lasting) (suc x) ≡ hold (suc p) (held_to d (suc p) task) (suc v) = rw (high, low, own) in
      rw (eq-eqb e d same) (mathlib.Core.List.Memᴰ.head is)
  spans-listed p (release e ∷ task) (suc start) lasting x c n u =
      let same : p + suc (suc start) ≡ suc p + suc start = omega arith in
      rw same (spans-listed (suc p) task start lasting x c (omega arith) u)
  spans-listed p (claim e v ∷ task) (suc start) lasting x c n u =
      let same : p + suc (suc start) ≡ suc p + suc start = omega arith in
      let rest = rw (sym same) at (spans-listed (suc p) task start lasting x c (omega arith) u) in
      by_bool (eqb e d) (λ k. rw k (mathlib.Core.List.Memᴰ.tail rest)) (λ k. rw k rest)

  -- a device held now is released before its next hold
  before-next : (p : ℕ) (task : Task) → balanced d true task ≡ true → (i : Hold) → Memᴰ i (holds_from d p task) → held_to d p task < i.over.low
  unfolding balanced held_to holds_from
  before-next p [] b i m = absurd (mathlib.Core.List.Memᴰ.not-nil m)
  before-next p (claim e u ∷ task) b i m =
      by_bool (eqb e d)
      (λ k. true-not-false false (rw k at b) refl)
      (λ k. before-next (suc p) task (rw k at b) i (rw k at m))
  before-next p (release e ∷ task) b i m =
      by_bool (eqb e d)
      (λ k.
      let s = listed-spans (suc p) false task i (rw k at b) m in
      rw k (omega (arith, s.low)))
      (λ k. rw k (before-next (suc p) task (rw k at b) i m))

  pub holds-rise : (p : ℕ) (h : Bool) (task : Task) → balanced d h task ≡ true → Ordered (λ i j. i.over.high < j.over.low) (holds_from d p task)
  unfolding holds_from held_after
  holds-rise p h [] b = tt
  holds-rise p h (release e ∷ task) b = holds-rise (suc p) _ task (balanced-next d h (release e) task b)
  holds-rise p h (claim e u ∷ task) b =
      let next = balanced-next d h (claim e u) task b in
      let rest = holds-rise (suc p) _ task next in
      by_bool (eqb e d) (λ k. rw k (before-next (suc p) task (rw k at next), rest)) (λ k. rw k rest)

-- of a whole task
module _ (d : ℕ) (task : Task) (i : Hold) where
  abbrev low : ℕ
  low = i.over.low

  abbrev high : ℕ
  high = i.over.high

  hold-listed : IsHold d task i → Memᴰ i (holds d task)
  hold-listed h =
      let s : suc (low - 1) ≡ low = omega (arith, h.counted) in
      let r : low + (high - low) ≡ high = omega (arith, h.lasts) in
      let z : 0 + suc (low - 1) ≡ low = omega (arith, h.counted) in
      let e = h.claimed in
      let own = spans-listed d 0 task (low - 1) (high - low) e.0 e.1 (omega (arith, h.counted, h.lasts, h.before_close))
      (rw s (record {
        inside = omega (arith, h.lasts, h.before_close, length-drop low task);
        released = get_or-drop low task (high - low) (claim 0 0) ∙ rw r h.released;
        unbroken = λ q l f. h.unbroken (low + q) (omega arith) (omega arith) (sym (get_or-drop low task q (claim 0 0)) ∙ f);
      })) in
      let is : i ≡ hold d (0 + suc (low - 1)) (0 + suc (low - 1) + (high - low)) (suc e.0) = rw (z, r, ← e.2) in
      rw is own

  span-hold : Spans d 0 task i → IsHold d task i
  span-hold s =
      let n = s.start in
      let l : low ≡ suc n = omega (arith, s.low) in
      let m : low - 1 ≡ n = omega arith in
      let h : high ≡ suc n + s.lasting = omega (arith, s.high) in
      let u = s.until in
      record {
        counted = omega arith;
        claimed = (s.extra, rw m s.claimed, s.units);
        lasts = omega arith;
        before_close = omega (arith, u.inside, length-drop (suc n) task);
        released = rw h (sym (get_or-drop (suc n) task s.lasting (claim 0 0)) ∙ u.released);
        unbroken = λ q a b f.
            let z : suc n + (q - suc n) ≡ q = omega arith in
            u.unbroken (q - suc n) (omega arith) (get_or-drop (suc n) task (q - suc n) (claim 0 0) ∙ rw z f);
      }

  pub holds-listed : balanced d false task ≡ true → Memᴰ i (holds d task) ↔ IsHold d task i
  holds-listed b = ((λ m. span-hold (listed-spans d 0 false task i b m)), hold-listed)
