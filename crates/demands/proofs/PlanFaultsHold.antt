-- 23 comes at the first word outside the layout, and 22 for a task count outside 1 to 8.
use Prim.Native.Nat.{ℕ, suc, ◌+◌, ◌<◌, ◌≤◌}
use native.Mathlib.Omega.{arith}
use native.Mathlib.Nat.{eq-or-lt_of_le}
use mathlib.Core.Path.{◌≡◌, refl, sym, ap, ◌∙◌}
use mathlib.Core.Logic.Iff
use mathlib.Core.Logic.{◌↔◌, ◌⊎◌, inl, inr}
use mathlib.Core.List.{List, [], ◌∷◌, ◌++◌, append_assoc, append-nil}
use lib.ListN.{length, take, drop, length-append, take-append-drop}
use lib.Dec.{leb}
use lib.Seq.{length-take-le, take_all, take-append-le}
use borrow.Author.Tests.{leb-true, leb-false}
use Rattle.model.specs.Answer.{Answer, given, refused, ◌then◌}
use Rattle.model.specs.State.{State}
use Rattle.model.specs.StoredPlan.{nothing_scanned, scan_from, locate}
use Rattle.model.proofs.Bools.{by_bool, by_cases}
use Rattle.model.proofs.Answers.{given-refused, refused-given, refused-number, refused-place, then-refused}
use Rattle.model.proofs.PlanScans.{lists-unended}
use Rattle.model.proofs.PlanScanned.{MayEnd, fault-place, before-fault, fault-stays, rest-body}
use Rattle.model.proofs.Located.{by_count, lies, counted, uncounted}
use Rattle.demands.specs.StoredPlans.{IsPlan, BeginsPlan, BeginsLists, KeepsLayout, OutsideAt, PlanFaults}
use Rattle.demands.specs.Analyses.{list_of}
use Rattle.demands.proofs.LayoutWords.{body-words}
use Rattle.demands.proofs.PlanLayoutHolds.{lists-fit, lists-for, ended-plan, scanned-plan}

-- an answer with no value of its own is given or refused
by_answer : {G : Type 0} (a : Answer (Unit {0})) → (a ≡ given tt → G) → ((k j : ℕ) → a ≡ refused k j → G) → G
by_answer (given u) good bad = good refl
by_answer (refused k j) good bad = bad k j refl

-- ---- words that may go on
module _ (n : ℕ) where
  -- to boxes and ranks
  may-end-lists : (ws : List ℕ) → MayEnd n (nothing_scanned n) ws → BeginsLists n ws
  may-end-lists ws (more, few, r) =
      let (p, lists, e) = rest-body n (ws ++ more) r in
      (more, p, lists-for n p lists, e ∙ body-words p)

  -- to a plan, where END's field can count n words more
  may-end-plan : (ws : List ℕ) → length ws + n < 0x10000000 → MayEnd n (nothing_scanned n) ws → BeginsPlan n ws
  may-end-plan ws l (more, few, r) =
      let (p, lists, e) = rest-body n (ws ++ more) r in
      let same = e ∙ body-words p in
      let end = (0x50000000 + length (ws ++ more)) ∷ [] in (
        more ++ end,
        (
          p,
          record { lists = lists-for n p lists; count = omega (arith, length-append ws more, ap length same) },
          sym (append_assoc ws more end) ∙ ap (λ (v : List ℕ). v ++ ((0x50000000 + length v) ∷ [])) same,
        ),
      )

  -- a plan begins itself
  whole : (ws : List ℕ) → IsPlan n ws → BeginsPlan n ws
  whole ws is = ([], rw (append-nil ws) is)

-- ---- the words, scanned from the first on
module _ (n : ℕ) (ws : List ℕ) where
  abbrev scan : Answer (Unit {0})
  scan = scan_from n (nothing_scanned n) 0 ws

  -- words of a plan begin it
  part-plan : (m : ℕ) → IsPlan n ws → BeginsPlan n (take m ws)
  part-plan m is = (drop m ws, rw (take-append-drop m ws) is)

  -- and keep to the layout: without END they begin its boxes and ranks
  part-keeps : (m : ℕ) → IsPlan n ws → KeepsLayout n (take m ws)
  part-keeps m (p, h, e) =
      let ls = list_of p in
      let end = (0x50000000 + length ls) ∷ [] in
      by_bool (leb m (length ls))
      (λ l. inl (drop m ls, p, h.lists, rw (e, take-append-le m ls end (leb-true m (length ls) l)) (take-append-drop m ls)))
      (λ l. inr (p, h, take_all m ws (omega (arith, leb-false m (length ls) l, ap length e, length-append ls end)) ∙ e))

  module _ (j : ℕ) (e : scan ≡ refused 23 j) where
    -- the fault lies within them
    fault-within : j ≤ length ws
    fault-within = omega (arith, (fault-place n (nothing_scanned n) 0 ws 23 j e).2)

    -- words before it keep to the layout
    before-keeps : (m : ℕ) → m ≤ j → KeepsLayout n (take m ws)
    before-keeps m l =
        by_cases (before-fault n (nothing_scanned n) 0 ws j m refl e (omega arith))
        (λ o. inl (may-end-lists n (take m ws) o))
        (λ c. inr (ended-plan n (take m ws) c))

    -- and begin a plan
    before-plan : (m : ℕ) → m ≤ j → m + n < 0x10000000 → BeginsPlan n (take m ws)
    before-plan m l f =
        by_cases (before-fault n (nothing_scanned n) 0 ws j m refl e (omega arith))
        (λ o. may-end-plan n (take m ws) (omega (arith, length-take-le m ws (omega (arith, fault-within)))) o)
        (λ c. whole n (take m ws) (ended-plan n (take m ws) c))

    module _ (m : ℕ) (l : j < m) (few : m ≤ length ws) where
      -- whatever comes behind the word at the fault
      stays : (more : List ℕ) → scan_from n (nothing_scanned n) 0 (take m ws ++ more) ≡ refused 23 j
      stays more = fault-stays n (nothing_scanned n) 0 ws j m more e (omega arith) (omega arith)

      -- no plan begins with it
      not-plan : BeginsPlan n (take m ws) → ⊥
      not-plan (more, is) = refused-given (sym (stays more) ∙ (scanned-plan n (take m ws ++ more)).1 is)

      -- nor do boxes and ranks, which are refused at their number
      not-lists : BeginsLists n (take m ws) → ⊥
      not-lists (more, p, h, same) =
          let words = same ∙ sym (body-words p) in
          let place = refused-place (sym (stays more) ∙ ap (scan_from n (nothing_scanned n) 0) words ∙ lists-unended n p (lists-fit n p h)) in
          omega (arith, place, ap length words, length-append (take m ws) more, length-take-le m ws few)

      not-kept : KeepsLayout n (take m ws) → ⊥
      not-kept kept = by_cases kept not-lists (λ is. not-plan (whole n (take m ws) is))

  -- ---- the place of the fault, where words fit up to it and never beyond
  module _ (Fits : List ℕ → Type 0) (i : ℕ)
      (part : IsPlan n ws → Fits (take (suc i) ws))
      (up_to_lem : (j : ℕ) → scan ≡ refused 23 j → (m : ℕ) → m ≤ j → m ≤ suc i → Fits (take m ws))
      (never : (j : ℕ) → scan ≡ refused 23 j → (m : ℕ) → j < m → m ≤ length ws → Fits (take m ws) → ⊥) where
    fault-outside : scan ≡ refused 23 i → OutsideAt Fits n ws i
    fault-outside e = record {
      within = fault-within i e;
      before = up_to_lem i e i (omega arith) (omega arith);
      outside = λ k. never i e (suc i) (omega arith) (omega arith);
      missing = λ z is. refused-given (sym e ∙ (scanned-plan n ws).1 is);
    }

    -- neither accepted, nor refused before i or behind it
    outside-fault : OutsideAt Fits n ws i → scan ≡ refused 23 i
    outside-fault o =
        by_answer scan
        (λ e.
        let is = (scanned-plan n ws).0 e in
        absurd (by_cases (eq-or-lt_of_le o.within) (λ z. o.missing z is) (λ k. o.outside k (part is))))
        λ k j f.
        let e : scan ≡ refused 23 j = rw (fault-place n (nothing_scanned n) 0 ws k j f).0 at f in
        let not-before : j < i → ⊥ = λ b. never j e i b o.within o.before in
        let not_after : i < j → ⊥ = λ b. o.outside (omega (arith, fault-within j e)) (up_to_lem j e (suc i) b (omega arith)) in
        let z : j ≡ i = omega arith in
        rw z at e

    place_of : (scan ≡ refused 23 i) ↔ OutsideAt Fits n ws i
    place_of = (fault-outside, outside-fault)

  plan-place : (i : ℕ) → n ≤ 8 → i + 9 < 0x10000000 → (scan ≡ refused 23 i) ↔ OutsideAt (BeginsPlan n) n ws i
  plan-place i few l =
      place_of (BeginsPlan n) i (part-plan (suc i))
      (λ j e m b c. before-plan j e m b (omega arith))
      not-plan

  layout-place : (i : ℕ) → (scan ≡ refused 23 i) ↔ OutsideAt (KeepsLayout n) n ws i
  layout-place i =
      place_of (KeepsLayout n) i (part-keeps (suc i))
      (λ j e m b c. before-keeps j e m b)
      not-kept

-- ---- the answers
module _ (x : State) (ws : List ℕ) (n : ℕ) where
  -- within the limits of the task count the refusals are the scan's
  scan-refused : 1 ≤ n → n ≤ 8 → (k i : ℕ) → (locate x ws n ≡ refused k i) ↔ (scan n ws ≡ refused k i)
  unfolding ◌then◌
  scan-refused p q k i = (
    (λ e. by_cases ((then-refused (λ _. given (lies x ws n)) (scan n ws) k i).0 (sym (counted x ws n p q) ∙ e)) (λ f. f) (λ f. given-refused f.2)),
    (λ e. counted x ws n p q ∙ rw e),
  )

  -- a refusal is 23 of the scan, or 22 at 0
  by-refusal : {G : Type 0} (k i : ℕ) → locate x ws n ≡ refused k i
      → (1 ≤ n → n ≤ 8 → k ≡ 23 → scan n ws ≡ refused 23 i → G) → ((n ≡ 0) ⊎ (8 < n) → k ≡ 22 → i ≡ 0 → G) → G
  by-refusal k i e of-scan of-count =
      by_count n
      (λ p q.
      let f = (scan-refused p q k i).0 e in
      let z = (fault-place n (nothing_scanned n) 0 ws k i f).0 in
      of-scan p q z (rw z at f))
      (λ o. let f = sym (uncounted x ws n o) ∙ e in of-count o (sym (refused-number f)) (sym (refused-place f)))

pub plan-faults-hold : PlanFaults
plan-faults-hold = record {
  exact = λ x ws n i p q l. Iff.trans (scan-refused x ws n p q 23 i) (plan-place n ws i q l);
  every_place = λ x ws n i p q. Iff.trans (scan-refused x ws n p q 23 i) (layout-place n ws i);
  task-count = λ x ws n i. (
    (λ e. by-refusal x ws n 22 i e (λ p q z f. absurd (omega arith)) (λ o z h. (o, h))),
    (λ (o, z). rw z (uncounted x ws n o)),
  );
  any_state = λ x y ws n i e.
      by-refusal x ws n 23 i e (λ p q z f. (scan-refused y ws n p q 23 i).1 f) (λ o z h. absurd (omega arith));
  no_others = λ x ws n k i e. by-refusal x ws n k i e (λ p q z f. inr z) (λ o z h. inl z);
}
