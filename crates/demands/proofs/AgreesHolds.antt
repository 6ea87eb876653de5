-- The plan that an analysis leaves is accepted, and a state lies in it as the map's byte says.
use Prim.Native.Nat.{ℕ, ◌≤◌}
use native.Mathlib.Omega.{arith}
use mathlib.Core.Path.{◌≡◌, refl, sym, ap, ◌∙◌}
use mathlib.Core.Logic.{◌↔◌, ◌⊎◌, inl, inr}
use mathlib.Core.Bool.{true, false}
use mathlib.Core.List.{List}
use lib.ListN.{length, take, drop}
use lib.Seq.{take_at}
use borrow.Author.Tests.{not-true, not-false}
use Rattle.model.specs.Answer.{given}
use Rattle.model.specs.Set.{Set, lengths_of}
use Rattle.model.specs.Layout.{WellFormed}
use Rattle.model.specs.Read.{set_in}
use Rattle.model.specs.State.{State, InGrid}
use Rattle.model.specs.Hold.{permitted}
use Rattle.model.specs.Box.{covered}
use Rattle.model.specs.Forbidden.{forbidden_boxes}
use Rattle.model.specs.Plan.{plan_of, FORBIDDEN_BOX, UNSAFE_BOX, plan_words, unsafe_of}
use Rattle.model.specs.Analysis.{Planned, analyse}
use Rattle.model.specs.StoredPlan.{Location, in-forbidden, in-unsafe, in_neither, location_of, locate}
use Rattle.model.proofs.Bools.{by_bool, true-not-false}
use Rattle.model.proofs.Answers.{given-value}
use Rattle.model.proofs.ForbiddenExact.{forbidden-permitted}
use Rattle.model.proofs.PlanBack.{length-plan}
use Rattle.model.proofs.PlanFitting.{plan-fits, plan-length}
use Rattle.model.proofs.ReadExact.{read-sound}
use Rattle.model.proofs.Outcome.{accepted-made}
use Rattle.model.proofs.PlanScans.{lists-scanned}
use Rattle.model.proofs.FirstBoxes.{some_of, some-found, none_found, forbidden-some, unsafe-some}
use Rattle.model.proofs.Located.{Accepted, lies, answered}
use Rattle.demands.specs.MapDemand.{Bytes, ReachesEnd}
use Rattle.demands.specs.StoredPlans.{stored, byte_of, Agrees}
use Rattle.demands.proofs.MapDemandHolds.{unsafe-byte, byte-unsafe}
use Rattle.demands.proofs.Demand2Holds.{plan-left}
use Rattle.demands.proofs.Demand3Holds.{demand3}

-- ---- a place and a byte
-- the byte of a state that lies there
abbrev Matches : Location → ℕ → Type 0
Matches (in-forbidden i) b = b ≡ 1
Matches (in-unsafe i) b = (b ≡ 2) ⊎ (b ≡ 3)
Matches in_neither b = b ≡ 0

module _ (b : ℕ) where
  above : (b ≡ 2) ⊎ (b ≡ 3) → 2 ≤ b
  above (inl e) = omega arith
  above (inr e) = omega arith

  -- so the byte tells the place
  forbidden-by : (l : Location) → Matches l b → b ≡ 1 → (i : ℕ) × (l ≡ in-forbidden i)
  forbidden-by (in-forbidden i) h e = (i, refl)
  forbidden-by (in-unsafe i) h e = absurd (omega (arith, above h))
  forbidden-by in_neither h e = absurd (omega arith)

  unsafe-by : (l : Location) → Matches l b → (b ≡ 2) ⊎ (b ≡ 3) → (i : ℕ) × (l ≡ in-unsafe i)
  unsafe-by (in-forbidden i) h e = absurd (omega (arith, above e))
  unsafe-by (in-unsafe i) h e = (i, refl)
  unsafe-by in_neither h e = absurd (omega (arith, above e))

  neither-by : (l : Location) → Matches l b → b ≡ 0 → l ≡ in_neither
  neither-by (in-forbidden i) h e = absurd (omega arith)
  neither-by (in-unsafe i) h e = absurd (omega (arith, above h))
  neither-by in_neither h e = refl

-- ---- an accepted analysis
module _ (words mapped plan : List ℕ) (a : Planned) (e : (analyse words mapped plan).answer ≡ given a) where
  abbrev k : ℕ
  k = a.words

  abbrev s : Set
  s = set_in words

  abbrev n : ℕ
  n = length s.tasks

  -- the slice up to and with END
  abbrev ws : List ℕ
  ws = stored words mapped plan k

  well_formed : WellFormed s
  well_formed = (read-sound words s (accepted-made words mapped plan a e).0.is_read).1

  -- it has the words of the set's plan
  stored_is : ws ≡ plan_words (plan_of s)
  stored_is =
      let r = accepted-made words mapped plan a e in
      ap (take k) r.1 ∙ take_at (plan_words (plan_of s)) (drop (length (plan_words (plan_of s))) plan) k (sym (ap (λ (p : Planned). p.words) r.3))

  -- which are accepted
  is-accepted : Accepted ws n
  is-accepted =
      let w = well_formed in
      let p = plan_of s in
      record {
        some_task = w.some_task;
        tasks = w.tasks;
        scanned = rw stored_is (lists-scanned n p (plan-fits s w).lists (omega (arith, length-plan p, plan-length s w)));
      }

  -- a state of the grid
  module _ (x : State) (g : InGrid (lengths_of s) (take n x)) where
    abbrev y : State
    y = take n x

    abbrev own : ℕ
    own = byte_of words mapped plan k y

    bytes : Bytes s (analyse words mapped plan).map
    bytes = (demand3.accepted words mapped plan a e).0.bytes

    -- a permitted state lies in an unsafe box exactly if the end can't be reached
    unsafe-box : permitted s y ≡ true → (covered (unsafe_of s) y ≡ true) ↔ (ReachesEnd s y → ⊥)
    unsafe-box = rw (plan-left words mapped plan a e) at ((demand3.accepted words mapped plan a e).1.unsafe-box y g)

    forbidden-is : some_of n FORBIDDEN_BOX y ws ≡ covered (forbidden_boxes s) y
    forbidden-is = rw stored_is (forbidden-some n y (plan_of s) (plan-fits s well_formed))

    unsafe-is : some_of n UNSAFE_BOX y ws ≡ covered (unsafe_of s) y
    unsafe-is = rw stored_is (unsafe-some n y (plan_of s) (plan-fits s well_formed))

    -- in no box: the byte is none of the others
    open-byte : permitted s y ≡ true → covered (unsafe_of s) y ≡ false → own ≡ 0
    open-byte p u =
        let not-forbidden : own ≡ 1 → ⊥ = λ q. true-not-false (permitted s y) p ((bytes.forbidden y g).0 q) in
        let not-unsafe : (own ≡ 2) ⊎ (own ≡ 3) → ⊥ = λ q. true-not-false (covered (unsafe_of s) y) ((unsafe-box p).1 (byte-unsafe s _ bytes y g q).1) u in
        let not-two : own ≡ 2 → ⊥ = λ q. not-unsafe (inl q) in
        let not_three : own ≡ 3 → ⊥ = λ q. not-unsafe (inr q) in
        omega (arith, bytes.no_other y g, not-forbidden, not-two, not_three)

    -- where the state is said to lie, the byte says so too
    said : (l : Location) → locate x ws n ≡ given l → Matches l own
    unfolding location_of
    said l q =
        let is = given-value (sym (answered x ws n is-accepted) ∙ q) in
        by_bool (covered (forbidden_boxes s) y)
        (λ c.
        let p = not-true (permitted s y) (sym (forbidden-permitted s y g) ∙ c) in
        rw (← is, (some-found n FORBIDDEN_BOX y 0 ws (forbidden-is ∙ c)).1) ((bytes.forbidden y g).1 p))
        (λ c.
        let p = not-false (permitted s y) (sym (forbidden-permitted s y g) ∙ c) in
        let f = none_found n FORBIDDEN_BOX y 0 ws (forbidden-is ∙ c) in
        by_bool (covered (unsafe_of s) y)
        (λ u. rw (← is, f, (some-found n UNSAFE_BOX y 0 ws (unsafe-is ∙ u)).1) (unsafe-byte s _ bytes y g (p, (unsafe-box p).0 u)))
        (λ u. rw (← is, f, none_found n UNSAFE_BOX y 0 ws (unsafe-is ∙ u)) (open-byte p u)))

    there : (l : Location) × (locate x ws n ≡ given l) × Matches l own
    there = let e = answered x ws n is-accepted in (lies x ws n, e, said (lies x ws n) e)

  pub agrees-holds : Agrees words mapped plan k
  agrees-holds = record {
    accepted = λ x. (lies x ws n, answered x ws n is-accepted);
    forbidden = λ x g.
        let r = there x g in
        ((λ h. said x g (in-forbidden h.0) h.1), λ b. let q = forbidden-by _ r.0 r.2 b in (q.0, r.1 ∙ ap given q.1));
    unsafe = λ x g.
        let r = there x g in
        ((λ h. said x g (in-unsafe h.0) h.1), λ b. let q = unsafe-by _ r.0 r.2 b in (q.0, r.1 ∙ ap given q.1));
    neither = λ x g. let r = there x g in (said x g in_neither, λ b. r.1 ∙ ap given (neither-by _ r.0 r.2 b));
  }
