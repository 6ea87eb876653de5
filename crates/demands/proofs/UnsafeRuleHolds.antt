-- The unsafe boxes are those of the rule.
use Prim.Native.Nat.{ℕ, zero, suc, ◌+◌, ◌-◌, ◌<◌}
use native.Mathlib.Omega.{arith}
use mathlib.Core.Path.{◌≡◌, refl, sym, ◌∙◌}
use mathlib.Core.Logic.{◌⊎◌, inl, inr}
use mathlib.Core.Bool.{true, false}
use mathlib.Core.List.{List, [], ◌∷◌, ◌++◌}
use lib.ListN.{length}
use lib.Dec.{eqb, leb}
use borrow.Author.Tests.{ltb-true, lt-ltb, leb-true, leb-false, eqb-false}
use Rattle.model.specs.Below.{maximum}
use Rattle.model.specs.Set.{lengths_of, at, size}
use Rattle.model.specs.State.{State, InGrid, next, unfinished, is_end, state_at}
use Rattle.model.specs.Box.{Box, side, inside, covered, first_box}
use Rattle.model.specs.Forbidden.{forbidden_boxes}
use Rattle.model.specs.UnsafeBoxes.{gets_box, blocker_low, unsafe_box, last_unsafe, unsafe_boxes}
use Rattle.model.proofs.Bools.{by_bool, by_cases, true-not-false, or-true, or_right}
use Rattle.model.proofs.States.{unfinished-task}
use Rattle.model.proofs.Ranks.{state_at-grid}
use Rattle.model.proofs.Boxes.{inside-count, inside-bounds, inside-intro}
use Rattle.model.proofs.Lists.{le-maximum}
use Rattle.model.proofs.UnsafeBox.{gets-box, gets_none, box-count, box-side, blocker-low}
use Rattle.demands.specs.UnsafeRule.{box_at, IsFirst, Gets, blockers_low, IsBox, Made, none, boxed, passed, UnsafeRule}
use Rattle.demands.proofs.StatesHold.{of-states}

covered-place : (bs : List Box) (x : State) → covered bs x ≡ true → (i : ℕ) × (i < length bs) × (inside (box_at bs i) x ≡ true)
unfolding covered
covered-place [] x e = true-not-false false e refl
covered-place (b ∷ bs) x e =
    by_cases (or-true (inside b x) (covered bs x) e)
    (λ h. (0, omega arith, h))
    (λ h. let r = covered-place bs x h in (suc r.0, omega arith, r.2))

place-covered : (bs : List Box) (x : State) (i : ℕ) → i < length bs → inside (box_at bs i) x ≡ true → covered bs x ≡ true
unfolding covered
place-covered [] x i h e = absurd (omega arith)
place-covered (b ∷ bs) x zero h e = rw e
place-covered (b ∷ bs) x (suc i) h e = or_right (inside b x) (covered bs x) (place-covered bs x i (omega arith) e)

first-is : (bs : List Box) (x : State) → covered bs x ≡ true → IsFirst bs x (first_box bs x)
unfolding covered first_box
first-is [] x e = true-not-false false e refl
first-is (b ∷ bs) x e =
    by_bool (inside b x)
    (λ h. rw h (record { place = 0; listed = omega arith; is_box = refl; holds = h; none_before = λ i l. absurd (omega arith) }))
    (λ h. rw h (after (first-is bs x (rw h at e)) h))
  where
    earlier : (k : ℕ) → ((i : ℕ) → i < k → inside (box_at bs i) x ≡ false) → inside b x ≡ false → (i : ℕ) → i < suc k → inside (box_at (b ∷ bs) i) x ≡ false
    earlier k f h zero l = h
    earlier k f h (suc i) l = f i (omega arith)

    after : IsFirst bs x (first_box bs x) → inside b x ≡ false → IsFirst (b ∷ bs) x (first_box bs x)
    after r h = record {
      place = suc r.place;
      listed = omega (arith, r.listed);
      is_box = r.is_box;
      holds = r.holds;
      none_before = earlier r.place r.none_before h;
    }

-- a largest number is 0 or one of the numbers
attained : (n : ℕ) (f : ℕ → ℕ) → (maximum n f ≡ 0) ⊎ ((t : ℕ) × (t < n) × (maximum n f ≡ f t))
unfolding maximum
attained zero f = inl refl
attained (suc n) f =
    by_bool (leb (maximum n f) (f n))
    (λ e. inr (n, omega arith, omega (arith, leb-true (maximum n f) (f n) e)))
    (λ e.
    let l = leb-false (maximum n f) (f n) e in
    by_cases (attained n f) (λ z. absurd (omega arith)) (λ r. inr (r.0, omega arith, omega arith)))

module _ (ls : List ℕ) (bs : List Box) (x : State) (g : InGrid ls x) where
  gets : gets_box ls bs x ≡ true → Gets ls bs x
  gets e =
      let r = gets-box ls bs x e in
      record {
        not_the_end = λ q. true-not-false (is_end ls x) (((of-states ls).end x g).1 q) r.not_the_end;
        in_none = r.not_covered;
        next_in_one = λ t h. r.next-covered t (lt-ltb (at x t) (at ls t) h);
      }

  gets-not : gets_box ls bs x ≡ false → Gets ls bs x → ⊥
  gets-not e r =
      by_cases (gets_none ls bs x e r.in_none)
      (λ q. r.not_the_end (((of-states ls).end x g).0 q))
      (λ q. true-not-false (covered bs (next x q.0)) (r.next_in_one q.0 (ltb-true (at x q.0) (at ls q.0) q.1)) q.2)

  -- the lower bound for task j is 0 or that of another task's blocker
  low-attained : (j : ℕ) → j < length ls
      → ((side (unsafe_box ls bs x) j).low ≡ 0)
      ⊎ ((t : ℕ) × (t ≡ j → ⊥) × (at x t < at ls t) × ((side (unsafe_box ls bs x) j).low ≡ blockers_low ls bs x t j))
  unfolding blocker_low
  low-attained j h =
      rw (box-side ls bs x j h)
      (by_cases (attained (length ls) (blocker_low ls bs x j)) inl λ r.
      let t = r.0 in
      by_bool (unfinished ls x t)
      (λ u. by_bool (eqb t j)
      (λ q. inl (r.2 ∙ rw (u, q)))
      (λ q. inr (t, eqb-false t j q, ltb-true (at x t) (at ls t) u, r.2 ∙ sym (blocker-low ls bs x t j u (eqb-false t j q)))))
      (λ u. inl (r.2 ∙ rw u)))

  is_box : IsBox ls bs x (unsafe_box ls bs x)
  is_box = record {
    sides = box-count ls bs x;
    up_to = λ j h. rw (box-side ls bs x j h);
    at_least = λ j t h n l.
        let u = lt-ltb (at x t) (at ls t) l in
        rw (blocker-low ls bs x t j u n, box-side ls bs x j h) (le-maximum (length ls) (blocker_low ls bs x j) t (unfinished-task ls x t u));
    attained = low-attained;
  }

module _ (ls : List ℕ) (fs : List Box) where
  -- the boxes made at the last k ranks
  last_made : (k r : ℕ) → k + r ≡ size ls → Made ls fs r (last_unsafe ls fs k)
  unfolding last_unsafe
  last_made zero r e = let q : r ≡ size ls = omega arith in rw q none
  last_made (suc k) r e =
      let us = last_unsafe ls fs k in
      let q : size ls - suc k ≡ r = omega arith in
      let earlier = last_made k (suc r) (omega arith) in
      let g = state_at-grid ls r (omega arith) in
      rw q
      (by_bool (gets_box ls (fs ++ us) (state_at ls r))
      (λ b. rw b (boxed earlier (gets ls (fs ++ us) (state_at ls r) g b) (is_box ls (fs ++ us) (state_at ls r) g)))
      (λ b. rw b (passed earlier (gets-not ls (fs ++ us) (state_at ls r) g b))))

pub unsafe-rule : UnsafeRule
unfolding unsafe_boxes
unsafe-rule = record {
  holds = λ b x. (
    (λ e. (inside-count b x e, inside-bounds b x e)),
    (λ r. inside-intro b x r.0 r.1),
  );
  in_one = λ bs x. (covered-place bs x, (λ r. place-covered bs x r.0 r.1 r.2));
  first = first-is;
  made = λ s. last_made (lengths_of s) (forbidden_boxes s) (size (lengths_of s)) 0 (omega arith);
}
