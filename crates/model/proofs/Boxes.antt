-- Facts on boxes: membership task by task, and the first box of a list.
use Prim.Native.Nat.{ℕ, zero, suc, ◌<◌, ◌≤◌}
use native.Mathlib.Omega.{arith}
use native.Mathlib.Nat.{le_of_suc-le-suc}
use mathlib.Core.Path.{◌≡◌, refl, sym, ap, ◌∙◌}
use mathlib.Core.Bool.{true, false, ◌||◌, or_assoc}
use mathlib.Core.List.{List, [], ◌∷◌, ◌++◌}
use lib.ListN.{length, length-set}
use lib.Dec.{leb, eqb}
use borrow.Author.Tests.{leb-true, le-leb, eqb-true, eqb-false}
use Rattle.model.specs.Set.{at}
use Rattle.model.specs.State.{State, next}
use Rattle.model.specs.Hold.{Interval, within}
use Rattle.model.specs.Box.{inside, Box, side, covered, first_box}
use Rattle.model.proofs.Bools.{by_bool, true-not-false, and-true, or_right}
use Rattle.model.proofs.States.{at-next-same, at-next-other}

abbrev pub Within : Interval → ℕ → Type 0
Within i p = (i.low ≤ p) × (p ≤ i.high)

pub within-bounds : (i : Interval) (p : ℕ) → within i p ≡ true → Within i p
within-bounds i p e = let r = and-true (leb i.low p) (leb p i.high) e in (leb-true _ _ r.0, leb-true _ _ r.1)

pub within-intro : (i : Interval) (p : ℕ) → Within i p → within i p ≡ true
within-intro i p w = rw (le-leb i.low p w.0, le-leb p i.high w.1)

-- a box has an interval for each task of the states it holds
pub inside-count : (b : Box) (x : State) → inside b x ≡ true → length b ≡ length x
unfolding inside
inside-count [] [] e = refl
inside-count [] (p ∷ x) e = true-not-false false e refl
inside-count (i ∷ b) [] e = true-not-false false e refl
inside-count (i ∷ b) (p ∷ x) e = ap suc (inside-count b x (and-true (within i p) (inside b x) e).1)

-- and their positions lie within those
pub inside-bounds : (b : Box) (x : State) → inside b x ≡ true → (t : ℕ) → t < length x → Within (side b t) (at x t)
unfolding inside
inside-bounds [] [] e t h = absurd (omega arith)
inside-bounds [] (p ∷ x) e t h = true-not-false false e refl
inside-bounds (i ∷ b) [] e t h = true-not-false false e refl
inside-bounds (i ∷ b) (p ∷ x) e zero h = within-bounds i p (and-true (within i p) (inside b x) e).0
inside-bounds (i ∷ b) (p ∷ x) e (suc t) h = inside-bounds b x (and-true (within i p) (inside b x) e).1 t (le_of_suc-le-suc h)

pub inside-intro : (b : Box) (x : State) → length b ≡ length x → ((t : ℕ) → t < length x → Within (side b t) (at x t)) → inside b x ≡ true
unfolding inside
inside-intro [] [] n f = refl
inside-intro [] (p ∷ x) n f = absurd (omega arith)
inside-intro (i ∷ b) [] n f = absurd (omega arith)
inside-intro (i ∷ b) (p ∷ x) n f =
    rw (within-intro i p (f 0 (omega arith))) (inside-intro b x (omega arith) (λ t h. f (suc t) (omega arith)))

-- to hold the next state of task t is to hold task t one higher, and the others where they are
pub inside-next : (b : Box) (x : State) (t : ℕ) → length b ≡ length x → t < length x → Within (side b t) (suc (at x t))
    → ((j : ℕ) → j < length x → (j ≡ t → ⊥) → Within (side b j) (at x j)) → inside b (next x t) ≡ true
inside-next b x t n h w f =
    inside-intro b (next x t) (n ∙ sym (length-set x t (suc (at x t)))) λ j l.
    by_bool (eqb j t)
    (λ q. rw (eqb-true j t q, at-next-same x t h) w)
    (λ q. rw (at-next-other x t j (eqb-false j t q)) (f j (rw length-set at l) (eqb-false j t q)))

-- the first box that holds x holds it, and is a box of the list
pub first_holds : (bs : List Box) (x : State) → covered bs x ≡ true → inside (first_box bs x) x ≡ true
unfolding covered first_box
first_holds [] x e = true-not-false false e refl
first_holds (b ∷ bs) x e =
    by_bool (inside b x) (λ h. rw h h) (λ h. rw h (first_holds bs x (rw h at e)))

pub first-covers : (bs : List Box) (x y : State) → covered bs x ≡ true → inside (first_box bs x) y ≡ true → covered bs y ≡ true
unfolding covered first_box
first-covers [] x y e h = true-not-false false e refl
first-covers (b ∷ bs) x y e h =
    by_bool (inside b x) (λ k. rw (rw k at h)) (λ k. or_right (inside b y) (covered bs y) (first-covers bs x y (rw k at e) (rw k at h)))

pub covered-append : (cs bs : List Box) (x : State) → covered (cs ++ bs) x ≡ (covered cs x || covered bs x)
unfolding covered
covered-append [] bs x = refl
covered-append (c ∷ cs) bs x = rw (covered-append cs bs x) (sym (or_assoc (inside c x) (covered cs x) (covered bs x)))
