-- Accepted words: the task count is within the limits and the scan brings no fault. Then each box has its sides, and the answer is where the first boxes are found.
use Prim.Native.Nat.{ℕ, zero, suc, ◌+◌, ◌<◌, ◌≤◌}
use native.Mathlib.Omega.{arith}
use mathlib.Core.Path.{◌≡◌, refl, sym, ◌∙◌}
use mathlib.Core.Logic.{◌⊎◌, inl, inr}
use mathlib.Core.Bool.{true, false, not}
use mathlib.Core.Option.{none}
use mathlib.Core.List.{List, [], ◌∷◌}
use lib.ListN.{length, take, drop}
use lib.Dec.{eqb, ltb, leb}
use borrow.Author.Tests.{eq-eqb, ltb-true, ltb-false, leb-true, leb-false, le-leb, lt-leb}
use Rattle.model.specs.Answer.{given, refused, ◌then◌}
use Rattle.model.specs.Set.{at}
use Rattle.model.specs.State.{State}
use Rattle.model.specs.Layout.{kind_of, END}
use Rattle.model.specs.Plan.{FORBIDDEN_BOX, UNSAFE_BOX, SIDE}
use Rattle.model.specs.StoredPlan.{PlanScan, is_side, is_rank, nothing_scanned, in_layout, scan_word, scan_from, first_of, Location, location_of, locate}
use Rattle.model.proofs.Bools.{by_bool, true-not-false, and-true, eqb-flip}
use Rattle.model.proofs.Answers.{refused-given, then-given}
use Rattle.model.proofs.PlanKinds.{rank-only, by-header, kind-told}
use Rattle.model.proofs.PlanScanned.{word-accepted}
use Rattle.model.proofs.FirstBoxes.{BoxKind}

-- the task count is 1 to 8, and the words are scanned without a fault
pub record Accepted (ws : List ℕ) (n : ℕ) : Type 0 where
  pub some_task : 1 ≤ n
  pub tasks : n ≤ 8
  pub scanned : scan_from n (nothing_scanned n) 0 ws ≡ given tt

-- ---- the answer
-- a task count is within the limits, or not
pub by_count : {G : Type 0} (n : ℕ) → (1 ≤ n → n ≤ 8 → G) → ((n ≡ 0) ⊎ (8 < n) → G) → G
by_count n within outside =
    by_bool (leb 1 n)
    (λ p. by_bool (leb n 8) (λ q. within (leb-true 1 n p) (leb-true n 8 q)) (λ q. outside (inr (leb-false n 8 q))))
    (λ p. let l = leb-false 1 n p in outside (inl (omega arith)))

module _ (x : State) (ws : List ℕ) (n : ℕ) where
  -- where the first boxes are found
  abbrev pub lies : Location
  lies = location_of (first_of n FORBIDDEN_BOX (take n x) 0 ws) (first_of n UNSAFE_BOX (take n x) 0 ws)

  -- within the limits the scan decides, outside them nothing else does
  pub counted : 1 ≤ n → n ≤ 8 → locate x ws n ≡ (scan_from n (nothing_scanned n) 0 ws then λ _. given lies)
  unfolding locate
  counted p q = rw (le-leb 1 n p, le-leb n 8 q)

  pub uncounted : (n ≡ 0) ⊎ (8 < n) → locate x ws n ≡ refused 22 0
  unfolding locate
  uncounted (inl e) = rw e
  uncounted (inr l) = rw (le-leb 1 n (omega arith), lt-leb n 8 l)

  -- so accepted words are answered with that place, and no others are answered
  pub answered : Accepted ws n → locate x ws n ≡ given lies
  unfolding ◌then◌
  answered a = counted a.some_task a.tasks ∙ rw a.scanned

  pub accepted : (l : Location) → locate x ws n ≡ given l → Accepted ws n
  accepted l e =
      by_count n
      (λ p q.
      let r = (then-given (λ _. given lies) (scan_from n (nothing_scanned n) 0 ws) l).0 (sym (counted p q) ∙ e) in
      record { some_task = p; tasks = q; scanned = r.1 })
      (λ o. refused-given (sym (uncounted o) ∙ e))

-- ---- the sides of a box
module _ (n : ℕ) where
  -- where sides are missing, as many words follow
  sides-follow : (s : PlanScan) (i : ℕ) (ws : List ℕ) → s.ended ≡ false → scan_from n s i ws ≡ given tt → n ≤ s.sides + length ws
  unfolding scan_from scan_word
  sides-follow s i [] e h = refused-given (rw e at h)
  sides-follow s i (w ∷ ws) e h =
      by_bool (ltb s.sides n)
      (λ l. omega (arith, sides-follow _ (suc i) ws e (rw l at (word-accepted n s i w ws h).1)))
      (λ l. omega (arith, ltb-false s.sides n l))

  module _ (kind : ℕ) (of-box : BoxKind kind) (few : n ≤ 8) where
    -- a side's word is of its own kind, not of the box's
    no-side : (t w : ℕ) → t < n → is_side t w ≡ true → kind_of w ≡ kind → ⊥
    no-side t w l h k = true-not-false (eqb SIDE kind) (eq-eqb SIDE kind (sym (kind-told t w (omega arith) h) ∙ k)) of-box.not-side

    -- so a first word of a box stands where no side is missing, and then all are
    box-scanned : (s : PlanScan) (i w : ℕ) → in_layout n s i w ≡ true → kind_of w ≡ kind → ((scan_word n s w).sides ≡ 0) × ((scan_word n s w).ended ≡ false)
    unfolding in_layout scan_word
    box-scanned s i w h k =
        by_bool (ltb s.sides n)
        (λ l. absurd (no-side s.sides w (ltb-true s.sides n l) (rw l at (and-true (not s.ended) _ h).1) k))
        (λ l. rw (l, k, eqb-flip kind END, of-box.not_end, of-box.not-rank) (refl, refl))

    -- and its n sides follow
    pub box-room : (s : PlanScan) (i : ℕ) (ws : List ℕ) → scan_from n s i ws ≡ given tt
        → (j : ℕ) → j < length ws → kind_of (at ws j) ≡ kind → n ≤ length (drop (suc j) ws)
    box-room s i [] h j l k = absurd (omega arith)
    box-room s i (w ∷ ws) h zero l k =
        let a = word-accepted n s i w ws h in
        let b = box-scanned s i w a.0 k in
        omega (arith, sides-follow (scan_word n s w) (suc i) ws b.1 a.1, b.0)
    box-room s i (w ∷ ws) h (suc j) l k = box-room (scan_word n s w) (suc i) ws (word-accepted n s i w ws h).1 j (omega arith) k

-- ---- the order of kinds
module _ (n : ℕ) (few : n ≤ 8) (x : State) where
  -- behind an unsafe box or a rank a word begins no forbidden box, and leaves it so
  later-kind : (s : PlanScan) (i w : ℕ) → FORBIDDEN_BOX < s.section → in_layout n s i w ≡ true
      → (FORBIDDEN_BOX < (scan_word n s w).section) × (eqb (kind_of w) FORBIDDEN_BOX ≡ false)
  unfolding is_rank in_layout scan_word
  later-kind s i w h e =
      let q = (and-true (not s.ended) _ e).1 in
      by_bool (ltb s.sides n)
      (λ l. rw (l, kind-told s.sides w (omega (arith, ltb-true s.sides n l)) (rw l at q)) (h, refl))
      (λ l.
      by-header s i w (rw l at q)
      (λ k f. rw (l, k) (h, refl))
      (λ k late f. absurd (omega arith))
      (λ k late f. rw (l, k) (omega arith, refl))
      (λ k late f. let (not_end, not-forbidden, not-unsafe) = rank-only (kind_of w) k in rw (l, not_end, k) (omega arith, not-forbidden)))

  pub none_after : (s : PlanScan) (i : ℕ) (ws : List ℕ) → FORBIDDEN_BOX < s.section → scan_from n s i ws ≡ given tt → first_of n FORBIDDEN_BOX x i ws ≡ none
  unfolding first_of
  none_after s i [] h e = refl
  none_after s i (w ∷ ws) h e =
      let a = word-accepted n s i w ws e in
      let after = later-kind s i w h a.0 in
      rw after.1 (none_after (scan_word n s w) (suc i) ws after.0 a.1)
