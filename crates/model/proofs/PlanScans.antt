-- The words of a plan whose lists fit are scanned without a fault, section by section.
use Prim.Native.Nat.{ℕ, suc, ◌+◌, ◌<◌, ◌≤◌}
use native.Mathlib.Omega.{arith}
use mathlib.Core.Path.{◌≡◌, refl, sym, ap, subst, ◌∙◌}
use mathlib.Core.Bool.{true, false, ◌||◌}
use mathlib.Core.List.{List, [], ◌∷◌, ◌++◌, append_assoc, append-nil}
use lib.ListN.{length, length-append}
use lib.Dec.{ltb, leb}
use borrow.Author.Tests.{lt-ltb, le-ltb, le-leb, eq-eqb}
use Rattle.model.specs.Answer.{given, refused}
use Rattle.model.specs.Layout.{word, END, with_end}
use Rattle.model.specs.Hold.{Interval}
use Rattle.model.specs.Box.{Box}
use Rattle.model.specs.Forbidden.{Forbidden}
use Rattle.model.specs.Plan.{
  AscendingFrom,
  Plan,
  FORBIDDEN_BOX,
  UNSAFE_BOX,
  DEAD_STATE,
  UNREACHED_STATE,
  side_word,
  side_words,
  forbidden_words,
  unsafe_words,
  rank_words,
  plan_body,
  plan_words,
  side_of,
}
use Rattle.model.specs.StoredPlan.{PlanScan, is_side, is_rank, nothing_scanned, may_follow, in_layout, scan_word, scan_from}
use Rattle.model.proofs.Bools.{or_right}
use Rattle.model.proofs.Each.{Each}
use Rattle.model.proofs.Fits.{FieldFits, SideFits, Sided, DeviceSided, RanksFit, ListsFit}
use Rattle.model.proofs.PlanBack.{side-back}
use Rattle.model.proofs.PlanKinds.{rank-only}
use Rattle.model.proofs.Words.{kind-word, field-word}

-- a word that gives back itself and bounds in order is a side's
is-side : (t w : ℕ) → w ≡ side_word t (side_of w) → (side_of w).low ≤ (side_of w).high → is_side t w ≡ true
unfolding is_side
is-side t w e h = rw (eq-eqb w (side_word t (side_of w)) e) (le-leb (side_of w).low (side_of w).high h)

-- so is the word of a side
side-in : (t : ℕ) (v : Interval) → SideFits v → is_side t (side_word t v) ≡ true
side-in t v h =
    let back = sym (side-back t v h) in
    is-side t (side_word t v) (ap (side_word t) back) (subst (λ (u : Interval). u.low ≤ u.high) back h.0)

-- a place before END: in the section of kind k, with the first t sides of a box, and the least rank l
abbrev pub placed : ℕ → ℕ → ℕ → PlanScan
placed k t l = record { section = k; sides = t; least = l; ended = false }

module _ (n : ℕ) where
  -- words in the layout from one place to the next, whatever comes behind them
  abbrev Through : PlanScan → ℕ → List ℕ → PlanScan → Type 0
  Through s i ws next = (rest : List ℕ) → scan_from n s i (ws ++ rest) ≡ scan_from n next (i + length ws) rest

  -- some words, and then more
  through-append : (s mid next : PlanScan) (i : ℕ) (a b : List ℕ) → Through s i a mid → Through mid (i + length a) b next → Through s i (a ++ b) next
  through-append s mid next i a b h k rest =
      let e : i + length a + length b ≡ i + length (a ++ b) = omega (arith, length-append a b) in
      rw (append_assoc a b rest) (h (b ++ rest) ∙ k rest ∙ ap (λ j. scan_from n next j rest) e)

  -- one word before others
  through_word : (s next : PlanScan) (i w : ℕ) → in_layout n s i w ≡ true → scan_word n s w ≡ next → (ws : List ℕ) (last : PlanScan)
      → Through next (suc i) ws last → Through s i (w ∷ ws) last
  unfolding scan_from
  through_word s next i w e f ws last h rest =
      let k : suc i + length ws ≡ i + suc (length ws) = omega arith in
      rw (e, f) (h rest ∙ ap (λ j. scan_from n last j rest) k)

  through-none : (s : PlanScan) (i : ℕ) → Through s i [] s
  through-none s i rest = let k : i + 0 ≡ i = omega arith in rw k

  -- with n sides none is missing
  full : ltb n n ≡ false
  full = le-ltb n n (omega arith)

  -- ---- sides
  sides-through : (k l t i : ℕ) (b : Box) → t + length b ≡ n → Each SideFits b → Through (placed k t l) i (side_words t b) (placed k n l)
  unfolding side_words in_layout scan_word
  sides-through k l t i [] e h = let z : t ≡ n = omega arith in rw z (through-none (placed k n l) i)
  sides-through k l t i (v ∷ b) e h =
      let less = lt-ltb t n (omega arith) in
      through_word (placed k t l) (placed k (suc t) l) i (side_word t v) (rw less (side-in t v h.0)) (rw less) (side_words (suc t) b) (placed k n l)
      (sides-through k l (suc t) (suc i) b (omega arith) h.1)

  -- ---- boxes: a header that may follow, and its sides
  box-through : (j k l i w : ℕ) (b : Box) → may_follow (placed j n l) i w ≡ true → scan_word n (placed j n l) w ≡ placed k 0 0 → Sided n b
      → Through (placed j n l) i (w ∷ side_words 0 b) (placed k n 0)
  unfolding in_layout
  box-through j k l i w b e f h =
      through_word (placed j n l) (placed k 0 0) i w (rw full e) f (side_words 0 b) (placed k n 0)
      (sides-through k 0 0 (suc i) b (omega (arith, h.count)) h.sides)

  forbidden-through : (i : ℕ) (fs : List Forbidden) → Each (DeviceSided n) fs
      → Through (placed FORBIDDEN_BOX n 0) i (forbidden_words fs) (placed FORBIDDEN_BOX n 0)
  unfolding forbidden_words is_rank may_follow scan_word
  forbidden-through i [] h = through-none (placed FORBIDDEN_BOX n 0) i
  forbidden-through i (f ∷ fs) h =
      let here = placed FORBIDDEN_BOX n 0 in
      let d : FieldFits f.device = omega (arith, h.0.device) in
      let kind = kind-word FORBIDDEN_BOX f.device d in
      let field = field-word FORBIDDEN_BOX f.device d in
      let first = word FORBIDDEN_BOX f.device ∷ side_words 0 f.box in
      through-append here here here i first (forbidden_words fs)
      (box-through FORBIDDEN_BOX FORBIDDEN_BOX 0 i (word FORBIDDEN_BOX f.device) f.box (rw (kind, field) (lt-ltb f.device 16 h.0.device)) (rw (kind, full)) h.0.box)
      (forbidden-through (i + length first) fs h.1)

  -- after some unsafe boxes the section is theirs, after none it is what it was
  unsafe-through : (i j : ℕ) (bs : List Box) → j ≤ UNSAFE_BOX → Each (Sided n) bs
      → (k : ℕ) × (k ≤ UNSAFE_BOX) × Through (placed j n 0) i (unsafe_words bs) (placed k n 0)
  unfolding unsafe_words is_rank may_follow scan_word
  unsafe-through i j [] l h = (j, l, through-none (placed j n 0) i)
  unsafe-through i j (b ∷ bs) l h =
      let first = word UNSAFE_BOX 0 ∷ side_words 0 b in
      let more = unsafe-through (i + length first) UNSAFE_BOX bs (omega arith) h.1 in (
        more.0,
        more.1,
        through-append (placed j n 0) (placed UNSAFE_BOX n 0) (placed more.0 n 0) i first (unsafe_words bs)
            (box-through j UNSAFE_BOX 0 i (word UNSAFE_BOX 0) b (rw (le-leb j UNSAFE_BOX l)) (rw full) h.0)
            more.2,
      )

  -- ---- ranks of one kind
  module _ (kind : ℕ) (is-rank : is_rank kind ≡ true) where
    -- that rise from r on, where each from r on may follow
    ranks-through : (i j l r : ℕ) (ds : List ℕ) → j ≤ kind → ((d : ℕ) → r ≤ d → (ltb j kind || leb l d) ≡ true) → Each FieldFits ds → AscendingFrom r ds
        → (k : ℕ) × (m : ℕ) × (k ≤ kind) × Through (placed j n l) i (rank_words kind ds) (placed k n m)
    unfolding in_layout may_follow scan_word
    ranks-through i j l r [] e may h a = (j, l, e, through-none (placed j n l) i)
    ranks-through i j l r (d ∷ ds) e may h a =
        let own = kind-word kind d h.0 in
        let field = field-word kind d h.0 in
        let (not_end, not-forbidden, not-unsafe) = rank-only kind is-rank in
        let after : (q : ℕ) → suc d ≤ q → (ltb kind kind || leb (suc d) q) ≡ true = λ q m. or_right (ltb kind kind) (leb (suc d) q) (le-leb (suc d) q m) in
        let more = ranks-through (suc i) kind (suc d) (suc d) ds (omega arith) after h.1 a.1 in (
          more.0,
          more.1,
          more.2,
          through_word (placed j n l) (placed kind n (suc d)) i (word kind d)
              (rw (full, own, field, not_end, le-leb j kind e, not-forbidden, not-unsafe, is-rank) (may d a.0))
              (rw (full, own, field, not_end, is-rank))
              (rank_words kind ds) (placed more.0 n more.1) more.3,
        )

    -- in a section of a higher kind than the last
    section-through : (i j l : ℕ) (ds : List ℕ) → j < kind → RanksFit ds
        → (k : ℕ) × (m : ℕ) × (k ≤ kind) × Through (placed j n l) i (rank_words kind ds) (placed k n m)
    section-through i j l ds e h = ranks-through i j l 0 ds (omega arith) (λ d m. rw (lt-ltb j kind e)) h.fit h.rise

  -- ---- the whole: its sections, and END with the number of words before it
  body-through : (p : Plan) → ListsFit n p → (k : ℕ) × (m : ℕ) × Through (nothing_scanned n) 0 (plan_body p) (placed k n m)
  unfolding is_rank
  body-through p h =
      let f = forbidden_words p.forbidden in
      let u = unsafe_words p.unsafe in
      let q = rank_words DEAD_STATE p.reached in
      let v = rank_words UNREACHED_STATE p.unreached in
      let start = nothing_scanned n in
      let (k, low, unsafes) = unsafe-through (0 + length f) FORBIDDEN_BOX p.unsafe (omega arith) h.unsafe in
      let (j, l, few, reached) = section-through DEAD_STATE refl (0 + length (f ++ u)) k 0 p.reached (omega (arith, low)) h.reached in
      let (m, r, most, others) = section-through UNREACHED_STATE refl (0 + length (f ++ u) + length q) j l p.unreached (omega (arith, few)) h.unreached in (
        m,
        r,
        through-append start (placed k n 0) (placed m n r) 0 (f ++ u) (q ++ v)
            (through-append start start (placed k n 0) 0 f u (forbidden-through 0 p.forbidden h.forbidden) unsafes)
            (through-append (placed k n 0) (placed j n l) (placed m n r) (0 + length (f ++ u)) q v reached others),
      )

  -- without END they are refused at their number
  pub lists-unended : (p : Plan) → ListsFit n p → scan_from n (nothing_scanned n) 0 (plan_body p) ≡ refused 23 (length (plan_body p))
  unfolding scan_from
  lists-unended p h =
      let body = body-through p h in
      let z : 0 + length (plan_body p) ≡ length (plan_body p) = omega arith in
      ap (scan_from n (nothing_scanned n) 0) (sym (append-nil (plan_body p))) ∙ body.2 [] ∙ rw z

  -- END, at its index
  end-scanned : (k m i : ℕ) → FieldFits i → scan_from n (placed k n m) i (word END i ∷ []) ≡ given tt
  unfolding scan_from in_layout may_follow scan_word
  end-scanned k m i h = rw (full, kind-word END i h, field-word END i h, eq-eqb i i refl)

  pub lists-scanned : (p : Plan) → ListsFit n p → FieldFits (length (plan_body p)) → scan_from n (nothing_scanned n) 0 (plan_words p) ≡ given tt
  unfolding plan_words with_end
  lists-scanned p h fits =
      let body = body-through p h in
      let i = length (plan_body p) in
      let z : 0 + i ≡ i = omega arith in
      body.2 (word END i ∷ []) ∙ rw z (end-scanned body.0 body.1 i fits)
