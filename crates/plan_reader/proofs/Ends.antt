-- Each word that a walk takes keeps the model's answer, and at the end of the words it is the code's.
use Prim.Native.Nat.{ℕ, suc, ◌+◌, ◌-◌, ◌≤◌, ◌<◌}
use native.Mathlib.Omega.{arith}
use native.Mathlib.Numerals.{add-one}
use mathlib.Core.Path.{◌≡◌, refl, sym, ap, ◌∙◌}
use mathlib.Core.Logic.{◌⊎◌, inl, inr}
use mathlib.Core.Bool.{Bool, true, false, cond, ◌&&◌}
use mathlib.Core.Option.{none}
use mathlib.Core.List.{List, [], ◌∷◌}
use lib.ListN.{length, take, drop, drop_of_length-le}
use lib.Seq.{length-take-le, drop-cons, get_or-take}
use lib.Dec.{eqb, ltb, leb}
use borrow.Author.Tests.{ltb-true, ltb-false, leb-true, leb-false, eqb-true, eqb-false, eq-eqb, ne_eqb, lt-ltb, le-ltb, le-leb}
use Rattle.std.proofs.Common.{length-drop, Option, Some, None, Result, Ok, Err}
use Rattle.model.specs.Answer.{Answer, given, refused, ◌then◌}
use Rattle.model.specs.Set.{at}
use Rattle.model.specs.Layout.{kind_of, field_of, END}
use Rattle.model.specs.State.{State}
use Rattle.model.specs.Hold.{within}
use Rattle.model.specs.Box.{inside}
use Rattle.model.specs.Plan.{FORBIDDEN_BOX, UNSAFE_BOX, side_of}
use Rattle.model.specs.StoredPlan as model
use Rattle.model.specs.StoredPlan.{is_side, is_rank, may_follow, in_layout, scan_word, scan_from, box_of, first_of, locate}
use Rattle.model.proofs.Bools.{by_bool, by_cases, true-not-false}
use Rattle.model.proofs.PlanKinds.{rank-only, by-header, kind-told}
use Rattle.model.proofs.Located.{none_after}
use Rattle.refusals.specs.Answers as refusals
use Rattle.refusals.specs.Answers.{answer_of}
use Rattle.refusals.specs.declared.Refusal.{Refusal}
use Rattle.set_words.specs.declared.kinds.Kind.{Kind}
use Rattle.set_words.specs.declared.kinds.Kind.TheVariants.{ForbiddenBox, UnsafeBox, DeadState, UnreachedState}
use Rattle.set_words.specs.Kinds.{kind_named, number_of}
use Rattle.set_words.proofs.Named.{named-number, named-none}
use Rattle.plan_reader.specs.declared.Location.{Location}
use Rattle.plan_reader.specs.declared.seen.Seen.{Seen}
use Rattle.plan_reader.specs.Says.{location_of}
use Rattle.plan_reader.specs.Walk.{word_at, scan_of, before, last_box, outside_at, side_noted, rank_noted, box_noted, side_taken, end_taken, follows, head_taken}
use Rattle.plan_reader.proofs.Found.{lies, found-answer, lies-forbidden, lies-unsafe, same_then}

-- n tasks, and a state
module _ (n : ℕ) (x : State) where
  abbrev pub y : State
  y = take n x

  -- the box begun last holds the state, if the sides that it has so far do
  abbrev box_holds : Seen → List ℕ → Bool
  box_holds s ws = s.holds && inside (box_of (n - s.sides) ws) (drop s.sides y)

  -- what is found once that box is over
  abbrev box_over : Seen → List ℕ → Location
  box_over s ws = cond (ltb s.sides n && box_holds s ws) (last_box s) s.found

  -- where the state lies if the words from index i on are in the layout
  abbrev lies_at : Seen → ℕ → List ℕ → model.Location
  lies_at s i ws = lies (box_over s ws) (first_of n FORBIDDEN_BOX y i ws) (first_of n UNSAFE_BOX y i ws)

  -- the model's answer from index i on
  abbrev pub answer_at : Seen → ℕ → List ℕ → Answer model.Location
  answer_at s i ws = scan_from n (scan_of s) i ws then λ _. given (lies_at s i ws)

  -- and after a word at index i that was taken or refused
  abbrev pub answer_after : Result Seen Refusal → ℕ → List ℕ → Answer model.Location
  answer_after (Ok t) i ws = answer_at t (suc i) ws
  answer_after (Err r) i ws = refused (refusals.number_of r.reason) r.place

  -- a word of another kind begins no box of this one
  skips : (kind i w : ℕ) (ws : List ℕ) → eqb (kind_of w) kind ≡ false → first_of n kind y i (w ∷ ws) ≡ first_of n kind y (suc i) ws
  unfolding first_of
  skips kind i w ws e = rw e

  -- a word outside the layout
  outside : (s : Seen) (i w : ℕ) (ws : List ℕ) → in_layout n (scan_of s) i w ≡ false → refused 23 i ≡ answer_at s i (w ∷ ws)
  unfolding scan_from ◌then◌
  outside s i w ws e = rw e

  -- ---- one more side
  module _ (most : n ≤ 8) (long : n ≤ length x) where
    positions : length y ≡ n
    positions = length-take-le n x long

    module _ (s : Seen) (w : ℕ) (ws : List ℕ) (h : s.sides < n) where
      abbrev t : Seen
      t = side_noted n (at x s.sides) s w

      -- it takes its task's position off those that are left
      one-off : inside (box_of (n - s.sides) (w ∷ ws)) (drop s.sides y) ≡ (within (side_of w) (at x s.sides) && inside (box_of (n - (s.sides + 1)) ws) (drop (s.sides + 1) y))
      unfolding inside
      one-off =
          let m : n - s.sides ≡ suc (n - (s.sides + 1)) = omega (arith, h) in
          rw (m, add-one s.sides, drop-cons y s.sides 0 (rw positions h), get_or-take n x s.sides 0 h)

      -- after the last one none is left
      none_left : s.sides + 1 ≡ n → inside (box_of (n - (s.sides + 1)) ws) (drop (s.sides + 1) y) ≡ true
      unfolding inside
      none_left e =
          let z : n - n ≡ 0 = omega arith in
          rw (e, z, drop_of_length-le y {i = n} (omega (arith, positions)))

      side-found : box_over t ws ≡ box_over s (w ∷ ws)
      side-found =
          rw (lt-ltb s.sides n h, one-off)
          (by_bool (ltb (s.sides + 1) n)
          (λ l.
          let q = ltb-true (s.sides + 1) n l in
          rw (ne_eqb (s.sides + 1) n (λ e. omega (arith, q, e)), l)
          (by_bool s.holds (λ e. rw e) (λ e. rw e)))
          (λ l.
          let q : s.sides + 1 ≡ n = omega (arith, h, ltb-false (s.sides + 1) n l) in
          rw (eq-eqb (s.sides + 1) n q, none_left q, l)
          (by_bool s.holds
          (λ e. rw e (by_bool (within (side_of w) (at x s.sides)) (λ d. rw d) (λ d. rw d)))
          (λ e. rw e))))

      side-scanned : (i : ℕ) → is_side s.sides w ≡ true → scan_from n (scan_of s) i (w ∷ ws) ≡ scan_from n (scan_of t) (suc i) ws
      unfolding scan_from in_layout scan_word
      side-scanned i e = rw (lt-ltb s.sides n h, e, add-one s.sides)

      pub side-step : (i : ℕ) → answer_after (side_taken n (at x s.sides) s i w) i ws ≡ answer_at s i (w ∷ ws)
      unfolding in_layout refusals.number_of
      side-step i =
          by_bool (is_side s.sides w)
          (λ e.
          let kind = kind-told s.sides w (omega (arith, h, most)) e in
          rw (e, side-scanned i e, side-found, skips FORBIDDEN_BOX i w ws (rw kind), skips UNSAFE_BOX i w ws (rw kind)))
          (λ e. rw e (outside s i w ws (rw (lt-ltb s.sides n h, e))))

  -- ---- END, where it may stand: what was found is the answer, unless a word follows
  end-told : (s : Seen) (i w count : ℕ) (ws : List ℕ) → n ≤ s.sides → may_follow (scan_of s) i w ≡ true → kind_of w ≡ END → count ≡ i + length (w ∷ ws)
      → answer_of location_of (cond (ltb (i + 1) count) (outside_at (i + 1)) (Ok s.found)) ≡ answer_at s i (w ∷ ws)
  unfolding scan_from in_layout scan_word first_of ◌then◌ answer_of refusals.number_of
  end-told s i w count [] h e k c =
      rw (le-ltb s.sides n h, e, k, le-ltb (i + 1) count (omega (arith, c))) (ap given (found-answer s.found))
  end-told s i w count (v ∷ vs) h e k c = rw (le-ltb s.sides n h, e, k, add-one i, lt-ltb (suc i) count (omega (arith, c)))

  -- ---- a word where no side is missing
  module _ (least : 1 ≤ n) (most : n ≤ 8) (s : Seen) (i w : ℕ) (ws : List ℕ) (h : n ≤ s.sides) where
    -- no box was begun that is not over
    none-begun : (vs : List ℕ) → box_over s vs ≡ s.found
    none-begun vs = rw (le-ltb s.sides n h)

    -- it is outside the layout if it may not follow
    refused-head : may_follow (scan_of s) i w ≡ false → refused 23 i ≡ answer_at s i (w ∷ ws)
    unfolding in_layout
    refused-head e = outside s i w ws (rw (le-ltb s.sides n h, e))

    pub end_step : (count : ℕ) → count ≡ i + length (w ∷ ws) → eqb (kind_of w) END ≡ true
        → answer_of location_of (end_taken count s.found i w) ≡ answer_at s i (w ∷ ws)
    unfolding may_follow answer_of refusals.number_of
    end_step count c k =
        by_bool (eqb (field_of w) i)
        (λ e. rw e (end-told s i w count ws h (rw (k, e)) (eqb-true (kind_of w) END k) c))
        (λ e. rw e (refused-head (rw (k, e))))

    -- a word of another kind
    module _ (other : eqb (kind_of w) END ≡ false) where
      -- by its kind
      module _ (k : Kind) (named : kind_of w ≡ number_of k) where
        rest-follows : may_follow (scan_of s) i w ≡ follows s (number_of k) (field_of w)
        unfolding may_follow
        rest-follows = rw (other, named)

        module _ (may : may_follow (scan_of s) i w ≡ true) where
          -- a rank
          rank-scanned : is_rank (number_of k) ≡ true → scan_from n (scan_of s) i (w ∷ ws) ≡ scan_from n (scan_of (rank_noted n s k (field_of w))) (suc i) ws
          unfolding scan_from in_layout scan_word
          rank-scanned r = rw (le-ltb s.sides n h, may, other, named, r, add-one (field_of w))

          rank_step : is_rank (number_of k) ≡ true → answer_at (rank_noted n s k (field_of w)) (suc i) ws ≡ answer_at s i (w ∷ ws)
          rank_step r =
              let (not_end, not-forbidden, not-unsafe) = rank-only (kind_of w) (rw named r) in
              rw (
                rank-scanned r,
                le-ltb n n (omega arith),
                none-begun (w ∷ ws),
                skips FORBIDDEN_BOX i w ws not-forbidden,
                skips UNSAFE_BOX i w ws not-unsafe,
              )

          -- the first word of a box: a word that may follow, and is neither END nor a rank
          module _ (not-rank : is_rank (number_of k) ≡ false) where
            abbrev b : Seen
            b = box_noted s k i

            box-scanned : scan_from n (scan_of s) i (w ∷ ws) ≡ scan_from n (scan_of b) (suc i) ws
            unfolding scan_from in_layout scan_word
            box-scanned = rw (le-ltb s.sides n h, may, other, named, not-rank)

            -- it is forbidden or unsafe
            box-kind : (number_of k ≡ FORBIDDEN_BOX) ⊎ (number_of k ≡ UNSAFE_BOX)
            box-kind =
                by-header (scan_of s) i w may
                (λ q f. absurd (eqb-false (kind_of w) END other q))
                (λ q late f. inl (sym named ∙ q))
                (λ q late f. inr (sym named ∙ q))
                (λ q late f. true-not-false _ (rw named at q) not-rank)

            -- where the state lies, if the words behind it are in the layout
            box-lies : scan_from n (scan_of b) (suc i) ws ≡ given tt → lies_at b (suc i) ws ≡ lies_at s i (w ∷ ws)
            unfolding first_of
            box-lies g =
                let f = first_of n FORBIDDEN_BOX y (suc i) ws in
                let u = first_of n UNSAFE_BOX y (suc i) ws in
                let whole : n - 0 ≡ n = omega arith in
                rw (lt-ltb 0 n least, whole, le-ltb s.sides n h, named)
                (by_cases box-kind
                (λ q. rw q (lies-forbidden s.found (inside (box_of n ws) y) i f u))
                (λ q.
                let none-follows : f ≡ none = none_after n most y (scan_of b) (suc i) ws (omega (arith, q)) g in
                rw (q, none-follows) (lies-unsafe s.found (inside (box_of n ws) y) i u)))

            box-step : answer_at b (suc i) ws ≡ answer_at s i (w ∷ ws)
            box-step = rw box-scanned (same_then (scan_from n (scan_of b) (suc i) ws) (lies_at b (suc i) ws) (lies_at s i (w ∷ ws)) box-lies)

        head-named : answer_after (head_taken n s i (Some k) (field_of w)) i ws ≡ answer_at s i (w ∷ ws)
        unfolding refusals.number_of
        head-named =
            by_bool (follows s (number_of k) (field_of w))
            (λ f.
            let may = rest-follows ∙ f in
            by_bool (is_rank (number_of k)) (λ r. rw (f, r) (rank_step may r)) (λ r. rw (f, r) (box-step may r)))
            (λ f. rw f (refused-head (rest-follows ∙ f)))

      -- a number that names no kind is none of those that may follow
      none-follows : kind_named (kind_of w) ≡ None → may_follow (scan_of s) i w ≡ false
      unfolding may_follow is_rank
      none-follows e =
          let not : (k : Kind) → eqb (kind_of w) (number_of k) ≡ false = λ k. named-none (kind_of w) k e in
          rw (other, not ForbiddenBox, not UnsafeBox, not DeadState, not UnreachedState) (by_bool (leb (number_of s.section) (kind_of w)) (λ l. rw l) (λ l. rw l))

      pub head_step : answer_after (head_taken n s i (kind_named (kind_of w)) (field_of w)) i ws ≡ answer_at s i (w ∷ ws)
      unfolding refusals.number_of
      head_step = by_name (kind_named (kind_of w)) refl
        where
          by_name : (o : Option Kind) → kind_named (kind_of w) ≡ o → answer_after (head_taken n s i o (field_of w)) i ws ≡ answer_at s i (w ∷ ws)
          by_name None e = refused-head (none-follows e)
          by_name (Some k) e = head-named k (named-number (kind_of w) k e)

-- before the first word, of 1 to 8 tasks
pub begins : (n : ℕ) (x : State) (ws : List ℕ) → 1 ≤ n → n ≤ 8 → answer_at n x (before n) 0 ws ≡ locate x ws n
unfolding locate lies
begins n x ws least most = rw (le-leb 1 n least, le-leb n 8 most, le-ltb n n (omega arith))

-- at the end of the words END is missing
pub end_missing : (n : ℕ) (x : State) (ws : List ℕ) (s : Seen) (i : ℕ) → i ≡ length ws → answer_at n x s i (drop i ws) ≡ refused 23 (length ws)
unfolding scan_from ◌then◌
end_missing n x ws s i e = rw (drop_of_length-le ws {i = i} (omega (arith, e)), e)

-- a word that is there stands before the last one's end, and none only where they are over
pub word-there : (ws : List ℕ) (i w : ℕ) → word_at ws i ≡ Some w → (i < length ws) × (at ws i ≡ w)
word-there ws i w = by_test (leb (length ws) i) refl
  where
    by_test : (b : Bool) → leb (length ws) i ≡ b → cond b None (Some (at ws i)) ≡ Some w → (i < length ws) × (at ws i ≡ w)
    by_test true q e = absurd (let z : ⊥ = cc in z)
    by_test false q e = let same : at ws i ≡ w = cc in (leb-false (length ws) i q, same)

pub none-there : (ws : List ℕ) (i : ℕ) → word_at ws i ≡ None → length ws ≤ i
none-there ws i = by_test (leb (length ws) i) refl
  where
    by_test : (b : Bool) → leb (length ws) i ≡ b → cond b None (Some (at ws i)) ≡ None → length ws ≤ i
    by_test true q e = leb-true (length ws) i q
    by_test false q e = absurd (let z : ⊥ = cc in z)

-- ---- a turn of the walk: the word at index i of all words
module _ (n : ℕ) (x : State) (ws : List ℕ) (s : Seen) (i : ℕ) (within : i < length ws) (h : n ≤ 8) where
  -- a word taken leaves the answer as it was, and a refused one has it
  abbrev pub Turned : Result Seen Refusal → Type 0
  Turned r = answer_after n x r i (drop (suc i) ws) ≡ answer_at n x s i (drop i ws)

  pub side-turn : n ≤ length x → s.sides < n → Turned (side_taken n (at x s.sides) s i (at ws i))
  side-turn long l = rw (drop-cons ws i 0 within) (side-step n x h long s (at ws i) (drop (suc i) ws) l i)

  module _ (least : 1 ≤ n) (over : n ≤ s.sides) where
    pub head-turn : eqb (kind_of (at ws i)) END ≡ false → Turned (head_taken n s i (kind_named (kind_of (at ws i))) (field_of (at ws i)))
    head-turn other = rw (drop-cons ws i 0 within) (head_step n x least h s i (at ws i) (drop (suc i) ws) over other)

    pub end-turn : eqb (kind_of (at ws i)) END ≡ true → answer_of location_of (end_taken (length ws) s.found i (at ws i)) ≡ answer_at n x s i (drop i ws)
    end-turn e =
        let all : length ws ≡ i + length (at ws i ∷ drop (suc i) ws) = omega (arith, within, length-drop (suc i) ws) in
        rw (drop-cons ws i 0 within) (end_step n x least h s i (at ws i) (drop (suc i) ws) over (length ws) all e)

  module _ (r : Result Seen Refusal) (turned : Turned r) where
    pub taken-keeps : (t : Seen) → r ≡ Ok t → answer_at n x t (i + 1) (drop (i + 1) ws) ≡ answer_at n x s i (drop i ws)
    taken-keeps t e = rw (add-one i) (rw e at turned)

    pub refused-told : (e : Refusal) (q : Result Location Refusal) → r ≡ Err e → q ≡ Err e → answer_of location_of q ≡ answer_at n x s i (drop i ws)
    unfolding answer_of
    refused-told e q k l = rw l (rw k at turned)
