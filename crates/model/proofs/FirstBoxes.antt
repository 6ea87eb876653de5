-- The boxes of a plan's words that hold a state: the first that `first_of` finds, by index, and whether there is one, over the sections of a plan.
use Prim.Native.Nat.{ℕ, zero, suc, ◌+◌, ◌<◌, ◌≤◌}
use native.Mathlib.Omega.{arith}
use mathlib.Core.Path.{◌≡◌, refl, ap, ◌∙◌}
use mathlib.Core.Logic.{◌⊎◌, inl, inr}
use mathlib.Core.Bool.{Bool, true, false, ◌&&◌, ◌||◌, and-true as and-all, and-false as and-nothing, or-false as or_nothing}
use mathlib.Core.Option.{none, some}
use mathlib.Core.List.{List, [], ◌∷◌, ◌++◌, map, append_assoc, map-id}
use lib.ListN.{length, drop}
use lib.Seq.{take_at}
use lib.Dec.{eqb}
use borrow.Author.Tests.{eqb-true, eq-eqb}
use Rattle.model.specs.Set.{at}
use Rattle.model.specs.State.{State}
use Rattle.model.specs.Layout.{word, kind_of, END, with_end}
use Rattle.model.specs.Box.{Box, inside, covered}
use Rattle.model.specs.Forbidden.{boxes}
use Rattle.model.specs.Plan.{
  Plan,
  FORBIDDEN_BOX,
  UNSAFE_BOX,
  SIDE,
  DEAD_STATE,
  UNREACHED_STATE,
  side_words,
  forbidden_words,
  unsafe_words,
  rank_words,
  dead_words,
  plan_body,
  plan_words,
}
use Rattle.model.specs.StoredPlan.{is_rank, box_of, first_of}
use Rattle.model.proofs.Bools.{by_bool, by_cases, true-not-false, and-true, or-false, eqb-flip}
use Rattle.model.proofs.Each.{Each, each_append, each_map, each-mono}
use Rattle.model.proofs.Fits.{FieldFits, SideFits, Sided, DeviceSided, ListsFit, PlanFits}
use Rattle.model.proofs.Words.{kind-word}
use Rattle.model.proofs.PlanBack.{side-kind, box-back, length-plan}
use Rattle.model.proofs.PlanCount.{sides-length}

-- a kind of box: not that of a side, of a rank or of END
pub record BoxKind (kind : ℕ) : Type 0 where
  pub not-side : eqb SIDE kind ≡ false
  pub not-rank : is_rank kind ≡ false
  pub not_end : eqb END kind ≡ false

pub forbidden-kind : BoxKind FORBIDDEN_BOX
unfolding is_rank
forbidden-kind = record { not-side = refl; not-rank = refl; not_end = refl }

pub unsafe-kind : BoxKind UNSAFE_BOX
unfolding is_rank
unsafe-kind = record { not-side = refl; not-rank = refl; not_end = refl }

-- a box put before a list of boxes
regroup : (own i c rest : Bool) → ((own && i) || ((c && own) || rest)) ≡ (((i || c) && own) || rest)
regroup true true c rest = refl
regroup true false c rest = refl
regroup false true true rest = refl
regroup false true false rest = refl
regroup false false c rest = refl

module _ (n kind : ℕ) (x : State) where
  -- word w, with ws behind it, begins a box of the kind that holds the state
  abbrev opens : ℕ → List ℕ → Bool
  opens w ws = eqb (kind_of w) kind && inside (box_of n ws) x

  -- ---- by index
  -- so does the word at index j
  pub record Begins (ws : List ℕ) (j : ℕ) : Type 0 where
    pub there : j < length ws
    pub of_kind : kind_of (at ws j) ≡ kind
    pub holds : inside (box_of n (drop (suc j) ws)) x ≡ true

  -- and one word later, with a word before
  later : (w : ℕ) (ws : List ℕ) (j : ℕ) → Begins ws j → Begins (w ∷ ws) (suc j)
  later w ws j b = record { there = omega (arith, b.there); of_kind = b.of_kind; holds = b.holds }

  -- the first word begins none, and no word before j behind it does
  none_before : (w : ℕ) (ws : List ℕ) (j : ℕ) → opens w ws ≡ false → ((l : ℕ) → l < j → Begins ws l → ⊥)
      → (l : ℕ) → l < suc j → Begins (w ∷ ws) l → ⊥
  none_before w ws j e h zero k b =
      true-not-false (opens w ws) (rw (eq-eqb (kind_of w) kind b.of_kind) b.holds) e
  none_before w ws j e h (suc l) k b = h l (omega arith) (record { there = omega (arith, b.there); of_kind = b.of_kind; holds = b.holds })

  -- a word that begins such a box, the first
  abbrev pub FirstAt : List ℕ → ℕ → Type 0
  FirstAt ws j = Begins ws j × ((l : ℕ) → l < j → Begins ws l → ⊥)

  -- what is found: nothing where no word begins such a box, else the first that does
  pub first-of : (i : ℕ) (ws : List ℕ)
      → ((first_of n kind x i ws ≡ none) × ((j : ℕ) → Begins ws j → ⊥)) ⊎ ((j : ℕ) × (first_of n kind x i ws ≡ some (i + j)) × FirstAt ws j)
  unfolding first_of
  first-of i [] = inl (refl, λ j b. absurd (omega (arith, b.there)))
  first-of i (w ∷ ws) =
      by_bool (opens w ws)
      (λ e.
      let q = and-true (eqb (kind_of w) kind) (inside (box_of n ws) x) e in
      let z : i ≡ i + 0 = omega arith in
      inr (0, rw e (ap some z), (record { there = omega arith; of_kind = eqb-true (kind_of w) kind q.0; holds = q.1 }, λ l h. absurd (omega arith))))
      (λ e. by_cases (first-of (suc i) ws)
      (λ r. inl (rw e r.0, λ j b. none_before w ws j e (λ l h. r.1 l) j (omega arith) b))
      (λ r.
      let z : suc i + r.0 ≡ i + suc r.0 = omega arith in
      inr (suc r.0, rw e (r.1 ∙ ap some z), (later w ws r.0 r.2.0, none_before w ws r.0 e r.2.1))))

  -- ---- by sections
  -- some word does
  unfoldable pub some_of : List ℕ → Bool
  some_of [] = false
  some_of (w ∷ ws) = opens w ws || some_of ws

  -- then one is found, from whatever index the words are counted; else none
  pub some-found : (i : ℕ) (ws : List ℕ) → some_of ws ≡ true → (j : ℕ) × (first_of n kind x i ws ≡ some j)
  unfolding first_of some_of
  some-found i [] e = true-not-false false e refl
  some-found i (w ∷ ws) e =
      by_bool (opens w ws)
      (λ h. (i, rw h))
      (λ h. let r = some-found (suc i) ws (rw h at e) in (r.0, rw h r.1))

  pub none_found : (i : ℕ) (ws : List ℕ) → some_of ws ≡ false → first_of n kind x i ws ≡ none
  unfolding first_of some_of
  none_found i [] e = refl
  none_found i (w ∷ ws) e =
      let r = or-false (opens w ws) (some_of ws) e in
      rw r.0 (none_found (suc i) ws r.1)

  -- words of other kinds begin none
  abbrev Other : ℕ → Type 0
  Other w = eqb (kind_of w) kind ≡ false

  skipped : (us ws : List ℕ) → Each Other us → some_of (us ++ ws) ≡ some_of ws
  unfolding some_of
  skipped [] ws h = refl
  skipped (u ∷ us) ws h = rw h.0 (skipped us ws h.1)

  module _ (of-box : BoxKind kind) where
    -- sides and ranks are such
    sides-other : (t : ℕ) (b : Box) → t + length b ≤ 256 → Each SideFits b → Each Other (side_words t b)
    unfolding side_words
    sides-other t [] l h = tt
    sides-other t (i ∷ b) l h = (rw (side-kind t i (omega arith) h.0) of-box.not-side, sides-other (suc t) b (omega arith) h.1)

    ranks-other : (rank : ℕ) → eqb kind rank ≡ false → (rs : List ℕ) → Each FieldFits rs → Each Other (rank_words rank rs)
    ranks-other rank e = each_map FieldFits Other (word rank) (λ r h. rw (kind-word rank r h, eqb-flip rank kind) e)

    dead-other : (p : Plan) → ListsFit n p → Each Other (dead_words p)
    unfolding is_rank
    dead-other p h =
        let (not-reached, not-unreached) = or-false (eqb kind DEAD_STATE) (eqb kind UNREACHED_STATE) of-box.not-rank in
        each_append Other (rank_words DEAD_STATE p.reached) (rank_words UNREACHED_STATE p.unreached)
        (ranks-other DEAD_STATE not-reached p.reached h.reached.fit)
        (ranks-other UNREACHED_STATE not-unreached p.unreached h.unreached.fit)

    -- a section of boxes, each behind a first word of kind k
    module _ {A : Type 0} (header : A → ℕ) (box : A → Box) (words : List A → List ℕ) (empty : words [] ≡ [])
        (more : (a : A) (l : List A) → words (a ∷ l) ≡ (header a ∷ side_words 0 (box a)) ++ words l) where
      section-some : (k : ℕ) → n ≤ 256 → (l : List A) → Each (λ a. (kind_of (header a) ≡ k) × Sided n (box a)) l → (rest : List ℕ)
          → some_of (words l ++ rest) ≡ ((covered (map box l) x && eqb k kind) || some_of rest)
      unfolding some_of covered
      section-some k few [] h rest = rw empty
      section-some k few (a ∷ l) h rest =
          let sides = side_words 0 (box a) in
          let behind = words l ++ rest in
          let own : box_of n (sides ++ behind) ≡ box a = rw (take_at sides behind n (sides-length 0 (box a) ∙ h.0.1.count)) (box-back 0 (box a) h.0.1.sides) in
          rw (
            more a l,
            append_assoc sides (words l) rest,
            h.0.0,
            own,
            skipped sides behind (sides-other 0 (box a) (omega (arith, h.0.1.count)) h.0.1.sides),
            section-some k few l h.1 rest,
          )
          (regroup (eqb k kind) (inside (box a) x) (covered (map box l) x) (some_of rest))

    -- a plan's words: its forbidden boxes if their kind is asked for, its unsafe boxes if theirs is
    plan-some : (p : Plan) → PlanFits n p
        → some_of (plan_words p) ≡ ((covered (boxes p.forbidden) x && eqb FORBIDDEN_BOX kind) || ((covered p.unsafe x && eqb UNSAFE_BOX kind) || false))
    unfolding plan_words with_end some_of forbidden_words unsafe_words
    plan-some p h =
        let lists = h.lists in
        let f = forbidden_words p.forbidden in
        let u = unsafe_words p.unsafe in
        let d = dead_words p in
        let count = length (plan_body p) in
        let end = word END count ∷ [] in
        let last : kind_of (word END count) ≡ END = kind-word END count (omega (arith, length-plan p, h.words)) in
        rw (
          append_assoc (f ++ u) d end,
          append_assoc f u (d ++ end),
          section-some (λ g. word FORBIDDEN_BOX g.device) (λ g. g.box) forbidden_words refl (λ g l. refl) FORBIDDEN_BOX h.tasks p.forbidden
              (each-mono (DeviceSided n) _ (λ g k. (kind-word FORBIDDEN_BOX g.device (omega (arith, k.device)), k.box)) p.forbidden lists.forbidden)
              (u ++ (d ++ end)),
          section-some (λ b. word UNSAFE_BOX 0) (λ b. b) unsafe_words refl (λ b l. refl) UNSAFE_BOX h.tasks p.unsafe
              (each-mono (Sided n) _ (λ b k. (refl, k)) p.unsafe lists.unsafe) (d ++ end),
          skipped d end (dead-other p lists),
          last,
          of-box.not_end,
          map-id p.unsafe,
        )

module _ (n : ℕ) (x : State) (p : Plan) (h : PlanFits n p) where
  -- so the kind of the forbidden boxes finds those, and that of the unsafe boxes those
  pub forbidden-some : some_of n FORBIDDEN_BOX x (plan_words p) ≡ covered (boxes p.forbidden) x
  forbidden-some =
      plan-some n FORBIDDEN_BOX x forbidden-kind p h
      ∙ rw (and-all (covered (boxes p.forbidden) x), and-nothing (covered p.unsafe x), or_nothing (covered (boxes p.forbidden) x))

  pub unsafe-some : some_of n UNSAFE_BOX x (plan_words p) ≡ covered p.unsafe x
  unsafe-some =
      plan-some n UNSAFE_BOX x unsafe-kind p h
      ∙ rw (and-nothing (covered (boxes p.forbidden) x), and-all (covered p.unsafe x), or_nothing (covered p.unsafe x))
