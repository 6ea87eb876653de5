-- Words scanned without a fault are those of a plan of the layout; words before a fault go on to one's boxes and ranks.
use Prim.Native.Nat.{ℕ, zero, suc, ◌+◌, ◌-◌, ◌<◌, ◌≤◌}
use native.Mathlib.Omega.{arith}
use mathlib.Core.Path.{◌≡◌, refl, sym, ap, ap₂, subst, ◌∙◌}
use mathlib.Core.Logic.{◌⊎◌, inl, inr}
use mathlib.Core.Bool.{true, false, not}
use mathlib.Core.List.{List, [], ◌∷◌, ◌++◌, append_assoc, append-nil}
use lib.ListN.{length, take}
use lib.Dec.{ltb}
use borrow.Author.Tests.{ltb-true, ltb-false, not-true}
use Rattle.model.specs.Answer.{given, refused}
use Rattle.model.specs.Below.{tabulate}
use Rattle.model.specs.Layout.{word, kind_of, field_of, END, with_end}
use Rattle.model.specs.Hold.{Interval}
use Rattle.model.specs.Box.{Box}
use Rattle.model.specs.Plan.{
  AscendingFrom,
  Plan,
  FORBIDDEN_BOX,
  UNSAFE_BOX,
  DEAD_STATE,
  UNREACHED_STATE,
  side_words,
  forbidden_words,
  unsafe_words,
  rank_words,
  dead_words,
  plan_body,
  plan_words,
  side_of,
  with_forbidden,
}
use Rattle.model.specs.StoredPlan.{PlanScan, is_side, is_rank, nothing_scanned, in_layout, scan_word, scan_from}
use Rattle.model.proofs.Bools.{by_bool, by_cases, and-true}
use Rattle.model.proofs.Lists.{empty, length-tabulate}
use Rattle.model.proofs.Each.{Each, each-tabulate}
use Rattle.model.proofs.Answers.{given-refused, refused-given, refused-number, refused-place}
use Rattle.model.proofs.Fits.{FieldFits, SideFits, RanksFit, ListsFit}
use Rattle.model.proofs.PlanCount.{sides-length}
use Rattle.model.proofs.Words.{word-parts}
use Rattle.model.proofs.PlanKinds.{by_rank, rank-only, by-header, side-told}
use Rattle.model.proofs.PlanScans.{placed}

-- the field of any word is one
field_fits : (w : ℕ) → FieldFits (field_of w)
field_fits w = omega arith

-- ranks that may come in the section of kind k, of which those of that kind are at least l
pub record RanksAfter (k l : ℕ) (reached unreached : List ℕ) : Type 0 where
  pub no-reached : DEAD_STATE < k → reached ≡ []
  pub reached-above : k ≡ DEAD_STATE → AscendingFrom l reached
  pub unreached-above : k ≡ UNREACHED_STATE → AscendingFrom l unreached

-- in the sections of boxes any ranks may
after-boxes : (k l : ℕ) (q u : List ℕ) → k ≤ UNSAFE_BOX → RanksAfter k l q u
after-boxes k l q u h = record { no-reached = λ e. absurd (omega arith); reached-above = λ e. absurd (omega arith); unreached-above = λ e. absurd (omega arith) }

-- none, and one more
no-ranks : RanksFit []
no-ranks = record { fit = tt; rise = tt }

more-ranks : (d : ℕ) (ranks : List ℕ) → FieldFits d → RanksFit ranks → AscendingFrom (suc d) ranks → RanksFit (d ∷ ranks)
more-ranks d ranks h r a = record { fit = (h, r.fit); rise = (omega arith, a) }

-- a header's sides before three sections go to the first of them
regroup : (a b c d : List ℕ) → a ++ (b ++ c ++ d) ≡ a ++ b ++ c ++ d
regroup a b c d = simp append_assoc

module _ (n : ℕ) where
  -- behind END a scan goes no further
  after_end : (s : PlanScan) (i : ℕ) (w : ℕ) (ws : List ℕ) → s.ended ≡ true → scan_from n s i (w ∷ ws) ≡ refused 23 i
  unfolding scan_from in_layout
  after_end s i w ws h = rw h

  after-given : (s : PlanScan) (i : ℕ) (ws : List ℕ) → s.ended ≡ true → scan_from n s i ws ≡ given tt → ws ≡ []
  after-given s i [] h e = refl
  after-given s i (w ∷ ws) h e = refused-given (sym (after_end s i w ws h) ∙ e)

  after-refused : (s : PlanScan) (i : ℕ) (ws : List ℕ) (j : ℕ) → s.ended ≡ true → scan_from n s i ws ≡ refused 23 j → j ≡ i
  unfolding scan_from
  after-refused s i [] j h e = given-refused (rw h at e)
  after-refused s i (w ∷ ws) j h e = refused-place (sym e ∙ after_end s i w ws h)

  -- words that go on from a place: the sides that a box still lacks, then the boxes and ranks that may follow
  pub record Rest (s : PlanScan) (ws : List ℕ) : Type 0 where
    pub sides : Box
    pub plan : Plan
    pub words : ws ≡ side_words s.sides sides ++ plan_body plan
    pub count : length sides ≡ n - s.sides
    pub bounds : Each SideFits sides
    pub lists : ListsFit n plan
    pub no-forbidden : FORBIDDEN_BOX < s.section → plan.forbidden ≡ []
    pub no-unsafe : UNSAFE_BOX < s.section → plan.unsafe ≡ []
    pub ranks : RanksAfter s.section s.least plan.reached plan.unreached

  -- ---- one word put before
  -- a side
  side-first : (s : PlanScan) (w : ℕ) (ws : List ℕ) → s.sides < n → is_side s.sides w ≡ true
      → Rest (record { section = s.section; sides = suc s.sides; least = s.least; ended = s.ended }) ws → Rest s (w ∷ ws)
  unfolding side_words
  side-first s w ws less e r =
      let told = side-told s.sides w e in
      record {
        sides = side_of w ∷ r.sides;
        plan = r.plan;
        words = ap₂ (λ (a : ℕ) (l : List ℕ). a ∷ l) told.0 r.words;
        count = omega (arith, r.count);
        bounds = (told.1, r.bounds);
        lists = r.lists;
        no-forbidden = r.no-forbidden;
        no-unsafe = r.no-unsafe;
        ranks = r.ranks;
      }

  -- the missing sides, and ranks that may come
  rest-ranks : (s : PlanScan) (b : Box) (q u : List ℕ) → length b ≡ n - s.sides → Each SideFits b → RanksFit q → RanksFit u
      → RanksAfter s.section s.least q u → Rest s (side_words s.sides b ++ (rank_words DEAD_STATE q ++ rank_words UNREACHED_STATE u))
  unfolding forbidden_words unsafe_words
  rest-ranks s b q u e h f g r = record {
    sides = b;
    plan = record { forbidden = []; unsafe = []; reached = q; unreached = u };
    words = refl;
    count = e;
    bounds = h;
    lists = record { forbidden = tt; unsafe = tt; reached = f; unreached = g };
    no-forbidden = λ l. refl;
    no-unsafe = λ l. refl;
    ranks = r;
  }

  -- the missing sides alone
  rest-sides : (s : PlanScan) (b : Box) → length b ≡ n - s.sides → Each SideFits b → Rest s (side_words s.sides b)
  rest-sides s b e h =
      let none : RanksAfter s.section s.least [] [] = record { no-reached = λ l. refl; reached-above = λ l. tt; unreached-above = λ l. tt } in
      subst (Rest s) (append-nil (side_words s.sides b)) (rest-ranks s b [] [] e h no-ranks no-ranks none)

  -- behind a rank no box comes
  only-ranks : (k l : ℕ) (ws : List ℕ) → UNSAFE_BOX < k → (r : Rest (placed k n l) ws) → ws ≡ dead_words r.plan
  unfolding side_words forbidden_words unsafe_words
  only-ranks k l ws h r = r.words ∙ rw (empty r.sides (omega (arith, r.count)), r.no-forbidden (omega arith), r.no-unsafe h)

  -- where no side is missing
  module _ (s : PlanScan) (full : n ≤ s.sides) where
    rest-none : Rest s []
    unfolding side_words
    rest-none = rest-sides s [] (omega arith) tt

    -- the header of a forbidden box
    forbidden-first : (d : ℕ) (ws : List ℕ) → s.section ≤ FORBIDDEN_BOX → d < 16 → Rest (placed FORBIDDEN_BOX 0 0) ws
        → Rest s (word FORBIDDEN_BOX d ∷ ws)
    unfolding side_words forbidden_words
    forbidden-first d ws l h r =
        let p = r.plan in
        record {
          sides = [];
          plan = with_forbidden (record { device = d; box = r.sides }) p;
          words = rw (r.words, regroup (side_words 0 r.sides) (forbidden_words p.forbidden) (unsafe_words p.unsafe) (dead_words p));
          count = omega arith;
          bounds = tt;
          lists = record {
            forbidden = (record { device = h; box = record { count = omega (arith, r.count); sides = r.bounds } }, r.lists.forbidden);
            unsafe = r.lists.unsafe;
            reached = r.lists.reached;
            unreached = r.lists.unreached;
          };
          no-forbidden = λ k. absurd (omega arith);
          no-unsafe = λ k. absurd (omega arith);
          ranks = after-boxes s.section s.least p.reached p.unreached (omega arith);
        }

    -- the header of an unsafe box
    unsafe-first : (ws : List ℕ) → s.section ≤ UNSAFE_BOX → Rest (placed UNSAFE_BOX 0 0) ws → Rest s (word UNSAFE_BOX 0 ∷ ws)
    unfolding side_words forbidden_words unsafe_words
    unsafe-first ws l r =
        let p = r.plan in
        record {
          sides = [];
          plan = record { forbidden = []; unsafe = r.sides ∷ p.unsafe; reached = p.reached; unreached = p.unreached };
          words = rw (r.words, r.no-forbidden (omega arith), append_assoc (side_words 0 r.sides) (unsafe_words p.unsafe) (dead_words p));
          count = omega arith;
          bounds = tt;
          lists = record {
            forbidden = tt;
            unsafe = (record { count = omega (arith, r.count); sides = r.bounds }, r.lists.unsafe);
            reached = r.lists.reached;
            unreached = r.lists.unreached;
          };
          no-forbidden = λ k. refl;
          no-unsafe = λ k. absurd (omega arith);
          ranks = after-boxes s.section s.least p.reached p.unreached l;
        }

    -- a rank of either kind
    rank-first : (k d : ℕ) (ws : List ℕ) → is_rank k ≡ true → s.section ≤ k → (s.section ≡ k → s.least ≤ d) → FieldFits d → Rest (placed k n (suc d)) ws
        → Rest s (word k d ∷ ws)
    unfolding side_words
    rank-first k d ws e m l h r =
        let p = r.plan in
        by_rank k e
        (λ z.
        let later = r.ranks.reached-above z in
        rw (z, only-ranks k (suc d) ws (omega arith) r)
        (rest-ranks s [] (d ∷ p.reached) p.unreached (omega arith) tt (more-ranks d p.reached h r.lists.reached later) r.lists.unreached
        (record { no-reached = λ q. absurd (omega arith); reached-above = λ q. (l (omega arith), later); unreached-above = λ q. absurd (omega arith) })))
        (λ z.
        let later = r.ranks.unreached-above z in
        rw (z, only-ranks k (suc d) ws (omega arith) r, r.ranks.no-reached (omega arith))
        (rest-ranks s [] [] (d ∷ p.unreached) (omega arith) tt no-ranks (more-ranks d p.unreached h r.lists.unreached later)
        (record { no-reached = λ q. refl; reached-above = λ q. tt; unreached-above = λ q. (l (omega arith), later) })))

  -- ---- a word in the layout: words may come behind it, or it is END
  abbrev Goes : PlanScan → ℕ → Type 0
  Goes s w = ((scan_word n s w).ended ≡ false) × ((ws : List ℕ) → Rest (scan_word n s w) ws → Rest s (w ∷ ws))

  abbrev Ends : PlanScan → ℕ → ℕ → Type 0
  Ends s i w = ((scan_word n s w).ended ≡ true) × Rest s [] × (w ≡ word END i) × FieldFits i

  read_word : (s : PlanScan) (i w : ℕ) → in_layout n s i w ≡ true → Goes s w ⊎ Ends s i w
  unfolding is_rank in_layout scan_word
  read_word s i w e =
      let q = and-true (not s.ended) _ e in
      by_bool (ltb s.sides n)
      (λ less.
      inl (rw less (not-true s.ended q.0), λ ws r. side-first s w ws (ltb-true s.sides n less) (rw less at q.1) (rw less at r)))
      λ more.
      let full = ltb-false s.sides n more in
      let parts = word-parts w in
      by-header s i w (rw more at q.1)
      (λ k f. inr (rw (more, k), rest-none s full, parts ∙ rw (k, f), rw f at (field_fits w)))
      (λ k l f.
      inl (rw (more, k), λ ws r. rw (rw k at parts) (forbidden-first s full (field_of w) ws l f (rw (more, k) at r))))
      (λ k l f.
      inl (rw (more, k), λ ws r. rw (rw (k, f) at parts) (unsafe-first s full ws l (rw (more, k) at r))))
      (λ k l f.
      let not_end = (rank-only (kind_of w) k).0 in
      inl (rw (more, not_end, k), λ ws r. rw parts (rank-first s full (kind_of w) (field_of w) ws k l f (field_fits w) (rw (more, not_end, k) at r))))

  -- ---- words up to END, and words that may go on to it
  -- what a place goes on to, and END
  abbrev pub Ended : PlanScan → ℕ → List ℕ → Type 0
  Ended s i ws = (a : List ℕ) × Rest s a × (ws ≡ a ++ (word END (i + length a) ∷ [])) × FieldFits (i + length a)

  -- what a place goes on to, but for at most n words before END
  abbrev pub MayEnd : PlanScan → List ℕ → Type 0
  MayEnd s ws = (more : List ℕ) × (length more ≤ n) × Rest s (ws ++ more)

  -- one word before others, and END alone
  ended-more : (s : PlanScan) (i w : ℕ) (ws : List ℕ) → Goes s w → Ended (scan_word n s w) (suc i) ws → Ended s i (w ∷ ws)
  ended-more s i w ws g (a, r, e, f) =
      let k : suc i + length a ≡ i + suc (length a) = omega arith in
      (w ∷ a, g.1 a r, ap (λ (v : List ℕ). w ∷ v) (rw k at e), rw k at f)

  ended_here : (s : PlanScan) (i w : ℕ) → Ends s i w → Ended s i (w ∷ [])
  ended_here s i w e = let k : i + 0 ≡ i = omega arith in ([], e.1, rw k (ap (λ (v : ℕ). v ∷ []) e.2), rw k e.3)

  -- the sides that are missing, over position 0
  may-end-none : (s : PlanScan) → MayEnd s []
  may-end-none s =
      let missing = n - s.sides in
      let first : ℕ → Interval = λ t. record { low = 0; high = 0 } in
      let b = tabulate missing first in
      let e = length-tabulate missing first in (
        side_words s.sides b,
        omega (arith, sides-length s.sides b, e),
        rest-sides s b e (each-tabulate SideFits missing first (λ t h. (omega arith, omega arith))),
      )

  -- ---- the scan
  -- a fault brings 23, at one of the words or at their number
  pub fault-place : (s : PlanScan) (i : ℕ) (ws : List ℕ) (k j : ℕ) → scan_from n s i ws ≡ refused k j → (k ≡ 23) × (i ≤ j) × (j ≤ i + length ws)
  unfolding scan_from
  fault-place s i [] k j e =
      by_bool s.ended (λ q. given-refused (rw q at e)) λ q.
      let p = refused-place (rw q at e) in (sym (refused-number (rw q at e)), omega arith, omega arith)
  fault-place s i (w ∷ ws) k j e =
      by_bool (in_layout n s i w)
      (λ q. let r = fault-place (scan_word n s w) (suc i) ws k j (rw q at e) in (r.0, omega (arith, r.1), omega (arith, r.2)))
      (λ q. let p = refused-place (rw q at e) in (sym (refused-number (rw q at e)), omega arith, omega arith))

  -- in words without a fault the first is in the layout, and the others go on without one
  pub word-accepted : (s : PlanScan) (i w : ℕ) (ws : List ℕ) → scan_from n s i (w ∷ ws) ≡ given tt
      → (in_layout n s i w ≡ true) × (scan_from n (scan_word n s w) (suc i) ws ≡ given tt)
  unfolding scan_from
  word-accepted s i w ws h = by_bool (in_layout n s i w) (λ e. (e, rw e at h)) (λ e. refused-given (rw e at h))

  -- words without a fault go up to END
  pub given-ended : (s : PlanScan) (i : ℕ) (ws : List ℕ) → s.ended ≡ false → scan_from n s i ws ≡ given tt → Ended s i ws
  unfolding scan_from
  given-ended s i [] h e = refused-given (rw h at e)
  given-ended s i (w ∷ ws) h e =
      let (q, rest) = word-accepted s i w ws e in
      by_cases (read_word s i w q)
      (λ g. ended-more s i w ws g (given-ended (scan_word n s w) (suc i) ws g.0 rest))
      (λ g. rw (after-given (scan_word n s w) (suc i) ws g.0 rest) (ended_here s i w g))

  -- words before a fault may go on to END, or go up to it
  pub before-fault : (s : PlanScan) (i : ℕ) (ws : List ℕ) (j m : ℕ) → s.ended ≡ false → scan_from n s i ws ≡ refused 23 j → i + m ≤ j
      → MayEnd s (take m ws) ⊎ Ended s i (take m ws)
  unfolding scan_from
  before-fault s i ws j zero h e l = inl (may-end-none s)
  before-fault s i [] j (suc m) h e l = let p = refused-place (rw h at e) in absurd (omega arith)
  before-fault s i (w ∷ ws) j (suc m) h e l =
      by_bool (in_layout n s i w)
      (λ q.
      by_cases (read_word s i w q)
      (λ g.
      by_cases (before-fault (scan_word n s w) (suc i) ws j m g.0 (rw q at e) (omega arith))
      (λ o. inl (o.0, o.1, g.1 (take m ws ++ o.0) o.2))
      (λ c. inr (ended-more s i w (take m ws) g c)))
      (λ g.
      let p = after-refused (scan_word n s w) (suc i) ws j g.0 (rw q at e) in
      let z : m ≡ 0 = omega arith in
      inr (rw z (ended_here s i w g))))
      (λ q. let p = refused-place (rw q at e) in absurd (omega arith))

  -- a fault stays whatever comes behind it
  pub fault-stays : (s : PlanScan) (i : ℕ) (ws : List ℕ) (j m : ℕ) (more : List ℕ) → scan_from n s i ws ≡ refused 23 j → j < i + length ws → j < i + m
      → scan_from n s i (take m ws ++ more) ≡ refused 23 j
  unfolding scan_from
  fault-stays s i [] j m more e l k = absurd (omega (arith, (fault-place s i [] 23 j e).1))
  fault-stays s i (w ∷ ws) j zero more e l k = absurd (omega (arith, (fault-place s i (w ∷ ws) 23 j e).1))
  fault-stays s i (w ∷ ws) j (suc m) more e l k =
      by_bool (in_layout n s i w)
      (λ q. rw q (fault-stays (scan_word n s w) (suc i) ws j m more (rw q at e) (omega arith) (omega arith)))
      (λ q. rw q (rw q at e))

  -- ---- from the first word on: the boxes and ranks of a plan, and its words
  pub rest-body : (ws : List ℕ) → Rest (nothing_scanned n) ws → (p : Plan) × ListsFit n p × (ws ≡ plan_body p)
  unfolding side_words
  rest-body ws r = (r.plan, r.lists, r.words ∙ rw (empty r.sides (omega (arith, r.count))))

  pub ended-words : (ws : List ℕ) → Ended (nothing_scanned n) 0 ws → (p : Plan) × ListsFit n p × FieldFits (length (plan_body p)) × (ws ≡ plan_words p)
  unfolding plan_words with_end
  ended-words ws (a, r, e, f) =
      let b = rest-body a r in
      let k : 0 + length a ≡ length a = omega arith in
      (b.0, b.1, rw (k, b.2) at f, (rw k at e) ∙ ap with_end b.2)
