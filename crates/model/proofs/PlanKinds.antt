-- What the tests of a plan's word tell: that it names a rank, that it is a side's, and which word may follow where no side is missing.
use Prim.Native.Nat.{ℕ, ◌<◌, ◌≤◌}
use native.Mathlib.Omega.{arith}
use mathlib.Core.Path.{◌≡◌, refl, ap, ◌∙◌}
use mathlib.Core.Bool.{true, false, ◌&&◌}
use lib.Dec.{ltb, leb, eqb}
use borrow.Author.Tests.{ltb-true, leb-true, eqb-true, eqb-false, eq-eqb}
use Rattle.model.specs.Layout.{kind_of, field_of, END}
use Rattle.model.specs.Plan.{FORBIDDEN_BOX, UNSAFE_BOX, SIDE, DEAD_STATE, UNREACHED_STATE, side_word, side_of}
use Rattle.model.specs.StoredPlan.{PlanScan, is_side, is_rank, may_follow}
use Rattle.model.proofs.Bools.{by_bool, by_cases, and-true, or-true, both_ways}
use Rattle.model.proofs.Fits.{SideFits}
use Rattle.model.proofs.PlanBack.{side-kind}

-- a rank is of one of two kinds
pub by_rank : {G : Type 0} (k : ℕ) → is_rank k ≡ true → (k ≡ DEAD_STATE → G) → (k ≡ UNREACHED_STATE → G) → G
unfolding is_rank
by_rank k e reached unreached =
    by_cases (or-true (eqb k DEAD_STATE) (eqb k UNREACHED_STATE) e)
    (λ q. reached (eqb-true k DEAD_STATE q))
    (λ q. unreached (eqb-true k UNREACHED_STATE q))

-- and of no other
pub rank-only : (k : ℕ) → is_rank k ≡ true → (eqb k END ≡ false) × (eqb k FORBIDDEN_BOX ≡ false) × (eqb k UNSAFE_BOX ≡ false)
rank-only k e = by_rank k e (λ z. rw z (refl, refl, refl)) (λ z. rw z (refl, refl, refl))

-- the two are neighbours
pub rank_between : (k : ℕ) → is_rank k ≡ (leb 9 k && ltb k 11)
unfolding is_rank
rank_between k =
    both_ways (is_rank k) (leb 9 k && ltb k 11) (λ e. by_rank k e (λ z. rw z) (λ z. rw z)) λ e.
    let t = and-true (leb 9 k) (ltb k 11) e in
    let low = leb-true 9 k t.0 in
    let high = ltb-true k 11 t.1 in
    by_bool (eqb k 9) (λ q. rw q) (λ q. let other = eqb-false k 9 q in rw (q, eq-eqb k 10 (omega arith)))

-- a word that may follow: END at its index, a header of either kind, or a rank
pub by-header : {G : Type 0} (s : PlanScan) (i w : ℕ) → may_follow s i w ≡ true
    → (kind_of w ≡ END → field_of w ≡ i → G)
    → (kind_of w ≡ FORBIDDEN_BOX → s.section ≤ FORBIDDEN_BOX → field_of w < 16 → G)
    → (kind_of w ≡ UNSAFE_BOX → s.section ≤ UNSAFE_BOX → field_of w ≡ 0 → G)
    → (is_rank (kind_of w) ≡ true → s.section ≤ kind_of w → (s.section ≡ kind_of w → s.least ≤ field_of w) → G)
    → G
unfolding may_follow
by-header s i w e end forbidden unsafe rank =
    let k = kind_of w in
    let f = field_of w in
    by_bool (eqb k END) (λ q. end (eqb-true k END q) (eqb-true f i (rw q at e))) λ q₅.
    let t = and-true _ _ (rw q₅ at e) in
    let late = leb-true s.section k t.0 in
    by_bool (eqb k FORBIDDEN_BOX)
    (λ q. let z = eqb-true k FORBIDDEN_BOX q in forbidden z (omega arith) (ltb-true f 16 (rw q at t.1))) λ q₆.
    by_bool (eqb k UNSAFE_BOX)
    (λ q. let z = eqb-true k UNSAFE_BOX q in unsafe z (omega arith) (eqb-true f 0 (rw (q₆, q) at t.1))) λ q₇.
    let r = and-true (is_rank k) _ (rw (q₆, q₇) at t.1) in
    rank r.0 late λ same.
    by_cases (or-true (ltb s.section k) (leb s.least f) r.1)
    (λ q. let above = ltb-true s.section k q in absurd (omega arith))
    (leb-true s.least f)

-- a side's word gives the side back
pub side-told : (t w : ℕ) → is_side t w ≡ true → (w ≡ side_word t (side_of w)) × SideFits (side_of w)
unfolding is_side
side-told t w e =
    let v = side_of w in
    let q = and-true (eqb w (side_word t v)) (leb v.low v.high) e in
    (eqb-true w (side_word t v) q.0, (leb-true v.low v.high q.1, omega arith))

-- and is of its kind
pub kind-told : (t w : ℕ) → t < 256 → is_side t w ≡ true → kind_of w ≡ SIDE
kind-told t w l e = let (same, fits) = side-told t w e in ap kind_of same ∙ side-kind t (side_of w) l fits
