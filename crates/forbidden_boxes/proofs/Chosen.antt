-- The choices over a task's sides, one turn at a time.
use Prim.Native.Nat.{ℕ, zero, suc, min, ◌+◌, ◌-◌, ◌*◌, ◌/◌, ◌%◌, ◌^◌, ◌≤◌, ◌<◌}
use native.Mathlib.Nat.{pow-suc}
use native.Mathlib.Numerals.{add-one}
use native.Mathlib.Omega.{arith}
use mathlib.Core.Path.{◌≡◌, refl, ap, ◌∙◌}
use mathlib.Core.Bool.{cond}
use mathlib.Core.List.{List, [], ◌∷◌, ◌++◌, append-nil}
use lib.Arith.{lt-one}
use lib.ListN.{length, take, set, length-set}
use lib.Seq.{take-suc, take-suc-set, get_or-set_other}
use lib.Dec.{eqb}
use Rattle.model.specs.Set.{at}
use Rattle.model.proofs.Bools.{by_bool}
use Rattle.plan_words.specs.Words.{up_to}
use Rattle.plan_words.proofs.UpTo.{same-words}
use Rattle.forbidden_boxes.specs.Rows.{ROW, WHOLE, ROWS, Sized, Whole}
use Rattle.forbidden_boxes.specs.Choices.{just_over, side_count, first_side, sum_with, least_with, hold_words, choice_words}

-- a mask that is not 0 has a task left
pub some_left : (m n : ℕ) → m < 2 ^ n → 0 < m → 0 < n
some_left m zero h p = absurd (omega (arith, lt-one h))
some_left m (suc n) h p = omega arith

-- the mask without its lowest bit
pub half : (m n : ℕ) → m < 2 ^ n → 0 < n → m / 2 < 2 ^ (n - 1)
half m n h p =
    let e : n ≡ suc (n - 1) = omega arith in
    let k : m < 2 ^ suc (n - 1) = rw e at h in
    omega (arith, pow-suc 2 (n - 1))

pub half-some : (m : ℕ) → 0 < m → (m ≡ 1 → ⊥) → 0 < m / 2
half-some zero p e = absurd (omega arith)
half-some (suc zero) p e = absurd (e refl)
half-some (suc (suc m)) p e = omega arith

-- a side that is read stands in the rows
pub in_rows : {rows units holds : List ℕ} (t m : ℕ) {count first i : ℕ} → Sized rows units holds → t < 8 → count ≡ side_count holds t m
    → first ≡ first_side t m → i < count → first + i < ROWS
unfolding side_count first_side
in_rows t m sized h e f l =
    by_bool (eqb (m % 2) 1) (λ q. omega (arith, rw q at e, rw q at f, sized.few t)) (λ q. omega (arith, rw q at e, rw q at f))

-- one word more
pub take-one : (l : List ℕ) (t : ℕ) → t < length l → take (t + 1) l ≡ take t l ++ (at l t ∷ [])
take-one l t h = ap (λ (k : ℕ). take k l) (add-one t) ∙ take-suc l t 0 h

pub chosen : (next before : List ℕ) (t w : ℕ) → t < length next → take t next ≡ before → take (t + 1) (set next t w) ≡ before ++ (w ∷ [])
chosen next before t w h e = ap (λ (k : ℕ). take k (set next t w)) (add-one t) ∙ take-suc-set next t w h ∙ ap (λ (l : List ℕ). l ++ (w ∷ [])) e

-- the tasks after t keep their words
pub whole_set : (rows sides : List ℕ) (t n v : ℕ) → Whole rows sides (t + 1) n → Whole rows (set sides t v) (t + 1) n
whole_set rows sides t n v w u h l = get_or-set_other sides t u v 0 (λ e. absurd (omega arith)) ∙ w u h l

module _ (rows units holds : List ℕ) (hd s : ℕ) where
  -- where no task of the set is left, each is whole
  none-chosen : (n t sum least : ℕ) (sides : List ℕ) → t + n ≤ length sides → Whole rows sides t n
      → choice_words rows units holds hd s n t 0 sum least (take t sides) ≡ cond (just_over s sum least) (hd ∷ take (t + n) sides) []
  unfolding choice_words side_count first_side sum_with least_with up_to
  none-chosen zero t sum least sides h w = let z : t + 0 ≡ t = omega arith in rw z
  none-chosen (suc n) t sum least sides h w =
      let z : t * ROW + WHOLE + 0 ≡ t * ROW + WHOLE = omega arith in
      let y : t + suc n ≡ t + 1 + n = omega arith in
      rw (z, ← w t (omega arith) (omega arith), ← take-one sides t (omega arith), append-nil, y)
      (none-chosen n (t + 1) sum least sides (omega arith) (λ u g l. w u (omega arith) (omega arith)))

  module _ (n t m sum least first : ℕ) (before : List ℕ) where
    -- the boxes with the i-th side
    abbrev pub turn : ℕ → List ℕ
    turn i =
        choice_words rows units holds hd s (n - 1) (t + 1) (m / 2) (sum_with m sum (at units (first + i))) (least_with m least (at units (first + i)))
        (before ++ (at rows (first + i) ∷ []))

    pub each-side : {count : ℕ} → 0 < n → count ≡ side_count holds t m → first ≡ first_side t m
        → choice_words rows units holds hd s n t m sum least before ≡ up_to count 0 turn
    unfolding choice_words
    each-side {count} h e f =
        let q : n ≡ suc (n - 1) = omega arith in
        ap (λ (k : ℕ). choice_words rows units holds hd s k t m sum least before) q ∙ rw (e, f)

  -- the same units and sides before give the same boxes
  pub same-choice : (n t m : ℕ) {sum sum' least least' : ℕ} {before before' : List ℕ} → sum ≡ sum' → least ≡ least' → before ≡ before'
      → choice_words rows units holds hd s n t m sum least before ≡ choice_words rows units holds hd s n t m sum' least' before'
  same-choice n t m e f g = rw (e, f, g)

  -- where only the first task is left, it alone is over its holds
  pub last-chosen : (n t m sum least : ℕ) (sides : List ℕ) → m ≡ 1 → 0 < n → t + n ≤ length sides → Whole rows sides t n
      → choice_words rows units holds hd s n t m sum least (take t sides) ≡ hold_words rows units hd s (t + n) t sides sum least (at holds t)
  unfolding choice_words side_count first_side sum_with least_with hold_words
  last-chosen zero t m sum least sides e p h w = absurd (omega arith)
  last-chosen (suc n) t m sum least sides e p h w =
      rw e
      (same-words _ _
      (λ j.
      let v = at rows (t * ROW + j) in
      let u = at units (t * ROW + j) in
      let y : t + suc n ≡ t + 1 + n = omega arith in
      rw (y, ← chosen sides (take t sides) t v (omega arith) refl)
      (none-chosen n (t + 1) (sum + u) (min least u) (set sides t v) (omega (arith, length-set sides t v))
      (whole_set rows sides t n v (λ u g l. w u (omega arith) (omega arith)))))
      (at holds t) 0)
