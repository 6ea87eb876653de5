-- What numbers give, one after the other: the same for each number, nothing, a list's words, and what a list's members give.
use Prim.Native.Nat.{ℕ, zero, suc, ◌+◌, ◌≤◌, ◌<◌}
use native.Mathlib.Numerals.{add-one}
use native.Mathlib.Omega.{arith}
use mathlib.Core.Path.{◌≡◌, refl, ap, ap₂}
use mathlib.Core.List.{List, [], ◌∷◌, ◌++◌, flat_map}
use lib.ListN.{length, take, drop, get_or}
use lib.Seq.{drop-cons}
use Rattle.plan_words.specs.Words.{up_to}

pub same-words : (f g : ℕ → List ℕ) → ((i : ℕ) → f i ≡ g i) → (k i : ℕ) → up_to k i f ≡ up_to k i g
unfolding up_to
same-words f g e zero i = refl
same-words f g e (suc k) i = ap₂ ◌++◌ (e i) (same-words f g e k (i + 1))

-- numbers that give nothing
pub no_words : (f : ℕ → List ℕ) (k i : ℕ) → ((j : ℕ) → i ≤ j → j < i + k → f j ≡ []) → up_to k i f ≡ []
unfolding up_to
no_words f zero i e = refl
no_words f (suc k) i e = ap₂ ◌++◌ (e i (omega arith) (omega arith)) (no_words f k (i + 1) (λ j h l. e j (omega arith) (omega arith)))

-- a list's words, one after the other
abbrev pub word_at : List ℕ → ℕ → List ℕ
word_at ws i = get_or ws i 0 ∷ []

pub words-from : (ws : List ℕ) (k i : ℕ) → i + k ≤ length ws → up_to k i (word_at ws) ≡ take k (drop i ws)
unfolding up_to
words-from ws zero i h = refl
words-from ws (suc k) i h =
    rw (drop-cons ws i 0 (omega arith), ← add-one i) (ap (λ (l : List ℕ). get_or ws i 0 ∷ l) (words-from ws k (i + 1) (omega arith)))

-- numbers that give what a list's members do, counted from k
each_from : {A : Type 0} (x₀ : A) (g : A → List ℕ) (xs : List A) (f : ℕ → List ℕ) (k : ℕ) → ((i : ℕ) → i < length xs → f (k + i) ≡ g (get_or xs i x₀))
    → up_to (length xs) k f ≡ flat_map g xs
unfolding up_to flat_map
each_from x₀ g [] f k h = refl
each_from x₀ g (x ∷ xs) f k h =
    let z : k + 0 ≡ k = omega arith in
    ap₂ ◌++◌ (rw z at (h 0 (omega arith)))
    (each_from x₀ g xs f (k + 1) (λ i l. let s : k + 1 + i ≡ k + suc i = omega arith in rw s (h (suc i) (omega arith))))

pub each_below : {A : Type 0} (x₀ : A) (g : A → List ℕ) (xs : List A) (f : ℕ → List ℕ) → ((i : ℕ) → i < length xs → f i ≡ g (get_or xs i x₀))
    → up_to (length xs) 0 f ≡ flat_map g xs
each_below x₀ g xs f h = each_from x₀ g xs f 0 (λ i l. let z : 0 + i ≡ i = omega arith in rw z (h i l))
