-- Facts on `tabulate` and `maximum`, on zeros, on mapped lists, and on lists that are filled or changed entry by entry.
use Prim.Native.Nat.{ℕ, zero, suc, ◌+◌, ◌<◌, ◌≤◌}
use native.Mathlib.Omega.{arith}
use native.Mathlib.Numerals.{add-one}
use native.Mathlib.Nat.{eq-or-lt_of_le, le_of_suc-le-suc, le_antisymm}
use mathlib.Core.Path.{◌≡◌, refl, ap, ◌∙◌}
use mathlib.Core.List.{List, [], ◌∷◌, ◌++◌, map, append-nil}
use mathlib.Core.Bool.{cond}
use lib.ListN.{length, get_or, take, drop, set, replicate, drop_of_length-le, length-drop}
use lib.Seq.{take-suc-set, get_or-set_same, get_or-set_other}
use lib.Dec.{eqb}
use borrow.Author.Tests.{eqb-true, eqb-false}
use Rattle.model.specs.Below.{tabulate, maximum}
use Rattle.model.specs.Set.{at}
use Rattle.model.proofs.Bools.{by_bool, by_cases}

pub length-tabulate {ℓ} : {A : Type ℓ} (n : ℕ) (f : ℕ → A) → length (tabulate n f) ≡ n
unfolding tabulate
length-tabulate zero f = refl
length-tabulate (suc n) f = ap suc (length-tabulate n (λ t. f (suc t)))

pub get_d_tabulate {ℓ} : {A : Type ℓ} (n : ℕ) (f : ℕ → A) (t : ℕ) (d : A) → t < n → get_or (tabulate n f) t d ≡ f t
unfolding tabulate
get_d_tabulate zero f t d h = absurd (omega arith)
get_d_tabulate (suc n) f zero d h = refl
get_d_tabulate (suc n) f (suc t) d h = get_d_tabulate n (λ t. f (suc t)) t d (le_of_suc-le-suc h)

pub tabulate-snoc {ℓ} : {A : Type ℓ} (n : ℕ) (f : ℕ → A) → tabulate (suc n) f ≡ tabulate n f ++ (f n ∷ [])
unfolding tabulate
tabulate-snoc zero f = refl
tabulate-snoc (suc n) f = ap (λ l. f zero ∷ l) (tabulate-snoc n (λ t. f (suc t)))

pub tabulate-cong {ℓ} : {A : Type ℓ} (n : ℕ) (f g : ℕ → A) → ((t : ℕ) → t < n → f t ≡ g t) → tabulate n f ≡ tabulate n g
unfolding tabulate
tabulate-cong zero f g e = refl
tabulate-cong (suc n) f g e = rw (e 0 (omega arith), tabulate-cong n (λ t. f (suc t)) (λ t. g (suc t)) (λ t h. e (suc t) (omega arith)))

-- entries at the front of a list
pub tabulate-take : (n : ℕ) (a : List ℕ) (f : ℕ → ℕ) → n ≤ length a → ((t : ℕ) → t < n → at a t ≡ f t) → take n a ≡ tabulate n f
unfolding tabulate
tabulate-take zero a f h e = refl
tabulate-take (suc n) [] f h e = absurd (omega arith)
tabulate-take (suc n) (x ∷ a) f h e =
    rw (e 0 (omega arith)) (ap (λ l. f 0 ∷ l) (tabulate-take n a (λ t. f (suc t)) (omega arith) (λ t k. e (suc t) (omega arith))))

-- one entry more, stored
pub tabulate-store : (a : List ℕ) (t v : ℕ) (f : ℕ → ℕ) → t < length a → take t a ≡ tabulate t f → v ≡ f t → take (t + 1) (set a t v) ≡ tabulate (t + 1) f
tabulate-store a t v f h e q = rw (add-one t, take-suc-set a t v h, tabulate-snoc t f, e, q)

-- one entry changed
pub tabulate-set {ℓ} : {A : Type ℓ} (n d : ℕ) (b : A) (f g : ℕ → A) → g d ≡ b → ((t : ℕ) → (d ≡ t → ⊥) → g t ≡ f t)
    → set (tabulate n f) d b ≡ tabulate n g
unfolding tabulate
tabulate-set zero d b f g here other = refl
tabulate-set (suc n) zero b f g here other =
    rw (here, tabulate-cong n (λ t. g (suc t)) (λ t. f (suc t)) (λ t h. other (suc t) (λ q. omega arith)))
tabulate-set (suc n) (suc d) b f g here other =
    rw (other zero (λ q. omega arith), tabulate-set n d b (λ t. f (suc t)) (λ t. g (suc t)) here (λ t l. other (suc t) (λ q. l (omega arith))))

pub le-maximum : (n : ℕ) (f : ℕ → ℕ) (t : ℕ) → t < n → f t ≤ maximum n f
unfolding maximum
le-maximum zero f t h = absurd (omega arith)
le-maximum (suc n) f t h =
    by_cases (eq-or-lt_of_le (le_of_suc-le-suc h)) (λ q. rw q (omega arith)) λ l. omega (arith, le-maximum n f t l)

pub maximum-le : (n : ℕ) (f : ℕ → ℕ) (m : ℕ) → ((t : ℕ) → t < n → f t ≤ m) → maximum n f ≤ m
unfolding maximum
maximum-le zero f m h = omega arith
maximum-le (suc n) f m h = omega (arith, h n (omega arith), maximum-le n f m (λ t l. h t (omega arith)))

pub maximum-cong : (n : ℕ) (f g : ℕ → ℕ) → ((t : ℕ) → t < n → f t ≡ g t) → maximum n f ≡ maximum n g
unfolding maximum
maximum-cong zero f g e = refl
maximum-cong (suc n) f g e = rw (e n (omega arith), maximum-cong n f g (λ t h. e t (omega arith)))

-- an entry of a mapped list
pub map_at : {A : Type 0} (f : A → ℕ) (l : List A) (i : ℕ) (z : A) → i < length l → at (map f l) i ≡ f (get_or l i z)
map_at f [] i z h = absurd (omega arith)
map_at f (a ∷ l) zero z h = refl
map_at f (a ∷ l) (suc i) z h = map_at f l i z (le_of_suc-le-suc h)

-- a list of the same has it everywhere, and past its end by default
pub same_at : {A : Type 0} (a : A) (n t : ℕ) → get_or (replicate n a) t a ≡ a
same_at a zero t = refl
same_at a (suc n) zero = refl
same_at a (suc n) (suc t) = same_at a n t

pub at-zeros : (n t : ℕ) → at (replicate n 0) t ≡ 0
at-zeros = same_at 0

-- a list filled from its front to its end
pub filled : (l₀ l : List ℕ) (a i : ℕ) → i ≤ length l₀ → length l₀ ≤ i → l ≡ replicate i a ++ drop i l₀ → l ≡ replicate (length l₀) a
filled l₀ l a i h k e = e ∙ rw (le_antisymm h k, drop_of_length-le l₀ {i = length l₀} (omega arith), append-nil)

-- the entries below k changed to what f gives, those after as they were
pub record Changed (f : ℕ → ℕ) (old : List ℕ) (k : ℕ) (new : List ℕ) : Type 0 where
  pub below : (i : ℕ) → i < k → at new i ≡ f i
  pub above : (i : ℕ) → k ≤ i → at new i ≡ at old i

pub changed-none : (f : ℕ → ℕ) (old : List ℕ) → Changed f old 0 old
changed-none f old = record { below = λ i h. absurd (omega arith); above = λ i h. refl }

pub changed-more : {f : ℕ → ℕ} {old new : List ℕ} {k : ℕ} → Changed f old k new → k < length new → {v : ℕ} → v ≡ f k → Changed f old (k + 1) (set new k v)
changed-more {f} {old} {new} {k} c h {v} e =
    record {
      below = λ i l. by_bool (eqb i k)
          (λ q. rw (eqb-true i k q) (get_or-set_same new k v 0 h ∙ e))
          (λ q. let n = eqb-false i k q in get_or-set_other new k i v 0 n ∙ c.below i (omega arith));
      above = λ i l. get_or-set_other new k i v 0 (λ q. absurd (omega arith)) ∙ c.above i (omega arith);
    }

-- a list of no length
pub empty : {A : Type 0} (l : List A) → length l ≡ 0 → l ≡ []
empty [] e = refl
empty (a ∷ l) e = absurd (omega arith)

-- what the head and the rest of a list's end are
pub more_left : {A : Type 0} (l : List A) (k : ℕ) (a : A) (m : List A) → drop k l ≡ a ∷ m → k < length l
more_left l k a m e = omega (arith, length-drop k l, ap length e)

pub head_of : {A : Type 0} (l : List A) (k : ℕ) (a x : A) (m : List A) → drop k l ≡ a ∷ m → get_or l k x ≡ a
head_of [] zero a x m e = cc
head_of [] (suc k) a x m e = cc
head_of (b ∷ l) zero a x m e = cc
head_of (b ∷ l) (suc k) a x m e = head_of l k a x m e

pub tail_of : {A : Type 0} (l : List A) (k : ℕ) (a : A) (m : List A) → drop k l ≡ a ∷ m → drop (suc k) l ≡ m
tail_of [] zero a m e = cc
tail_of [] (suc k) a m e = cc
tail_of (b ∷ l) zero a m e = cc
tail_of (b ∷ l) (suc k) a m e = tail_of l k a m e

-- an entry of a list with one other entry
pub get_d_set : (l : List ℕ) (t j v : ℕ) → j < length l → get_or (set l t v) j 0 ≡ cond (eqb j t) v (get_or l j 0)
get_d_set l t j v h =
    by_bool (eqb j t)
    (λ e. let k = eqb-true j t e in rw (e, k) (get_or-set_same l t v 0 (omega arith)))
    (λ e. rw e (get_or-set_other l t j v 0 (eqb-false j t e)))
