-- A reading's refusals are the numbers 1 to 12 and 28, and 24 by the present rules, at places up to 4,096.
use Prim.Native.Nat.{ℕ, suc, ◌+◌, ◌<◌, ◌≤◌}
use native.Mathlib.Omega.{arith}
use mathlib.Core.Path.{◌≡◌, refl, sym}
use mathlib.Core.Logic.{◌⊎◌, inl, inr}
use mathlib.Core.Bool.{Bool, true, false, not, cond, ◌&&◌, ◌||◌}
use mathlib.Core.List.{List, [], ◌∷◌}
use lib.ListN.{length, length-append, length-map}
use lib.Dec.{eqb, ltb, leb}
use borrow.Author.Tests.{ltb-true, ltb-false}
use Rattle.model.specs.Set.{Set, lengths_of, claimed, size}
use Rattle.model.specs.Layout.{kind_of, field_of, device_bits, TASK, CLAIM, RELEASE, END, body, with_end, encode, Rules, present}
use Rattle.model.specs.Answer.{given, refused}
use Rattle.model.specs.Read.{Scan, nothing_read, note, holds_now, holds_some, out_of_order, field_allowed, too_many, too_many_units, fault, read_from, read_words, first_unclaimed, close, read_by}
use Rattle.model.proofs.Bools.{by_bool, by_cases, and-true}
use Rattle.model.proofs.Counts.{lowest-le}
use Rattle.model.proofs.Answers.{given-refused, refused-given, refused-number, refused-place, then-refused}
use Rattle.model.proofs.ReadExact.{words-sound}

-- the numbers of words' refusals
abbrev pub OfWords : ℕ → Type 0
OfWords n = ((1 ≤ n) × (n ≤ 12)) ⊎ (n ≡ 28)

between : {n m : ℕ} → m ≡ n → 1 ≤ m → m ≤ 12 → OfWords n
between e l h = inl (omega arith, omega arith)

-- no fault, or one with such a number
abbrev Small : ℕ → Type 0
Small n = (n ≡ 0) ⊎ OfWords n

small : (b : Bool) (x y : ℕ) → 1 ≤ x → x ≤ 12 → Small y → Small (cond b x y)
small true x y l h k = inr (inl (l, h))
small false x y l h k = k

units_small : (b : Bool) (y : ℕ) → Small y → Small (cond b 28 y)
units_small true y k = inr (inr refl)
units_small false y k = k

fault-small : (s : Scan) (i k f : ℕ) → Small (fault s i k f)
unfolding fault
fault-small s i k f =
    small s.ended 3 _ (omega arith) (omega arith)
    (small (not (leb 1 k && leb k 5)) 4 _ (omega arith) (omega arith)
    (small (out_of_order s k) 5 _ (omega arith) (omega arith)
    (small (not (field_allowed s i k f)) 6 _ (omega arith) (omega arith)
    (small (too_many s k) 7 _ (omega arith) (omega arith)
    (units_small (eqb k CLAIM && too_many_units s f) _
    (small (eqb k CLAIM && holds_now s (device_bits f)) 8 _ (omega arith) (omega arith)
    (small (eqb k RELEASE && not (holds_now s f)) 9 _ (omega arith) (omega arith)
    (small ((eqb k TASK || eqb k END) && holds_some s) 10 0 (omega arith) (omega arith) (inl refl)))))))))

from-listed : (s : Scan) (i : ℕ) (ws : List ℕ) (n p : ℕ) → read_from s i ws ≡ refused n p → OfWords n
unfolding read_from
from-listed s i [] n p e =
    by_bool s.ended (λ d. given-refused (rw d at e)) (λ d. between (refused-number (rw d at e)) (omega arith) (omega arith))
from-listed s i (w ∷ ws) n p e =
    let f = fault s i (kind_of w) (field_of w) in
    by_bool (ltb 0 f)
    (λ b. rw (refused-number (rw b at e)) at (by_cases (fault-small s i (kind_of w) (field_of w)) (λ z. absurd (omega (arith, ltb-true 0 f b))) (λ l. l)))
    (λ b. from-listed (note s (kind_of w) (field_of w)) (suc i) ws n p (rw b at e))

pub words-listed : (ws : List ℕ) (n p : ℕ) → read_words ws ≡ refused n p → OfWords n
unfolding read_words
words-listed ws n p e =
    by_bool (eqb (length ws) 0)
    (λ b. between (refused-number (rw b at e)) (omega arith) (omega arith))
    (λ b. by_bool (ltb 4096 (length ws))
    (λ c. between (refused-number (rw (b, c) at e)) (omega arith) (omega arith))
    (λ c. from-listed nothing_read 0 ws n p (rw (b, c) at e)))

-- the numbers of a set's refusals by these rules
abbrev pub Listed : Rules → ℕ → Type 0
Listed rules n = OfWords n ⊎ ((rules ≡ present) × (n ≡ 24))

close-listed : (rules : Rules) (k : ℕ) (s : Set) (n p : ℕ) → close rules k s ≡ refused n p → Listed rules n
unfolding close
close-listed rules k s n p e =
    by_bool (rules && ltb (first_unclaimed s) (length s.capacities))
    (λ d. inr ((and-true rules _ d).0, sym (refused-number (rw d at e))))
    (λ d. by_bool (ltb 65536 (size (lengths_of s)))
    (λ g. inl (between (refused-number (rw (d, g) at e)) (omega arith) (omega arith)))
    (λ g. given-refused (rw (d, g) at e)))

pub read_number : (rules : Rules) (ws : List ℕ) (n p : ℕ) → read_by rules ws ≡ refused n p → Listed rules n
unfolding read_by
read_number rules ws n p e =
    by_cases ((then-refused (close rules (length ws)) (read_words ws) n p).0 e)
    (λ r. inl (words-listed ws n p r))
    (λ r. close-listed rules (length ws) r.0 n p r.2)

from-placed : (s : Scan) (i : ℕ) (ws : List ℕ) (n p : ℕ) → read_from s i ws ≡ refused n p → p ≤ i + length ws
unfolding read_from
from-placed s i [] n p e =
    by_bool s.ended (λ d. given-refused (rw d at e)) (λ d. omega (arith, refused-place (rw d at e)))
from-placed s i (w ∷ ws) n p e =
    by_bool (ltb 0 (fault s i (kind_of w) (field_of w)))
    (λ b. omega (arith, refused-place (rw b at e)))
    (λ b. omega (arith, from-placed (note s (kind_of w) (field_of w)) (suc i) ws n p (rw b at e)))

words_placed : (ws : List ℕ) (n p : ℕ) → read_words ws ≡ refused n p → p ≤ 4096
unfolding read_words
words_placed ws n p e =
    by_bool (eqb (length ws) 0)
    (λ b. omega (arith, refused-place (rw b at e)))
    (λ b. by_bool (ltb 4096 (length ws))
    (λ c. omega (arith, refused-place (rw (b, c) at e)))
    (λ c. omega (arith, ltb-false 4096 (length ws) c, from-placed nothing_read 0 ws n p (rw (b, c) at e))))

-- words without a fault are at most 4,096
words-few : (ws : List ℕ) (s : Set) → read_words ws ≡ given s → length ws ≤ 4096
unfolding read_words
words-few ws s e =
    by_bool (eqb (length ws) 0)
    (λ b. refused-given (rw b at e))
    (λ b. by_bool (ltb 4096 (length ws)) (λ c. refused-given (rw (b, c) at e)) (λ c. ltb-false 4096 (length ws) c))

close-placed : (rules : Rules) (k : ℕ) (s : Set) (n p : ℕ) → length s.capacities ≤ k → close rules k s ≡ refused n p → p ≤ k
unfolding close
close-placed rules k s n p h e =
    let devices = length s.capacities in
    by_bool (rules && ltb (first_unclaimed s) devices)
    (λ d. omega (arith, refused-place (rw d at e), lowest-le devices (λ d. not (claimed s.tasks d))))
    (λ d. by_bool (ltb 65536 (size (lengths_of s)))
    (λ g. omega (arith, refused-place (rw (d, g) at e)))
    (λ g. given-refused (rw (d, g) at e)))

-- a set has fewer devices than words
few-devices : (s : Set) → length s.capacities ≤ length (encode s)
unfolding with_end body
few-devices s = simp (length-append, length-map) (omega arith)

read-place : (rules : Rules) (ws : List ℕ) (n p : ℕ) → read_by rules ws ≡ refused n p → p ≤ 4096
unfolding read_by
read-place rules ws n p e =
    by_cases ((then-refused (close rules (length ws)) (read_words ws) n p).0 e)
    (λ r. words_placed ws n p r)
    (λ r.
    let few : length r.0.capacities ≤ length ws = rw (words-sound ws r.0 r.1).0 (few-devices r.0) in
    omega (arith, close-placed rules (length ws) r.0 n p few r.2, words-few ws r.0 r.1))

-- both are small numbers
pub read_small : (rules : Rules) (ws : List ℕ) (n p : ℕ) → read_by rules ws ≡ refused n p → (n < 100) × (p < 100000)
read_small rules ws n p e =
    (by_cases (read_number rules ws n p e) (λ l. by_cases l (λ h. omega arith) (λ h. omega arith)) (λ l. omega arith), omega (arith, read-place rules ws n p e))
