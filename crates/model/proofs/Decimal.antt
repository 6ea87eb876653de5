-- The decimal digits of a number: one, or the digits of its tenth and one more; and how many there are.
use Prim.Native.Nat.{ℕ, zero, suc, ◌+◌, ◌/◌, ◌%◌, ◌^◌, ◌<◌, ◌≤◌}
use native.Mathlib.Omega.{arith}
use mathlib.Core.Path.{◌≡◌, ap}
use mathlib.Core.List.{List, [], ◌∷◌, ◌++◌}
use lib.ListN.{length, length-append}
use lib.Dec.{ltb}
use borrow.Author.Tests.{lt-ltb, le-ltb, ltb-true, ltb-false}
use Rattle.model.specs.Printed.{digits, decimal}
use Rattle.model.proofs.Bools.{by_bool}

-- the digits of a tenth, and one more
abbrev more : List ℕ → ℕ → List ℕ
more ds n = ds ++ ((48 + n % 10) ∷ [])

-- a bound above the number makes no difference
enough : (k j n : ℕ) → n < k → n < j → digits k n ≡ digits j n
unfolding digits
enough zero j n h g = absurd (let f : ⊥ = omega arith in f)
enough (suc k) zero n h g = absurd (let f : ⊥ = omega arith in f)
enough (suc k) (suc j) n h g =
    by_bool (ltb n 10)
    (λ b. rw b)
    (λ b. let l = ltb-false n 10 b in rw b (ap (λ (ds : List ℕ). more ds n) (enough k j (n / 10) (omega arith) (omega arith))))

pub decimal-one : (n : ℕ) → n < 10 → decimal n ≡ (48 + n) ∷ []
unfolding digits
decimal-one n h = rw (lt-ltb n 10 h)

pub decimal-more : (n : ℕ) → 10 ≤ n → decimal n ≡ decimal (n / 10) ++ ((48 + n % 10) ∷ [])
unfolding digits
decimal-more n h = rw (le-ltb n 10 h) (ap (λ (ds : List ℕ). more ds n) (enough n (suc (n / 10)) (n / 10) (omega arith) (omega arith)))

-- a number below the k-th power of ten has at most k digits
pub decimal-length : (k n : ℕ) → n < 10 ^ suc k → length (decimal n) ≤ suc k
decimal-length zero n h = rw (decimal-one n (omega arith)) (omega arith)
decimal-length (suc k) n h =
    by_bool (ltb n 10)
    (λ b. rw (decimal-one n (ltb-true n 10 b)) (omega arith))
    (λ b. let r = decimal-length k (n / 10) (omega arith) in
    rw (decimal-more n (ltb-false n 10 b), length-append (decimal (n / 10)) ((48 + n % 10) ∷ [])) (omega arith))
