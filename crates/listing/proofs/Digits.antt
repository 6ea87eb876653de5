-- Decimal digits put into a slice one by one.
-- Assumes nothing.
use mathlib.Core.Path.{◌≡◌, sym, ap, ◌∙◌}
use mathlib.Core.List.{List, [], ◌∷◌}
use Prim.Native.Nat.{ℕ, ◌+◌, ◌/◌, ◌%◌, ◌<◌, ◌≤◌}
use native.Mathlib.Omega.{arith}
use lib.ListN.{length, set, length-append}
use Rattle.model.specs.Slice.{write}
use Rattle.model.specs.Printed.{decimal}
use Rattle.model.proofs.Slices.{length-write, write-one, write_then}
use Rattle.model.proofs.Decimal.{decimal-one, decimal-more}

-- a number of one digit
pub one-digit : (d : List ℕ) (a n : ℕ) → n < 10 → a < length d → set d a (48 + n) ≡ write d a (decimal n)
one-digit d a n h g = write-one d a (48 + n) g ∙ ap (write d a) (sym (decimal-one n h))

pub length-one : (n : ℕ) → n < 10 → length (decimal n) ≡ 1
length-one n h = ap length (decimal-one n h)

-- one of more
pub length_more : (n : ℕ) → 10 ≤ n → length (decimal n) ≡ length (decimal (n / 10)) + 1
length_more n h = ap length (decimal-more n h) ∙ length-append (decimal (n / 10)) ((48 + n % 10) ∷ [])

pub last-digit : (d : List ℕ) (a n : ℕ) → 10 ≤ n → a + length (decimal n) ≤ length d
    → set (write d a (decimal (n / 10))) (a + length (decimal (n / 10))) (48 + n % 10) ≡ write d a (decimal n)
last-digit d a n h room =
    let ds = decimal (n / 10) in
    let l = length_more n h in
    write-one (write d a ds) (a + length ds) (48 + n % 10) (omega (arith, length-write d a ds (omega arith)))
    ∙ write_then d a ds ((48 + n % 10) ∷ []) (omega arith)
    ∙ ap (write d a) (sym (decimal-more n h))
