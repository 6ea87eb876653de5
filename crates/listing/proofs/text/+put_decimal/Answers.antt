-- The proof of the cycle of calls {put_decimal}: the number falls to its tenth, whose digits stand in the slice before the last one is put behind them.
-- Assumes nothing.
use Prim.Native.Nat.{ℕ, ◌+◌, ◌%◌}
use native.Mathlib.Omega.{arith}
use mathlib.Core.Path.{ap₂, ◌∙◌}
use mathlib.Core.List.{List}
use lib.ListN.{set}
use Rattle.listing.proofs.Digits.{one-digit, length-one, length_more, last-digit}
use Rattle.listing.proofs.text.+put_decimal.Goals as goal

pub put_digit-requires-clause-to_in_bounds : goal.put_digit-requires-clause-to_in_bounds
put_digit-requires-clause-to_in_bounds t c = omega (arith, length-one c.args.n (omega arith))

pub returns-then-n-lt-TEN : goal.returns-then-n-lt-TEN
returns-then-n-lt-TEN t c =
    let a = c.args in
    let d = c.put_digit.ensures in
    let l = length-one a.n (omega arith) in
    record {
      value = omega (arith, d.value);
      out_after = d.out_after ∙ one-digit a.out.now a.to a.n (omega arith) (omega arith);
    }

pub put_decimal-last-requires : goal.put_decimal-last-requires
put_decimal-last-requires t c = (omega arith, omega (arith, length_more c.args.n (omega arith)))

pub put_digit-requires-2-clause-to_in_bounds : goal.put_digit-requires-2-clause-to_in_bounds
put_digit-requires-2-clause-to_in_bounds t c = omega (arith, c.put_decimal-last.ensures.value, c.put_decimal-last.auto.out, length_more c.args.n (omega arith))

pub returns : goal.returns
returns t c =
    let a = c.args in
    let p = c.put_decimal-last.ensures in
    let d = c.put_digit-2.ensures in
    let l = length_more a.n (omega arith) in
    record {
      value = omega (arith, d.value, p.value);
      out_after = d.out_after ∙ ap₂ (λ (out : List ℕ) (to : ℕ). set out to (48 + a.n % 10)) p.out_after p.value
          ∙ last-digit a.out.now a.to a.n (omega arith) (omega arith);
    }
