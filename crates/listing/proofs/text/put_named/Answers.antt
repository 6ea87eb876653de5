-- `listing::text::put_named` meets its contract: the digits are put behind the text; a number of 64 bits has at most 20.
-- Assumes nothing.
use Prim.Native.Nat.{◌≤◌}
use native.Mathlib.Omega.{arith}
use lib.ListN.{length}
use Rattle.model.specs.Printed.{decimal}
use Rattle.model.proofs.Decimal.{decimal-length}
use Rattle.listing.proofs.Runs.{put-more}
use Rattle.listing.proofs.text.put_named.Goals.{Start}
use Rattle.listing.proofs.text.put_named.Goals as goal

-- the number's digits
few : (c : Start) → length (decimal c.args.n) ≤ 20
few c = decimal-length 19 c.args.n (omega arith)

pub put_decimal-requires : goal.put_decimal-requires
put_decimal-requires c = omega (arith, few (goal.at.put_decimal-requires c).Start, c.put-named.ensures.value)

pub returns : goal.returns
returns c =
    let p = c.put-named.ensures in
    let d = c.put_decimal.ensures in
    let a = c.args in
    let fits = few (goal.at.returns c).Start in
    let both = put-more a.out.now a.to a.name.now (decimal a.n) (p.value, p.out_after) (omega arith) (d.value, d.out_after) in
    record { value = both.0; upper_bound = omega (arith, d.value, p.value); out_after = both.1 }
