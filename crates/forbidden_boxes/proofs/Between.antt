-- Units within a range, as its `contains` tells it.
use Rattle.std.proofs.Common.{rules, is_le, is_lt, nat_cmp}
use Prim.Native.Nat.{ℕ}
use mathlib.Core.Path.{◌≡◌}
use mathlib.Core.Bool.{Bool, ◌&&◌}
use lib.Dec.{ltb, leb}

pub between : (a b u : ℕ) {r : Bool} → r ≡ (is_le (nat_cmp a u) && is_lt (nat_cmp u b)) → r ≡ (leb a u && ltb u b)
between a b u e = search (rules, e)
