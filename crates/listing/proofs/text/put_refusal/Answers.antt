-- `listing::text::put_refusal` meets its contract: three runs of bytes, one behind the other.
-- Assumes nothing.
use Prim.Native.Nat.{ℕ}
use native.Mathlib.Omega.{arith}
use mathlib.Core.Path.{◌≡◌, sym, ap, ◌∙◌}
use mathlib.Core.List.{List, [], ◌∷◌, ◌++◌, append_assoc}
use lib.ListN.{length}
use Rattle.model.specs.Slice.{write}
use Rattle.model.specs.Printed.{codes, decimal, refusal_line}
use Rattle.model.proofs.Slices.{write-front}
use Rattle.listing.proofs.Runs.{put-more}
use Rattle.listing.proofs.text.put_refusal.Goals as goal

-- the three runs are the line
line : (n p : ℕ) → (codes "refused " ++ decimal n) ++ (codes " at " ++ decimal p) ++ (10 ∷ []) ≡ refusal_line n p
line n p = ap (λ (l : List ℕ). l ++ (10 ∷ [])) (sym (append_assoc (codes "refused " ++ decimal n) (codes " at ") (decimal p)))

pub returns : goal.returns
unfolding codes
returns c =
    let z = c.put.ensures in
    let y = c.put_named-placed.ensures in
    let x = c.put_named-numbered.ensures in
    let a = c.args in
    let o = a.out.now in
    let n = codes "refused " ++ decimal a.number in
    let p = codes " at " ++ decimal a.place in
    let both = put-more o 0 n p (x.value, x.out_after) (omega (arith, x.value, x.upper_bound, y.value, y.upper_bound)) (y.value, y.out_after) in
    let all = put-more o 0 (n ++ p) (10 ∷ []) both (omega (arith, both.0, x.upper_bound, y.upper_bound)) (z.value, z.out_after) in
    let l = line a.number a.place in
    record {
      value = omega (arith, all.0, ap length l);
      upper_bound = omega (arith, z.value, x.upper_bound, y.upper_bound);
      out_after = all.1 ∙ ap (write o 0) l ∙ write-front o (refusal_line a.number a.place);
    }
