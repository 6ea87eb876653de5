-- `listing::text::fill_lines` meets its contract. The invariant: the lines of the first k words are written at the front of the slice.
-- Assumes nothing.
use native.Mathlib.Omega.{arith}
use Rattle.model.proofs.Rows.{lines}
use Rattle.listing.proofs.Rows.{none_filled, one-filled}
use Rattle.listing.proofs.text.fill_lines.Goals as goal

pub loop-k-init : goal.loop-k-init
loop-k-init c = let a = c.args in none_filled lines a.words.now a.out.now

pub loop-k-preserved : goal.loop-k-preserved
loop-k-preserved c =
    let line = c.hex_line-line in
    let a = c.args in
    let o = c.loop-k in
    let p = c.put in
    one-filled lines a.words.now a.out.now _ _ _ o.k (omega arith) (omega arith) o.invariant line.ensures p.auto.out p.ensures.out_after
