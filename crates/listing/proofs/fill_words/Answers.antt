-- `listing::fill_words` meets its contract. The invariant: the first k words of the bytes stand at the front of the slice, which is as it was behind them.
-- Assumes nothing.
use mathlib.Core.Path.{◌≡◌, sym, ap₂, ◌∙◌}
use mathlib.Core.List.{List}
use Prim.Native.Nat.{ℕ, ◌/◌, min}
use native.Mathlib.Omega.{arith}
use lib.ListN.{length, get_or, set, length-set}
use Rattle.model.proofs.Lists.{length-tabulate, get_d_tabulate}
use Rattle.model.specs.Printed.{word_at, words_in}
use Rattle.listing.proofs.Front.{front-suc, front-all}
use Rattle.listing.proofs.fill_words.Goals as goal

pub loop-k-preserved : goal.loop-k-preserved
loop-k-preserved c =
    let a = c.args in
    let bs : List ℕ = a.bytes.now in
    let o = c.loop-k in
    let n : length (words_in bs) ≡ length bs / 4 = length-tabulate (length bs / 4) (word_at bs) in
    let w : c.word_at.result ≡ get_or (words_in bs) o.k 0 = c.word_at.ensures ∙ sym (get_d_tabulate (length bs / 4) (word_at bs) o.k 0 (omega arith)) in (
      length-set o.words o.k c.word_at.result ∙ o.invariant.0,
      ap₂ (λ (l : List ℕ) (v : ℕ). set l o.k v) o.invariant.1 w ∙ front-suc (words_in bs) a.words.now o.k (omega arith) (omega arith),
    )

pub returns : goal.returns
returns c =
    let a = c.args in
    let bs : List ℕ = a.bytes.now in
    let o = c.loop-k in
    let n : length (words_in bs) ≡ length bs / 4 = length-tabulate (length bs / 4) (word_at bs) in
    let q : o.k ≡ min (length (words_in bs)) (length a.words.now) = omega arith in
    o.invariant.1 ∙ front-all (words_in bs) a.words.now o.k q
