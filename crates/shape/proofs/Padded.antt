-- A list in an array of at least its length.
use Prim.Native.Nat.{ℕ, ◌≤◌}
use native.Mathlib.Omega.{arith}
use mathlib.Core.Path.{◌≡◌, sym, ◌∙◌}
use mathlib.Core.List.{List}
use lib.ListN.{length, take, get_or-eq_default}
use lib.Seq.{get_or-take, length-take-le, ext_get_or}
use lib.Dec.{ltb}
use borrow.Author.Tests.{ltb-true, ltb-false}
use Rattle.model.specs.Set.{at}
use Rattle.model.proofs.Bools.{by_bool}
use Rattle.model.proofs.Lists.{length-tabulate, get_d_tabulate}
use Rattle.shape.specs.ShapeOf.{padded}

pub length-padded : (n : ℕ) (l : List ℕ) → length (padded n l) ≡ n
length-padded n l = length-tabulate n (at l)

module _ (n : ℕ) (l : List ℕ) (h : length l ≤ n) where
  -- the array has the list's entries everywhere
  pub padded-at : (t : ℕ) → at (padded n l) t ≡ at l t
  padded-at t =
      by_bool (ltb t n) (λ k. get_d_tabulate n (at l) t 0 (ltb-true t n k)) λ k.
      let past : n ≤ t = ltb-false t n k in
      get_or-eq_default (padded n l) 0 (rw (length-padded n l) past) ∙ sym (get_or-eq_default l 0 (omega arith))

  -- and begins with the list
  pub padded-front : take (length l) (padded n l) ≡ l
  padded-front =
      let k : length (take (length l) (padded n l)) ≡ length l = length-take-le (length l) (padded n l) (rw (length-padded n l) h) in
      ext_get_or 0 (take (length l) (padded n l)) l k λ t m.
      get_or-take (length l) (padded n l) t 0 (omega arith) ∙ padded-at t
