-- The end is the state of the last rank.
use Prim.Native.Nat.{ℕ, suc, ◌+◌}
use native.Mathlib.Omega.{arith}
use native.Mathlib.Nat.{le_antisymm}
use mathlib.Core.Path.{◌≡◌, refl, sym}
use mathlib.Core.Bool.{true, not}
use mathlib.Core.List.{List, [], ◌∷◌}
use lib.Seq.{ext_get_or}
use lib.Dec.{ltb}
use borrow.Author.Tests.{ltb-false, lt-ltb, le-ltb}
use Rattle.model.specs.Set.{at, size}
use Rattle.model.specs.State.{State, next, unfinished, is_end, rank, InGrid}
use Rattle.model.proofs.Bools.{by_bool}
use Rattle.model.proofs.States.{unfinished-task, not_end, end-finished, next-grid}
use Rattle.model.proofs.Ranks.{weight-pos, rank_lt, rank-next}

last : (ls : List ℕ) → suc (rank ls ls) ≡ size ls
unfolding rank size
last [] = refl
last (l ∷ ls) = omega (arith, last ls)

module _ (ls : List ℕ) (x : State) (g : InGrid ls x) where
  -- at the end every position is its task's action count
  end_is : is_end ls x ≡ true → x ≡ ls
  end_is e = ext_get_or 0 x ls g.count λ t h.
      le_antisymm (g.fits t) (by_bool (unfinished ls x t) (λ u. absurd (end-finished ls x e t u)) (ltb-false (at x t) (at ls t)))

  -- a state is not the end exactly if there is a rank after its own
  pub before-end : not (is_end ls x) ≡ ltb (rank ls x + 1) (size ls)
  before-end =
      by_bool (is_end ls x)
      (λ e. rw (e, end_is e) (sym (le-ltb (rank ls ls + 1) (size ls) (omega (arith, last ls)))))
      (λ e.
      let r = not_end ls x e in
      let t = r.0 in
      let h = unfinished-task ls x t r.1 in
      let up = rank-next ls x t g.count h in
      let below = rank_lt ls (next x t) (next-grid ls x g t r.1) in
      rw e (sym (lt-ltb (rank ls x + 1) (size ls) (omega (arith, weight-pos ls t, up, below)))))
