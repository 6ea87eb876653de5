-- A loop that writes words into a slice from an index on: one word more.
use Prim.Native.Nat.{ℕ, ◌+◌, ◌<◌, ◌≤◌}
use native.Mathlib.Omega.{arith}
use native.Mathlib.Numerals.{add-one}
use mathlib.Core.Path.{◌≡◌, sym, ap, ap₂, ◌∙◌}
use mathlib.Core.List.{List}
use lib.ListN.{length, set}
use lib.Seq.{paste, paste-suc}
use Rattle.model.specs.Set.{at}

module _ (before : List ℕ) (to : ℕ) (ws after : List ℕ) (i : ℕ) (e : after ≡ paste before to ws i) where
  pub one_more : (v : ℕ) → v ≡ at ws i → i < length ws → to + length ws ≤ length before → set after (to + i) v ≡ paste before to ws (i + 1)
  one_more v q h room =
      ap₂ (λ (l : List ℕ) (w : ℕ). set l (to + i) w) e q ∙ paste-suc before to ws i 0 (omega arith) h ∙ ap (paste before to ws) (sym (add-one i))
