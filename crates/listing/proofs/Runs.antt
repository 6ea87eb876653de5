-- Bytes put into a slice in runs, one behind the other.
-- Assumes nothing.
use mathlib.Core.Path.{◌≡◌, ap₂, ◌∙◌}
use mathlib.Core.List.{List, ◌++◌}
use Prim.Native.Nat.{ℕ, ◌+◌, ◌≤◌}
use native.Mathlib.Omega.{arith}
use lib.ListN.{length, length-append}
use Rattle.model.specs.Slice.{write}
use Rattle.model.proofs.Slices.{write_then}

-- l is d with these from index a on, and `to` the index after them
abbrev pub Put : List ℕ → ℕ → List ℕ → List ℕ → ℕ → Type 0
Put d a these l to = (to ≡ a + length these) × (l ≡ write d a these)

-- one run more
pub put-more : (d : List ℕ) (a : ℕ) (us vs : List ℕ) {l q : List ℕ} {to r : ℕ} → Put d a us l to → a + length us + length vs ≤ length d → Put l to vs q r
    → Put d a (us ++ vs) q r
put-more d a us vs (i, e) room (n, w) =
    (omega (arith, length-append us vs), w ∙ ap₂ (λ (m : List ℕ) (j : ℕ). write m j vs) e i ∙ write_then d a us vs room)
