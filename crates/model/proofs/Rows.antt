-- Bytes in rows, as many for each word: a line of text, or the word's four bytes; and how long the rows of words are.
use Prim.Native.Nat.{ℕ, ◌*◌}
use native.Mathlib.Omega.{arith}
use mathlib.Core.Path.{◌≡◌, refl}
use mathlib.Core.List.{List, [], ◌∷◌, ◌++◌}
use lib.ListN.{length, length-append}
use Rattle.model.specs.Printed.{hex_line, lines_of}
use Rattle.model.specs.CleanFile.{bytes_of, bytes_of_all}

-- a row has n bytes, and the rows of words stand one after the other
pub record Rows (n : ℕ) (row : ℕ → List ℕ) (rows : List ℕ → List ℕ) : Type 0 where
  pub each : (w : ℕ) → length (row w) ≡ n
  pub none : rows [] ≡ []
  pub more : (w : ℕ) (ws : List ℕ) → rows (w ∷ ws) ≡ row w ++ rows ws

pub lines : Rows 9 hex_line lines_of
unfolding lines_of
lines = record { each = λ w. refl; none = refl; more = λ w ws. refl }

pub fours : Rows 4 bytes_of bytes_of_all
unfolding bytes_of_all
fours = record { each = λ w. refl; none = refl; more = λ w ws. refl }

module _ {n : ℕ} {row : ℕ → List ℕ} {rows : List ℕ → List ℕ} (r : Rows n row rows) where
  pub length-rows : (ws : List ℕ) → length (rows ws) ≡ length ws * n
  length-rows [] = rw r.none (omega arith)
  length-rows (w ∷ ws) = let rest = length-rows ws in rw (r.more w ws) (omega (arith, length-append (row w) (rows ws), r.each w))
