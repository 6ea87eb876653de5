-- A loop that puts the rows of words, their lines or their bytes, into a slice from its start, one a turn.
-- Assumes nothing.
use mathlib.Core.Path.{◌≡◌, refl, sym, ap, ap₂, ◌∙◌}
use mathlib.Core.List.{List, [], ◌∷◌, ◌++◌, append_assoc, append-nil}
use Prim.Native.Nat.{ℕ, ◌+◌, ◌*◌, ◌<◌, ◌≤◌}
use native.Mathlib.Numerals.{add-one}
use native.Mathlib.Omega.{arith}
use lib.ListN.{length, take, get_or}
use lib.Seq.{length-take-le, take-suc}
use Rattle.model.specs.Slice.{write}
use Rattle.model.proofs.Slices.{write-none, write-next}
use Rattle.model.proofs.Rows.{Rows, length-rows}

-- the rows of the first k words stand at the front of the slice, which is as long as it was
abbrev pub Filled : (List ℕ → List ℕ) → List ℕ → List ℕ → List ℕ → ℕ → Type 0
Filled rows ws d l k = (length l ≡ length d) × (l ≡ write d 0 (rows (take k ws)))

module _ {n : ℕ} {row : ℕ → List ℕ} {rows : List ℕ → List ℕ} (r : Rows n row rows) where
  rows_snoc : (ws : List ℕ) (w : ℕ) → rows (ws ++ (w ∷ [])) ≡ rows ws ++ row w
  rows_snoc [] w = rw (r.more w [], r.none) (append-nil (row w))
  rows_snoc (v ∷ ws) w = rw (r.more v (ws ++ (w ∷ [])), r.more v ws, rows_snoc ws w) (sym (append_assoc (row v) (rows ws) (row w)))

  module _ (ws d : List ℕ) where
    -- one more row
    rows-suc : (k : ℕ) → k < length ws → rows (take (k + 1) ws) ≡ rows (take k ws) ++ row (get_or ws k 0)
    rows-suc k h = ap (λ (j : ℕ). rows (take j ws)) (add-one k) ∙ ap rows (take-suc ws k 0 h) ∙ rows_snoc (take k ws) (get_or ws k 0)

    -- before the loop
    pub none_filled : Filled rows ws d d 0
    none_filled = (refl, rw r.none (sym (write-none d 0 (omega arith))))

    -- a turn: the next row put behind those that stand at the front
    pub one-filled : (l q these : List ℕ) (k : ℕ) → k < length ws → k * n + n ≤ length d → Filled rows ws d l k → these ≡ row (get_or ws k 0)
        → length q ≡ length l → q ≡ write l (k * n) these → Filled rows ws d q (k + 1)
    one-filled l q these k h room f t kept e =
        let front = rows (take k ws) in
        let last = row (get_or ws k 0) in
        let long : length front ≡ k * n = length-rows r (take k ws) ∙ ap (λ (m : ℕ). m * n) (length-take-le k ws (omega arith)) in (
          kept ∙ f.0,
          e ∙ ap₂ (λ (l these : List ℕ). write l (k * n) these) f.1 t ∙ write-next d 0 front last (k * n) (omega arith) (omega (arith, r.each (get_or ws k 0)))
              ∙ ap (write d 0) (sym (rows-suc k h)),
        )
