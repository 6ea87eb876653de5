-- A loop that stores the elements of a list at the front of a slice, one a turn.
-- Assumes nothing.
use mathlib.Core.Path.{◌≡◌, sym, ap, ◌∙◌}
use mathlib.Core.List.{List, ◌++◌, append-nil}
use Prim.Native.Nat.{ℕ, suc, ◌+◌, ◌≤◌, ◌<◌, min}
use native.Mathlib.Numerals.{add-one}
use native.Mathlib.Omega.{arith, min_cases}
use lib.ListN.{length, take, drop, get_or, set, length-append, length-drop}
use lib.Seq.{length-take-le, take_all, take-suc, drop-cons, drop-length, append_snoc, set_at, take-append-le, take-length}
use Rattle.model.specs.Slice.{over}

-- a turn: k elements of s are at the front of d, and the next is stored behind them
pub front-suc : (s d : List ℕ) (k : ℕ) → k < length s → k < length d → set (take k s ++ drop k d) k (get_or s k 0) ≡ take (k + 1) s ++ drop (k + 1) d
front-suc s d k hs hd =
    ap (λ (r : List ℕ). set (take k s ++ r) k (get_or s k 0)) (drop-cons d k 0 hd)
    ∙ set_at (take k s) (get_or d k 0) (drop (suc k) d) (get_or s k 0) k (length-take-le k s (omega arith))
    ∙ sym (append_snoc (take k s) (get_or s k 0) (drop (suc k) d))
    ∙ ap (λ (r : List ℕ). r ++ drop (suc k) d) (sym (take-suc s k 0 hs))
    ∙ ap (λ (n : ℕ). take n s ++ drop n d) (sym (add-one k))

-- all turns: as many elements as there is room for
module _ (s d : List ℕ) where
  abbrev Whole : ℕ → Type 0
  Whole n = take n s ++ drop n d ≡ take (length d) (over s d)

  roomy : length s ≤ length d → Whole (length s)
  roomy h =
      let n : length (over s d) ≡ length d = simp (length-append, length-drop) (omega arith) in
      ap (λ (r : List ℕ). r ++ drop (length s) d) (take-length s) ∙ sym (take_all (length d) (over s d) (omega arith))

  tight : length d ≤ length s → Whole (length d)
  tight h =
      ap (λ (r : List ℕ). take (length d) s ++ r) (drop-length d) ∙ append-nil (take (length d) s) ∙ sym (take-append-le (length d) s (drop (length s) d) h)

  pub front-all : (n : ℕ) → n ≡ min (length s) (length d) → Whole n
  front-all n e = min_cases (length s) (length d) (Whole n) (λ h q. rw (e, q) (roomy h)) (λ h q. rw (e, q) (tight h))
