-- What the answer says of words that were to be written: made, and read.
use Rattle.std.specs.Prelude.{Some, None}
use mathlib.Core.Path.{◌≡◌}
use mathlib.Core.List.{List}
use Prim.Native.Nat.{ℕ, ◌+◌, ◌≤◌, ◌<◌}
use native.Mathlib.Omega.{arith}
use lib.ListN.{length}
use mathlib.Core.Bool.{Bool, true, false, not, cond}
use lib.Dec.{T, leb, leb→le, nleb→lt}
use borrow.Author.Tests.{le-leb, lt-leb}
use Rattle.model.specs.Slice.{write}
use Rattle.plan_words.specs.Words.{Wrote}

-- the two answers, made
pub wrote-next : {p : List ℕ} {a : ℕ} {ws : List ℕ} {r : ℕ} {q : List ℕ} → a + length ws ≤ length p → r ≡ a + length ws → q ≡ write p a ws
    → Wrote p a ws (Some r) q
wrote-next h e w = record { answer = simp (le-leb _ _ h, e); words = λ _. w }

pub wrote-full : {p : List ℕ} {a : ℕ} {ws : List ℕ} {q : List ℕ} → length p < a + length ws → Wrote p a ws None q
wrote-full h = record { answer = simp (lt-leb _ _ h); words = λ k. absurd (let f : ⊥ = omega arith in f) }

fitted : (b : Bool) (r x : ℕ) → Some r ≡ cond b (Some x) None → T b × (r ≡ x)
fitted true r x e = (tt, cc)
fitted false r x e = let z : ◌≡◌ {A = ℕ} 0 1 = cc in absurd (let f : ⊥ = omega arith in f)

unfitted : (b : Bool) (x : ℕ) → None ≡ cond b (Some x) None → T (not b)
unfitted true x e = let z : ◌≡◌ {A = ℕ} 0 1 = cc in absurd (let f : ⊥ = omega arith in f)
unfitted false x e = tt

-- and read
pub record Fits (p : List ℕ) (a : ℕ) (ws : List ℕ) (r : ℕ) (q : List ℕ) : Type 0 where
  pub fit : a + length ws ≤ length p
  pub next : r ≡ a + length ws
  pub words : q ≡ write p a ws

pub read_next : {p : List ℕ} {a : ℕ} {ws : List ℕ} {r : ℕ} {q : List ℕ} → Wrote p a ws (Some r) q → Fits p a ws r q
read_next {p} {a} {ws} {r} {q} w =
    let g = fitted (leb (a + length ws) (length p)) r (a + length ws) w.answer in
    let h : a + length ws ≤ length p = leb→le (a + length ws) (length p) g.0 in
    record { fit = h; next = g.1; words = w.words h }

pub read-full : {p : List ℕ} {a : ℕ} {ws : List ℕ} {q : List ℕ} → Wrote p a ws None q → length p < a + length ws
read-full {p} {a} {ws} {q} w = nleb→lt (a + length ws) (length p) (unfitted (leb (a + length ws) (length p)) (a + length ws) w.answer)
