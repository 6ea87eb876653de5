-- The words before a word: how many have a kind, which kinds came, what they declare, what the open task holds, one word on.
use Prim.Native.Nat.{ℕ, zero, suc, ◌<◌}
use native.Mathlib.Omega.{arith}
use native.Mathlib.Nat.{eq-or-lt_of_le, le_of_suc-le-suc}
use mathlib.Core.Path.{◌≡◌}
use mathlib.Core.Logic.{◌⊎◌, inl, inr}
use mathlib.Core.Bool.{Bool, true, false, ◌&&◌}
use mathlib.Core.List.{List}
use lib.Dec.{eqb, leb}
use borrow.Author.Tests.{leb-true, eqb-true, eqb-false}
use Rattle.model.proofs.Bools.{by_bool, by_cases, true-not-false, and-true}
use Rattle.demands.specs.Terms.{how_many}
use Rattle.demands.specs.Turned.{kind, field, device, declared, Declares, Came, Holds}

-- a word's kind is one of five
pub by-five : {G : Type 0} (k : ℕ) → (leb 1 k && leb k 5) ≡ true → (k ≡ 1 → G) → (k ≡ 2 → G) → (k ≡ 3 → G) → (k ≡ 4 → G) → (k ≡ 5 → G) → G
by-five k e device task claims releases end =
    let range = and-true (leb 1 k) (leb k 5) e in
    let low = leb-true 1 k range.0 in
    let high = leb-true k 5 range.1 in
    by_bool (eqb k 1) (λ t. device (eqb-true k 1 t)) λ n₁.
    by_bool (eqb k 2) (λ t. task (eqb-true k 2 t)) λ n₂.
    by_bool (eqb k 3) (λ t. claims (eqb-true k 3 t)) λ n₃.
    by_bool (eqb k 4) (λ t. releases (eqb-true k 4 t)) λ n₄.
    end (omega (arith, eqb-false k 1 n₁, eqb-false k 2 n₂, eqb-false k 3 n₃, eqb-false k 4 n₄))

-- a number below n + 1 is n or below n
pub by_last : {G : Type 0} (p n : ℕ) → p < suc n → (p ≡ n → G) → (p < n → G) → G
by_last p n l here before = by_cases (eq-or-lt_of_le (le_of_suc-le-suc l)) here before

module _ (f : ℕ → Bool) where
  pub many_more : (n : ℕ) → f n ≡ true → how_many (suc n) f ≡ suc (how_many n f)
  unfolding how_many
  many_more n e = rw e (omega arith)

  pub many-same : (n : ℕ) → f n ≡ false → how_many (suc n) f ≡ how_many n f
  unfolding how_many
  many-same n e = rw e (omega arith)

  pub some-passes : (n : ℕ) → 0 < how_many n f → (j : ℕ) × (j < n) × (f j ≡ true)
  unfolding how_many
  some-passes zero h = absurd (omega arith)
  some-passes (suc n) h =
      by_bool (f n) (λ e. (n, omega arith, e)) λ e.
      let r = some-passes n (rw (many-same n e) at h) in (r.0, omega arith, r.2)

  pub passes-some : (n j : ℕ) → j < n → f j ≡ true → 0 < how_many n f
  passes-some zero j l e = absurd (omega arith)
  passes-some (suc n) j l e =
      by_bool (f n) (λ t. rw (many_more n t) (omega arith)) λ t.
      rw (many-same n t) (by_last j n l (λ z. true-not-false (f j) e (rw z t)) (λ m. passes-some n j m e))

module _ (ws : List ℕ) (i : ℕ) where
  -- a kind that word i doesn't have came before it
  pub came-before : (k : ℕ) → (kind ws i ≡ k → ⊥) → Came ws (suc i) k → Came ws i k
  came-before k n c = by_last c.0 i c.1 (λ z. absurd (n (rw z at c.2))) (λ l. (c.0, l, c.2))

  -- a device declared up to word i is declared by it or was before
  pub declares-told : (d c : ℕ) → Declares ws (suc i) d c → ((kind ws i ≡ 1) × (declared ws i ≡ d) × (field ws i ≡ c)) ⊎ Declares ws i d c
  declares-told d c h = by_last h.0 i h.1 (λ z. inl (rw z at h.2, rw z at h.3, rw z at h.4)) (λ l. inr (h.0, l, h.2, h.3, h.4))

  pub declares-on : (d c : ℕ) → Declares ws i d c → Declares ws (suc i) d c
  declares-on d c h = (h.0, omega arith, h.2, h.3, h.4)

  -- word i ends a hold of device d: a TASK, or a RELEASE of d
  abbrev pub Frees : ℕ → Type 0
  Frees d = (kind ws i ≡ 2) ⊎ ((kind ws i ≡ 4) × (field ws i ≡ d))

  pub holds-claimed : (d : ℕ) → kind ws i ≡ 3 → device ws i ≡ d → Holds ws (suc i) d
  holds-claimed d k f = (i, omega arith, k, f, λ q a b. absurd (omega arith))

  pub holds_kept : (d : ℕ) → Holds ws i d → (Frees d → ⊥) → Holds ws (suc i) d
  holds_kept d h n = (h.0, omega arith, h.2, h.3, λ q a b. by_last q i b (λ z. rw z n) (h.4 q a))

  pub holds-told : (d : ℕ) → Holds ws (suc i) d → ((kind ws i ≡ 3) × (device ws i ≡ d)) ⊎ (Holds ws i d × (Frees d → ⊥))
  holds-told d h =
      by_last h.0 i h.1 (λ z. inl (rw z at h.2, rw z at h.3))
      (λ l. inr ((h.0, l, h.2, h.3, λ q a b. h.4 q a (omega arith)), h.4 i l (omega arith)))
