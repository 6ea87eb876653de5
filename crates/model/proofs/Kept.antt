-- The entries of a list at the places that pass a test: how many they are, which they are, and where each stands.
use Prim.Native.Nat.{ℕ, zero, suc, ◌+◌, ◌-◌, ◌<◌, ◌≤◌}
use native.Mathlib.Omega.{arith}
use mathlib.Core.Path.{◌≡◌, refl, ◌∙◌}
use mathlib.Core.Bool.{Bool, true, false}
use mathlib.Core.List.{List, [], ◌∷◌}
use lib.ListN.{length}
use lib.Dec.{eqb, ltb}
use borrow.Author.Tests.{ltb-true, ltb-false, eqb-true, eqb-false, eq-eqb, ne_eqb}
use Rattle.model.specs.Below.{how_many}
use Rattle.model.specs.Set.{at}
use Rattle.model.specs.Clean.{kept_from}
use Rattle.model.proofs.Bools.{by_bool}

module _ (f : ℕ → Bool) where
  -- ---- counts
  -- a number that passes counts
  pub many-passed : (n : ℕ) → f n ≡ true → how_many (suc n) f ≡ suc (how_many n f)
  unfolding how_many
  many-passed n e = rw e (omega arith)

  pub many-failed : (n : ℕ) → f n ≡ false → how_many (suc n) f ≡ how_many n f
  unfolding how_many
  many-failed n e = rw e (omega arith)

  many-step : (n : ℕ) → how_many n f ≤ how_many (suc n) f
  many-step n = by_bool (f n) (λ e. omega (arith, many-passed n e)) (λ e. omega (arith, many-failed n e))

  many-rise : (n k : ℕ) → how_many n f ≤ how_many (n + k) f
  many-rise n zero = let z : n + 0 ≡ n = omega arith in rw z (omega arith)
  many-rise n (suc k) = let z : n + suc k ≡ suc (n + k) = omega arith in rw z (omega (arith, many-rise n k, many-step (n + k)))

  pub many-monotone : (n m : ℕ) → n ≤ m → how_many n f ≤ how_many m f
  many-monotone n m h = let r = many-rise n (m - n) in let z : n + (m - n) ≡ m = omega arith in rw z at r

  -- of two numbers the lower has the lower count, if it passes
  pub many_below : (n m : ℕ) → f n ≡ true → n < m → how_many n f < how_many m f
  many_below n m e h = omega (arith, many-passed n e, many-monotone (suc n) m h)

  -- so the counts tell the numbers that pass apart
  pub many-apart : (n m : ℕ) → f n ≡ true → f m ≡ true → eqb (how_many n f) (how_many m f) ≡ eqb n m
  many-apart n m p q =
      by_bool (eqb n m)
      (λ e. rw (e, eqb-true n m e) (eq-eqb (how_many m f) (how_many m f) refl))
      (λ e. rw e (ne_eqb (how_many n f) (how_many m f) (λ same.
      by_bool (ltb n m)
      (λ l. omega (arith, many_below n m p (ltb-true n m l)))
      (λ l. omega (arith, many_below m n q (omega (arith, ltb-false n m l, eqb-false n m e)))))))

  -- where all pass a number counts itself
  pub many-all : (n : ℕ) → ((t : ℕ) → t < n → f t ≡ true) → how_many n f ≡ n
  unfolding how_many
  many-all zero h = refl
  many-all (suc n) h = rw (h n (omega arith)) (omega (arith, many-all n (λ t k. h t (omega arith))))

  -- ---- entries
  pub length-kept : (d : ℕ) (cs : List ℕ) → how_many d f + length (kept_from f d cs) ≡ how_many (d + length cs) f
  unfolding kept_from
  length-kept d [] = let z : d + 0 ≡ d = omega arith in rw z (omega arith)
  length-kept d (c ∷ cs) =
      let r = length-kept (suc d) cs in
      let z : d + suc (length cs) ≡ suc d + length cs = omega arith in
      rw z (by_bool (f d) (λ e. rw e (omega (arith, r, many-passed d e))) (λ e. rw e (omega (arith, r, many-failed d e))))

  -- an entry that is kept stands at the number of kept entries before it
  pub kept_at : (d : ℕ) (cs : List ℕ) (i j : ℕ) → i < length cs → f (d + i) ≡ true → how_many d f + j ≡ how_many (d + i) f
      → (j < length (kept_from f d cs)) × (at (kept_from f d cs) j ≡ at cs i)
  unfolding kept_from
  kept_at d [] i j h e k = absurd (omega arith)
  kept_at d (c ∷ cs) zero j h e k =
      let z : d + 0 ≡ d = omega arith in
      let first : j ≡ 0 = omega (arith, rw z at k) in
      rw (rw z at e, first) (omega arith, refl)
  kept_at d (c ∷ cs) (suc i) zero h e k =
      let z : d + suc i ≡ suc d + i = omega arith in
      by_bool (f d)
      (λ p. absurd (omega (arith, rw z at k, many-monotone (suc d) (suc d + i) (omega arith), many-passed d p)))
      (λ p. rw p (kept_at (suc d) cs i zero (omega arith) (rw z at e) (omega (arith, rw z at k, many-failed d p))))
  kept_at d (c ∷ cs) (suc i) (suc j) h e k =
      let z : d + suc i ≡ suc d + i = omega arith in
      by_bool (f d)
      (λ p. let r = kept_at (suc d) cs i j (omega arith) (rw z at e) (omega (arith, rw z at k, many-passed d p)) in rw p (omega (arith, r.0), r.1))
      (λ p. rw p (kept_at (suc d) cs i (suc j) (omega arith) (rw z at e) (omega (arith, rw z at k, many-failed d p))))

  -- the j-th of those kept is one of them
  abbrev KeptOne : ℕ → List ℕ → ℕ → Type 0
  KeptOne d cs j = (i : ℕ) × (i < length cs) × (f (d + i) ≡ true) × (how_many d f + j ≡ how_many (d + i) f)

  one_later : (d c : ℕ) (cs : List ℕ) (k l : ℕ) → KeptOne (suc d) cs l → how_many d f + k ≡ how_many (suc d) f + l → KeptOne d (c ∷ cs) k
  one_later d c cs k l r s =
      let z : d + suc r.0 ≡ suc d + r.0 = omega arith in
      (suc r.0, omega (arith, r.1), rw z r.2, rw z (s ∙ r.3))

  pub kept_from_lem : (d : ℕ) (cs : List ℕ) (j : ℕ) → j < length (kept_from f d cs) → KeptOne d cs j
  unfolding kept_from
  kept_from_lem d [] j h = absurd (omega arith)
  kept_from_lem d (c ∷ cs) zero h =
      let z : d + 0 ≡ d = omega arith in
      by_bool (f d)
      (λ p. (0, omega arith, rw z p, rw z (omega arith)))
      (λ p. one_later d c cs zero zero (kept_from_lem (suc d) cs zero (rw p at h)) (omega (arith, many-failed d p)))
  kept_from_lem d (c ∷ cs) (suc j) h =
      by_bool (f d)
      (λ p. one_later d c cs (suc j) j (kept_from_lem (suc d) cs j (omega (arith, rw p at h))) (omega (arith, many-passed d p)))
      (λ p. one_later d c cs (suc j) (suc j) (kept_from_lem (suc d) cs (suc j) (rw p at h)) (omega (arith, many-failed d p)))

  -- where all pass all are kept
  pub kept-all : (d : ℕ) (cs : List ℕ) → ((i : ℕ) → i < length cs → f (d + i) ≡ true) → kept_from f d cs ≡ cs
  unfolding kept_from
  kept-all d [] h = refl
  kept-all d (c ∷ cs) h =
      let z : d + 0 ≡ d = omega arith in
      let rest = kept-all (suc d) cs (λ i l. let y : d + suc i ≡ suc d + i = omega arith in rw y at (h (suc i) (omega arith))) in
      rw (rw z at (h 0 (omega arith)), rest)

-- tests that agree on the places
pub kept_same : (f g : ℕ → Bool) (d : ℕ) (cs : List ℕ) → ((i : ℕ) → i < length cs → f (d + i) ≡ g (d + i)) → kept_from f d cs ≡ kept_from g d cs
unfolding kept_from
kept_same f g d [] h = refl
kept_same f g d (c ∷ cs) h =
    let z : d + 0 ≡ d = omega arith in
    let rest = kept_same f g (suc d) cs (λ i l. let y : d + suc i ≡ suc d + i = omega arith in rw y at (h (suc i) (omega arith))) in
    rw (rw z at (h 0 (omega arith)), rest)
