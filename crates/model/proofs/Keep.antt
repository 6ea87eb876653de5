-- The entries of a list that pass a test: which they are, that they rise if the list does, and how many there are.
use Prim.Native.Nat.{ℕ, suc, ◌+◌, ◌≤◌}
use native.Mathlib.Omega.{arith}
use native.Mathlib.Nat.{le_trans}
use mathlib.Core.Path.{◌≡◌, refl}
use mathlib.Core.Bool.{Bool, true, not, cond}
use mathlib.Core.List.Memᴰ
use mathlib.Core.List.{List, [], ◌∷◌, ◌++◌, Memᴰ}
use lib.ListN.{length}
use Rattle.model.specs.Below.{how_many}
use Rattle.model.specs.Set.{at}
use Rattle.model.specs.Plan.{keep, AscendingFrom}
use Rattle.model.proofs.Bools.{by_bool, by_cases}
use Rattle.model.proofs.Counts.{many-zero, many-first}
use Rattle.model.proofs.Each.{Each}

pub ascending-weaken : {r q : ℕ} (l : List ℕ) → r ≤ q → AscendingFrom q l → AscendingFrom r l
ascending-weaken [] h a = tt
ascending-weaken (p ∷ l) h a = (le_trans h a.0, a.1)

module _ (f : ℕ → Bool) where
  pub kept-member : (l : List ℕ) {q : ℕ} → Memᴰ q (keep f l) → Memᴰ q l × (f q ≡ true)
  unfolding keep
  kept-member [] m = absurd (Memᴰ.not-nil m)
  kept-member (a ∷ l) {q} m =
      by_bool (f a)
      (λ e. by_cases (Memᴰ.cases_cons (rw e at m)) (λ d. (Memᴰ.head d, rw d e)) (λ d. later (kept-member l d)))
      (λ e. later (kept-member l (rw e at m)))
    where
      later : Memᴰ q l × (f q ≡ true) → Memᴰ q (a ∷ l) × (f q ≡ true)
      later (d, e) = (Memᴰ.tail d, e)

  pub member-kept : (l : List ℕ) {q : ℕ} → Memᴰ q l → f q ≡ true → Memᴰ q (keep f l)
  unfolding keep
  member-kept [] m e = absurd (Memᴰ.not-nil m)
  member-kept (a ∷ l) {q} m e =
      by_cases (Memᴰ.cases_cons m)
      (λ d. rw (rw d at e) (Memᴰ.head d))
      (λ d.
      let rest = member-kept l d e in
      by_bool (f a) (λ k. rw k (Memᴰ.tail rest)) (λ k. rw k rest))

  pub kept-ascend : (r : ℕ) (l : List ℕ) → AscendingFrom r l → AscendingFrom r (keep f l)
  unfolding keep
  kept-ascend r [] h = tt
  kept-ascend r (a ∷ l) h =
      let rest = kept-ascend (suc a) l h.1 in
      by_bool (f a) (λ e. rw e (h.0, rest)) (λ e. rw e (ascending-weaken (keep f l) (le_trans h.0 (omega arith)) rest))

  pub kept-each : (P : ℕ → Type 0) (l : List ℕ) → Each P l → Each P (keep f l)
  unfolding keep
  kept-each P [] h = tt
  kept-each P (a ∷ l) h =
      let rest = kept-each P l h.1 in
      by_bool (f a) (λ e. rw e (h.0, rest)) (λ e. rw e rest)

  pub keep_append : (l m : List ℕ) → keep f (l ++ m) ≡ keep f l ++ keep f m
  unfolding keep
  keep_append [] m = refl
  keep_append (a ∷ l) m = by_bool (f a) (λ e. rw (e, keep_append l m)) (λ e. rw (e, keep_append l m))

  -- another test that tells the same of each entry
  pub keep_same : (g : ℕ → Bool) (l : List ℕ) → Each (λ a. f a ≡ g a) l → keep f l ≡ keep g l
  unfolding keep
  keep_same g [] h = refl
  keep_same g (a ∷ l) h = rw (h.0, keep_same g l h.1)

  -- those that pass and those that don't are all
  pub kept-count : (l : List ℕ) → length (keep f l) + length (keep (λ a. not (f a)) l) ≡ length l
  unfolding keep
  kept-count [] = refl
  kept-count (a ∷ l) =
      let rest = kept-count l in
      by_bool (f a) (λ e. rw e (omega arith)) (λ e. rw e (omega arith))

  -- by their places
  pub kept-many : (l : List ℕ) → length (keep f l) ≡ how_many (length l) (λ i. f (at l i))
  unfolding keep
  kept-many [] = many-zero (λ i. f (at [] i))
  kept-many (a ∷ l) =
      let passes : ℕ → Bool = λ i. f (at (a ∷ l) i) in
      let later : ℕ = how_many (length l) (λ i. f (at l i)) in
      let all : how_many (suc (length l)) passes ≡ cond (f a) 1 0 + later = many-first (length l) passes in
      let rest = kept-many l in
      by_bool (f a)
      (λ e. let z : how_many (suc (length l)) passes ≡ 1 + later = rw e at all in rw e (omega (arith, z, rest)))
      (λ e. let z : how_many (suc (length l)) passes ≡ 0 + later = rw e at all in rw e (omega (arith, z, rest)))
