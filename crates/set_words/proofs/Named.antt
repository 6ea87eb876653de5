-- The kind that a number names, and the number of that kind.
use Prim.Native.Nat.{ℕ}
use mathlib.Core.Path.{◌≡◌, refl, ap, ◌∙◌}
use mathlib.Core.Bool.{Bool, true, false, cond}
use lib.Dec.{eqb}
use Rattle.std.proofs.Common.{Option, Some, None}
use borrow.Author.Tests.{eqb-true}
use Rattle.set_words.specs.declared.kinds.Kind.{Kind}
use Rattle.set_words.specs.declared.kinds.Kind.TheVariants.{Device, Task, Claim, Release, End, ForbiddenBox, UnsafeBox, Side, DeadState, UnreachedState}
use Rattle.set_words.specs.Kinds.{number_of, kind_named}

module _ (n : ℕ) (k : Kind) where
  -- one more kind to look at
  this_one : (j : Kind) (rest : Option Kind) → (rest ≡ Some k → n ≡ number_of k) → cond (eqb n (number_of j)) (Some j) rest ≡ Some k → n ≡ number_of k
  this_one j rest later = by_test (eqb n (number_of j)) refl
    where
      by_test : (b : Bool) → eqb n (number_of j) ≡ b → cond b (Some j) rest ≡ Some k → n ≡ number_of k
      by_test true q e = let same : j ≡ k = cc in eqb-true n (number_of j) q ∙ ap number_of same
      by_test false q e = later e

  -- a number that names a kind is that kind's
  pub named-number : kind_named n ≡ Some k → n ≡ number_of k
  unfolding kind_named
  named-number =
      this_one Device _ (this_one Task _ (this_one Claim _ (this_one Release _ (this_one End _
      (this_one ForbiddenBox _ (this_one UnsafeBox _ (this_one Side _ (this_one DeadState _
      (this_one UnreachedState _ (λ e. absurd cc))))))))))

  -- one more kind that it isn't
  other_than : (j : Kind) (rest : Option Kind) → cond (eqb n (number_of j)) (Some j) rest ≡ None → (eqb n (number_of j) ≡ false) × (rest ≡ None)
  other_than j rest = by_test (eqb n (number_of j))
    where
      by_test : (b : Bool) → cond b (Some j) rest ≡ None → (b ≡ false) × (rest ≡ None)
      by_test true e = absurd (let z : ⊥ = cc in z)
      by_test false e = (refl, e)

  -- a number that names no kind is no kind's
  pub named-none : kind_named n ≡ None → eqb n (number_of k) ≡ false
  unfolding kind_named
  named-none x =
      let a = other_than Device _ x in
      let b = other_than Task _ a.1 in
      let d = other_than Claim _ b.1 in
      let e = other_than Release _ d.1 in
      let f = other_than End _ e.1 in
      let g = other_than ForbiddenBox _ f.1 in
      let h = other_than UnsafeBox _ g.1 in
      let i = other_than Side _ h.1 in
      let j = other_than DeadState _ i.1 in
      let l = other_than UnreachedState _ j.1 in
      elim k as (λ (q : Kind). eqb n (number_of q) ≡ false) [
        | Device ↦ a.0
        | Task ↦ b.0
        | Claim ↦ d.0
        | Release ↦ e.0
        | End ↦ f.0
        | ForbiddenBox ↦ g.0
        | UnsafeBox ↦ h.0
        | Side ↦ i.0
        | DeadState ↦ j.0
        | UnreachedState ↦ l.0
      ]
