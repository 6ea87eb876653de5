-- Answers: refusals first, one law for every call.
use Prim.Native.Nat.{ℕ}
use native.Mathlib.Omega.{arith}
use mathlib.Core.Path.{◌≡◌, refl, ap, ◌∙◌}
use mathlib.Core.Logic.{◌↔◌, ◌⊎◌, inl, inr}
use Rattle.model.specs.Answer.{Answer, given, refused, ◌then◌}
use Rattle.model.proofs.Bools.{by_cases}

module _ {A : Type 0} where
  -- a value is no refusal
  pub given-refused : {G : Type 0} {a : A} {n p : ℕ} → ◌≡◌ {A = Answer A} (given a) (refused n p) → G
  given-refused e = let z : ◌≡◌ {A = ℕ} 0 1 = cc in absurd (omega arith)

  pub refused-given : {G : Type 0} {a : A} {n p : ℕ} → ◌≡◌ {A = Answer A} (refused n p) (given a) → G
  refused-given e = let z : ◌≡◌ {A = ℕ} 0 1 = cc in absurd (omega arith)

  -- a refusal's number and place, and a value, are told by the answer
  pub refused-number : {n m p q : ℕ} → ◌≡◌ {A = Answer A} (refused n p) (refused m q) → n ≡ m
  refused-number e = cc

  pub refused-place : {n m p q : ℕ} → ◌≡◌ {A = Answer A} (refused n p) (refused m q) → p ≡ q
  refused-place e = cc

  pub given-value : {a b : A} → ◌≡◌ {A = Answer A} (given a) (given b) → a ≡ b
  given-value e = cc

module _ {A B : Type 0} (f : A → Answer B) where
  -- a refusal comes of what is first, or of what comes next
  pub then-refused : (a : Answer A) (n p : ℕ) → ((a then f) ≡ refused n p) ↔ ((a ≡ refused n p) ⊎ ((x : A) × (a ≡ given x) × (f x ≡ refused n p)))
  unfolding ◌then◌
  then-refused (given x) n p = ((λ e. inr (x, refl, e)), λ c. by_cases c given-refused (λ r. ap f (given-value r.1) ∙ r.2))
  then-refused (refused m q) n p = (
    (λ e. inl (rw (refused-number e, refused-place e))),
    (λ c. by_cases c (λ e. rw (refused-number e, refused-place e)) (λ r. refused-given r.1)),
  )

  -- a value comes of both
  pub then-given : (a : Answer A) (b : B) → ((a then f) ≡ given b) ↔ ((x : A) × (a ≡ given x) × (f x ≡ given b))
  unfolding ◌then◌
  then-given (given x) b = ((λ e. (x, refl, e)), λ r. ap f (given-value r.1) ∙ r.2)
  then-given (refused m q) b = ((λ e. refused-given e), λ r. refused-given r.1)

-- what comes next need only be the same for the value that there is
pub then_same : {A B : Type 0} (f g : A → Answer B) (a : Answer A) → ((x : A) → a ≡ given x → f x ≡ g x) → (a then f) ≡ (a then g)
unfolding ◌then◌
then_same f g (given x) e = e x refl
then_same f g (refused m q) e = refl
