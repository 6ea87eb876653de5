-- Counts of the numbers that pass a test: in the statements' words and in the model's they are the same.
use Prim.Native.Nat.{ℕ, zero, suc, ◌+◌}
use native.Mathlib.Omega.{arith}
use mathlib.Core.Path.{◌≡◌, refl}
use mathlib.Core.Bool.{Bool, cond}
use Rattle.model.specs.Below as below
use Rattle.model.proofs.Counts.{many-first}
use Rattle.demands.specs.Terms.{how_many}

pub same_count : (n : ℕ) (f : ℕ → Bool) → below.how_many n f ≡ how_many n f
unfolding below.how_many how_many
same_count zero f = refl
same_count (suc n) f = rw (same_count n f)

-- by the first number and the later ones
pub count-first : (n : ℕ) (f : ℕ → Bool) → how_many (suc n) f ≡ cond (f 0) 1 0 + how_many n (λ t. f (suc t))
count-first n f = omega (arith, many-first n f, same_count (suc n) f, same_count n (λ t. f (suc t)))
