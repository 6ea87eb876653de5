-- The numbers below a bound: whether some pass a test, which is the lowest that does, how many do, and lists and maxima made over them.
use Rattle.std.specs.Prelude.{ℕ, zero, suc, max, ◌+◌, Bool, false, cond, ◌||◌, List, [], ◌∷◌}

-- some number below n passes f
unfoldable pub any : ℕ → (ℕ → Bool) → Bool
any zero f = false
any (suc n) f = f n || any n f

-- the lowest number below n that passes f, n if none does
unfoldable pub lowest : ℕ → (ℕ → Bool) → ℕ
lowest zero f = 0
lowest (suc n) f = cond (f 0) 0 (suc (lowest n (λ t. f (suc t))))

-- how many of the numbers below n pass f
unfoldable pub how_many : ℕ → (ℕ → Bool) → ℕ
how_many zero f = 0
how_many (suc n) f = cond (f n) 1 0 + how_many n f

-- f 0 to f (n - 1)
unfoldable pub tabulate {ℓ} : {A : Type ℓ} → ℕ → (ℕ → A) → List A
tabulate zero f = []
tabulate (suc n) f = f zero ∷ tabulate n (λ t. f (suc t))

-- the largest of f 0 to f (n - 1), 0 if n is 0
unfoldable pub maximum : ℕ → (ℕ → ℕ) → ℕ
maximum zero f = 0
maximum (suc n) f = max (f n) (maximum n f)
