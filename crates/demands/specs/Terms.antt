-- Words that several statements use, each by itself and not by the definitions that the statements are about.
use Rattle.std.specs.Prelude.{ℕ, zero, suc, ◌+◌, ◌<◌, ◌≡◌, Bool, false, cond, ◌&&◌, ◌||◌, length, get_or, eqb, ltb}
use mathlib.Core.List.{List, [], ◌∷◌, ◌++◌, Memᴰ}
use Rattle.model.specs.Set.{Action, claim, release, Task, Set, task_at, action_at}
use Rattle.model.specs.Hold.{Interval}

-- the positions from p to q
infixl 80 ◌to◌
abbrev pub ◌to◌ : ℕ → ℕ → Interval
p to q = record { low = p; high = q }

-- a list k times over, and then the rest
unfoldable pub times : {A : Type 0} → ℕ → List A → List A → List A
times zero l rest = rest
times (suc k) l rest = l ++ times k l rest

-- how many of the numbers below n pass f
unfoldable pub how_many : ℕ → (ℕ → Bool) → ℕ
how_many zero f = 0
how_many (suc n) f = cond (f n) 1 0 + how_many n f

-- what f gives for the numbers below n, together
unfoldable pub sum_below : ℕ → (ℕ → ℕ) → ℕ
sum_below zero f = 0
sum_below (suc n) f = f n + sum_below n f

-- x stands before y, the first number weighing most: at the first place where they differ, x has the lower number
unfoldable pub before : List ℕ → List ℕ → Bool
before [] y = false
before (p ∷ x) [] = false
before (p ∷ x) (q ∷ y) = ltb p q || (eqb p q && before x y)

-- each entry of a list stands before every later one
abbrev pub Ordered : {A : Type 0} → (A → A → Type 0) → List A → Type 0
Ordered R [] = Unit {0}
Ordered R (a ∷ l) = ((b : _) → Memᴰ b l → R a b) × Ordered R l

-- after its first k actions a task holds device d with e extra units: one of them claimed it with these, and none after that one released it
abbrev pub StillHeldWith : ℕ → ℕ → Task → ℕ → Type 0
StillHeldWith d e task k =
    (p : ℕ) × (p < k) × (get_or task p (claim 0 0) ≡ claim d e) × ((q : ℕ) → p < q → q < k → get_or task q (claim 0 0) ≡ release d → ⊥)

-- with however many units
abbrev pub StillHeld : ℕ → Task → ℕ → Type 0
StillHeld d task k = (e : ℕ) × StillHeldWith d e task k

-- an action claims a device, with however many units
abbrev pub Claims : Action → ℕ → Type 0
Claims a d = (e : ℕ) × (a ≡ claim d e)

-- some action of some task claims device d
abbrev pub IsClaimed : Set → ℕ → Type 0
IsClaimed s d = (t p : ℕ) × (t < length s.tasks) × (p < length (task_at s t)) × Claims (action_at s t p) d

-- each declared device is claimed
abbrev pub AllClaimed : Set → Type 0
AllClaimed s = (d : ℕ) → d < length s.capacities → IsClaimed s d

-- d is declared, no task claims it, and every device before it is claimed
pub record LowestUnclaimed (s : Set) (d : ℕ) : Type 0 where
  pub declared : d < length s.capacities
  pub unclaimed : IsClaimed s d → ⊥
  pub lowest : (e : ℕ) → e < d → IsClaimed s e
