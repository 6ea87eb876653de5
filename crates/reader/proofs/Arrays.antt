-- Lists as arrays: one entry more.
use Prim.Native.Nat.{ℕ, zero, suc}
use mathlib.Core.Path.{◌≡◌, refl, ap}
use mathlib.Core.List.{List, [], ◌∷◌, ◌++◌}
use lib.ListN.{length, get_or, set}
use Rattle.model.specs.Below.{tabulate}
use Rattle.shape.specs.ShapeOf.{padded}

pub padded-add : (n : ℕ) (l : List ℕ) (x : ℕ) → set (padded n l) (length l) x ≡ padded n (l ++ x ∷ [])
unfolding tabulate
padded-add zero l x = refl
padded-add (suc n) [] x = refl
padded-add (suc n) (a ∷ l) x = ap {B = List ℕ} (λ m. a ∷ m) (padded-add n l x)

pub padded-zero : (n : ℕ) (l : List ℕ) → padded n (l ++ 0 ∷ []) ≡ padded n l
unfolding tabulate
padded-zero zero l = refl
padded-zero (suc n) [] = refl
padded-zero (suc n) (a ∷ l) = ap {B = List ℕ} (λ m. a ∷ m) (padded-zero n l)

pub padded-past : (n : ℕ) (l : List ℕ) → get_or (padded n l) (length l) 0 ≡ 0
unfolding tabulate
padded-past zero l = refl
padded-past (suc n) [] = refl
padded-past (suc n) (a ∷ l) = padded-past n l
