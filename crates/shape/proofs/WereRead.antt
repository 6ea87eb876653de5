-- Words whose set is declared were read without a refusal: a refused list declares no task, and a well formed set has one.
use Prim.Native.Nat.{ℕ}
use native.Mathlib.Omega.{arith}
use mathlib.Core.Path.{◌≡◌, refl}
use mathlib.Core.List.{List}
use Rattle.model.specs.Answer.{given, refused}
use Rattle.model.specs.Layout.{WellFormed}
use Rattle.model.specs.Read.{Reading, read, set_of, set_in}
use Rattle.shape.specs.declared.Shape.{Shape}
use Rattle.shape.specs.Declares.{Declares}

of_reading : (r : Reading) → WellFormed (set_of r) → r ≡ given (set_of r)
unfolding set_of
of_reading (given s) w = refl
of_reading (refused n p) w = absurd (let f : ⊥ = omega (arith, w.some_task) in f)

pub accepted : {words : List ℕ} {shape : Shape} → Declares words shape (set_in words) → read words ≡ given (set_in words)
accepted {words} d = of_reading (read words) d.well_formed
