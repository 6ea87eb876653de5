-- What a walk has found, as the model's location.
use Prim.Native.Nat.{ℕ}
use mathlib.Core.Path.{◌≡◌, refl, ap}
use mathlib.Core.Bool.{Bool, true, false, cond, ◌&&◌}
use mathlib.Core.Option.{Option, none, some}
use Rattle.model.specs.Answer.{Answer, given, refused, ◌then◌}
use Rattle.model.specs.StoredPlan as model
use Rattle.model.specs.StoredPlan.{in-forbidden, in-unsafe, in_neither}
use Rattle.plan_reader.specs.declared.Location.{Location}
use Rattle.plan_reader.specs.declared.Location.TheVariants.{Forbidden, Unsafe, Neither}
use Rattle.plan_reader.specs.Says.{location_of}
use Rattle.plan_reader.specs.Walk.{nothing_found}

-- where the state lies, by the box that was found, or else by the first ones of each kind
unfoldable pub lies : Location → Option ℕ → Option ℕ → model.Location
lies (Forbidden i) f u = in-forbidden i
lies (Unsafe i) f u = in-unsafe i
lies Neither f u = model.location_of f u

-- what was found is the answer where no box follows
pub found-answer : (found : Location) → location_of found ≡ lies found none none
unfolding location_of lies model.location_of
found-answer (Forbidden i) = refl
found-answer (Unsafe i) = refl
found-answer Neither = refl

-- a box that begins at index i, which holds the state or not: it is found unless another was
pub lies-forbidden : (found : Location) (h : Bool) (i : ℕ) (f u : Option ℕ)
    → lies (cond (nothing_found found && h) (Forbidden i) found) f u ≡ lies found (cond h (some i) f) u
unfolding lies model.location_of
lies-forbidden (Forbidden j) h i f u = refl
lies-forbidden (Unsafe j) h i f u = refl
lies-forbidden Neither true i f u = refl
lies-forbidden Neither false i f u = refl

pub lies-unsafe : (found : Location) (h : Bool) (i : ℕ) (u : Option ℕ)
    → lies (cond (nothing_found found && h) (Unsafe i) found) none u ≡ lies found none (cond h (some i) u)
unfolding lies model.location_of
lies-unsafe (Forbidden j) h i u = refl
lies-unsafe (Unsafe j) h i u = refl
lies-unsafe Neither true i u = refl
lies-unsafe Neither false i u = refl

-- answers that are the same if there is one
pub same_then : (a : Answer (Unit {0})) (l m : model.Location) → (a ≡ given tt → l ≡ m) → (a then λ _. given l) ≡ (a then λ _. given m)
unfolding ◌then◌
same_then (given tt) l m h = ap given (h refl)
same_then (refused k p) l m h = refl
