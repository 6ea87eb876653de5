-- Holds of a task, units held at a state, and permitted states (SCOPE.md, "States and holds").
use Rattle.std.specs.Prelude.{ℕ, suc, max, ◌+◌, ◌<◌, Bool, not, cond, ◌&&◌, List, [], ◌∷◌, length, eqb, ltb, leb}
use Rattle.model.specs.Below.{any}
use Rattle.model.specs.Set.{claim, release, Task, Set, at}
use Rattle.model.specs.State.{State}

-- the positions from low to high, both counted
pub record Interval : Type 0 where
  pub low : ℕ
  pub high : ℕ

-- position p is one of them
abbrev pub within : Interval → ℕ → Bool
within i p = leb i.low p && leb p i.high

-- the last position before device d is released, of a task that has done p actions and has these left
unfoldable pub held_to : ℕ → ℕ → Task → ℕ
held_to d p [] = p
held_to d p (claim c e ∷ rest) = held_to d (suc p) rest
held_to d p (release c ∷ rest) = cond (eqb c d) p (held_to d (suc p) rest)

-- a hold: the positions that it is over, and its units
pub record Hold : Type 0 where
  pub over : Interval
  pub units : ℕ

-- the holds of device d, by rising position: a claim as action p, released by action q, holds its units over p to q - 1
unfoldable pub holds_from : ℕ → ℕ → Task → List Hold
holds_from d p [] = []
holds_from d p (release c ∷ rest) = holds_from d (suc p) rest
holds_from d p (claim c e ∷ rest) =
    let more = holds_from d (suc p) rest in
    cond (eqb c d) (record { over = record { low = suc p; high = held_to d (suc p) rest }; units = suc e } ∷ more) more

-- the holds of device d in a whole task
abbrev pub holds : ℕ → Task → List Hold
holds d task = holds_from d 0 task

-- the units that a task with these holds has at position p: the most of its holds over p, 0 if there is none; a task of a well-formed set has one there at most
unfoldable pub units_at : List Hold → ℕ → ℕ
units_at [] p = 0
units_at (h ∷ hs) p = max (cond (within h.over p) h.units 0) (units_at hs p)

-- the units of device d held at a state, over all tasks
unfoldable pub held : ℕ → List Task → State → ℕ
held d [] x = 0
held d (task ∷ tasks) [] = 0
held d (task ∷ tasks) (p ∷ x) = units_at (holds d task) p + held d tasks x

-- no device has more units held than its capacity
unfoldable pub permitted : Set → State → Bool
permitted s x = not (any (length s.capacities) (λ d. ltb (at s.capacities d) (held d s.tasks x)))

-- some device has more units held than its capacity
abbrev pub Overfull : Set → State → Type 0
Overfull s x = (d : ℕ) × (d < length s.capacities) × (at s.capacities d < held d s.tasks x)
