-- Boxes: an interval of positions for each task (SCOPE.md, "Forbidden boxes").
use Rattle.std.specs.Prelude.{ℕ, Bool, true, false, cond, ◌&&◌, ◌||◌, List, [], ◌∷◌, get_or}
use Rattle.model.specs.State.{State}
use Rattle.model.specs.Hold.{Interval, within}

-- an interval of positions for each task
abbrev pub Box : Type 0
Box = List Interval

-- the interval of task t
abbrev pub side : Box → ℕ → Interval
side b t = get_or b t (record { low = 0; high = 0 })

-- each task's position lies in its interval
unfoldable pub inside : Box → State → Bool
inside [] [] = true
inside [] (p ∷ x) = false
inside (i ∷ b) [] = false
inside (i ∷ b) (p ∷ x) = within i p && inside b x

-- some box holds the state
unfoldable pub covered : List Box → State → Bool
covered [] x = false
covered (b ∷ bs) x = inside b x || covered bs x

-- the first box that holds the state, the empty list if none does
unfoldable pub first_box : List Box → State → Box
first_box [] x = []
first_box (b ∷ bs) x = cond (inside b x) b (first_box bs x)
