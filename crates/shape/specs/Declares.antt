-- How words, shape and set belong together: what every layer may assume of a set that was read.
use Rattle.std.specs.Prelude.{ℕ, ◌+◌, ◌<◌, ◌≡◌, List, length}
use Rattle.model.specs.Set.{Set, task_at, action_at, at}
use Rattle.model.specs.Layout.{action_of, WellFormed}
use Rattle.shape.specs.declared.Shape.{Shape}
use Rattle.shape.specs.ShapeOf.{shape_of}

-- the set s is well formed, the shape is that of s, and the words have the actions of s where the shape says
pub record Declares (words : List ℕ) (shape : Shape) (s : Set) : Type 0 where
  pub well_formed : WellFormed s
  pub shaped : shape ≡ shape_of s
  -- the actions of each task stand among the words, from its start on
  pub inside : (t p : ℕ) → p < length (task_at s t) → at shape.starts t + p < length words
  pub action : (t p : ℕ) → p < length (task_at s t) → action_of (at words (at shape.starts t + p)) ≡ action_at s t p
