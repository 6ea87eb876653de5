-- The shape of a set: its counts, and its lists as arrays.
use Rattle.std.specs.Prelude.{ℕ, ◌+◌, List, [], ◌∷◌, length}
use Rattle.model.specs.Below.{tabulate}
use Rattle.model.specs.Set.{Task, Set, lengths_of, at, size}
use Rattle.model.specs.State.{weight}
use Rattle.shape.specs.declared.Shape.{Shape}

-- an array of n numbers: those of the list, then 0
abbrev pub padded : ℕ → List ℕ → List ℕ
padded n l = tabulate n (at l)

-- the index of each task's first action word, where n words come before the tasks
unfoldable pub starts_from : ℕ → List Task → List ℕ
starts_from n [] = []
starts_from n (task ∷ tasks) = (n + 1) ∷ starts_from (n + 1 + length task) tasks

-- the weight of each task, by the action counts
abbrev pub weights_of : List ℕ → List ℕ
weights_of ls = tabulate (length ls) (weight ls)

-- the shape of a set
abbrev pub shape_of : Set → Shape
shape_of s =
    record {
      devices = length s.capacities;
      capacities = padded 16 s.capacities;
      tasks = length s.tasks;
      lengths = padded 8 (lengths_of s);
      starts = padded 8 (starts_from (length s.capacities) s.tasks);
      weights = padded 8 (weights_of (lengths_of s));
      grid = size (lengths_of s);
    }
