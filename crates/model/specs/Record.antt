-- The broker's record (SCOPE.md, "Broker"), and two tests that calls share: 13 for a lent map, 16 for a record that doesn't fit the set.
use Rattle.std.specs.Prelude.{ℕ, Bool, cond, ◌&&◌, ◌||◌, List, length, take, replicate, ltb, leb}
use Rattle.model.specs.Below.{any}
use Rattle.model.specs.Answer.{Answer, given, refused}
use Rattle.model.specs.Set.{Set, lengths_of, at, size}
use Rattle.model.specs.State.{State}

-- eight positions, a grant number, and for each task its grants in the present window
pub record Record : Type 0 where
  pub positions : List ℕ
  pub grants : ℕ
  pub counts : List ℕ

-- the record that a service starts with: all 0
abbrev pub fresh : Record
fresh = record { positions = replicate 8 0; grants = 0; counts = replicate 8 0 }

-- the state that a record gives the tasks of a set
abbrev pub state_in : Set → Record → State
state_in s r = take (length s.tasks) r.positions

-- a position over its L, or not 0 for an absent task, whose L counts as 0
unfoldable pub misplaced : Set → Record → Bool
misplaced s r = any 8 (λ t. ltb (at (lengths_of s) t) (at r.positions t))

-- a count of an absent task
unfoldable pub miscounted : Set → Record → Bool
miscounted s r = any 8 (λ t. leb (length s.tasks) t && ltb 0 (at r.counts t))

-- either: a record that doesn't fit the set
abbrev pub unfit : Set → Record → Bool
unfit s r = misplaced s r || miscounted s r

-- 13: a map slice shorter than the grid; else the grid
unfoldable pub map_fits : Set → List ℕ → Answer ℕ
map_fits s m = let grid = size (lengths_of s) in cond (ltb (length m) grid) (refused 13 grid) (given grid)

-- 16: a record that doesn't fit the set; else its state
unfoldable pub placed : Set → Record → Answer State
placed s r = cond (unfit s r) (refused 16 0) (given (state_in s r))
