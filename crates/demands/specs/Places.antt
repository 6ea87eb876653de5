-- What the statements use of the definitions to look something up: the entry at a place, each by itself.
use Rattle.std.specs.Prelude.{ℕ, ◌≡◌, List, [], map, length, get_or}
use Rattle.model.specs.Set.{claim, Set, lengths_of, task_at, action_at, at}
use Rattle.model.specs.Answer.{given}
use Rattle.model.specs.Read.{read, set_in}
use Rattle.model.specs.Box.{Box, side}
use Rattle.demands.specs.Terms.{◌to◌}

pub record Places : Type 0 where
  -- a number of a list, 0 past its end; a task, an action and a side, counted from 0
  pub number : (l : List ℕ) (t : ℕ) → at l t ≡ get_or l t 0
  pub task : (s : Set) (t : ℕ) → task_at s t ≡ get_or s.tasks t []
  pub action : (s : Set) (t p : ℕ) → action_at s t p ≡ get_or (get_or s.tasks t []) p (claim 0 0)
  pub a_side : (b : Box) (t : ℕ) → side b t ≡ get_or b t (0 to 0)
  -- the L of each task
  pub counts : (s : Set) → lengths_of s ≡ map length s.tasks
  -- the set of accepted words
  pub set_read : (words : List ℕ) (s : Set) → read words ≡ given s → set_in words ≡ s
