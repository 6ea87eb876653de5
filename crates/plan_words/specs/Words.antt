-- Words written into a lent plan.
use Rattle.std.specs.Prelude.{◌≡◌, ℕ, zero, suc, ◌+◌, ◌≤◌, cond, List, [], ◌++◌, Option, Some, None, length, leb}
use Rattle.model.specs.Slice.{write}

-- q is what a call that was to write words at a made of p, and r its answer: where they fit they stand from a on, and the answer is the place after them;
-- else the answer is None, and of q only its length is known, which a lent slice keeps
pub record Wrote (p : List ℕ) (a : ℕ) (ws : List ℕ) (r : Option ℕ) (q : List ℕ) : Type 0 where
  pub answer : r ≡ cond (leb (a + length ws) (length p)) (Some (a + length ws)) None
  pub words : a + length ws ≤ length p → q ≡ write p a ws

-- what f gives for each of the k numbers from i on, one after the other
unfoldable pub up_to : ℕ → ℕ → (ℕ → List ℕ) → List ℕ
up_to zero i f = []
up_to (suc k) i f = f i ++ up_to k (i + 1) f
