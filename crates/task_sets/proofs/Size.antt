-- The count of ones of a mask is the number of its tasks.
use mathlib.Core.Path.{◌≡◌, ap, ◌∙◌}
use mathlib.Core.Bool.{cond}
use mathlib.Core.List.{List, ◌∷◌}
use Prim.Native.Nat.{ℕ, zero, suc, ◌+◌, ◌^◌, ◌/◌, ◌%◌, ◌<◌}
use native.Mathlib.Nat.{mod-lt, pow-suc}
use native.Mathlib.Omega.{arith}
use lib.Arith.{lt-one}
use lib.Count.{ones, ones_in, ones_step}
use lib.Dec.{eqb, lit<}
use lib.ListN.{length}
use Rattle.task_sets.specs.Order.{tasks_from, tasks_of}

-- a bit is 0 or 1, and 1 adds a task
bit : (b t : ℕ) (l : List ℕ) → b < 2 → b + length l ≡ length (cond (eqb b 1) (t ∷ l) l)
bit zero t l h = omega arith
bit (suc zero) t l h = omega arith
bit (suc (suc b)) t l h = absurd (omega arith)

size-from : (n t m : ℕ) → m < 2 ^ n → ones m ≡ length (tasks_from n t m)
unfolding ones ones_in tasks_from
size-from zero t m h = ap ones (lt-one h)
size-from (suc n) t m h =
    ones_step m ∙ ap (λ (k : ℕ). m % 2 + k) (size-from n (suc t) (m / 2) (omega (arith, pow-suc 2 n)))
    ∙ bit (m % 2) t (tasks_from n (suc t) (m / 2)) (mod-lt m (lit< tt))

pub ones-tasks : (m : ℕ) → m < 256 → ones m ≡ length (tasks_of m)
ones-tasks m h = size-from 8 0 m h
