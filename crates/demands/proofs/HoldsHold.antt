-- What a task holds, its holds, the units held of a device and the permitted states are as SCOPE.md, "States and holds", says.
use Prim.Native.Nat.{ℕ, zero, suc, ◌+◌}
use native.Mathlib.Omega.{arith}
use mathlib.Core.Path.{◌≡◌, refl}
use mathlib.Core.Bool.{false}
use mathlib.Core.List.{List, [], ◌∷◌}
use lib.ListN.{length, get_or}
use Rattle.model.specs.Below.{any}
use Rattle.model.specs.Set.{Task, lengths, task_at, at, size}
use Rattle.model.specs.State.{State, InGrid, is_end, weight, state_at}
use Rattle.model.specs.Hold.{held_to, holds_from, holds, units_at, held, permitted}
use Rattle.model.specs.Map.{steps_onto, byte, last_bytes, bytes}
use Rattle.model.proofs.Ranks.{tail-grid}
use Rattle.model.proofs.HoldWalk.{holds-walk}
use Rattle.model.proofs.Permitted.{permitted-intro, permitted-fits}
use Rattle.demands.specs.Terms.{sum_below}
use Rattle.demands.specs.Holds.{HoldsRight}
use Rattle.demands.proofs.StillHeldSteps.{walk-with, walk_none}
use Rattle.demands.proofs.HoldList.{holds-rise, holds-listed}

-- added up from the other end
pub sum_first : (n : ℕ) (f : ℕ → ℕ) → sum_below (suc n) f ≡ f 0 + sum_below n (λ t. f (suc t))
unfolding sum_below
sum_first zero f = refl
sum_first (suc n) f = omega (arith, sum_first n f)

sum-held : (d : ℕ) (tasks : List Task) (x : State) → InGrid (lengths tasks) x
    → held d tasks x ≡ sum_below (length tasks) (λ t. units_at (holds d (get_or tasks t [])) (at x t))
unfolding held sum_below
sum-held d [] x g = refl
sum-held d (task ∷ tasks) [] g = absurd (omega (arith, g.count))
sum-held d (task ∷ tasks) (p ∷ x) g =
    rw (sum-held d tasks x (tail-grid g), sum_first (length tasks) (λ t. units_at (holds d (get_or (task ∷ tasks) t [])) (at (p ∷ x) t)))

pub holds-hold : HoldsRight
unfolding any size is_end weight state_at held_to holds_from units_at held permitted steps_onto byte last_bytes bytes
holds-hold = record {
  twice_holds = refl;
  twice_map = refl;
  holds_right = λ rules s w. record {
    after = λ t d k e h l.
        let b = (w.each_task t h).balance d in
        rw (holds-walk d k (task_at s t) b l) (walk-with d (task_at s t) b e k l);
    after_none = λ t d k h l.
        let b = (w.each_task t h).balance d in
        rw (holds-walk d k (task_at s t) b l) (walk_none d (task_at s t) b k l);
    listed = λ t d i h. holds-listed d (task_at s t) i ((w.each_task t h).balance d);
    rising = λ t d h. holds-rise d 0 false (task_at s t) ((w.each_task t h).balance d);
    together = λ d x g. sum-held d s.tasks x g;
    permits = λ x. (permitted-fits s x, permitted-intro s x);
  };
}
