-- Where a task's holds lie: after its start and before its close.
use Prim.Native.Nat.{ℕ, suc, ◌+◌, ◌<◌, ◌≤◌}
use native.Mathlib.Omega.{arith}
use mathlib.Core.Path.{◌≡◌, refl}
use mathlib.Core.Bool.{Bool, true, false, not}
use mathlib.Core.List.{[], ◌∷◌}
use lib.ListN.{length}
use lib.Dec.{eqb}
use borrow.Author.Tests.{lt-leb, le-leb}
use Rattle.model.specs.Set.{claim, release, Task, balanced}
use Rattle.model.specs.Hold.{held_to, holds_from, units_at}
use Rattle.model.proofs.Bools.{by_bool, true-not-false, and-true}

-- no hold is over the positions that the task has passed
pub not-before : (d p : ℕ) (task : Task) (q : ℕ) → q ≤ p → units_at (holds_from d p task) q ≡ 0
unfolding units_at holds_from
not-before d p [] q h = refl
not-before d p (release e ∷ rest) q h = not-before d (suc p) rest q (omega arith)
not-before d p (claim e u ∷ rest) q h =
    let later = not-before d (suc p) rest q (omega arith) in
    by_bool (eqb e d) (λ k. rw (k, lt-leb (suc p) q (omega arith), later)) (λ k. rw k later)

-- what is held is released before the close
pub released : (d p : ℕ) (task : Task) → balanced d true task ≡ true → held_to d p task < p + length task
unfolding balanced held_to
released d p [] b = true-not-false false b refl
released d p (claim e u ∷ rest) b =
    by_bool (eqb e d) (λ k. true-not-false false (rw k at b) refl) (λ k. omega (arith, released d (suc p) rest (rw k at b)))
released d p (release e ∷ rest) b =
    by_bool (eqb e d) (λ k. rw k (omega arith)) (λ k. rw k (omega (arith, released d (suc p) rest (rw k at b))))

-- so no hold is over the close
pub not-at-close : (d p : ℕ) (h : Bool) (task : Task) → balanced d h task ≡ true → (q : ℕ) → q ≡ p + length task → units_at (holds_from d p task) q ≡ 0
unfolding balanced units_at holds_from
not-at-close d p h [] b q e = refl
not-at-close d p h (claim c u ∷ rest) b q e =
    by_bool (eqb c d)
    (λ k.
    let b' = (and-true (not h) (balanced d true rest) (rw k at b)).1 in
    let high = released d (suc p) rest b' in
    rw (k, le-leb (suc p) q (omega arith), lt-leb q (held_to d (suc p) rest) (omega arith), not-at-close d (suc p) true rest b' q (omega arith)))
    (λ k. rw k (not-at-close d (suc p) h rest (rw k at b) q (omega arith)))
not-at-close d p h (release c ∷ rest) b q e =
    by_bool (eqb c d)
    (λ k. not-at-close d (suc p) false rest (and-true h (balanced d false rest) (rw k at b)).1 q (omega arith))
    (λ k. not-at-close d (suc p) h rest (rw k at b) q (omega arith))
