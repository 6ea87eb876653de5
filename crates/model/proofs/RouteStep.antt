-- The search for the smallest task whose step lands on byte 0: it finds one that has such a step, wherever there is one, and none before it has.
use Prim.Native.Nat.{ℕ, zero, suc, ◌+◌, ◌<◌, ◌≤◌}
use native.Mathlib.Omega.{arith}
use mathlib.Core.Path.{◌≡◌}
use mathlib.Core.Bool.{true, false}
use mathlib.Core.List.{List}
use lib.Dec.{eqb}
use borrow.Author.Tests.{eqb-true, eqb-false}
use Rattle.model.specs.State.{State}
use Rattle.model.specs.Route.{step_from}
use Rattle.model.proofs.Bools.{by_bool, true-not-false}
use Rattle.model.proofs.Moves.{moves}

module _ (ls m : List ℕ) (x : State) where
  -- a task found by the search has a step onto 0
  pub step-lands : (k t : ℕ) → step_from ls m k t x < t + k → moves ls m x (step_from ls m k t x) ≡ true
  unfolding step_from
  step-lands zero t h = absurd (omega arith)
  step-lands (suc k) t h =
      by_bool (moves ls m x t) (λ e. rw (e, e)) (λ e. rw e (step-lands k (suc t) (omega (arith, rw e at h))))

  -- and where a task has one, the search finds one
  pub step-found : (k t u : ℕ) → t ≤ u → u < t + k → moves ls m x u ≡ true → step_from ls m k t x < t + k
  unfolding step_from
  step-found zero t u l h e = absurd (omega arith)
  step-found (suc k) t u l h e =
      by_bool (moves ls m x t)
      (λ f. rw f (omega arith))
      (λ f.
      by_bool (eqb t u)
      (λ q. true-not-false (moves ls m x t) (rw (eqb-true t u q) e) f)
      (λ q. rw f (omega (arith, step-found k (suc t) u (omega (arith, eqb-false t u q)) (omega arith) e))))

  -- no task before the one that it finds has such a step
  pub step-smallest : (k t u : ℕ) → t ≤ u → u < step_from ls m k t x → moves ls m x u ≡ false
  unfolding step_from
  step-smallest zero t u l h = absurd (omega arith)
  step-smallest (suc k) t u l h =
      by_bool (moves ls m x t)
      (λ e. absurd (omega (arith, rw e at h)))
      (λ e.
      by_bool (eqb t u)
      (λ q. rw (eqb-true t u q) at e)
      (λ q. step-smallest k (suc t) u (omega (arith, eqb-false t u q)) (rw e at h)))
