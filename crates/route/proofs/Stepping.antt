-- What the search for a step found, and where the task found takes the code.
use Prim.Native.Nat.{ℕ, ◌+◌, ◌-◌, ◌<◌, ◌≤◌}
use native.Mathlib.Omega.{arith}
use mathlib.Core.Path.{◌≡◌, sym, ap, ◌∙◌}
use mathlib.Core.Bool.{true, cond}
use mathlib.Core.List.{List}
use lib.ListN.{length, take, set}
use lib.Dec.{ltb}
use borrow.Author.Tests.{ltb-true, ltb-false}
use Rattle.std.specs.Prelude.{Option, Some, None}
use Rattle.model.specs.Set.{at}
use Rattle.model.specs.State.{State, unfinished, sum}
use Rattle.model.specs.Route.{first_step}
use Rattle.model.proofs.Bools.{by_bool}
use Rattle.model.proofs.Ranks.{weight-pos}
use Rattle.model.proofs.Sums.{sum-next, sum_lt}
use Rattle.route.specs.Walks.{OnGrid}
use Rattle.route.proofs.Standing.{tasks-counted, unfinished-is, next-is}
use Rattle.route.proofs.Walking.{first-unfinished, Along, step-along}

-- the first of n tasks, if there is one
abbrev Found : Option ℕ → ℕ → ℕ → Type 0
Found r f n = r ≡ cond (ltb f n) (Some f) None

pub is-found : (t f n : ℕ) → Found (Some t) f n → (t ≡ f) × (t < n)
is-found t f n e =
    by_bool (ltb f n)
    (λ l. let same : t ≡ f = (let s : Some t ≡ Some f = rw l at e in cc) in (same, rw same (ltb-true f n l)))
    (λ l. let no : Some t ≡ None = rw l at e in absurd cc)

pub none-found : (f n : ℕ) → Found None f n → n ≤ f
none-found f n e =
    by_bool (ltb f n) (λ l. let no : None ≡ Some f = rw l at e in absurd cc) (ltb-false f n)

module _ (map : List ℕ) (n : ℕ) (lengths weights positions : List ℕ) (r : ℕ) (s : OnGrid map n lengths weights positions r) (t : ℕ)
    (found : t ≡ first_step (take n lengths) map (take n positions)) (h : t < n) where
  abbrev ls : List ℕ
  ls = take n lengths

  abbrev x : State
  x = take n positions

  in-range : t < length ls
  in-range = omega (arith, tasks-counted map n lengths weights positions r s)

  has-step : unfinished ls x t ≡ true
  has-step = rw found (first-unfinished ls map x (rw found at in-range))

  -- the task has an action left
  pub has-action : at positions t < at lengths t
  has-action = ltb-true (at positions t) (at lengths t) (sym (unfinished-is map n lengths weights positions r s t h) ∙ has-step)

  -- the rank rises
  pub rises : 1 ≤ at weights t
  rises = rw (s.weighs t h) (weight-pos ls t)

  -- fewer lengths are left
  pub falls : sum ls - sum (take n (set positions t (at positions t + 1))) < sum ls - sum x
  falls =
      rw (next-is map n lengths weights positions r s t h)
      (omega (
        arith,
        sum-next x t (omega (arith, s.grid.count, in-range)),
        sum_lt ls x s.grid t (ltb-true (at x t) (at ls t) has-step),
      ))

  -- and the code is one step further on its way
  pub goes-along : (ts : List ℕ) (z : State) (slice₀ : List ℕ) (steps : ℕ) (slice slice' : List ℕ) → Along ls map ts z slice₀ x steps slice
      → length slice' ≡ length slice → (steps < length slice → slice' ≡ set slice steps t)
      → Along ls map ts z slice₀ (take n (set positions t (at positions t + 1))) (steps + 1) slice'
  goes-along ts z slice₀ steps slice slice' a same stored =
      rw (next-is map n lengths weights positions r s t h, found)
      (step-along ls map ts z slice₀ x steps slice a s.grid (rw found at in-range) slice' same (λ l. stored l ∙ ap (set slice steps) found))
