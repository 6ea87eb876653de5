-- One step of the code's walk is one step of the model's.
use Prim.Native.Nat.{ℕ, zero, suc, ◌+◌, ◌-◌, ◌<◌, ◌≤◌}
use native.Mathlib.Omega.{arith}
use native.Mathlib.Numerals.{add-one}
use mathlib.Core.Path.{◌≡◌, refl, sym, ap, ◌∙◌}
use mathlib.Core.Bool.{true}
use mathlib.Core.List.{List, [], ◌∷◌, ◌++◌}
use lib.ListN.{length, get_or, take, drop, set, length-drop}
use lib.Seq.{drop-cons, take-suc, take-length, append_snoc, set_at, length-take-le}
use borrow.Author.Tests.{ltb-true, lt-ltb, le-ltb}
use Rattle.model.specs.Set.{at}
use Rattle.model.specs.State.{State, next, unfinished, sum, rank, InGrid}
use Rattle.model.specs.Route.{first_step, walk, steps_from, walked}
use Rattle.model.proofs.Bools.{and-true}
use Rattle.model.proofs.Sums.{sum-next, sum_lt}
use Rattle.model.proofs.RouteStep.{step-lands}
use Rattle.route.specs.Walks.{WalkDone}

module _ (ls m : List ℕ) (x : State) where
  abbrev t : ℕ
  t = first_step ls m x

  -- the task of the first step is unfinished
  pub first-unfinished : first_step ls m x < length ls → unfinished ls x (first_step ls m x) ≡ true
  first-unfinished h = (and-true (unfinished ls x t) _ (step-lands ls m x (length ls) 0 (omega arith))).0

  walk-cons : (k : ℕ) → t < length ls → walk ls m (suc k) x ≡ t ∷ walk ls m k (next x t)
  unfolding walk
  walk-cons k h = rw (lt-ltb t (length ls) h)

  walk_none : (k : ℕ) → length ls ≤ t → walk ls m k x ≡ []
  unfolding walk
  walk_none zero h = refl
  walk_none (suc k) h = rw (le-ltb t (length ls) h)

  -- with a first step, the walk is that step and the walk from the next state
  steps-cons : InGrid ls x → t < length ls → steps_from ls m x ≡ t ∷ steps_from ls m (next x t)
  steps-cons g h =
      let u = ltb-true (at x t) (at ls t) (first-unfinished h) in
      let more : sum ls - sum x ≡ suc (sum ls - sum (next x t)) =
      omega (arith, sum_lt ls x g t u, sum-next x t (omega (arith, g.count))) in
      ap (λ (k : ℕ). walk ls m k x) more ∙ walk-cons (sum ls - sum (next x t)) h

  steps-none : length ls ≤ t → steps_from ls m x ≡ []
  steps-none h = walk_none (sum ls - sum x) h

-- on the way along the steps ts to z: at x so many steps are done, those from here are the rest, and where the done ones fit they stand in the slice
pub record Along (ls m ts : List ℕ) (z : State) (slice₀ : List ℕ) (x : State) (steps : ℕ) (slice : List ℕ) : Type 0 where
  pub rest : drop steps ts ≡ steps_from ls m x
  pub passed : steps ≤ length ts
  pub ends : z ≡ walked x (steps_from ls m x)
  pub kept : length slice ≡ length slice₀
  pub written : steps ≤ length slice₀ → slice ≡ take steps ts ++ drop steps slice₀

pub at_start : (ls m : List ℕ) (x : State) (slice : List ℕ) → Along ls m (steps_from ls m x) (walked x (steps_from ls m x)) slice x 0 slice
at_start ls m x slice = record { rest = refl; passed = omega arith; ends = refl; kept = refl; written = λ h. refl }

-- one more byte after those written
store : (ts slice : List ℕ) (steps : ℕ) → steps < length ts → steps < length slice
    → set (take steps ts ++ drop steps slice) steps (get_or ts steps 0) ≡ take (suc steps) ts ++ drop (suc steps) slice
store ts slice steps h k =
    let done = length-take-le steps ts (omega arith) in
    rw (drop-cons slice steps 0 k, set_at (take steps ts) (get_or slice steps 0) (drop (suc steps) slice) (get_or ts steps 0) steps done)
    (rw (take-suc ts steps 0 h, append_snoc))

module _ (ls m ts : List ℕ) (z : State) (slice₀ : List ℕ) (x : State) (steps : ℕ) (slice : List ℕ) (a : Along ls m ts z slice₀ x steps slice)
    (g : InGrid ls x) where
  -- a step taken, and written where there is room
  module _ (h : first_step ls m x < length ls) where
    more : drop steps ts ≡ first_step ls m x ∷ steps_from ls m (next x (first_step ls m x))
    more = a.rest ∙ steps-cons ls m x g h

    left : steps < length ts
    left = omega (arith, ap length more, length-drop steps ts)

    split : get_or ts steps 0 ∷ drop (suc steps) ts ≡ first_step ls m x ∷ steps_from ls m (next x (first_step ls m x))
    split = sym (drop-cons ts steps 0 left) ∙ more

    pub step-along : (slice' : List ℕ) → length slice' ≡ length slice → (steps < length slice → slice' ≡ set slice steps (first_step ls m x))
        → Along ls m ts z slice₀ (next x (first_step ls m x)) (steps + 1) slice'
    unfolding walked
    step-along slice' same stored =
        let e = split in
        let first : get_or ts steps 0 ≡ first_step ls m x = cc in
        let rest : drop (suc steps) ts ≡ steps_from ls m (next x (first_step ls m x)) = cc in
        record {
          rest = rw (add-one steps) rest;
          passed = omega (arith, left);
          ends = a.ends ∙ ap (walked x) (steps-cons ls m x g h);
          kept = same ∙ a.kept;
          written = λ k.
              let room : steps < length slice₀ = omega arith in
              stored (omega (arith, a.kept)) ∙ rw (a.written (omega arith), ← first, add-one steps) (store ts slice₀ steps left room);
        }

-- no step is left: the walk is whole
pub stopped : (ls m : List ℕ) (x₀ : State) (slice₀ : List ℕ) (x : State) (steps r : ℕ) (slice : List ℕ)
    → Along ls m (steps_from ls m x₀) (walked x₀ (steps_from ls m x₀)) slice₀ x steps slice → InGrid ls x → length ls ≤ first_step ls m x → r ≡ rank ls x
    → WalkDone ls m x₀ slice₀ (record { steps = steps; rank = r }) slice
unfolding walked
stopped ls m x₀ slice₀ x steps r slice a g none is-rank =
    let ts = steps_from ls m x₀ in
    let done : steps ≡ length ts = omega (arith, ap length (a.rest ∙ steps-none ls m x none), length-drop steps ts, a.passed) in
    let here : walked x₀ ts ≡ x = a.ends ∙ ap (walked x) (steps-none ls m x none) in
    record {
      steps = done;
      grid = rw here g;
      ends = is-rank ∙ ap (rank ls) (sym here);
      kept = a.kept;
      written = λ k. a.written (omega arith) ∙ rw (done, take-length);
    }
