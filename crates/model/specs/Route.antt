-- The route (SCOPE.md, "Route"; refusals 13, 16, 18, 20, 21).
use Rattle.std.specs.Prelude.{ℕ, zero, suc, ◌-◌, not, cond, ◌&&◌, List, [], ◌∷◌, length, replicate, eqb, ltb}
use Rattle.model.specs.Answer.{Answer, given, refused, ◌then◌, if_given}
use Rattle.model.specs.Set.{Set, lengths_of, at}
use Rattle.model.specs.State.{State, next, unfinished, is_end, sum, rank}
use Rattle.model.specs.Read.{read}
use Rattle.model.specs.Record.{Record, map_fits, placed}
use Rattle.model.specs.Slice.{over}

module _ (ls m : List ℕ) where
  -- the smallest task from t on, of k tasks, whose step lands on byte 0; t + k if there is none
  unfoldable pub step_from : ℕ → ℕ → State → ℕ
  step_from zero t x = t
  step_from (suc k) t x = cond (unfinished ls x t && eqb (at m (rank ls (next x t))) 0) t (step_from k (suc t) x)

  -- the smallest of all tasks; their number if there is none
  abbrev pub first_step : State → ℕ
  first_step x = step_from (length ls) 0 x

  -- the walk of at most k steps from x: always the smallest task whose step lands on byte 0
  unfoldable pub walk : ℕ → State → List ℕ
  walk zero x = []
  walk (suc k) x = let t = first_step x in cond (ltb t (length ls)) (t ∷ walk k (next x t)) []

  -- as many steps as actions are left
  abbrev pub steps_from : State → List ℕ
  steps_from x = walk (sum ls - sum x) x

-- the state after these steps
unfoldable pub walked : State → List ℕ → State
walked x [] = x
walked x (t ∷ ts) = walked (next x t) ts

-- the route from x, an open state by its byte: 18 where the walk stops before the end
unfoldable pub route_from : List ℕ → List ℕ → State → Answer (List ℕ)
route_from ls m x =
    let ts = steps_from ls m x in
    let y = walked x ts in
    cond (not (is_end ls y)) (refused 18 (rank ls y)) (given ts)

-- the route on an accepted set: first the map's length, the record and its own byte
unfoldable pub route_steps : Set → List ℕ → Record → Answer (List ℕ)
route_steps s m r =
    map_fits s m then λ grid.
    placed s r then λ x.
    let ls = lengths_of s in
    let b = at m (rank ls x) in
    cond (eqb b 1) (refused 16 0)
    (cond (ltb 3 b) (refused 18 (rank ls x))
    (cond (not (eqb b 0)) (refused 20 (rank ls x))
    (route_from ls m x)))

-- 21: a slice shorter than the route; else the route's steps
unfoldable pub route_fits : List ℕ → List ℕ → Answer (List ℕ)
route_fits slice ts = cond (ltb (length slice) (length ts)) (refused 21 (length ts)) (given ts)

-- the answer, which is the number of steps, and the route slice afterwards
pub record Routed : Type 0 where
  pub answer : Answer ℕ
  pub route : List ℕ

-- a route from the state in a record; words, map and slice are lent, and a refused route fills its slice with 255
abbrev pub route : List ℕ → List ℕ → Record → List ℕ → Routed
route words m r slice =
    let steps = read words then λ s. route_steps s m r then λ ts. route_fits slice ts in
    record {
      answer = steps then λ ts. given (length ts);
      route = if_given steps (λ ts. over ts slice) (replicate (length slice) 255);
    }
