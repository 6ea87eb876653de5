-- What a declared set tells of its shape, entry by entry.
use Prim.Native.Nat.{ℕ, suc, ◌<◌, ◌≤◌}
use native.Mathlib.Omega.{arith}
use mathlib.Core.Path.{◌≡◌, sym, ap, ◌∙◌}
use mathlib.Core.List.{List, []}
use lib.ListN.{length, take, length-map, get_or-map}
use Rattle.model.specs.Set.{Set, lengths_of, task_at, at, size, GoodTask}
use Rattle.model.specs.State.{weight}
use Rattle.model.proofs.Lists.{length-tabulate, get_d_tabulate}
use Rattle.shape.specs.declared.Shape.{Shape}
use Rattle.shape.specs.ShapeOf.{padded, starts_from, weights_of}
use Rattle.shape.specs.Declares.{Declares}
use Rattle.shape.proofs.Padded.{length-padded, padded-at, padded-front}
use Rattle.shape.proofs.Sizes.{size-drop-le}

module _ {words : List ℕ} {shape : Shape} {s : Set} (d : Declares words shape s) where
  lengths-count : length (lengths_of s) ≡ length s.tasks
  lengths-count = length-map {B = ℕ} s.tasks length

  -- the counts
  pub devices-are : shape.devices ≡ length s.capacities
  devices-are = ap (λ (x : Shape). x.devices) d.shaped

  pub tasks-are : shape.tasks ≡ length s.tasks
  tasks-are = ap (λ (x : Shape). x.tasks) d.shaped

  pub grid-is : shape.grid ≡ size (lengths_of s)
  grid-is = ap (λ (x : Shape). x.grid) d.shaped

  pub few-devices : shape.devices ≤ 16
  few-devices = omega (arith, devices-are, d.well_formed.devices)

  pub few-tasks : shape.tasks ≤ 8
  few-tasks = omega (arith, tasks-are, d.well_formed.tasks)

  pub small-grid : shape.grid ≤ 65536
  small-grid = omega (arith, grid-is, d.well_formed.grid)

  -- the arrays' lengths
  pub capacities_all : length shape.capacities ≡ 16
  capacities_all = ap (λ (x : Shape). length x.capacities) d.shaped ∙ length-padded 16 s.capacities

  pub lengths_all : length shape.lengths ≡ 8
  lengths_all = ap (λ (x : Shape). length x.lengths) d.shaped ∙ length-padded 8 (lengths_of s)

  pub starts-all : length shape.starts ≡ 8
  starts-all = ap (λ (x : Shape). length x.starts) d.shaped ∙ length-padded 8 (starts_from (length s.capacities) s.tasks)

  pub weights-all : length shape.weights ≡ 8
  weights-all = ap (λ (x : Shape). length x.weights) d.shaped ∙ length-padded 8 (weights_of (lengths_of s))

  -- their entries
  pub capacity-at : (e : ℕ) → at shape.capacities e ≡ at s.capacities e
  capacity-at e = ap (λ (x : Shape). at x.capacities e) d.shaped ∙ padded-at 16 s.capacities d.well_formed.devices e

  lengths-fit : length (lengths_of s) ≤ 8
  lengths-fit = omega (arith, lengths-count, d.well_formed.tasks)

  pub length_at : (t : ℕ) → at shape.lengths t ≡ at (lengths_of s) t
  length_at t = ap (λ (x : Shape). at x.lengths t) d.shaped ∙ padded-at 8 (lengths_of s) lengths-fit t

  pub length-is : (t : ℕ) → at shape.lengths t ≡ length (task_at s t)
  length-is t = length_at t ∙ get_or-map length s.tasks t []

  -- the first of them are the set's
  pub lengths-taken : take shape.tasks shape.lengths ≡ lengths_of s
  lengths-taken =
      ap (λ (x : Shape). take x.tasks x.lengths) d.shaped ∙ ap (λ (n : ℕ). take n (padded 8 (lengths_of s))) (sym lengths-count)
      ∙ padded-front 8 (lengths_of s) lengths-fit

  weights-count : length (weights_of (lengths_of s)) ≡ shape.tasks
  weights-count = length-tabulate (length (lengths_of s)) (weight (lengths_of s)) ∙ lengths-count ∙ sym tasks-are

  -- the weights are the tasks', and at most the grid
  pub weight-at : (t : ℕ) → t < shape.tasks → at shape.weights t ≡ weight (lengths_of s) t
  weight-at t h =
      ap (λ (x : Shape). at x.weights t) d.shaped
      ∙ padded-at 8 (weights_of (lengths_of s)) (omega (arith, weights-count, few-tasks)) t
      ∙ get_d_tabulate (length (lengths_of s)) (weight (lengths_of s)) t 0 (omega (arith, lengths-count, tasks-are))

  pub weight-small : (t : ℕ) → t < shape.tasks → at shape.weights t ≤ 65536
  unfolding weight
  weight-small t h = rw (weight-at t h) (omega (arith, size-drop-le (suc t) (lengths_of s), d.well_formed.grid))

  -- each task is as it should be
  pub good-task : (t : ℕ) → t < shape.tasks → GoodTask s.capacities (task_at s t)
  good-task t h = d.well_formed.each_task t (omega (arith, tasks-are))
