-- `merge::reading::read_merged` meets its contract: by devices, tasks and states, each case is what is read of the merged words.
use native.Mathlib.Omega.{arith}
use mathlib.Core.Path.{sym}
use Prim.Native.Nat.{◌-◌, ◌<◌, ◌≤◌}
use native.Mathlib.Nat.{mul-le-mul}
use Rattle.refusals.specs.Answers.{answer_of, number_of}
use Rattle.shape.proofs.Declared.{few-tasks, small-grid}
use Rattle.merge.proofs.Parts.{Parts, parts}
use Rattle.merge.proofs.Read.{start-inside, many-devices, many-tasks, many-states, merged-read}
use Rattle.merge.proofs.reading.read_merged.Goals.{Start}
use Rattle.merge.proofs.reading.read_merged.Goals as goal

-- what is known at the start
module _ (c : Start) where
  known : Parts c.args.shared c.args.first.now c.args.second.now
  known = parts _ _ _ c.requires

  tasks : (c.args.first.now.shape.tasks ≤ 8) × (c.args.second.now.shape.tasks ≤ 8)
  tasks = (few-tasks c.args.first.now.declares, few-tasks c.args.second.now.declares)

  grids : (c.args.first.now.shape.grid ≤ 65536) × (c.args.second.now.shape.grid ≤ 65536)
  grids = (small-grid c.args.first.now.declares, small-grid c.args.second.now.declares)

pub overflow_add-first : goal.overflow_add-first
overflow_add-first c = omega (arith, (known (goal.at.overflow_add-first c).Start).few)

pub overflow_sub-first : goal.overflow_sub-first
overflow_sub-first c = omega (arith, (known (goal.at.overflow_sub-first c).Start).shared)

pub returns-then-first-second-gt-MAX_DEVICES : goal.returns-then-first-second-gt-MAX_DEVICES
unfolding answer_of number_of
returns-then-first-second-gt-MAX_DEVICES c =
    rw c.at.ensures (sym (many-devices c.args.shared c.args.first.now c.args.second.now c.requires c.if-first-second-gt-MAX_DEVICES.true))

pub overflow_sub-moved : goal.overflow_sub-moved
overflow_sub-moved c = omega (arith, (known (goal.at.overflow_sub-moved c).Start).first-tasks)

pub overflow_sub-moved-2 : goal.overflow_sub-moved-2
overflow_sub-moved-2 c =
    let k = known (goal.at.overflow_sub-moved-2 c).Start in
    omega (arith, k.first-tasks, k.shared)

pub overflow_add-first-2 : goal.overflow_add-first-2
overflow_add-first-2 c = omega (arith, tasks (goal.at.overflow_add-first-2 c).Start)

pub overflow_sub-ninth : goal.overflow_sub-ninth
overflow_sub-ninth c = omega (arith, tasks (goal.at.overflow_sub-ninth c).Start)

-- the second set has a task more than there is room for, so the first has one
pub bounds-second-ninth : goal.bounds-second-ninth
bounds-second-ninth c = omega (arith, tasks (goal.at.bounds-second-ninth c).Start, c.if-first-second-gt-MAX_TASKS.true)

pub overflow_add-moved : goal.overflow_add-moved
overflow_add-moved c =
    let s = (goal.at.overflow_add-moved c).Start in
    let l : 8 - c.args.first.now.shape.tasks < c.args.second.now.shape.tasks = omega (arith, tasks s, c.if-first-second-gt-MAX_TASKS.true) in
    omega (arith, (known s).short, start-inside c.args.second.now _ l)

pub overflow_sub-moved-then-first-second-gt-MAX_TASKS : goal.overflow_sub-moved-then-first-second-gt-MAX_TASKS
overflow_sub-moved-then-first-second-gt-MAX_TASKS c =
    let s = (goal.at.overflow_sub-moved-then-first-second-gt-MAX_TASKS c).Start in
    let l : 8 - c.args.first.now.shape.tasks < c.args.second.now.shape.tasks = omega (arith, tasks s, c.if-first-second-gt-MAX_TASKS.true) in
    omega (arith, start-inside c.args.second.now _ l)

pub returns-then-first-second-gt-MAX_TASKS : goal.returns-then-first-second-gt-MAX_TASKS
unfolding answer_of number_of
returns-then-first-second-gt-MAX_TASKS c =
    rw c.at-then-first-second-gt-MAX_TASKS.ensures
    (sym (many-tasks c.args.shared c.args.first.now c.args.second.now c.requires c.if-first-second-gt-MAX_DEVICES.false c.if-first-second-gt-MAX_TASKS.true))

pub overflow_mul-first : goal.overflow_mul-first
overflow_mul-first c =
    let g = grids (goal.at.overflow_mul-first c).Start in
    omega (arith, mul-le-mul g.0 g.1)

pub overflow_add-moved-then-first-second-gt-MAX_GRID : goal.overflow_add-moved-then-first-second-gt-MAX_GRID
overflow_add-moved-then-first-second-gt-MAX_GRID c = omega (arith, (known (goal.at.overflow_add-moved-then-first-second-gt-MAX_GRID c).Start).short)

pub overflow_sub-moved-then-first-second-gt-MAX_GRID : goal.overflow_sub-moved-then-first-second-gt-MAX_GRID
overflow_sub-moved-then-first-second-gt-MAX_GRID c = omega (arith, (known (goal.at.overflow_sub-moved-then-first-second-gt-MAX_GRID c).Start).second-tasks)

pub returns-then-first-second-gt-MAX_GRID : goal.returns-then-first-second-gt-MAX_GRID
unfolding answer_of number_of
returns-then-first-second-gt-MAX_GRID c =
    rw c.at-then-first-second-gt-MAX_GRID.ensures
    (sym (many-states c.args.shared c.args.first.now c.args.second.now c.requires c.if-first-second-gt-MAX_DEVICES.false c.if-first-second-gt-MAX_TASKS.false c.if-first-second-gt-MAX_GRID.true))

pub returns : goal.returns
unfolding answer_of
returns c =
    sym (merged-read c.args.shared c.args.first.now c.args.second.now c.requires c.if-first-second-gt-MAX_DEVICES.false c.if-first-second-gt-MAX_TASKS.false c.if-first-second-gt-MAX_GRID.false)
