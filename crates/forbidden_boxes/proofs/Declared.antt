-- What declared words tell of a device: where the tasks of the set stand among them, and that each claims and releases it as it should.
use Prim.Native.Nat.{ℕ, ◌+◌, ◌<◌}
use native.Mathlib.Omega.{arith}
use mathlib.Core.Path.{◌≡◌, ◌∙◌}
use mathlib.Core.List.{List}
use lib.ListN.{length}
use lib.Seq.{ext_get_or}
use Rattle.model.specs.Set.{claim, device_of, Set, task_at, action_at, at}
use Rattle.model.specs.Layout.{action_of}
use Rattle.model.proofs.Lists.{length-tabulate, get_d_tabulate}
use Rattle.shape.specs.declared.Shape.{Shape}
use Rattle.shape.specs.Declares.{Declares}
use Rattle.shape.proofs.Declared.{length-is, good-task}
use Rattle.forbidden_boxes.specs.Units.{Small, Reads}
use Rattle.forbidden_boxes.specs.Rows.{task_in, Acts}

module _ {words : List ℕ} {shape : Shape} {s : Set} (says : Declares words shape s) where
  pub task-read : (t : ℕ) → task_in words (at shape.starts t) (at shape.lengths t) ≡ task_at s t
  unfolding task_in
  task-read t =
      let n : ℕ = at shape.lengths t in
      let start : ℕ = at shape.starts t in
      let count : length (task_in words start n) ≡ n = length-tabulate n (λ p. action_of (at words (start + p))) in
      ext_get_or (claim 0 0) (task_in words start n) (task_at s t) (count ∙ length-is says t)
      (λ p l.
      let k : p < n = rw count at l in
      get_d_tabulate n (λ p. action_of (at words (start + p))) p (claim 0 0) k ∙ says.action t p (rw (length-is says t) at k))

  -- the actions of a task are there, each on a declared device and of no more units than it has
  pub reads : (t : ℕ) → t < shape.tasks → Reads words (at shape.starts t) (at shape.lengths t)
  reads t h =
      record {
        inside = λ p l. says.inside t p (rw (length-is says t) at l);
        small = λ p l. let k = rw (length-is says t) at l in rw (says.action t p k) (small-action t h p k);
      }
    where
      small-action : (t : ℕ) → t < shape.tasks → (p : ℕ) → p < length (task_at s t) → Small (action_at s t p)
      small-action t h p k =
          let g = good-task says t h in
          let d = g.declared p k in
          (omega (arith, d, says.well_formed.devices), omega (arith, g.units p k, (says.well_formed.capacities (device_of (action_at s t p)) d).1))

  pub acts : (d t : ℕ) → t < shape.tasks → Acts words (at shape.starts t) (at shape.lengths t) d
  acts d t h = record { reads = reads t h; balance = rw (task-read t) ((good-task says t h).balance d) }
