-- `cleaner::number_devices` meets its contract. The invariant: the devices before d have their numbers, and `count` of them are claimed.
use native.Mathlib.Omega.{arith}
use mathlib.Core.Path.{refl, ◌∙◌}
use mathlib.Core.Bool.{false}
use lib.ListN.{get_or, length-set}
use Rattle.model.specs.Below.{how_many}
use Rattle.model.proofs.Counts.{byte_small, many-bound, many-next}
use Rattle.model.proofs.Lists.{changed-none, changed-more}
use Rattle.cleaner.proofs.number_devices.Goals as goal

pub loop-d-init : goal.loop-d-init
unfolding how_many
loop-d-init c = (refl, refl, changed-none _ _)

-- a count is at most the number of devices before d
pub overflow_add-count : goal.overflow_add-count
overflow_add-count c =
    let marks = c.args.claimed.now in
    omega (arith, c.loop-d.invariant.1, many-bound c.loop-d.d (λ e. get_or marks e false), byte_small (get_or marks c.loop-d.d false))

pub loop-d-preserved : goal.loop-d-preserved
loop-d-preserved c =
    let l = c.loop-d in (
      length-set l.numbers l.d l.count ∙ l.invariant.0,
      omega (arith, l.invariant.1, many-next l.d (λ e. get_or c.args.claimed.now e false)),
      changed-more l.invariant.2 (omega (arith, c.requires, l.invariant.0)) l.invariant.1,
    )
