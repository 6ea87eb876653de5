-- `reader::rules::still_held` meets its contract. The invariant: none of the devices before d is held.
use mathlib.Core.Path.{◌≡◌}
use mathlib.Core.Bool.{false}
use lib.ListN.{get_or}
use Rattle.model.specs.Below.{any}
use Rattle.reader.proofs.rules.still_held.Given as goal

abbrev pub invariant-loop-d : goal.invariant-loop-d
invariant-loop-d l = any l.d (λ d. get_or l.held d false) ≡ false
