-- `merge::writing::number_devices` meets its contract. The invariant: the devices before d have their numbers.
use mathlib.Core.Path.{◌≡◌}
use lib.ListN.{length}
use Rattle.model.specs.Merge.{merged_number}
use Rattle.model.proofs.Lists.{Changed}
use Rattle.merge.proofs.writing.number_devices.Given as goal

abbrev pub invariant-loop-d : goal.invariant-loop-d
invariant-loop-d l = (length l.numbers ≡ 16) × Changed (merged_number l.devices l.shared) l.initial.numbers l.d l.numbers
