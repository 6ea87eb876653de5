-- `cleaner::number_devices` meets its contract. The invariant: the devices before d have their numbers, and `count` of them are claimed.
use mathlib.Core.Path.{◌≡◌}
use lib.ListN.{length}
use Rattle.model.proofs.Lists.{Changed}
use Rattle.cleaner.specs.Numbers.{marks_before}
use Rattle.cleaner.proofs.number_devices.Given as goal

abbrev pub invariant-loop-d : goal.invariant-loop-d
invariant-loop-d l =
    (length l.numbers ≡ 16) × (l.count ≡ marks_before l.claimed l.d) × Changed (marks_before l.claimed) l.initial.numbers l.d l.numbers
