-- `reader::run::read_devices` meets its contract. The invariant: the words up to i are DEVICEs, which are noted.
use mathlib.Core.Path.{◌≡◌}
use Rattle.reader.specs.Follow.{Reached}
use Rattle.reader.proofs.run.read_devices.Given as goal

abbrev pub invariant-loop-i : goal.invariant-loop-i
invariant-loop-i l = Reached l.words l.scan l.i × (l.scan.devices ≡ l.i) × (l.scan.tasks ≡ 0)
