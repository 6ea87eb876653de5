-- `reader::run::read_tasks` meets its contract. The invariant: the words up to i led to the scan of the tasks noted so far, and no action goes on there.
use Prim.Native.Nat.{◌-◌}
use mathlib.Core.Path.{◌≡◌}
use lib.ListN.{length}
use Rattle.model.specs.Set.{at}
use Rattle.reader.specs.Follow.{Reached, NoAction}
use Rattle.reader.proofs.run.read_tasks.Given as goal

abbrev pub invariant-loop-i : goal.invariant-loop-i
invariant-loop-i l =
    let s = l.scan in
    (s.devices ≡ l.initial.scan.devices) × (s.tasks ≡ 0 → l.i ≡ l.initial.scan.devices)
    × NoAction l.words s.devices s.capacities s.tasks (at s.lengths (s.tasks - 1)) s.held l.i × Reached l.words s l.i

abbrev pub decreases-loop-i : goal.decreases-loop-i
decreases-loop-i l = length l.words - l.i
