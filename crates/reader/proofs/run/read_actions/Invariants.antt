-- `reader::run::read_actions` meets its contract. The invariant: the words up to i led to the scan in which the task has an action for each since its start.
use Prim.Native.Nat.{◌-◌, ◌≤◌}
use mathlib.Core.Path.{◌≡◌}
use Rattle.reader.specs.Follow.{Reached, counted}
use Rattle.reader.proofs.run.read_actions.Given as goal

abbrev pub invariant-loop-i : goal.invariant-loop-i
invariant-loop-i l =
    (l.from ≤ l.i) × (l.i - l.from ≤ 255) × (l.scan ≡ record l.initial.scan { held = l.scan.held; claimed = l.scan.claimed })
    × Reached l.words (counted l.scan (l.i - l.from)) l.i
