-- `set_writer::write_tasks` meets its contract. The invariant: the first i renamed words stand in the slice from index `to` on.
use mathlib.Core.Path.{◌≡◌}
use mathlib.Core.List.{map}
use lib.Seq.{paste}
use Rattle.model.specs.Set.{at}
use Rattle.set_writer.specs.Renamed.{renamed_word}
use Rattle.set_writer.proofs.write_tasks.Given as goal

abbrev pub invariant-loop-i : goal.invariant-loop-i
invariant-loop-i l = l.out ≡ paste l.initial.out l.to (map (renamed_word (at l.numbers)) l.tasks) l.i
