-- `set_writer::write_tasks` meets its contract. The invariant: the first i renamed words stand in the slice from index `to` on.
use mathlib.Core.Path.{sym, ◌∙◌}
use native.Mathlib.Omega.{arith}
use lib.ListN.{length-map}
use Rattle.model.specs.Set.{at}
use Rattle.model.proofs.Lists.{map_at}
use Rattle.set_writer.specs.Renamed.{renamed_word}
use Rattle.set_writer.proofs.Run.{one_more}
use Rattle.set_writer.proofs.write_tasks.Goals as goal

pub loop-i-preserved : goal.loop-i-preserved
loop-i-preserved c =
    let a = c.args in
    let k = c.loop-i in
    let f = renamed_word (at a.numbers.now) in
    let word = c.renamed.ensures ∙ sym (map_at f a.tasks.now k.i 0 c.loop-i-test.true) in
    let count = length-map a.tasks.now f in
    one_more a.out.now a.to _ k.out k.i k.invariant _ word (omega arith) (omega (arith, c.requires.tasks_in_bounds))
