-- `route::route` meets its contract, by what the reader ensures of its words.
use mathlib.Core.Path.{sym, ◌∙◌}
use Rattle.refusals.specs.Answers.{answer_of}
use Rattle.records.specs.Says.{record_of}
use Rattle.route.proofs.Answers.{refused-set, accepted-set}
use Rattle.route.proofs.route.Goals as goal

pub returns-in-Ok : goal.returns-in-Ok
unfolding answer_of
returns-in-Ok c =
    let a = c.args in
    c.route_on.ensures ∙ accepted-set a.words.now a.map.now (record_of a.rec) a.slice.now _ (sym c.in-Ok.ensures.reads)

pub returns-in-Err : goal.returns-in-Err
unfolding answer_of
returns-in-Err c =
    let a = c.args in
    c.refuse.ensures ∙ refused-set a.words.now a.map.now (record_of a.rec) a.slice.now _ _ (sym c.in-Err.ensures.reads)
