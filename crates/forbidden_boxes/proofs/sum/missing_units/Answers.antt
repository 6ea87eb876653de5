-- `forbidden_boxes::sum::missing_units` meets its contract, for every hold's units at once.
use Rattle.forbidden_boxes.proofs.Sums.{none-missing, some-missing}
use Rattle.forbidden_boxes.proofs.sum.missing_units.Goals as goal

pub returns-then-capacity-sum : goal.returns-then-capacity-sum
returns-then-capacity-sum c u =
    let a = c.args in
    none-missing a.capacity a.sum.all a.sum.least u c.if-capacity-sum.true

pub returns : goal.returns
returns c u =
    let a = c.args in
    some-missing a.capacity a.sum.all a.sum.least u c.if-capacity-sum.false
