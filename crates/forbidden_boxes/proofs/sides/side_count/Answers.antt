-- `forbidden_boxes::sides::side_count` meets its contract: the two branches are those of its definition.
use borrow.Author.Tests.{eq-eqb, ne_eqb}
use Rattle.forbidden_boxes.specs.Choices.{side_count}
use Rattle.forbidden_boxes.proofs.sides.side_count.Goals as goal

pub returns-then-mask-eq1 : goal.returns-then-mask-eq1
unfolding side_count
returns-then-mask-eq1 c = rw (eq-eqb _ _ c.if-mask-eq1.true)

pub returns-else-mask-eq1 : goal.returns-else-mask-eq1
unfolding side_count
returns-else-mask-eq1 c = rw (ne_eqb _ _ c.if-mask-eq1.false)
