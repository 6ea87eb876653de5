-- `forbidden_boxes::sides::first_side` meets its contract: the two branches are those of its definition.
use borrow.Author.Tests.{eq-eqb, ne_eqb}
use Rattle.forbidden_boxes.specs.Choices.{first_side}
use Rattle.forbidden_boxes.proofs.sides.first_side.Goals as goal

pub returns-then-mask-eq1 : goal.returns-then-mask-eq1
unfolding first_side
returns-then-mask-eq1 c = rw (eq-eqb _ _ c.if-mask-eq1.true)

pub returns-else-mask-eq1 : goal.returns-else-mask-eq1
unfolding first_side
returns-else-mask-eq1 c = rw (ne_eqb _ _ c.if-mask-eq1.false)
