-- `records::unfit` meets its contract: each of its two tests is the definition's.
use Rattle.records.proofs.unfit.Goals as goal

pub returns-then-misplaced : goal.returns-then-misplaced
returns-then-misplaced c words s d = rw (← c.misplaced.ensures words s d, c.if-misplaced.true)

pub returns-else-misplaced : goal.returns-else-misplaced
returns-else-misplaced c words s d = rw (← c.misplaced.ensures words s d, c.if-misplaced.false) (c.miscounted.ensures words s d)
