-- `plan_words::is_side` meets its contract: a side is the word that its task and its own bounds make.
use mathlib.Core.Path.{◌≡◌, sym, ◌∙◌}
use borrow.Author.Tests.{eq-eqb, ne_eqb}
use Rattle.model.specs.Plan.{side_word, side_of}
use Rattle.model.specs.StoredPlan.{is_side}
use Rattle.plan_words.proofs.is_side.Goals.{After-side}
use Rattle.plan_words.proofs.is_side.Goals as goal

-- the word that is made
made : (c : After-side) → let a = c.args in c.side.result ≡ side_word a.task (side_of a.word)
made c = rw (c.side_low-low.ensures, c.side_high-high.ensures) at c.side.ensures

pub returns-then-word-side : goal.returns-then-word-side
unfolding is_side
returns-then-word-side c = rw (ne_eqb _ _ (λ e. c.if-word-side.true (e ∙ sym (made (goal.at.returns-then-word-side c).After-side))))

pub returns : goal.returns
unfolding is_side
returns c =
    rw (eq-eqb _ _ (c.if-word-side.false ∙ made (goal.at.returns c).After-side), c.side_low-low.ensures, c.side_high-high.ensures)
