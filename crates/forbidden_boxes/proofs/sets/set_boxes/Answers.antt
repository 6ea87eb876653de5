-- `forbidden_boxes::sets::set_boxes` meets its contract: a set that is wanted has a task of those that are there, as `choices` asks.
use native.Mathlib.Omega.{arith}
use mathlib.Core.Path.{sym, ◌∙◌}
use Rattle.plan_words.proofs.After.{wrote_none}
use Rattle.forbidden_boxes.specs.Choices.{set_words}
use Rattle.forbidden_boxes.proofs.sets.set_boxes.Goals as goal

pub returns-then-not-wanted : goal.returns-then-not-wanted
unfolding set_words
returns-then-not-wanted c = rw (sym c.wanted.ensures ∙ c.if-not-wanted.true) (wrote_none (omega arith))

pub returns : goal.returns
unfolding set_words
returns c = rw (sym c.wanted.ensures ∙ c.if-not-wanted.false) c.choices.ensures
