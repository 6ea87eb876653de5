-- `set_words::is_claim` meets its contract: an action is a claim by its kind.
use mathlib.Core.Path.{sym, ◌∙◌}
use Rattle.set_words.proofs.Actions.{claim-kind}
use Rattle.set_words.proofs.is_claim.Goals as goal

pub returns : goal.returns
returns c = c.has_kind.ensures ∙ sym (claim-kind c.args.word)
