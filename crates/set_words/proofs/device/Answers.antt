-- `set_words::device` meets its contract: by the action's kind.
use mathlib.Core.Path.{sym, ap, ◌∙◌}
use Rattle.model.specs.Layout.{device_bits}
use Rattle.set_words.proofs.Actions.{device-field}
use Rattle.set_words.proofs.device.Goals as goal

pub returns-then-is_claim : goal.returns-then-is_claim
returns-then-is_claim c =
    let claim = sym c.is_claim.ensures ∙ c.if-is_claim.true in
    rw (device-field c.args.word, claim) (c.device_bits.ensures ∙ ap device_bits c.field.ensures)

pub returns : goal.returns
returns c =
    let release = sym c.is_claim.ensures ∙ c.if-is_claim.false in
    rw (device-field c.args.word, release) c.field-2.ensures
