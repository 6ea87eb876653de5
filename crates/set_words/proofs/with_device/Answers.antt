-- `set_words::with_device` meets its contract: by the action's kind.
use native.Mathlib.Omega.{arith}
use mathlib.Core.Path.{sym, ◌∙◌}
use Rattle.set_words.proofs.Actions.{number-field}
use Rattle.set_words.proofs.with_device.Goals as goal

pub returns-then-is_claim : goal.returns-then-is_claim
returns-then-is_claim c =
    let claim = sym c.is_claim.ensures ∙ c.if-is_claim.true in
    rw (number-field c.args.action c.args.device, claim) (omega (arith, c.extra_units.ensures))

pub returns : goal.returns
returns c =
    let release = sym c.is_claim.ensures ∙ c.if-is_claim.false in
    rw (number-field c.args.action c.args.device, release)
