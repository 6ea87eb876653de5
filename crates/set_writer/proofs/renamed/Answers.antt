-- `set_writer::renamed` meets its contract: by the word's kind.
use mathlib.Core.Path.{◌≡◌, refl, sym, ◌∙◌}
use Rattle.model.specs.Set.{device_of, at}
use Rattle.model.specs.Layout.{action_of}
use Rattle.model.specs.Clean.{renamed}
use Rattle.model.proofs.Renamed.{action-same}
use Rattle.set_writer.specs.Renamed.{renamed_word}
use Rattle.set_writer.proofs.renamed.Goals as goal

pub returns-then-has_kind : goal.returns-then-has_kind
unfolding renamed_word
returns-then-has_kind c = rw (sym c.has_kind.ensures ∙ c.if-has_kind.true)

-- an action names a device, whose number is the other one
pub returns : goal.returns
unfolding renamed_word
returns c =
    let a = action_of c.args.word in
    let numbers = at c.args.numbers.now in
    let same : renamed (λ e. numbers (device_of a)) a ≡ renamed numbers a = action-same (λ e. numbers (device_of a)) numbers a refl in
    rw (sym c.has_kind.ensures ∙ c.if-has_kind.false, ← same, ← c.device.ensures) c.with_device.ensures
