-- `set_words::device_in_set` meets its contract: below 16 the low bits are the whole device.
use mathlib.Core.Path.{◌∙◌}
use Rattle.set_words.proofs.Actions.{device-low}
use Rattle.set_words.proofs.device_in_set.Goals as goal

pub returns : goal.returns
returns c = c.device_bits.ensures ∙ device-low c.args.word c.requires
