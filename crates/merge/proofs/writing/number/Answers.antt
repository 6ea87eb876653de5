-- `merge::writing::number` meets its contract: by whether the device is shared.
use borrow.Author.Tests.{lt-ltb, le-ltb}
use Rattle.model.specs.Merge.{merged_number}
use Rattle.merge.proofs.writing.number.Goals as goal

pub returns-then-device-shared : goal.returns-then-device-shared
unfolding merged_number
returns-then-device-shared c = rw (lt-ltb c.args.device c.args.shared c.if-device-shared.true)

pub returns : goal.returns
unfolding merged_number
returns c = rw (le-ltb c.args.device c.args.shared c.if-device-shared.false)
