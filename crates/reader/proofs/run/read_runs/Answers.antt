-- `reader::run::read_runs` meets its contract: what the two runs ensure, one after the other.
use Rattle.reader.specs.Follow.{NoDevice}
use Rattle.reader.proofs.Ending.{stops}
use Rattle.reader.proofs.run.read_runs.Goals as goal

pub returns : goal.returns
returns c =
    let words = c.args.words.now in
    let first = c.read_devices.ensures in
    let then = c.read_tasks.ensures in
    let device : NoDevice words c.read_tasks.new.scan.devices 0 c.read_devices.new.scan.devices = rw then.0 first.2 in
    (then.4, stops words _ _ _ device then.1 then.2 then.3)
