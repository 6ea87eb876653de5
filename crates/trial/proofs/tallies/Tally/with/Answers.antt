-- `trial::tallies::Tally::with` meets its contract: by its answer's variant.
use Rattle.model.specs.Trial.{row_with}
use Rattle.broker.specs.Says.{named}
use Rattle.trial.proofs.tallies.Tally.with.Goals as goal

pub returns-in-Granted : goal.returns-in-Granted
unfolding named row_with
returns-in-Granted c = rw c.in-Granted.is

pub returns-in-Busy : goal.returns-in-Busy
unfolding named row_with
returns-in-Busy c = rw c.in-Busy.is

pub returns-in-Held : goal.returns-in-Held
unfolding named row_with
returns-in-Held c = rw c.in-Held.is

pub returns-in-ShareSpent : goal.returns-in-ShareSpent
unfolding named row_with
returns-in-ShareSpent c = rw c.in-ShareSpent.is

pub returns-in-Finished : goal.returns-in-Finished
unfolding named row_with
returns-in-Finished c = rw c.in-Finished.is
