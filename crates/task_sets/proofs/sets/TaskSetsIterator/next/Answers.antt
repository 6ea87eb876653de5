-- `task_sets::sets::TaskSets` gives the sets of a run one by one.
use Rattle.std.proofs.Common.{rules}
use Rattle.task_sets.proofs.Walks.{run-none, run-more}
use Rattle.task_sets.proofs.sets.TaskSetsIterator.next.Goals as goal

pub returns-then-self-eq0-clause-steps : goal.returns-then-self-eq0-clause-steps
returns-then-self-eq0-clause-steps c =
    let e = run-none c.args.self.now.count c.args.self.now.mask c.if-self-eq0.true in
    (e, e)

pub returns-clause-steps : goal.returns-clause-steps
returns-clause-steps c =
    let s = c.args.self.now in
    rw c.next_set-self.ensures (run-more s.count s.mask c.if-self-eq0.false)

pub returns-clause-goes : goal.returns-clause-goes
returns-clause-goes c =
    let s = c.args.self.now in
    let more = run-more s.count s.mask c.if-self-eq0.false in
    rw c.next_set-self.ensures (search (rules, more))
