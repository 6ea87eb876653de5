-- `plan_reader::walk::walk` meets its contract. The loop's invariant: the plan's own words are gone through, and by what was seen so far, the words from here on have
-- the answer of the whole plan.
use Rattle.std.proofs.Common.{◌≡◌, ◌≤◌, ◌-◌, drop, length}
use Rattle.model.specs.StoredPlan.{locate}
use Rattle.plan_reader.proofs.Ends.{answer_at}
use Rattle.plan_reader.proofs.walk.walk.Given as goal

abbrev pub invariant-loop-word : goal.invariant-loop-word
invariant-loop-word l =
    (l.plan.words.now ≡ l.words)
    × (l.plan.at ≤ length l.words)
    × (answer_at l.tasks l.state l.seen l.plan.at (drop l.plan.at l.words) ≡ locate l.state l.words l.tasks)

abbrev pub decreases-loop-word : goal.decreases-loop-word
decreases-loop-word l = length l.words - l.plan.at
