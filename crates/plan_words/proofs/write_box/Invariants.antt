-- `plan_words::write_box` meets its contract. The invariant: after the header, the first j sides are written, one word a turn.
use Prim.Native.Nat.{◌+◌, ◌-◌, ◌≤◌}
use lib.ListN.{length, set}
use Rattle.plan_words.proofs.UpTo.{word_at}
use Rattle.plan_words.proofs.Run.{Turn}
use Rattle.plan_words.proofs.write_box.Given as goal

abbrev pub invariant-loop-j : goal.invariant-loop-j
invariant-loop-j l =
    Turn (word_at (set l.sides l.task l.word)) l.initial.plan (l.at + 1) l.count l.plan (l.at + 1 + l.j) l.j × (l.at + 1 + l.count ≤ length l.initial.plan)
