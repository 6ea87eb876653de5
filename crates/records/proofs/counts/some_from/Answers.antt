-- `records::counts::some_from` meets its contract. The invariant: no task from the first one on and before t has a count.
use Rattle.std.proofs.Common.{sym, arith, rules, le-ltb, lt-ltb, le-leb}
use borrow.Author.Tests.{lt-leb}
use Rattle.model.proofs.Bools.{any-more, any-intro, any_none}
use Rattle.records.proofs.counts.some_from.Invariants.{counted-from}
use Rattle.records.proofs.counts.some_from.Goals as goal

pub loop-t-init : goal.loop-t-init
loop-t-init c = (search rules, search rules, c.requires, any_none _ _ (λ t h. rw (lt-leb c.args.first t h)))

pub returns-then-counts-t-gt0 : goal.returns-then-counts-t-gt0
returns-then-counts-t-gt0 c =
    let i = c.loop-t in
    let a = c.args in
    sym (any-intro 8 (counted-from a.first a.counts) i.t (omega arith) (rw (le-leb _ _ i.invariant.1, lt-ltb _ _ c.if-counts-t-gt0.true)))

pub loop-t-preserved : goal.loop-t-preserved
loop-t-preserved c =
    let i = c.loop-t in
    let a = c.args in (
      i.invariant.0,
      search rules,
      search rules,
      any-more i.t (counted-from a.first a.counts) i.invariant.3 (rw (le-leb _ _ i.invariant.1, le-ltb _ _ c.if-counts-t-gt0.false)),
    )
