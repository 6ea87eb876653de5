-- `trial::orders::first_fault` meets its contract. The invariant: no earlier place is faulty.
use borrow.Author.Tests.{le-leb, lt-leb, lt-ltb, le-ltb}
use Prim.Native.Nat.{◌≤◌}
use native.Mathlib.Omega.{arith}
use mathlib.Core.Path.{◌≡◌}
use mathlib.Core.Bool.{true}
use lib.ListN.{length}
use Rattle.model.specs.Below.{lowest}
use Rattle.model.specs.Set.{at}
use Rattle.model.specs.Trial.{faulty}
use Rattle.model.proofs.Counts.{is-lowest, none-lowest}
use Rattle.trial.proofs.orders.first_fault.Goals as goal

pub returns-then-place-ge-MAX_ORDER : goal.returns-then-place-ge-MAX_ORDER
returns-then-place-ge-MAX_ORDER c =
    let a = c.args in
    let p = c.loop-place.place in
    let here : faulty a.tasks a.order.now p ≡ true = rw (le-leb 255 p c.if-place-ge-MAX_ORDER.true) in
    rw (is-lowest (length a.order.now) (faulty a.tasks a.order.now) p c.loop-place-test.true here c.loop-place.invariant, lt-ltb _ _ c.loop-place-test.true)

pub returns-then-tasks-task : goal.returns-then-tasks-task
returns-then-tasks-task c =
    let a = c.args in
    let p = c.loop-place.place in
    let few = lt-leb 255 p c.if-place-ge-MAX_ORDER.false in
    let here : faulty a.tasks a.order.now p ≡ true = rw (few, le-leb a.tasks (at a.order.now p) c.if-tasks-task.true) in
    rw (is-lowest (length a.order.now) (faulty a.tasks a.order.now) p c.loop-place-test.true here c.loop-place.invariant, lt-ltb _ _ c.loop-place-test.true)

pub returns : goal.returns
returns c =
    let n = length c.args.order.now in
    let f = faulty c.args.tasks c.args.order.now in
    let none : n ≤ lowest n f = omega (arith, none-lowest n f (λ p h. c.loop-place.invariant p (omega arith))) in
    rw (le-ltb (lowest n f) n none)
