-- `reader::rules::first_unclaimed` meets its contract. The invariant: each device before d is claimed.
use mathlib.Core.Path.{◌≡◌, ap}
use mathlib.Core.Bool.{not}
use native.Mathlib.Omega.{arith}
use borrow.Author.Tests.{lt-ltb, le-ltb}
use Rattle.model.specs.Below.{lowest}
use Rattle.model.proofs.Counts.{is-lowest, none-lowest}
use Rattle.reader.proofs.rules.first_unclaimed.Invariants.{unclaimed}
use Rattle.reader.proofs.rules.first_unclaimed.Goals as goal

pub returns-then-not-claimed-d : goal.returns-then-not-claimed-d
returns-then-not-claimed-d c =
    let k = c.loop-d in
    let this : lowest c.args.devices (unclaimed c.args.claimed.now) ≡ k.d =
    is-lowest _ (unclaimed c.args.claimed.now) k.d c.loop-d-test.true (ap not c.if-not-claimed-d.true) k.invariant.1 in
    rw (this, lt-ltb k.d c.args.devices c.loop-d-test.true)

pub returns : goal.returns
returns c =
    let k = c.loop-d in
    let n = c.args.devices in
    let none : lowest n (unclaimed c.args.claimed.now) ≡ n = none-lowest _ (unclaimed c.args.claimed.now) (λ t h. k.invariant.1 t (omega arith)) in
    rw (none, le-ltb n n (omega arith))
