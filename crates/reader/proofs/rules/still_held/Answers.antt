-- `reader::rules::still_held` meets its contract. The invariant: none of the devices before d is held.
use mathlib.Core.Path.{refl, sym}
use mathlib.Core.Bool.{false}
use lib.ListN.{get_or}
use Rattle.model.specs.Below.{any}
use Rattle.model.proofs.Bools.{any-more, any-intro}
use Rattle.reader.proofs.rules.still_held.Goals as goal

pub loop-d-init : goal.loop-d-init
unfolding any
loop-d-init c = refl

pub returns-then-held-d : goal.returns-then-held-d
returns-then-held-d c = sym (any-intro 16 (λ d. get_or c.args.held.now d false) c.loop-d.d c.loop-d-test.true c.if-held-d.true)

pub loop-d-preserved : goal.loop-d-preserved
loop-d-preserved c = any-more c.loop-d.d (λ d. get_or c.args.held.now d false) c.loop-d.invariant c.if-held-d.false
