-- `broker::shares::other_goes` meets its contract. The invariant: none of the tasks before t has share left and would be granted.
use borrow.Author.Tests.{eqb-true, le-ltb}
use Prim.Native.Nat.{ℕ, ◌<◌, ◌≤◌}
use native.Mathlib.Omega.{arith}
use mathlib.Core.Path.{◌≡◌, refl, sym, ap, ◌∙◌}
use mathlib.Core.Bool.{false, ◌&&◌}
use mathlib.Core.List.{List}
use lib.ListN.{length}
use lib.Dec.{eqb}
use Rattle.model.specs.Below.{any}
use Rattle.model.specs.Set.{Set, at, lengths_of}
use Rattle.model.specs.Record.{Record, state_in}
use Rattle.model.specs.Broker.{Settings, share_left, other_goes}
use Rattle.model.proofs.Bools.{by_bool, any-more, any-intro, any-whole, any_same}
use Rattle.model.proofs.Ranks.{rank_lt}
use Rattle.shape.specs.declared.Shape.{Shape}
use Rattle.shape.specs.Declares.{Declares}
use Rattle.shape.proofs.Declared.{tasks-are, weight-small}
use Rattle.records.specs.Ranked.{Ranked}
use Rattle.records.proofs.Placed.{ranked-grid}
use Rattle.broker.proofs.MapCases.{would-is, next-in}
use Rattle.broker.proofs.shares.other_goes.Invariants.{tested}
use Rattle.broker.proofs.shares.other_goes.Goals as goal

module _ {words : List ℕ} {shape : Shape} {s : Set} (d : Declares words shape s) {m : List ℕ} {r : Record} {k : ℕ} (f : Ranked s m r k) where
  -- a task without share left isn't among those that have some
  passed_over : (c : Settings) (t : ℕ) → c.share ≤ at r.counts t
      → any (length s.tasks) (tested m k c.share shape.lengths shape.weights r.positions r.counts) ≡ other_goes s m c r (state_in s r) t
  unfolding other_goes
  passed_over c t none =
      any_same (length s.tasks) _ _ λ u h.
      by_bool (eqb u t)
      (λ e. let z : share_left c r u ≡ false = rw (eqb-true u t e) (le-ltb _ _ none) in rw (z, e))
      (λ e. rw e (ap (λ b. share_left c r u && b) (would-is d f u (omega (arith, tasks-are d)))))

  rank-small : k < 65536
  rank-small = omega (arith, f.ranked, rank_lt (lengths_of s) (state_in s r) (ranked-grid d f), d.well_formed.grid)

pub loop-t-init : goal.loop-t-init
unfolding any
loop-t-init c = refl

pub overflow_add-rank : goal.overflow_add-rank
overflow_add-rank c =
    let d = c.args.set.now.declares in
    record { fits = omega (arith, weight-small d c.loop-t.t (omega arith), rank-small d c.requires) }

pub goes-requires : goal.goes-requires
goes-requires c = next-in c.args.set.now.declares c.requires c.loop-t.t (omega arith)

pub returns-then-goes : goal.returns-then-goes
returns-then-goes c task none =
    let d = c.args.set.now.declares in
    let i = c.loop-t in
    sym (any-intro _ _ i.t (omega (arith, tasks-are d)) (sym c.goes.ensures ∙ c.if-goes.true)) ∙ passed_over d c.requires _ task none

pub loop-t-preserved : goal.loop-t-preserved
loop-t-preserved c =
    let i = c.loop-t in
    any-more i.t _ i.invariant (sym c.goes.ensures ∙ c.if-goes.false)

pub returns : goal.returns
returns c task none =
    let d = c.args.set.now.declares in
    let i = c.loop-t in
    sym (any-whole _ _ i.t (omega (arith, tasks-are d)) (omega (arith, tasks-are d)) i.invariant) ∙ passed_over d c.requires _ task none
