-- A state is permitted exactly if no device is overfull.
use Prim.Native.Nat.{ℕ, ◌<◌, ◌≤◌}
use native.Mathlib.Omega.{arith}
use mathlib.Core.Path.{◌≡◌}
use mathlib.Core.Logic.{◌↔◌}
use mathlib.Core.Bool.{Bool, true, false}
use lib.ListN.{length}
use lib.Dec.{ltb, leb}
use borrow.Author.Tests.{ltb-true, lt-ltb, leb-true, leb-false, not-false}
use Rattle.model.specs.Below.{any}
use Rattle.model.specs.Set.{Set, at}
use Rattle.model.specs.State.{State}
use Rattle.model.specs.Hold.{held, permitted, Overfull}
use Rattle.model.proofs.Bools.{by_bool, true-not-false, any-true, any-intro}

module _ (s : Set) (x : State) where
  pub not-permitted : (permitted s x ≡ false) ↔ Overfull s x
  unfolding permitted
  not-permitted =
      let n = length s.capacities in
      let full : ℕ → Bool = λ d. ltb (at s.capacities d) (held d s.tasks x) in (
        (λ e. let r = any-true n full (not-false (any n full) e) in (r.0, r.1, ltb-true _ _ r.2)),
        (λ r. rw (any-intro n full r.0 r.1 (lt-ltb _ _ r.2))),
      )

  pub permitted-intro : ((d : ℕ) → d < length s.capacities → held d s.tasks x ≤ at s.capacities d) → permitted s x ≡ true
  permitted-intro f =
      by_bool (permitted s x) (λ p. p) λ p. let r = not-permitted.0 p in absurd (omega (arith, f r.0 r.1))

  pub permitted-fits : permitted s x ≡ true → (d : ℕ) → d < length s.capacities → held d s.tasks x ≤ at s.capacities d
  permitted-fits p d h =
      by_bool (leb (held d s.tasks x) (at s.capacities d)) (leb-true _ _) λ l.
      true-not-false (permitted s x) p (not-permitted.1 (d, h, leb-false _ _ l))
