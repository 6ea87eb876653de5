-- `merge::first_unequal` meets its contract: the devices before the one found, or all of them, have one capacity each.
use Prim.Native.Nat.{ℕ}
use native.Mathlib.Omega.{arith}
use mathlib.Core.Path.{◌≡◌}
use mathlib.Core.Bool.{Bool, true, false, not}
use mathlib.Core.List.{List}
use lib.Dec.{eqb}
use borrow.Author.Tests.{eq-eqb, ne_eqb, lt-ltb, le-ltb}
use Rattle.model.specs.Set.{at}
use Rattle.model.proofs.Counts.{is-lowest, none-lowest}
use Rattle.merge.proofs.first_unequal.Goals as goal

-- the test that the lowest device passes
abbrev unequal : List ℕ → List ℕ → ℕ → Bool
unequal first second d = not (eqb (at first d) (at second d))

module _ (first second : List ℕ) (d : ℕ) where
  same : at first d ≡ at second d → unequal first second d ≡ false
  same e = rw (eq-eqb (at first d) (at second d) e)

  apart : (at first d ≡ at second d → ⊥) → unequal first second d ≡ true
  apart n = rw (ne_eqb (at first d) (at second d) n)

pub returns-then-first-d : goal.returns-then-first-d
returns-then-first-d c =
    let a = c.args in
    let l = c.loop-d in
    rw (
      is-lowest a.shared (unequal a.first.now a.second.now) l.d (omega arith) (apart _ _ l.d c.if-first-d.true) (λ e h. same _ _ e (l.invariant e h)),
      lt-ltb l.d a.shared (omega arith),
    )

pub returns : goal.returns
returns c =
    let a = c.args in
    let l = c.loop-d in
    rw (none-lowest a.shared (unequal a.first.now a.second.now) (λ e h. same _ _ e (l.invariant e (omega arith))), le-ltb a.shared a.shared (omega arith))
