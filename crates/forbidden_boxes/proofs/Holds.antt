-- The holds of a task that is under way, one action at a time, and how many a task can have.
use Prim.Native.Nat.{ℕ, suc, ◌+◌, ◌*◌, ◌≤◌}
use native.Mathlib.Omega.{arith}
use mathlib.Core.Path.{◌≡◌, refl}
use mathlib.Core.Bool.{Bool, true, false, not, cond}
use mathlib.Core.List.{List, [], ◌∷◌}
use lib.ListN.{length}
use lib.Dec.{eqb}
use borrow.Author.Tests.{eq-eqb, ne_eqb, not-true}
use Rattle.model.specs.Set.{Action, claim, release, device_of, Task, balanced}
use Rattle.model.specs.Hold.{Hold, held_to, holds_from}
use Rattle.model.proofs.Bools.{by_bool, true-not-false, and-true}

-- the holds that close after position p: the one of so many units open since `low`, if device d is held, and those to come
unfoldable pub to_close : ℕ → Bool → ℕ → ℕ → ℕ → Task → List Hold
to_close d h low taken p rest = cond h (record { over = record { low = low; high = held_to d p rest }; units = taken } ∷ holds_from d p rest) (holds_from d p rest)

module _ (d low taken p : ℕ) (h : Bool) (rest : Task) where
  -- a claim of d: it was not held, and a hold opens
  pub record Opens (u : ℕ) : Type 0 where
    pub was : h ≡ false
    pub balance : balanced d true rest ≡ true
    pub same : to_close d h low taken p (claim d u ∷ rest) ≡ to_close d true (suc p) (suc u) (suc p) rest

  pub opens : (u : ℕ) → balanced d h (claim d u ∷ rest) ≡ true → Opens u
  unfolding balanced to_close holds_from
  opens u b =
      let e : eqb d d ≡ true = eq-eqb d d refl in
      let r = and-true (not h) (balanced d true rest) (rw e at b) in
      let n : h ≡ false = not-true h r.0 in
      record { was = n; balance = r.1; same = rw (n, e) }

  -- a release of d: it was held, and that hold is over the positions to p
  pub record HoldCloses : Type 0 where
    pub balance : balanced d false rest ≡ true
    pub same : to_close d h low taken p (release d ∷ rest)
        ≡ record { over = record { low = low; high = p }; units = taken } ∷ to_close d false low taken (suc p) rest

  pub closes : balanced d h (release d ∷ rest) ≡ true → HoldCloses
  unfolding balanced to_close holds_from held_to
  closes b =
      let e : eqb d d ≡ true = eq-eqb d d refl in
      let r = and-true h (balanced d false rest) (rw e at b) in
      record { balance = r.1; same = rw (r.0, e) }

  -- an action on another device
  pub record HoldPasses (a : Action) : Type 0 where
    pub balance : balanced d h rest ≡ true
    pub same : to_close d h low taken p (a ∷ rest) ≡ to_close d h low taken (suc p) rest

  pub passes : (a : Action) → (device_of a ≡ d → ⊥) → balanced d h (a ∷ rest) ≡ true → HoldPasses a
  unfolding balanced to_close holds_from held_to device_of
  passes (claim e u) n b = let k : eqb e d ≡ false = ne_eqb e d n in record { balance = rw k at b; same = rw k }
  passes (release e) n b = let k : eqb e d ≡ false = ne_eqb e d n in record { balance = rw k at b; same = rw k }

-- each hold takes two actions, an open one its release
pub holds-count : (d p : ℕ) (h : Bool) (task : Task) → balanced d h task ≡ true → 2 * length (holds_from d p task) + cond h 1 0 ≤ length task
unfolding balanced holds_from
holds-count d p true [] b = true-not-false false b refl
holds-count d p false [] b = omega arith
holds-count d p h (claim e u ∷ rest) b =
    by_bool (eqb e d)
    (λ k.
    let r = and-true (not h) (balanced d true rest) (rw k at b) in
    let n : h ≡ false = not-true h r.0 in
    rw (k, n) (omega (arith, holds-count d (suc p) true rest r.1)))
    (λ k. rw k (omega (arith, holds-count d (suc p) h rest (rw k at b))))
holds-count d p h (release e ∷ rest) b =
    by_bool (eqb e d)
    (λ k.
    let r = and-true h (balanced d false rest) (rw k at b) in
    rw r.0 (omega (arith, holds-count d (suc p) false rest r.1)))
    (λ k. omega (arith, holds-count d (suc p) h rest (rw k at b)))
