-- A good task stays one when its devices get other numbers: for the cleaner, and for every call that makes a set out of sets.
use Prim.Native.Nat.{ℕ, ◌<◌, ◌≤◌}
use native.Mathlib.Omega.{arith}
use mathlib.Core.Path.{◌≡◌, ◌∙◌}
use mathlib.Core.Logic.{◌⊎◌}
use mathlib.Core.Bool.{false}
use mathlib.Core.List.{List, map}
use lib.ListN.{length, length-map}
use lib.Dec.{eqb}
use borrow.Author.Tests.{ne_eqb}
use Rattle.model.specs.Set.{Action, claim, release, device_of, units_taken, Task, at, balanced, GoodTask}
use Rattle.model.specs.Clean.{renamed}
use Rattle.model.proofs.Bools.{by_cases}
use Rattle.model.proofs.Each.{Each, each-mono, each_both, each_map, each-place, each_at}
use Rattle.model.proofs.Renamed.{Follows, balanced-renamed}

-- devices of capacities cs whose numbers f lead to devices of capacities ds: each has its capacity there, no two have one number, and of each number there it is
-- known whether it is one of theirs
pub record Carries (P : ℕ → Type 0) (f : ℕ → ℕ) (cs ds : List ℕ) : Type 0 where
  pub declared : (d : ℕ) → P d → d < length cs
  pub inside : (d : ℕ) → P d → f d < length ds
  pub capacity : (d : ℕ) → P d → at ds (f d) ≡ at cs d
  pub apart : (c d : ℕ) → P c → P d → eqb (f c) (f d) ≡ eqb c d
  pub back : (e : ℕ) → ((d : ℕ) × P d × (e ≡ f d)) ⊎ ((d : ℕ) → P d → eqb (f d) e ≡ false)

module _ {P : ℕ → Type 0} {f : ℕ → ℕ} {cs ds : List ℕ} (c : Carries P f cs ds) where
  abbrev Names : Action → Type 0
  Names a = P (device_of a)

  action-declared : (a : Action) → Names a → device_of (renamed f a) < length ds
  unfolding renamed device_of
  action-declared (claim d u) h = c.inside d h
  action-declared (release d) h = c.inside d h

  -- an action takes no more units than its device has
  action-units : (a : Action) → Names a → units_taken a ≤ at cs (device_of a) → units_taken (renamed f a) ≤ at ds (device_of (renamed f a))
  unfolding renamed device_of units_taken
  action-units (claim d u) h k = rw (c.capacity d h) k
  action-units (release d) h k = omega arith

  pub task-good : (task : Task) → Each Names task → GoodTask cs task → GoodTask ds (map (renamed f) task)
  unfolding balanced
  task-good task names good =
      let within = each-place (λ a. units_taken a ≤ at cs (device_of a)) (claim 0 0) task good.units in
      record {
        actions = rw (length-map {B = Action} task (renamed f)) good.actions;
        declared = each_at (λ a. device_of a < length ds) (claim 0 0) (map (renamed f) task)
            (each_map _ (λ a. device_of a < length ds) (renamed f) action-declared task names);
        units = each_at (λ a. units_taken a ≤ at ds (device_of a)) (claim 0 0) (map (renamed f) task)
            (each_map (λ a. units_taken (renamed f a) ≤ at ds (device_of (renamed f a))) (λ a. units_taken a ≤ at ds (device_of a)) (renamed f) (λ a k. k) task
            (each_both Names _ _ action-units task names within));
        balance = λ e.
            by_cases (c.back e)
            (λ o. rw o.2 (balanced-renamed f o.0 (f o.0) false task (each-mono _ _ (λ a q. c.apart (device_of a) o.0 q o.1) task names)
            ∙ good.balance o.0))
            (λ far.
            balanced-renamed f (length cs) e false task
            (each-mono _ (Follows f (length cs) e)
            (λ a q. rw (far (device_of a) q, ne_eqb (device_of a) (length cs) (λ z. omega (arith, c.declared (device_of a) q))))
            task names)
            ∙ good.balance (length cs));
      }
