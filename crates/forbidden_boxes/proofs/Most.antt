-- The most units of each device, noted action by action and task by task, and what they tell of the holds.
use Prim.Native.Nat.{ℕ, suc, max, ◌+◌, ◌<◌, ◌≤◌}
use native.Mathlib.Numerals.{add-one}
use native.Mathlib.Nat.{eq-or-lt_of_le, le_of_suc-le-suc}
use native.Mathlib.Omega.{arith}
use mathlib.Core.Path.{◌≡◌, refl}
use mathlib.Core.Bool.{true, false}
use mathlib.Core.List.{List, [], ◌∷◌}
use lib.ListN.{length, get_or, set}
use lib.Seq.{get_or-set_same, get_or-set_other}
use lib.Dec.{eqb}
use borrow.Author.Tests.{eqb-true, eqb-false}
use Rattle.model.specs.Set.{Action, claim, release, device_of, is_claim, units_taken, Task, Set, task_at, action_at, at}
use Rattle.model.specs.Layout.{action_of}
use Rattle.model.specs.Hold.{holds_from}
use Rattle.model.proofs.Bools.{by_bool, by_cases, true-not-false}
use Rattle.model.proofs.Each.{Each, each-place}
use Rattle.model.proofs.SetSizes.{AtMost}
use Rattle.shape.specs.declared.Shape.{Shape}
use Rattle.shape.specs.Declares.{Declares}
use Rattle.shape.proofs.Declared.{length-is}
use Rattle.forbidden_boxes.specs.Units.{TaskNoted, MostUnits, NoMore}

-- a release takes none
pub release-units : (a : Action) → is_claim a ≡ false → units_taken a ≡ 0
unfolding is_claim units_taken
release-units (claim d u) e = true-not-false true refl e
release-units (release d) e = refl

-- an entry raised: none falls
raised : (l : List ℕ) (i v : ℕ) → i < length l → at l i ≤ v → (j : ℕ) → at l j ≤ at (set l i v) j
raised l i v h k j =
    by_bool (eqb j i)
    (λ e. rw (eqb-true j i e, get_or-set_same l i v 0 h) k)
    (λ e. rw (get_or-set_other l i j v 0 (eqb-false j i e)) (omega arith))

module _ (words : List ℕ) (start : ℕ) (before : List ℕ) where
  -- the next action
  pub one-noted : {most : List ℕ} {p d v : ℕ} → TaskNoted words start p before most → d ≡ device_of (action_of (at words (start + p))) → d < length most
      → v ≡ max (at most d) (units_taken (action_of (at words (start + p)))) → TaskNoted words start (p + 1) before (set most d v)
  one-noted {most} {p} {d} {v} n e h f =
      let up = raised most d v h (omega arith) in
      rw (add-one p)
      (record {
        kept = λ j. omega (arith, n.kept j, up j);
        within = λ q l.
            by_cases (eq-or-lt_of_le (le_of_suc-le-suc l))
            (λ z. rw (z, ← e, get_or-set_same most d v 0 h) (omega arith))
            (λ k. omega (arith, n.within q k, up (device_of (action_of (at words (start + q))))));
      })

  -- one that takes nothing
  pub none_more : {most : List ℕ} {p : ℕ} → TaskNoted words start p before most → units_taken (action_of (at words (start + p))) ≡ 0
      → TaskNoted words start (p + 1) before most
  none_more {most} {p} n e =
      rw (add-one p)
      (record {
        kept = n.kept;
        within = λ q l. by_cases (eq-or-lt_of_le (le_of_suc-le-suc l)) (λ z. rw z (omega (arith, e))) (n.within q);
      })

module _ {words : List ℕ} {shape : Shape} {s : Set} (says : Declares words shape s) where
  -- one task more
  pub task-more : {before most : List ℕ} {t : ℕ} → MostUnits s t before → TaskNoted words (at shape.starts t) (at shape.lengths t) before most
      → MostUnits s (t + 1) most
  task-more {before} {most} {t} m n u p h l =
      by_cases (eq-or-lt_of_le (le_of_suc-le-suc (rw (add-one t) at h)))
      (λ z. let k = rw z at l in rw (z, ← says.action t p k) (n.within p (rw (length-is says t) k)))
      (λ k. omega (arith, m u p k l, n.kept (device_of (action_at s u p))))

-- the holds of a task take what its claims do
holds-within : (d m q : ℕ) (task : Task) → ((p : ℕ) → p < length task → device_of (get_or task p (claim 0 0)) ≡ d → units_taken (get_or task p (claim 0 0)) ≤ m)
    → Each (λ h. h.units ≤ m) (holds_from d q task)
unfolding holds_from device_of units_taken
holds-within d m q [] f = tt
holds-within d m q (release e ∷ rest) f = holds-within d m (suc q) rest (λ p h. f (suc p) (omega arith))
holds-within d m q (claim e u ∷ rest) f =
    let more = holds-within d m (suc q) rest (λ p h. f (suc p) (omega arith)) in
    by_bool (eqb e d) (λ k. rw k (f 0 (omega arith) (eqb-true e d k), more)) (λ k. rw k more)

pub tasks-within : (s : Set) (d m : ℕ) → NoMore s d m → Each (AtMost d m) s.tasks
tasks-within s d m f = each-place (AtMost d m) [] s.tasks (λ t h. holds-within d m 0 (task_at s t) (λ p l. f t p h l))
