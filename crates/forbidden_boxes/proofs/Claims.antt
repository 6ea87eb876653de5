-- A device whose claimers can't exceed its capacity has no boxes.
use Prim.Native.Nat.{ℕ, zero, suc, ◌+◌, ◌*◌, ◌-◌, ◌≤◌, ◌<◌}
use native.Mathlib.Nat.{mul-le-mul_right}
use native.Mathlib.Omega.{arith}
use mathlib.Core.Path.{◌≡◌, refl, ap, ap₂}
use mathlib.Core.Bool.{Bool, true, false, cond}
use mathlib.Core.List.{List, [], ◌∷◌}
use lib.ListN.{length}
use lib.Dec.{eqb}
use borrow.Author.Tests.{ne_eqb}
use Rattle.model.specs.Set.{Task, at}
use Rattle.model.specs.Hold.{Hold, holds}
use Rattle.model.specs.Box.{Box}
use Rattle.model.specs.Forbidden.{TaskSet, sides_of, choices_of, choices_of_all, task_sets, total, boxes_of, device_boxes}
use Rattle.model.proofs.Bools.{by_bool}
use Rattle.model.proofs.Each.{Each, each-mono}
use Rattle.model.proofs.Choices.{exceeds-total}
use Rattle.model.proofs.ForbiddenEach.{exceeding-each, choices-each, sets-each}
use Rattle.model.proofs.SetSizes.{AtMost}
use Rattle.forbidden_boxes.specs.Choices.{claimers_from}
use Rattle.forbidden_boxes.proofs.Boxes.{RowsFrom, rows_next}

-- the count, one task at a time
pub claimers-step : (t n : ℕ) (holds : List ℕ) → t < n
    → claimers_from t (n - t) holds ≡ cond (eqb (at holds t) 0) 0 1 + claimers_from (t + 1) (n - (t + 1)) holds
unfolding claimers_from
claimers-step t n holds h = let e : n - t ≡ suc (n - (t + 1)) = omega arith in ap (λ (k : ℕ). claimers_from t k holds) e

pub claimers-none : (t n : ℕ) (holds : List ℕ) → n ≤ t → claimers_from t (n - t) holds ≡ 0
unfolding claimers_from
claimers-none t n holds h = let e : n - t ≡ 0 = omega arith in ap (λ (k : ℕ). claimers_from t k holds) e

-- they are as many as there are tasks at most
pub claimers-le : (t n : ℕ) (holds : List ℕ) → claimers_from t n holds ≤ n
unfolding claimers_from
claimers-le t zero holds = omega arith
claimers-le t (suc n) holds =
    let more = claimers-le (t + 1) n holds in
    by_bool (eqb (at holds t) 0) (λ e. rw e (omega arith)) (λ e. rw e (omega arith))

module _ (d : ℕ) where
  -- a task that claims the device
  abbrev one : Task → ℕ
  one task = cond (eqb (length (holds d task)) 0) 0 1

  -- and how many do
  unfoldable claimers_of : List Task → ℕ
  claimers_of [] = 0
  claimers_of (task ∷ tasks) = one task + claimers_of tasks

  -- a task stands with no more than m units, and with none where it has no holds
  sides-most : (m : ℕ) (c : Bool) (task : Task) → AtMost d m task → Each (λ h. h.units ≤ one task * m) (sides_of d c task)
  unfolding sides_of
  sides-most m true task a = within (holds d task) a
    where
      within : (hs : List Hold) → Each (λ h. h.units ≤ m) hs → Each (λ h. h.units ≤ cond (eqb (length hs) 0) 0 1 * m) hs
      within [] e = tt
      within (h ∷ hs) e =
          let k : ℕ = cond (eqb (length (h ∷ hs)) 0) 0 1 in
          let one-task : k ≡ 1 = rw (ne_eqb (length (h ∷ hs)) 0 (λ z. absurd (omega arith))) in
          each-mono (λ h. h.units ≤ m) (λ g. g.units ≤ cond (eqb (length (h ∷ hs)) 0) 0 1 * m) (λ g l. rw one-task (omega arith)) (h ∷ hs) e
  sides-most m false task a = (omega arith, tt)

  choices-most : (m : ℕ) (cs : TaskSet) (tasks : List Task) → Each (AtMost d m) tasks → Each (λ c. total c ≤ claimers_of tasks * m) (choices_of d cs tasks)
  unfolding claimers_of total
  choices-most m =
      choices-each d (AtMost d m) (λ c task h. h.units ≤ one task * m) (λ cs tasks c. total c ≤ claimers_of tasks * m) (sides-most m) (omega arith)
      (λ c cs task tasks h b l k. omega (arith, l, k))

  none_of : (bs : List Box) → Each (λ b. ⊥) bs → bs ≡ []
  none_of [] e = refl
  none_of (b ∷ bs) e = absurd e.0

  no-boxes : (m s : ℕ) (tasks : List Task) → Each (AtMost d m) tasks → claimers_of tasks * m ≤ s → device_boxes d s tasks ≡ []
  unfolding device_boxes
  no-boxes m s tasks a l =
      let all = choices_of_all d (task_sets (length tasks)) tasks in
      none_of (boxes_of s all)
      (exceeding-each s (λ c. total c ≤ claimers_of tasks * m) (λ b. ⊥) (λ c k e. absurd (omega (arith, k, l, exceeds-total s c e))) all
      (sets-each d (λ c. total c ≤ claimers_of tasks * m) tasks (λ c. choices-most m c tasks a) (task_sets (length tasks))))

  claimers-few : (tasks : List Task) → claimers_of tasks ≤ length tasks
  unfolding claimers_of
  claimers-few [] = omega arith
  claimers-few (task ∷ tasks) =
      let more = claimers-few tasks in
      by_bool (eqb (length (holds d task)) 0) (λ e. rw e (omega arith)) (λ e. rw e (omega arith))

  -- too few tasks
  pub few-tasks : (m s : ℕ) (tasks : List Task) → Each (AtMost d m) tasks → length tasks * m ≤ s → device_boxes d s tasks ≡ []
  few-tasks m s tasks a l = no-boxes m s tasks a (omega (arith, l, mul-le-mul_right m (claimers-few tasks)))

module _ (rows units holds : List ℕ) (d : ℕ) where
  -- the rows tell who claims
  rows-claimers : (t : ℕ) (tasks : List Task) → RowsFrom rows units holds d t tasks → claimers_from t (length tasks) holds ≡ claimers_of d tasks
  unfolding claimers_from claimers_of
  rows-claimers t [] r = refl
  rows-claimers t (task ∷ tasks) r =
      let z : t + 0 ≡ t = omega arith in
      let count = rw z at (r 0 (omega arith)).listed.count in
      ap₂ ◌+◌ (ap (λ (n : ℕ). cond (eqb n 0) 0 1) count) (rows-claimers (t + 1) tasks (rows_next rows units holds d t task tasks r))

  -- too few claimers
  pub few-claimers : (m s : ℕ) (tasks : List Task) → RowsFrom rows units holds d 0 tasks → Each (AtMost d m) tasks → claimers_from 0 (length tasks) holds * m ≤ s
      → device_boxes d s tasks ≡ []
  few-claimers m s tasks r a l = no-boxes d m s tasks a (rw (rows-claimers 0 tasks r) at l)
