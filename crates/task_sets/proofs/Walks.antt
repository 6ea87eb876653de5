-- The walk from a set to the next: how its row of tasks comes down, how its gap is found, and that its sets are the table, in which sizes never fall.
use Prim.Native.Nat.{ℕ, zero, suc, ◌+◌, ◌*◌, ◌-◌, ◌/◌, ◌^◌, ◌<◌, ◌≤◌}
use native.Mathlib.Nat.{pow-suc}
use native.Mathlib.Omega.{arith}
use mathlib.Core.Path.{◌≡◌, refl, ◌∙◌}
use mathlib.Core.Bool.{false, not, ◌&&◌}
use mathlib.Core.List.{[], ◌∷◌}
use lib.Count.{ones}
use lib.Dec.{eqb, ltb}
use lib.ListN.{length}
use borrow.Author.Tests.{lt-ltb, le-ltb, eqb-true, eqb-false, ltb-true, not-false}
use Rattle.model.specs.Below.{any}
use Rattle.model.specs.Set.{at}
use Rattle.model.specs.Forbidden.{choose, sets_from}
use Rattle.model.specs.TaskTable.{mask_of, table}
use Rattle.model.proofs.Bools.{by_bool, by_cases, and-true, or-true, any_false}
use Rattle.task_sets.specs.Order.{tasks_of, list_before, set_before}
use Rattle.task_sets.specs.Next.{follow, after, next, run, Walk}
use Rattle.task_sets.proofs.Order.{table-in-order}
use Rattle.task_sets.proofs.Size.{ones-tasks}

-- half of task j + 1 is task j
half : (j : ℕ) → 2 ^ suc j / 2 ≡ 2 ^ j
half j = omega (arith, pow-suc 2 j)

-- the row has come down past the tasks behind `task`, and what it leads to is what it led to from task n
abbrev pub Down : ℕ → ℕ → ℕ → ℕ → ℕ → Type 0
Down n before row₀ task row = (j : ℕ) × (task ≡ 2 ^ j / 2) × (before < 2 ^ j) × (follow j before row ≡ follow n before row₀)

pub down-past : (n before row₀ task row : ℕ) → Down n before row₀ task row → before < task → Down n before row₀ (task / 2) (row / 2)
unfolding follow
down-past n before row₀ task row (zero, e, b, f) h = absurd (omega arith)
down-past n before row₀ task row (suc j, e, b, f) h =
    let k : task ≡ 2 ^ j = e ∙ half j in
    let l : before < 2 ^ j = omega arith in
    (j, omega arith, l, rw (lt-ltb before (2 ^ j) l) at f)

pub down-there : (n before row₀ task row : ℕ) → Down n before row₀ task row → task ≤ before → before - task + row ≡ follow n before row₀
unfolding follow
down-there n before row₀ task row (zero, e, b, f) h = omega (arith, f)
down-there n before row₀ task row (suc j, e, b, f) h =
    let k : task ≡ 2 ^ j = e ∙ half j in
    let l : 2 ^ j ≤ before = omega arith in
    rw k (rw (le-ltb before (2 ^ j) l) at f)

-- the tasks behind `gap` are taken off, `gap` or a task before it is absent, and what follows is what follows m
abbrev pub Behind : ℕ → ℕ → ℕ → Type 0
Behind m before gap = (n : ℕ) × (gap ≡ 2 ^ n) × (before + 1 < 2 * gap) × (after (suc n) before ≡ next m)

pub behind_more : (m before gap : ℕ) → Behind m before gap → gap ≤ before → Behind m (before - gap) (gap / 2)
unfolding after
behind_more m before gap (zero, e, b, f) h = absurd (omega arith)
behind_more m before gap (suc n, e, b, f) h =
    let k : gap / 2 ≡ 2 ^ n = rw e (half n) in
    let l : 2 ^ suc n ≤ before = omega arith in
    (n, k, omega (arith, pow-suc 2 n), rw (e, ← (rw (le-ltb before (2 ^ suc n) l) at f)))

pub gap-found : (m before gap : ℕ) → Behind m before gap → before < gap → (n : ℕ) × (gap ≡ 2 ^ n) × (follow n before (2 ^ 8 - gap) ≡ next m)
unfolding after
gap-found m before gap (n, e, b, f) h =
    let l : before < 2 ^ n = omega arith in
    (n, e, rw e (rw (lt-ltb before (2 ^ n) l) at f))

-- the whole run at once, by computing it
pub walk : Walk
unfolding run after follow table mask_of sets_from choose
walk = record { whole = refl; ends = refl }

-- a run that is left, one set further
pub run-none : (j m : ℕ) → j ≡ 0 → run j m ≡ []
unfolding run
run-none j m e = rw e

pub run-more : (j m : ℕ) → (j ≡ 0 → ⊥) → run j m ≡ m ∷ run (j - 1) (next m)
unfolding run
run-more zero m n = absurd (n refl)
run-more (suc j) m n = let e : suc j - 1 ≡ j = omega arith in rw e

bytes : any 255 (λ k. not (ltb (at table k) 256)) ≡ false
unfolding any table mask_of sets_from choose
bytes = refl

-- the tasks of a set of the table, counted both ways
size-at : (k : ℕ) → k < 255 → ones (at table k) ≡ length (tasks_of (at table k))
size-at k h =
    let b = any_false 255 (λ k. not (ltb (at table k) 256)) bytes k h in
    ones-tasks (at table k) (ltb-true (at table k) 256 (not-false (ltb (at table k) 256) b))

-- no set has more tasks than one behind it
pub sizes-rise : (i j : ℕ) → i ≤ j → j < 255 → ones (at table i) ≤ ones (at table j)
unfolding set_before
sizes-rise i j h l =
    by_bool (eqb i j) (λ e. rw (eqb-true i j e) (omega arith)) λ e.
    let n = eqb-false i j e in
    let x = length (tasks_of (at table i)) in
    let y = length (tasks_of (at table j)) in
    let p = size-at i (omega arith) in
    let q = size-at j l in
    by_cases (or-true (ltb x y) (eqb x y && list_before (tasks_of (at table i)) (tasks_of (at table j))) (table-in-order i j (omega (arith, n)) l))
    (λ b. omega (arith, p, q, ltb-true x y b))
    (λ b. omega (arith, p, q, eqb-true x y (and-true (eqb x y) (list_before (tasks_of (at table i)) (tasks_of (at table j))) b).0))
