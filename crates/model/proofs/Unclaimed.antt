-- Devices that tasks claim, and those that none does: every action names a claimed one, and of one that isn't nothing is held and no box is made.
use Prim.Native.Nat.{ℕ, zero, suc}
use native.Mathlib.Omega.{arith}
use mathlib.Core.Path.{◌≡◌, refl}
use mathlib.Core.Bool.{true, false}
use mathlib.Core.List.Memᴰ
use mathlib.Core.List.{List, [], ◌∷◌, map, Memᴰ}
use lib.ListN.{length}
use lib.Dec.{eqb}
use borrow.Author.Tests.{eq-eqb}
use Rattle.model.specs.Set.{claim, release, device_of, Task, claims, claimed, balanced}
use Rattle.model.specs.State.{State}
use Rattle.model.specs.Hold.{holds_from, units_at, held}
use Rattle.model.specs.Forbidden.{TaskSet, choose, sets_from, task_sets, prefixed, sides_of, choices_of, choices_of_all, boxes_of, device_boxes}
use Rattle.model.proofs.Bools.{by_bool, by_cases, true-not-false, or-false, or_right}
use Rattle.model.proofs.Each.{Each, each_all, each_append, each_map, each_member, member-each}

-- ---- what an action names was claimed
-- a device that a balanced task doesn't claim is named by none of its actions
unnamed : (d : ℕ) (task : Task) → claims d task ≡ false → balanced d false task ≡ true → Each (λ a. eqb (device_of a) d ≡ false) task
unfolding claims balanced device_of
unnamed d [] c b = tt
unnamed d (claim e u ∷ rest) c b =
    let r = or-false (eqb e d) (claims d rest) c in
    (r.0, unnamed d rest r.1 (rw r.0 at b))
unnamed d (release e ∷ rest) c b =
    by_bool (eqb e d) (λ k. true-not-false false (rw k at b) refl) (λ k. (k, unnamed d rest c (rw k at b)))

-- a task is balanced for each device
abbrev pub Balanced : Task → Type 0
Balanced task = (d : ℕ) → balanced d false task ≡ true

names-claimed : (task : Task) → Balanced task → Each (λ a. claims (device_of a) task ≡ true) task
names-claimed task b =
    member-each _ task λ a m.
    by_bool (claims (device_of a) task) (λ e. e) λ e.
    true-not-false (eqb (device_of a) (device_of a)) (eq-eqb (device_of a) (device_of a) refl) (each_member _ task (unnamed (device_of a) task e (b (device_of a))) a m)

claimed-in : (d : ℕ) (tasks : List Task) (task : Task) → Memᴰ task tasks → claims d task ≡ true → claimed tasks d ≡ true
unfolding claimed
claimed-in d [] task m c = absurd (Memᴰ.not-nil m)
claimed-in d (u ∷ tasks) task m c =
    by_cases (Memᴰ.cases_cons m) (λ e. rw (rw e at c)) (λ k. or_right (claims d u) (claimed tasks d) (claimed-in d tasks task k c))

-- every action of balanced tasks names a claimed device
pub all-claimed : (tasks : List Task) → Each Balanced tasks → Each (Each (λ a. claimed tasks (device_of a) ≡ true)) tasks
all-claimed tasks b =
    member-each _ tasks λ task m.
    member-each _ task λ a k.
    claimed-in (device_of a) tasks task m (each_member _ task (names-claimed task (each_member Balanced tasks b task m)) a k)

-- ---- a device that no task claims
module _ (d : ℕ) where
  no-holds : (p : ℕ) (task : Task) → claims d task ≡ false → holds_from d p task ≡ []
  unfolding claims holds_from
  no-holds p [] c = refl
  no-holds p (claim e u ∷ rest) c = let r = or-false (eqb e d) (claims d rest) c in rw r.0 (no-holds (suc p) rest r.1)
  no-holds p (release e ∷ rest) c = no-holds (suc p) rest c

  pub none-held : (tasks : List Task) (x : State) → claimed tasks d ≡ false → held d tasks x ≡ 0
  unfolding claimed held units_at
  none-held [] x c = refl
  none-held (task ∷ tasks) [] c = refl
  none-held (task ∷ tasks) (p ∷ x) c =
      let r = or-false (claims d task) (claimed tasks d) c in
      let rest : held d tasks x ≡ 0 = none-held tasks x r.1 in
      rw (no-holds 0 task r.0) (omega arith)

  -- a task is in the set
  abbrev HasTask : TaskSet → Type 0
  HasTask [] = ⊥
  HasTask (true ∷ c) = Unit {0}
  HasTask (false ∷ c) = HasTask c

  has-task : (k n : ℕ) → Each HasTask (choose (suc k) n)
  unfolding choose
  has-task k zero = tt
  has-task k (suc n) =
      each_append HasTask (map (λ c. true ∷ c) (choose k n)) (map (λ c. false ∷ c) (choose (suc k) n))
      (each_map (λ c. Unit {0}) HasTask (λ c. true ∷ c) (λ c u. tt) (choose k n) (each_all (λ c. Unit {0}) (λ c. tt) (choose k n)))
      (each_map HasTask HasTask (λ c. false ∷ c) (λ c h. h) (choose (suc k) n) (has-task k n))

  have-tasks : (k j n : ℕ) → Each HasTask (sets_from (suc k) j n)
  unfolding sets_from
  have-tasks k zero n = tt
  have-tasks k (suc j) n = each_append HasTask (choose (suc k) n) (sets_from (suc (suc k)) j n) (has-task k n) (have-tasks (suc k) j n)

  no-choice : (c : TaskSet) (tasks : List Task) → claimed tasks d ≡ false → HasTask c → choices_of d c tasks ≡ []
  unfolding claimed choices_of prefixed sides_of
  no-choice [] tasks e h = absurd h
  no-choice (b ∷ c) [] e h = refl
  no-choice (true ∷ c) (task ∷ tasks) e h = rw (no-holds 0 task (or-false (claims d task) (claimed tasks d) e).0)
  no-choice (false ∷ c) (task ∷ tasks) e h = rw (no-choice c tasks (or-false (claims d task) (claimed tasks d) e).1 h)

  no-choices : (cs : List TaskSet) (tasks : List Task) → claimed tasks d ≡ false → Each HasTask cs → choices_of_all d cs tasks ≡ []
  unfolding choices_of_all
  no-choices [] tasks e h = refl
  no-choices (c ∷ cs) tasks e h = rw (no-choice c tasks e h.0, no-choices cs tasks e h.1)

  pub none-forbidden : (capacity : ℕ) (tasks : List Task) → claimed tasks d ≡ false → device_boxes d capacity tasks ≡ []
  unfolding device_boxes boxes_of
  none-forbidden capacity tasks e =
      let n = length tasks in
      rw (no-choices (task_sets n) tasks e (have-tasks 0 n n))
