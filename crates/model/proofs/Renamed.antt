-- Tasks with other numbers for the devices: what device e is in them, where it was device d before. For the cleaner, and for every call that makes a set out of
-- sets.
use Prim.Native.Nat.{ℕ, suc}
use mathlib.Core.Path.{◌≡◌, refl, ap}
use mathlib.Core.Bool.{Bool, true, false}
use mathlib.Core.List.{List, [], ◌∷◌, map}
use lib.ListN.{length, length-map}
use lib.Dec.{eqb}
use Rattle.model.specs.Set.{Action, claim, release, device_of, Task, lengths, claims, claimed, balanced}
use Rattle.model.specs.State.{State}
use Rattle.model.specs.Hold.{held_to, holds_from, held}
use Rattle.model.specs.Forbidden.{TaskSet, task_sets, sides_of, choices_of, choices_of_all, boxes_of, device_boxes}
use Rattle.model.specs.Clean.{renamed, renamed_tasks}
use Rattle.model.proofs.Each.{Each}

-- the action counts stay
pub lengths-renamed : (f : ℕ → ℕ) (tasks : List Task) → lengths (renamed_tasks f tasks) ≡ lengths tasks
lengths-renamed f [] = refl
lengths-renamed f (task ∷ tasks) = rw (length-map {B = Action} task (renamed f), lengths-renamed f tasks)

-- numbers that agree on the devices named
module _ (f g : ℕ → ℕ) where
  abbrev Agrees : Action → Type 0
  Agrees a = f (device_of a) ≡ g (device_of a)

  pub action-same : (a : Action) → Agrees a → renamed f a ≡ renamed g a
  unfolding renamed device_of
  action-same (claim d u) e = rw e
  action-same (release d) e = rw e

  task-same : (task : Task) → Each Agrees task → map (renamed f) task ≡ map (renamed g) task
  task-same [] h = refl
  task-same (a ∷ task) h = rw (action-same a h.0, task-same task h.1)

  pub renamed-same : (tasks : List Task) → Each (Each Agrees) tasks → renamed_tasks f tasks ≡ renamed_tasks g tasks
  renamed-same [] h = refl
  renamed-same (task ∷ tasks) h = rw (task-same task h.0, renamed-same tasks h.1)

-- the devices' own numbers
own-action : (a : Action) → renamed (λ d. d) a ≡ a
unfolding renamed
own-action (claim d u) = refl
own-action (release d) = refl

own-task : (task : Task) → map (renamed (λ d. d)) task ≡ task
own-task [] = refl
own-task (a ∷ task) = rw (own-action a, own-task task)

pub renamed-own : (tasks : List Task) → renamed_tasks (λ d. d) tasks ≡ tasks
renamed-own [] = refl
renamed-own (task ∷ tasks) = rw (own-task task, renamed-own tasks)

-- an action names e by its new number exactly if it named d
abbrev pub Follows : (ℕ → ℕ) → ℕ → ℕ → Action → Type 0
Follows f d e a = eqb (f (device_of a)) e ≡ eqb (device_of a) d

module _ (f : ℕ → ℕ) (d e : ℕ) where
  -- ---- in one task
  pub balanced-renamed : (h : Bool) (task : Task) → Each (Follows f d e) task → balanced e h (map (renamed f) task) ≡ balanced d h task
  unfolding balanced renamed device_of
  balanced-renamed h [] s = refl
  balanced-renamed h (claim c u ∷ rest) s = rw (s.0, balanced-renamed true rest s.1, balanced-renamed h rest s.1)
  balanced-renamed h (release c ∷ rest) s = rw (s.0, balanced-renamed false rest s.1, balanced-renamed h rest s.1)

  pub claims-renamed : (task : Task) → Each (Follows f d e) task → claims e (map (renamed f) task) ≡ claims d task
  unfolding claims renamed device_of
  claims-renamed [] s = refl
  claims-renamed (claim c u ∷ rest) s = rw (s.0, claims-renamed rest s.1)
  claims-renamed (release c ∷ rest) s = claims-renamed rest s.1

  held-to-renamed : (p : ℕ) (task : Task) → Each (Follows f d e) task → held_to e p (map (renamed f) task) ≡ held_to d p task
  unfolding held_to renamed device_of
  held-to-renamed p [] s = refl
  held-to-renamed p (claim c u ∷ rest) s = held-to-renamed (suc p) rest s.1
  held-to-renamed p (release c ∷ rest) s = rw (s.0, held-to-renamed (suc p) rest s.1)

  pub holds-renamed : (p : ℕ) (task : Task) → Each (Follows f d e) task → holds_from e p (map (renamed f) task) ≡ holds_from d p task
  unfolding holds_from renamed device_of
  holds-renamed p [] s = refl
  holds-renamed p (claim c u ∷ rest) s = rw (s.0, held-to-renamed (suc p) rest s.1, holds-renamed (suc p) rest s.1)
  holds-renamed p (release c ∷ rest) s = holds-renamed (suc p) rest s.1

  -- ---- in all of them
  pub claimed-renamed : (tasks : List Task) → Each (Each (Follows f d e)) tasks → claimed (renamed_tasks f tasks) e ≡ claimed tasks d
  unfolding claimed
  claimed-renamed [] s = refl
  claimed-renamed (task ∷ tasks) s = rw (claims-renamed task s.0, claimed-renamed tasks s.1)

  pub held-renamed : (tasks : List Task) (x : State) → Each (Each (Follows f d e)) tasks → held e (renamed_tasks f tasks) x ≡ held d tasks x
  unfolding held
  held-renamed [] x s = refl
  held-renamed (task ∷ tasks) [] s = refl
  held-renamed (task ∷ tasks) (p ∷ x) s = rw (holds-renamed 0 task s.0, held-renamed tasks x s.1)

  sides-renamed : (b : Bool) (task : Task) → Each (Follows f d e) task → sides_of e b (map (renamed f) task) ≡ sides_of d b task
  unfolding sides_of
  sides-renamed true task s = holds-renamed 0 task s
  sides-renamed false task s = rw (length-map {B = Action} task (renamed f))

  choices-renamed : (c : TaskSet) (tasks : List Task) → Each (Each (Follows f d e)) tasks → choices_of e c (renamed_tasks f tasks) ≡ choices_of d c tasks
  unfolding choices_of
  choices-renamed [] [] s = refl
  choices-renamed [] (task ∷ tasks) s = refl
  choices-renamed (b ∷ c) [] s = refl
  choices-renamed (b ∷ c) (task ∷ tasks) s = rw (sides-renamed b task s.0, choices-renamed c tasks s.1)

  all_renamed : (cs : List TaskSet) (tasks : List Task) → Each (Each (Follows f d e)) tasks → choices_of_all e cs (renamed_tasks f tasks) ≡ choices_of_all d cs tasks
  unfolding choices_of_all
  all_renamed [] tasks s = refl
  all_renamed (c ∷ cs) tasks s = rw (choices-renamed c tasks s, all_renamed cs tasks s)

  -- the forbidden boxes of the device
  pub device-renamed : (capacity : ℕ) (tasks : List Task) → Each (Each (Follows f d e)) tasks
      → device_boxes e capacity (renamed_tasks f tasks) ≡ device_boxes d capacity tasks
  unfolding device_boxes
  device-renamed capacity tasks s =
      rw (length-map {B = Task} tasks (map (renamed f))) (ap (boxes_of capacity) (all_renamed (task_sets (length tasks)) tasks s))
