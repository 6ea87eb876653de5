-- A set is well formed exactly if each sentence of SCOPE.md, "Sets", holds of it.
use Prim.Native.Nat.{ℕ, zero, suc, ◌*◌, ◌<◌, ◌≤◌}
use native.Mathlib.Omega.{arith}
use mathlib.Core.Path.{◌≡◌, refl, sym, ap, ◌∙◌}
use mathlib.Core.Logic.{◌↔◌, ◌⊎◌, inl, inr}
use mathlib.Core.Bool.{Bool, true, false}
use mathlib.Core.List.{List, [], ◌∷◌, map}
use lib.ListN.{length, get_or, take, length-append, length-map}
use lib.Seq.{take-length}
use lib.Dec.{eqb}
use borrow.Author.Tests.{eqb-true, eq-eqb}
use Rattle.model.specs.Set.{Action, claim, release, device_of, units_taken, Task, Set, task_at, action_at, at, balanced}
use Rattle.model.specs.Layout.{word, DEVICE, END, action_word, task_words, body, with_end, Rules, WellFormedBy}
use Rattle.model.specs.Read.{held_after}
use Rattle.model.proofs.Bools.{by_bool, true-not-false}
use Rattle.model.proofs.Held.{held-append, releases, balanced-on, balanced-first, balanced-next, balanced-close}
use Rattle.demands.specs.Terms.{StillHeld, Claims}
use Rattle.demands.specs.Reading.{InLayout}
use Rattle.demands.proofs.ClaimedDevices.{is-claimed, claimed-test}
use Rattle.demands.proofs.StillHeldSteps.{walk-still}

-- each action finds its device as it needs it: a claim not held, a release held
abbrev Fits : ℕ → Bool → Task → Type 0
Fits d h task = (p : ℕ) → p < length task → eqb (device_of (get_or task p (claim 0 0))) d ≡ true → held_after d h (take p task) ≡ releases (get_or task p (claim 0 0))

-- one action on
held_on : (d : ℕ) (h : Bool) (a : Action) (task : Task) → held_after d h (a ∷ task) ≡ held_after d (held_after d h (a ∷ [])) task
held_on d h a task = held-append d h (a ∷ []) task

balanced-fits : (d : ℕ) (h : Bool) (task : Task) → balanced d h task ≡ true → Fits d h task
balanced-fits d h [] b p l e = absurd (omega arith)
balanced-fits d h (a ∷ task) b zero l e = unfold held_after in balanced-first d h a task b e
balanced-fits d h (a ∷ task) b (suc p) l e =
    held_on d h a (take p task) ∙ balanced-fits d (held_after d h (a ∷ [])) task (balanced-next d h a task b) p (omega arith) e

fits-balanced : (d : ℕ) (h : Bool) (task : Task) → Fits d h task → held_after d h task ≡ false → balanced d h task ≡ true
unfolding balanced held_after
fits-balanced d h [] f c = rw c
fits-balanced d h (a ∷ task) f c =
    balanced-on d h a task (f 0 (omega arith))
    ∙ fits-balanced d (held_after d h (a ∷ [])) task (λ p l e. sym (held_on d h a (take p task)) ∙ f (suc p) (omega arith) e) (sym (held_on d h a task) ∙ c)

-- an action claims or releases
pub by-action : {G : Type 0} (a : Action) → ((d e : ℕ) → a ≡ claim d e → G) → ((d : ℕ) → a ≡ release d → G) → G
by-action (claim d e) p q = p d e refl
by-action (release d) p q = q d refl

-- at most 255 actions a task make at most 256 words
words-few : (tasks : List Task) → ((t : ℕ) → t < length tasks → length (get_or tasks t []) ≤ 255) → length (task_words tasks) ≤ 256 * length tasks
unfolding task_words
words-few [] h = omega arith
words-few (task ∷ tasks) h =
    omega (
      arith,
      length-append (map action_word task) (task_words tasks),
      length-map task action_word,
      h 0 (omega arith),
      words-few tasks (λ t l. h (suc t) (omega arith)),
    )

-- what a walk finds after k actions, with or without the device
module _ (d : ℕ) (task : Task) (k : ℕ) (l : k ≤ length task) where
  still_walk : StillHeld d task k → held_after d false (take k task) ≡ true
  still_walk = (walk-still d task k l).1

  not-still : held_after d false (take k task) ≡ false → StillHeld d task k → ⊥
  not-still e h = true-not-false (held_after d false (take k task)) (still_walk h) e

  walk-not : (StillHeld d task k → ⊥) → held_after d false (take k task) ≡ false
  walk-not n = by_bool (held_after d false (take k task)) (λ e. absurd (n ((walk-still d task k l).0 e))) (λ e. e)

-- a task balanced for each device, and each sentence on claims and releases
module _ (task : Task) where
  pub record Sentences : Type 0 where
    pub claims : (p d : ℕ) → p < length task → Claims (get_or task p (claim 0 0)) d → StillHeld d task p → ⊥
    pub releases-held : (p d : ℕ) → p < length task → get_or task p (claim 0 0) ≡ release d → StillHeld d task p
    pub closes : (d : ℕ) → StillHeld d task (length task) → ⊥

  balanced-sentences : ((d : ℕ) → balanced d false task ≡ true) → Sentences
  unfolding releases device_of
  balanced-sentences b = record {
    claims = λ p d h a.
        not-still d task p (omega arith) (balanced-fits d false task (b d) p h (rw a.1 (eq-eqb d d refl)) ∙ ap releases a.1);
    releases-held = λ p d h a.
        (walk-still d task p (omega arith)).0 (balanced-fits d false task (b d) p h (rw a (eq-eqb d d refl)) ∙ ap releases a);
    closes = λ d. not-still d task (length task) (omega arith) (rw take-length (balanced-close d false task (b d)));
  }

  sentences-balanced : Sentences → (d : ℕ) → balanced d false task ≡ true
  unfolding releases device_of
  sentences-balanced s d =
      fits-balanced d false task
      (λ p l e. by-action (get_or task p (claim 0 0))
      (λ c u a.
      let same : c ≡ d = eqb-true c d (rw a at e) in
      rw a (walk-not d task p (omega arith) (s.claims p d l (u, a ∙ ap (λ (b : ℕ). claim b u) same))))
      (λ c a.
      let same : c ≡ d = eqb-true c d (rw a at e) in
      rw a (still_walk d task p (omega arith) (s.releases-held p d l (a ∙ ap release same)))))
      (rw take-length at (walk-not d task (length task) (omega arith) (s.closes d)))

-- the device of an action
module _ (n : ℕ) (a : Action) where
  named : device_of a < n → (d : ℕ) → Claims a d ⊎ (a ≡ release d) → d < n
  unfolding device_of
  named h d (inl e) = rw e.1 at h
  named h d (inr e) = rw e at h

  names : ((d : ℕ) → Claims a d ⊎ (a ≡ release d) → d < n) → device_of a < n
  unfolding device_of
  names f = by-action a (λ d u e. rw e (f d (inl (u, e)))) (λ d e. rw e (f d (inr e)))

-- and its units
module _ (cs : List ℕ) (a : Action) where
  taken : units_taken a ≤ at cs (device_of a) → (d e : ℕ) → a ≡ claim d e → suc e ≤ at cs d
  unfolding device_of units_taken
  taken h d e q = rw q at h

  takes : ((d e : ℕ) → a ≡ claim d e → suc e ≤ at cs d) → units_taken a ≤ at cs (device_of a)
  unfolding device_of units_taken
  takes f = by-action a (λ d e q. rw q (f d e q)) (λ d q. rw q (omega arith))

formed-layout : (rules : Rules) (s : Set) → WellFormedBy rules s → InLayout rules s
formed-layout rules s w = record {
  devices = w.devices;
  capacity = w.capacities;
  tasks = (w.some_task, w.tasks);
  actions = λ t h. (w.each_task t h).actions;
  declared = λ t p d h l. named (length s.capacities) (action_at s t p) ((w.each_task t h).declared p l) d;
  units = λ t p d e h l. taken s.capacities (action_at s t p) ((w.each_task t h).units p l) d e;
  claims = λ t p d h. (told t h).claims p d;
  releases = λ t p d h. (told t h).releases-held p d;
  closes = λ t d h. (told t h).closes d;
  each_claimed = λ r d h. is-claimed s d (w.each_device r d h);
  grid = w.grid;
}
  where
    told : (t : ℕ) → t < length s.tasks → Sentences (task_at s t)
    told t h = balanced-sentences (task_at s t) (w.each_task t h).balance

layout-formed : (rules : Rules) (s : Set) → InLayout rules s → WellFormedBy rules s
unfolding body with_end
layout-formed rules s i = record {
  capacities = i.capacity;
  devices = i.devices;
  some_task = i.tasks.0;
  tasks = i.tasks.1;
  each_task = λ t h. record {
    actions = i.actions t h;
    declared = λ p l. names (length s.capacities) (action_at s t p) (λ d. i.declared t p d h l);
    units = λ p l. takes s.capacities (action_at s t p) (λ d e. i.units t p d e h l);
    balance = sentences-balanced (task_at s t)
        (record { claims = λ p d. i.claims t p d h; releases-held = λ p d. i.releases t p d h; closes = λ d. i.closes t d h });
  };
  each_device = λ r d h. claimed-test s d (i.each_claimed r d h);
  grid = i.grid;
  words = omega (
    arith,
    length-append (body s) (word END (length (body s)) ∷ []),
    length-append (map (word DEVICE) s.capacities) (task_words s.tasks),
    length-map s.capacities (word DEVICE),
    words-few s.tasks i.actions,
    i.devices,
    i.tasks.1,
  );
}

pub layout-exact : (rules : Rules) (s : Set) → WellFormedBy rules s ↔ InLayout rules s
layout-exact rules s = (formed-layout rules s, layout-formed rules s)
