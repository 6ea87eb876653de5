-- The cleaned set: well formed by the present rules, the set itself if that was, with the same permitted states, map, boxes and dead states.
use Prim.Native.Nat.{ℕ, suc, ◌+◌, ◌<◌, ◌≤◌}
use native.Mathlib.Omega.{arith}
use mathlib.Core.Path.{◌≡◌, refl, sym, ap, ap₂, fun_ext, ◌∙◌}
use mathlib.Core.Logic.{inl, inr}
use mathlib.Core.Bool.{Bool, true, not}
use mathlib.Core.List.{List, [], ◌∷◌, ◌++◌, map, map-map, map-append}
use lib.ListN.{length, length-append, length-map, get_or-map}
use lib.Dec.{ltb}
use borrow.Author.Tests.{ltb-true, ltb-false, ne_eqb}
use Rattle.model.specs.Below.{any, how_many}
use Rattle.model.specs.Set.{claim, device_of, Task, Set, lengths_of, task_at, claimed, at}
use Rattle.model.specs.Layout.{task_words, body, with_end, encode, Rules, WellFormedBy, WellFormed}
use Rattle.model.specs.State.{State}
use Rattle.model.specs.Hold.{held, permitted}
use Rattle.model.specs.Forbidden.{Forbidden, device_boxes, forbidden_from, forbidden, boxes, forbidden_boxes}
use Rattle.model.specs.Map.{map_of, bytes}
use Rattle.model.specs.Reach.{marked, reached_at}
use Rattle.model.specs.UnsafeBoxes.{unsafe_boxes}
use Rattle.model.specs.Plan.{ranks_from, keep, unsafe_of, reached_of, unreached_of}
use Rattle.model.specs.Clean.{kept_from, new_number, renamed, renamed_tasks, cleaned}
use Rattle.model.proofs.Bools.{by_bool, both_ways, any-true, any-intro}
use Rattle.model.proofs.Counts.{many-bound}
use Rattle.model.proofs.Each.{Each, each-mono, each_both, each-place, each_at}
use Rattle.model.proofs.Kept.{many-passed, many-failed, many-apart, many-all, length-kept, kept_at, kept_from_lem, kept-all}
use Rattle.model.proofs.Renamed.{lengths-renamed, renamed-same, renamed-own, Follows, claimed-renamed, held-renamed, device-renamed}
use Rattle.model.proofs.Unclaimed.{Balanced, all-claimed, none-held, none-forbidden}
use Rattle.model.proofs.RenamedTask.{Carries, task-good}

-- every action names a claimed device, as in every set that was read
abbrev pub Named : List Task → Type 0
Named tasks = Each (Each (λ a. claimed tasks (device_of a) ≡ true)) tasks

-- a forbidden box with its device's new number
abbrev pub renumbered : List Task → Forbidden → Forbidden
renumbered tasks b = record { device = new_number tasks b.device; box = b.box }

module _ (tasks : List Task) (named : Named tasks) where
  abbrev f : ℕ → Bool
  f = claimed tasks

  abbrev new : ℕ → ℕ
  new = new_number tasks

  abbrev after : List Task
  after = renamed_tasks new tasks

  -- a claimed device is followed to its new number
  followed : (d : ℕ) → f d ≡ true → Each (Each (Follows new d (new d))) tasks
  followed d e =
      each-mono _ _ (λ task. each-mono (λ a. f (device_of a) ≡ true) (Follows new d (new d)) (λ a q. many-apart f (device_of a) d q e) task) tasks named

  -- its forbidden boxes, and those of all devices from d on
  device-kept : (d capacity : ℕ) → f d ≡ true → device_boxes (new d) capacity after ≡ device_boxes d capacity tasks
  device-kept d capacity e = device-renamed new d (new d) capacity tasks (followed d e)

  forbidden-kept : (d : ℕ) (cs : List ℕ) → forbidden_from (new d) (kept_from f d cs) after ≡ map (renumbered tasks) (forbidden_from d cs tasks)
  unfolding forbidden_from kept_from
  forbidden-kept d [] = refl
  forbidden-kept d (c ∷ cs) =
      let rest = forbidden-kept (suc d) cs in
      let split = map-append (renumbered tasks) (map (λ b. record { device = d; box = b }) (device_boxes d c tasks)) (forbidden_from (suc d) cs tasks) in
      by_bool (f d)
      (λ e.
      rw (e, ← many-passed f d e, rest, device-kept d c e) (
      sym (split ∙ ap (λ l. l ++ map (renumbered tasks) (forbidden_from (suc d) cs tasks)) (map-map (renumbered tasks) (λ b. record { device = d; box = b }) (device_boxes d c tasks)))))
      (λ e. rw (e, none-forbidden d c tasks e, ← many-failed f d e) rest)

  module _ (cs : List ℕ) where
    abbrev kept : List ℕ
    kept = kept_from f 0 cs

    -- the device that has number j afterwards
    pub old_of : (j : ℕ) → j < length kept → (d : ℕ) × (d < length cs) × (f d ≡ true) × (j ≡ new d)
    unfolding how_many
    old_of j h =
        let r = kept_from_lem f 0 cs j h in
        let z : 0 + r.0 ≡ r.0 = omega arith in
        let number : j ≡ new (0 + r.0) = omega (arith, r.3) in
        (r.0, r.1, rw z at r.2, rw z at number)

    -- a claimed device has a number below that of the kept ones, and its capacity there
    pub new-of : (d : ℕ) → d < length cs → f d ≡ true → (new d < length kept) × (at kept (new d) ≡ at cs d)
    unfolding how_many
    new-of d h e =
        let z : 0 + d ≡ d = omega arith in
        kept_at f 0 cs d (new d) h (rw z e) (rw z (omega arith))

    -- the same states are permitted
    permitted-kept : (x : State) → permitted (record { capacities = kept; tasks = after }) x ≡ permitted (record { capacities = cs; tasks = tasks }) x
    unfolding permitted
    permitted-kept x =
        let full-after : ℕ → Bool = λ d. ltb (at kept d) (held d after x) in
        let full : ℕ → Bool = λ d. ltb (at cs d) (held d tasks x) in
        let units : (d : ℕ) → f d ≡ true → held (new d) after x ≡ held d tasks x = λ d e. held-renamed new d (new d) tasks x (followed d e) in
        ap not (both_ways (any (length kept) full-after) (any (length cs) full)
        (λ e.
        let r = any-true (length kept) full-after e in
        let o = old_of r.0 r.1 in
        any-intro (length cs) full o.0 o.1 (rw (o.3, (new-of o.0 o.1 o.2).1, units o.0 o.2) at r.2))
        (λ e.
        let r = any-true (length cs) full e in
        by_bool (f r.0)
        (λ k. let n = new-of r.0 r.1 k in any-intro (length kept) full-after (new r.0) n.0 (rw (n.1, units r.0 k) r.2))
        (λ k. absurd (omega (arith, ltb-true (at cs r.0) (held r.0 tasks x) r.2, none-held r.0 tasks x k)))))

  -- the numbers of the kept devices lead to them
  kept-numbers : (cs : List ℕ) → Carries (λ d. (d < length cs) × (f d ≡ true)) new cs (kept_from f 0 cs)
  kept-numbers cs =
      let kept = length (kept_from f 0 cs) in
      record {
        declared = λ d h. h.0;
        inside = λ d h. (new-of cs d h.0 h.1).0;
        capacity = λ d h. (new-of cs d h.0 h.1).1;
        apart = λ c d h k. many-apart f c d h.1 k.1;
        back = λ e.
            by_bool (ltb e kept)
            (λ k. let o = old_of cs e (ltb-true e kept k) in inl (o.0, (o.1, o.2), o.3))
            (λ k. inr (λ d h. ne_eqb (new d) e (λ z. omega (arith, ltb-false e kept k, (new-of cs d h.0 h.1).0))));
      }

-- the tasks of a well-formed set are such
pub all_named : {rules : Rules} (s : Set) → WellFormedBy rules s → Named s.tasks
all_named s w = all-claimed s.tasks (each-place Balanced [] s.tasks (λ t h. (w.each_task t h).balance))

-- and name declared devices
pub all-declared : {rules : Rules} (s : Set) → WellFormedBy rules s → Each (Each (λ a. device_of a < length s.capacities)) s.tasks
all-declared s w = each-place _ [] s.tasks (λ t h. each-place _ (claim 0 0) (task_at s t) (w.each_task t h).declared)

-- ---- the cleaned set
module _ (s : Set) where
  abbrev ts : List Task
  ts = s.tasks

  abbrev cs : List ℕ
  cs = s.capacities

  pub lengths-cleaned : lengths_of (cleaned s) ≡ lengths_of s
  lengths-cleaned = lengths-renamed (new_number ts) ts

  -- of a set whose devices are all claimed it is the set itself
  module _ (w : WellFormed s) where
    own-number : (d : ℕ) → d ≤ length cs → new_number ts d ≡ d
    own-number d h = many-all (claimed ts) d (λ t k. w.each_device refl t (omega arith))

    pub cleaned-same : cleaned s ≡ s
    cleaned-same =
        let new = new_number ts in
        let numbers : Each (Each (λ a. new (device_of a) ≡ device_of a)) ts =
        each-mono _ _ (λ task. each-mono _ _ (λ a h. own-number (device_of a) (omega arith)) task) ts (all-declared s w) in
        let kept = kept-all (claimed ts) 0 cs (λ i h. let z : 0 + i ≡ i = omega arith in rw z (w.each_device refl i h)) in
        rw (kept, renamed-same new (λ d. d) ts numbers, renamed-own ts)

  module _ {rules : Rules} (w : WellFormedBy rules s) where
    abbrev named : Named ts
    named = all_named s w

    -- the same states are permitted, and so the map is the same
    pub permitted-cleaned : permitted (cleaned s) ≡ permitted s
    permitted-cleaned = fun_ext (permitted-kept ts named cs)

    pub map-cleaned : map_of (cleaned s) ≡ map_of s
    map-cleaned = ap₂ bytes lengths-cleaned permitted-cleaned

    -- the forbidden boxes are the same, each with its device's new number
    pub forbidden-cleaned : forbidden (cleaned s) ≡ map (renumbered ts) (forbidden s)
    unfolding forbidden how_many
    forbidden-cleaned = forbidden-kept ts named 0 cs

    boxes-cleaned : forbidden_boxes (cleaned s) ≡ forbidden_boxes s
    boxes-cleaned = ap boxes forbidden-cleaned ∙ map-map (λ b. b.box) (renumbered ts) (forbidden s)

    -- and so are the unsafe boxes and the dead states
    pub unsafe-cleaned : unsafe_of (cleaned s) ≡ unsafe_of s
    unsafe-cleaned = ap₂ unsafe_boxes lengths-cleaned boxes-cleaned

    reached-cleaned : reached_at (cleaned s) ≡ reached_at s
    reached-cleaned = ap₂ marked lengths-cleaned permitted-cleaned

    pub dead-cleaned : (reached_of (cleaned s) ≡ reached_of s) × (unreached_of (cleaned s) ≡ unreached_of s)
    dead-cleaned = (
      ap₂ (λ (m : List ℕ) (at : ℕ → Bool). keep at (ranks_from 3 0 m)) map-cleaned reached-cleaned,
      ap₂ (λ (m : List ℕ) (at : ℕ → Bool). keep (λ r. not (at r)) (ranks_from 3 0 m)) map-cleaned reached-cleaned,
    )

-- ---- its words
pub length-words : (f : ℕ → ℕ) (tasks : List Task) → length (task_words (renamed_tasks f tasks)) ≡ length (task_words tasks)
unfolding task_words
length-words f [] = refl
length-words f (task ∷ tasks) = let rest = length-words f tasks in simp (length-append, length-map) (omega arith)

-- as many fewer as devices are dropped
pub length-cleaned : (s : Set) → length (encode (cleaned s)) + length s.capacities ≡ length (encode s) + how_many (length s.capacities) (claimed s.tasks)
unfolding with_end body how_many
length-cleaned s =
    let z : 0 + length s.capacities ≡ length s.capacities = omega arith in
    let kept = rw z at (length-kept (claimed s.tasks) 0 s.capacities) in
    let tasks = length-words (new_number s.tasks) s.tasks in
    simp (length-append, length-map) (omega arith)

-- ---- well formed by the present rules
pub cleaned-formed : {rules : Rules} (s : Set) → WellFormedBy rules s → WellFormed (cleaned s)
unfolding how_many
cleaned-formed s w =
    let ts = s.tasks in
    let cs = s.capacities in
    let f = claimed ts in
    let named = all_named s w in
    let kept = kept_from f 0 cs in
    let z : 0 + length cs ≡ length cs = omega arith in
    let fewer : length kept ≤ length cs = omega (arith, rw z at (length-kept f 0 cs), many-bound (length cs) f) in
    let count = length-map {B = Task} ts (map (renamed (new_number ts))) in
    record {
      capacities = λ j h. let o = old_of ts named cs j h in rw (o.3, (new-of ts named cs o.0 o.1 o.2).1) (w.capacities o.0 o.1);
      devices = omega (arith, w.devices);
      some_task = rw count w.some_task;
      tasks = rw count w.tasks;
      each_task = λ t h.
          let k : t < length ts = rw count at h in
          rw (get_or-map (map (renamed (new_number ts))) ts t [])
          (task-good (kept-numbers ts named cs) (task_at s t)
          (each_both (λ a. device_of a < length cs) (λ a. f (device_of a) ≡ true) _ (λ a p q. (p, q)) (task_at s t)
          (each-place (λ a. device_of a < length cs) (claim 0 0) (task_at s t) (w.each_task t k).declared)
          (each_at (Each (λ a. f (device_of a) ≡ true)) [] ts named t k))
          (w.each_task t k));
      each_device = λ _ j h.
          let o = old_of ts named cs j h in
          rw o.3 (claimed-renamed (new_number ts) o.0 (new_number ts o.0) ts (followed ts named o.0 o.2) ∙ o.2);
      grid = rw (lengths-cleaned s) w.grid;
      words = omega (arith, length-cleaned s, many-bound (length cs) f, w.words);
    }
