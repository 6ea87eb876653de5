-- The boxes of the task sets of one device and of all devices: which they are, and their order.
use Prim.Native.Nat.{ℕ, zero, suc, ◌+◌, ◌-◌, ◌<◌, ◌≤◌}
use native.Mathlib.Omega.{arith}
use mathlib.Core.Path.{◌≡◌, refl, sym, ap, ◌∙◌}
use mathlib.Core.Logic.{◌⊎◌, inl, inr}
use mathlib.Core.Bool.{true}
use mathlib.Core.List.{List, [], ◌∷◌, map, Memᴰ}
use lib.ListN.{length, length-map, get_or}
use Rattle.model.specs.Set.{Task, at}
use Rattle.model.specs.Box.{Box, side}
use Rattle.model.specs.Forbidden.{TaskSet, task_sets, Choice, choices_of, choices_of_all, total, box_of, device_boxes, Forbidden, forbidden_from}
use Rattle.model.proofs.Bools.{by_cases}
use Rattle.model.proofs.Each.{Each}
use Rattle.model.proofs.Choices.{all-mem, mem-all, mem-sets, taken, exceeds-intro, exceeds-total, exceeds-needed}
use Rattle.model.proofs.ForbiddenExact.{choice-taken}
use Rattle.demands.specs.Terms.{sum_below, before, Ordered}
use Rattle.demands.specs.ForbiddenRule.{task_list, side_units, ListBefore, lows, Precedes}
use Rattle.demands.proofs.Orders.{ordered-append, ordered-map, ordered-weaken}
use Rattle.demands.proofs.TaskSetList.{members, BySize, sets-ordered}
use Rattle.demands.proofs.BoxList.{chosen, tasks-chosen, ByStarts, Sides, choice_of, box-back, choice-total, needed-spare, spare-needed, Balanced, choices-told, choices-listed, choices-ordered, boxes-told, boxes-listed, boxes-ordered}

-- by task list, then by choice of holds
abbrev ByTasks : Box → Box → Type 0
ByTasks b e = ListBefore (task_list b) (task_list e) ⊎ ((task_list b ≡ task_list e) × (before (lows b) (lows e) ≡ true))

-- the units of a box over these tasks
abbrev pub units_over : List Task → Box → ℕ
units_over tasks b = sum_below (length tasks) (λ t. side_units (get_or tasks t []) (side b t))

-- a box of a device of capacity s: its sides, and that its units just exceed the capacity
pub record DeviceBox (d s : ℕ) (tasks : List Task) (b : Box) : Type 0 where
  pub sides : Sides d tasks b
  pub exceeds : s < units_over tasks b
  pub none_spare : (t : ℕ) → t < length tasks → 0 < (side b t).low → units_over tasks b - side_units (get_or tasks t []) (side b t) ≤ s

module _ (d : ℕ) (tasks : List Task) (g : Each (Balanced d) tasks) where
  -- all choices of a task set have its task list
  same-tasks : (c : TaskSet) (e : Choice) → Memᴰ e (choices_of d c tasks) → task_list (box_of e) ≡ members 0 c
  same-tasks c e m = tasks-chosen 0 (box_of e) ∙ ap (members 0) (sym (choices-told d c tasks g e m).0)

  abbrev ChoicesBy : Choice → Choice → Type 0
  ChoicesBy c e = ByTasks (box_of c) (box_of e)

  all-ordered : (cs : List TaskSet) → Ordered BySize cs → Ordered ChoicesBy (choices_of_all d cs tasks)
  unfolding choices_of_all
  all-ordered [] o = tt
  all-ordered (c ∷ cs) o =
      ordered-append ChoicesBy (choices_of d c tasks) (choices_of_all d cs tasks)
      (ordered-weaken ByStarts ChoicesBy (choices_of d c tasks)
      (λ a b m n h. inr (same-tasks c a m ∙ sym (same-tasks c b n), h)) (choices-ordered d c tasks g))
      (all-ordered cs o.1)
      (λ a b m n.
      let r = all-mem d cs tasks n in
      inl (rw (same-tasks c a m, same-tasks r.0 b r.2) (o.0 r.0 r.1)))

  device-ordered : (s : ℕ) → Ordered ByTasks (device_boxes d s tasks)
  unfolding device_boxes
  device-ordered s =
      let n = length tasks in
      boxes-ordered s ChoicesBy ByTasks (λ a b h. h) (choices_of_all d (task_sets n) tasks) (all-ordered (task_sets n) (sets-ordered 1 n n))

  pub device-told : (s : ℕ) (b : Box) → Memᴰ b (device_boxes d s tasks) → DeviceBox d s tasks b
  unfolding device_boxes
  device-told s b m =
      let q = boxes-told s (choices_of_all d (task_sets (length tasks)) tasks) b m in
      let c = q.0 in
      let r = all-mem d (task_sets (length tasks)) tasks q.1 in
      let told = choices-told d r.0 tasks g c r.2 in
      let sides : Sides d tasks b = rw q.3 told.1 in
      let is : c ≡ choice_of tasks b = told.2 ∙ ap (choice_of tasks) (sym q.3) in
      let sum : total c ≡ units_over tasks b = ap total is ∙ choice-total tasks b sides.count in
      let needed = exceeds-needed s c q.2 in
      record {
        sides = sides;
        exceeds = omega (arith, sum, exceeds-total s c q.2);
        none_spare = needed-spare tasks b sides.count s (units_over tasks b)
            (λ t l h. let e = ((sides.over t l).hold h).claimed in omega (arith, e.2))
            (λ h i u. rw sum at (needed h (rw (sym is) at i) u));
      }

  pub device-listed : (s : ℕ) (b : Box) → DeviceBox d s tasks b → Memᴰ b (device_boxes d s tasks)
  unfolding device_boxes
  device-listed s b h =
      let sides = h.sides in
      let c = choice_of tasks b in
      let sum = choice-total tasks b sides.count in
      let listed = choices-listed d tasks g b sides in
      let some : 0 < taken (chosen b) = choice-taken d (chosen b) tasks c listed (omega (arith, sum, h.exceeds)) in
      let count : length (chosen b) ≡ length tasks = length-map b _ ∙ sides.count in
      let own : Memᴰ c (choices_of_all d (task_sets (length tasks)) tasks) = mem-all d tasks (rw count at (mem-sets (chosen b) some)) listed in
      let just = exceeds-intro s c (omega (arith, sum, h.exceeds)) (λ k i u. rw (sym sum) at (spare-needed tasks b sides.count s (units_over tasks b) h.none_spare k i u)) in
      rw (box-back tasks b sides.count) at (boxes-listed s (choices_of_all d (task_sets (length tasks)) tasks) c own just)

-- a box with its device
abbrev of : ℕ → Box → Forbidden
of d b = record { device = d; box = b }

module _ (tasks : List Task) where
  pub from_told : (d : ℕ) (ss : List ℕ) (f : Forbidden) → Memᴰ f (forbidden_from d ss tasks)
      → (i : ℕ) × (f.device ≡ d + i) × (i < length ss) × Memᴰ f.box (device_boxes f.device (at ss i) tasks)
  unfolding forbidden_from
  from_told d [] f m = absurd (mathlib.Core.List.Memᴰ.not-nil m)
  from_told d (s ∷ ss) f m =
      by_cases (mathlib.Core.List.Memᴰ.append_cases (map (of d) (device_boxes d s tasks)) m)
      (λ m. let r = mathlib.Core.List.Memᴰ.of_map (of d) (device_boxes d s tasks) m in rw (← r.2) (0, omega arith, omega arith, r.1))
      (λ m. let r = from_told (suc d) ss f m in (suc r.0, omega arith, omega arith, r.3))

  pub from-listed : (d : ℕ) (ss : List ℕ) (f : Forbidden) (i : ℕ) → f.device ≡ d + i → i < length ss
      → Memᴰ f.box (device_boxes f.device (at ss i) tasks) → Memᴰ f (forbidden_from d ss tasks)
  unfolding forbidden_from
  from-listed d [] f i e h m = absurd (omega arith)
  from-listed d (s ∷ ss) f zero e h m =
      let q : f.device ≡ d = omega arith in
      let r : f ≡ of d f.box = ap (λ d. of d f.box) q in
      mathlib.Core.List.Memᴰ.append_left (forbidden_from (suc d) ss tasks) (mathlib.Core.List.Memᴰ.cast r (mathlib.Core.List.Memᴰ.map (of d) (rw q at m)))
  from-listed d (s ∷ ss) f (suc i) e h m =
      mathlib.Core.List.Memᴰ.append_right (map (of d) (device_boxes d s tasks)) (from-listed (suc d) ss f i (omega arith) (omega arith) m)

  pub from-ordered : ((d : ℕ) → Each (Balanced d) tasks) → (d : ℕ) (ss : List ℕ) → Ordered Precedes (forbidden_from d ss tasks)
  unfolding forbidden_from
  from-ordered g d [] = tt
  from-ordered g d (s ∷ ss) =
      ordered-append Precedes (map (of d) (device_boxes d s tasks)) (forbidden_from (suc d) ss tasks)
      (ordered-map ByTasks Precedes (of d) (device_boxes d s tasks) (λ a b h. inr (refl, h)) (device-ordered d tasks (g d) s))
      (from-ordered g (suc d) ss)
      (λ a b m n.
      let r = mathlib.Core.List.Memᴰ.of_map (of d) (device_boxes d s tasks) m in
      let q = from_told (suc d) ss b n in
      inl (rw (← r.2) (omega arith)))
