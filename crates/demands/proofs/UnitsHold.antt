-- Claims of more than one unit: with one unit a claim nothing changes, every start is open, and the examples.
use Prim.Native.Nat.{ℕ, zero, suc, ◌<◌, ◌≤◌}
use native.Mathlib.Omega.{arith}
use mathlib.Core.Path.{◌≡◌, refl, sym, ap, ap₂, ◌∙◌, fun_ext}
use mathlib.Core.Bool.{Bool, not, cond, ◌&&◌}
use mathlib.Core.List.{List, [], ◌∷◌, flatten}
use lib.ListN.{length, get_or}
use lib.Dec.{eqb, ltb, leb}
use Rattle.model.specs.Answer.{◌then◌, if_given}
use Rattle.model.specs.Below.{any, lowest, tabulate, maximum}
use Rattle.model.specs.Set.{claim, release, device_of, Task, Set, lengths_of, claims, claimed, at, size}
use Rattle.model.specs.Layout.{action_word, task_words, body, with_end}
use Rattle.model.specs.Read.{last_task, add_action, held_after, note, out_of_order, field_allowed, too_many, too_many_units, fault, read_from, read_words, close, read_by, set_of}
use Rattle.model.specs.State.{State, is_end, weight, state_at, sum, rank}
use Rattle.model.specs.Hold.{Hold, held_to, holds_from, holds, units_at, held, permitted}
use Rattle.model.specs.Box.{inside, covered, first_box}
use Rattle.model.specs.Forbidden.{choose, sets_from, prefixed, sides_of, choices_of, choices_of_all, total, each_needed, just_exceeds, boxes_of, device_boxes, Forbidden, forbidden_from, forbidden, boxes}
use Rattle.model.specs.Map.{steps_onto, byte, last_bytes, bytes}
use Rattle.model.specs.Reach.{marked, stepped_onto, mark, first_marks}
use Rattle.model.specs.UnsafeBoxes.{gets_box, blocker_low, unsafe_box, last_unsafe, unsafe_boxes}
use Rattle.model.specs.Plan.{ranks_from, keep, Plan, side_words, forbidden_words, unsafe_words, plan_words}
use Rattle.model.specs.PerThousand.{permitted_states_of, unsafe_states_of}
use Rattle.model.specs.Record.{map_fits, misplaced, miscounted, placed}
use Rattle.model.specs.Analysis.{plan_fits}
use Rattle.model.specs.Broker.{bid_byte, map_answer, is_granted, settled, other_goes, shared_answer, bid_answer, in_window, after_call, after_list}
use Rattle.model.specs.Route.{step_from, walk, walked, route_from, route_steps, route_fits}
use Rattle.model.specs.Clean.{clean_fits, kept_from, renamed}
use Rattle.demands.specs.Examples.{answers}
use Rattle.model.specs.Trial.{row_with, is_finished, ordered, try_from, trial_on}
use Rattle.model.proofs.Bools.{by_bool}
use Rattle.model.proofs.Each.{Each, each-place}
use Rattle.model.proofs.ForbiddenBlocker.{first-forbidden}
use Rattle.model.proofs.Holds.{not-before}
use Rattle.model.proofs.ReadExact.{read-sound}
use Rattle.model.proofs.SetSizes.{AtMost}
use Rattle.model.proofs.StartOpen.{start_open}
use Rattle.model.proofs.States.{start_grid}
use Rattle.demands.specs.Terms.{how_many}
use Rattle.demands.specs.Units.{OneUnit, plain_permitted, plain_from, plain_forbidden, OfOneUnit, UnitsRight}
use Rattle.demands.proofs.HowMany.{count-first}
use Rattle.demands.proofs.MapDemandHolds.{open-both}
use Rattle.demands.proofs.OneUnitBoxes.{one-unit-device}
use Rattle.demands.proofs.PlainRule.{same_rule}

-- a task whose claims all have one unit
abbrev Single : Task → Type 0
Single task = (p d e : ℕ) → p < length task → get_or task p (claim 0 0) ≡ claim d e → e ≡ 0

-- its holds have one unit
single-holds : (d p : ℕ) (task : Task) → Single task → Each (λ h. h.units ≤ 1) (holds_from d p task)
unfolding holds_from
single-holds d p [] f = tt
single-holds d p (release e ∷ rest) f = single-holds d (suc p) rest (λ q c x l. f (suc q) c x (omega arith))
single-holds d p (claim e u ∷ rest) f =
    let more = single-holds d (suc p) rest (λ q c x l. f (suc q) c x (omega arith)) in
    let one : suc u ≤ 1 = omega (arith, f 0 e u (omega arith) refl) in
    by_bool (eqb e d) (λ k. rw k (one, more)) (λ k. rw k more)

-- so it has one of a device or none
single-units : (hs : List Hold) → Each (λ h. h.units ≤ 1) hs → (p : ℕ) → units_at hs p ≤ 1
unfolding units_at
single-units [] f p = omega arith
single-units (h ∷ hs) f p =
    let more = single-units hs f.1 p in
    by_bool (leb h.over.low p && leb p h.over.high) (λ k. rw k (omega (arith, f.0))) (λ k. rw k (omega arith))

one-or-none : (n : ℕ) → n ≤ 1 → n ≡ cond (ltb 0 n) 1 0
one-or-none zero l = refl
one-or-none (suc n) l = let one : suc n ≡ 1 = omega arith in rw one

module _ (d : ℕ) where
  none-held : (tasks : List Task) (f : ℕ → ℕ) → how_many (length tasks) (λ t. ltb 0 (units_at (holds d (get_or tasks t [])) (at [] t))) ≡ 0
  unfolding how_many
  none-held [] f = refl
  none-held (task ∷ tasks) f =
      count-first (length tasks) (λ t. ltb 0 (units_at (holds d (get_or (task ∷ tasks) t [])) (at [] t)))
      ∙ rw (not-before d 0 task 0 (omega arith), none-held tasks f)

  count_held : (tasks : List Task) → Each Single tasks → (x : State)
      → held d tasks x ≡ how_many (length tasks) (λ t. ltb 0 (units_at (holds d (get_or tasks t [])) (at x t)))
  unfolding held how_many
  count_held [] f x = refl
  count_held (task ∷ tasks) f [] = sym (none-held (task ∷ tasks) (λ t. 0))
  count_held (task ∷ tasks) f (p ∷ x) =
      let own = one-or-none (units_at (holds d task) p) (single-units (holds d task) (single-holds d 0 task f.0) p) in
      omega (arith, own, count_held tasks f.1 x, count-first (length tasks) (λ t. ltb 0 (units_at (holds d (get_or (task ∷ tasks) t [])) (at (p ∷ x) t))))

module _ (tasks : List Task) (f : Each Single tasks) where
  at_most : (d : ℕ) → Each (AtMost d 1) tasks
  at_most d = go tasks f
    where
      go : (ts : List Task) → Each Single ts → Each (AtMost d 1) ts
      go [] e = tt
      go (t ∷ ts) e = (single-holds d 0 t e.0, go ts e.1)

  same_from : (d : ℕ) (cs : List ℕ) → forbidden_from d cs tasks ≡ plain_from d cs tasks
  unfolding forbidden_from plain_from
  same_from d [] = refl
  same_from d (c ∷ cs) = rw (one-unit-device d c tasks (at_most d), same_from (suc d) cs)

module _ (s : Set) (one : OneUnit s) where
  singles : Each Single s.tasks
  singles = each-place Single [] s.tasks (λ t h p d e l. one t p d e h l)

  permitted-is : permitted s ≡ plain_permitted s
  unfolding permitted plain_permitted
  permitted-is =
      fun_ext λ x.
      ap (λ (g : ℕ → ℕ). not (any (length s.capacities) (λ d. ltb (at s.capacities d) (g d)))) (fun_ext (λ d. count_held d s.tasks singles x))

  forbidden-is : forbidden s ≡ plain_forbidden s
  unfolding forbidden
  forbidden-is = same_from s.tasks singles 0 s.capacities

  of-one-unit : OfOneUnit s
  of-one-unit = record {
    same_units = λ d x. count_held d s.tasks singles x;
    same_permitted = λ x. ap (λ (g : State → Bool). g x) permitted-is;
    same_boxes = forbidden-is;
    same_rule = same_rule s one;
    same_map = ap (bytes (lengths_of s)) permitted-is;
    same_plan = ap₂ (plan-from (lengths_of s)) forbidden-is permitted-is;
  }
    where
      plan-from : List ℕ → List Forbidden → (State → Bool) → Plan
      plan-from ls fs allowed =
          let reached = marked ls allowed in
          let dead = ranks_from 3 0 (bytes ls allowed) in
          record { forbidden = fs; unsafe = unsafe_boxes ls (boxes fs); reached = keep reached dead; unreached = keep (λ r. not (reached r)) dead }

pub units-hold : UnitsRight
unfolding any tabulate maximum device_of size last_task add_action held_after note out_of_order field_allowed too_many too_many_units fault read_from read_words close read_by claims claimed lowest is_end weight state_at held_to holds_from units_at held permitted inside covered first_box choose sets_from prefixed sides_of choices_of choices_of_all total each_needed just_exceeds boxes_of device_boxes forbidden_from forbidden steps_onto byte last_bytes bytes gets_box blocker_low unsafe_box last_unsafe unsafe_boxes action_word task_words body with_end ◌then◌ set_of sum rank stepped_onto mark first_marks ranks_from keep permitted_states_of unsafe_states_of side_words forbidden_words unsafe_words plan_words if_given map_fits plan_fits misplaced miscounted placed bid_byte map_answer is_granted settled other_goes shared_answer bid_answer in_window after_call after_list step_from walk walked route_from route_steps route_fits clean_fits kept_from how_many renamed answers flatten row_with is_finished ordered try_from trial_on
units-hold = record {
  one_unit = of-one-unit;
  first-box = first-forbidden;
  start_open = λ words s e. (open-both s _ (start_grid (lengths_of s))).0 (start_open s (read-sound words s e).1);
  without_28 = (refl, refl);
  patch_read = refl;
  patch_plan = refl;
  patch_bids = refl;
  patch_boxes = refl;
  mixed_boxes = refl;
  mixed_first = refl;
  crossed_map = refl;
  crossed_unsafe = refl;
  rivals_unsafe = refl;
}
