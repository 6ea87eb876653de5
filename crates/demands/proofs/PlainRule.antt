-- With one unit a claim a box's units are the number of its tasks over holds, so that it just exceeds the capacity where they are one more.
use Prim.Native.Nat.{ℕ, zero, suc, ◌-◌, ◌<◌}
use native.Mathlib.Omega.{arith}
use mathlib.Core.Path.{◌≡◌, refl, sym, ap, ◌∙◌}
use mathlib.Core.Logic.{◌↔◌}
use mathlib.Core.Bool.{cond}
use mathlib.Core.List.{[], ◌∷◌}
use lib.ListN.{length}
use lib.Dec.{ltb}
use borrow.Author.Tests.{ltb-true, lt-ltb}
use Rattle.model.specs.Set.{units_taken, Set, task_at}
use Rattle.model.specs.Box.{Box, side}
use Rattle.model.specs.Hold.{Hold}
use Rattle.model.specs.Forbidden.{Forbidden}
use Rattle.model.proofs.Bools.{by_bool}
use Rattle.demands.specs.Terms.{sum_below}
use Rattle.demands.specs.Holds.{IsHold}
use Rattle.demands.specs.ForbiddenRule.{tasks_from, task_list, side_units, box_units, OfRule}
use Rattle.demands.specs.Units.{OneUnit, OfPlainRule}
use Rattle.demands.proofs.HoldsHold.{sum_first}

-- sums of the same numbers
sum_same : (n : ℕ) (f g : ℕ → ℕ) → ((t : ℕ) → t < n → f t ≡ g t) → sum_below n f ≡ sum_below n g
unfolding sum_below
sum_same zero f g h = refl
sum_same (suc n) f g h = omega (arith, h n (omega arith), sum_same n f g (λ t l. h t (omega arith)))

-- one for each task over a hold
abbrev one_over : Box → ℕ → ℕ
one_over b t = cond (ltb 0 (side b t).low) 1 0

sum-tasks : (k : ℕ) (b : Box) → sum_below (length b) (one_over b) ≡ length (tasks_from k b)
unfolding sum_below tasks_from
sum-tasks k [] = refl
sum-tasks k (i ∷ b) =
    let rest = sum-tasks (suc k) b in
    let all = sum_first (length b) (one_over (i ∷ b)) in
    by_bool (ltb 0 i.low) (λ e. rw e (omega (arith, rw e at all, rest))) (λ e. rw e (omega (arith, rw e at all, rest)))

-- where there are such tasks, one of them
some_task : (k : ℕ) (b : Box) → 0 < length (tasks_from k b) → (t : ℕ) × (t < length b) × (0 < (side b t).low)
unfolding tasks_from
some_task k [] l = absurd (omega arith)
some_task k (i ∷ b) l =
    by_bool (ltb 0 i.low)
    (λ e. (0, omega arith, ltb-true 0 i.low e))
    (λ e. let r = some_task (suc k) b (rw e at l) in (suc r.0, omega (arith, r.1), r.2))

module _ (s : Set) (one : OneUnit s) (f : Forbidden) where
  abbrev b : Box
  b = f.box

  -- each claim has one unit
  claim-one : (d t : ℕ) → t < length s.tasks → (h : Hold) → IsHold d (task_at s t) h → h.units ≡ 1
  claim-one d t l h i =
      let e = i.claimed in
      omega (arith, e.2, one t (h.over.low - 1) d e.0 l (omega (arith, i.lasts, i.before_close)) e.1)

  module _ (sides : length b ≡ length s.tasks) (ones : (t : ℕ) → t < length s.tasks → 0 < (side b t).low → side_units (task_at s t) (side b t) ≡ 1) where
    units-tasks : box_units s b ≡ length (task_list b)
    unfolding side_units
    units-tasks =
        sum_same (length s.tasks) (λ t. side_units (task_at s t) (side b t)) (one_over b)
        (λ t l. by_bool (ltb 0 (side b t).low) (λ k. rw k (sym (rw k at (sym (ones t l (ltb-true 0 (side b t).low k)))))) (λ k. rw k))
        ∙ ap (λ n. sum_below n (one_over b)) (sym sides)
        ∙ sum-tasks 0 b

  rule-plain : OfRule s f → OfPlainRule s f
  rule-plain r =
      let ones : (t : ℕ) → t < length s.tasks → 0 < (side b t).low → side_units (task_at s t) (side b t) ≡ 1 =
      λ t l h. claim-one f.device t l _ (r.over_hold t l h) in
      let same = units-tasks r.sides ones in
      let t = some_task 0 b (omega (arith, same, r.exceeds)) in
      let inside : t.0 < length s.tasks = omega (arith, t.1, r.sides) in
      record {
        device = r.device;
        sides = r.sides;
        tasks = omega (arith, same, r.exceeds, r.none_spare t.0 inside t.2, ones t.0 inside t.2);
        over_hold = λ t l h. rw (ones t l h) at (r.over_hold t l h);
        over_all = r.over_all;
      }

  plain-rule : OfPlainRule s f → OfRule s f
  unfolding side_units units_taken
  plain-rule r =
      let ones : (t : ℕ) → t < length s.tasks → 0 < (side b t).low → side_units (task_at s t) (side b t) ≡ 1 =
      λ t l h. let e = (r.over_hold t l h).claimed in rw (lt-ltb 0 (side b t).low h, e.1) (sym e.2) in
      let same = units-tasks r.sides ones in
      record {
        device = r.device;
        sides = r.sides;
        over_hold = λ t l h. rw (sym (ones t l h)) at (r.over_hold t l h);
        over_all = r.over_all;
        exceeds = omega (arith, same, r.tasks);
        none_spare = λ t l h. omega (arith, same, r.tasks, ones t l h);
      }

  pub same_rule : OfRule s f ↔ OfPlainRule s f
  same_rule = (rule-plain, plain-rule)
