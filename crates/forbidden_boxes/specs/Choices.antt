-- The words of the boxes that the rows of a device give.
use Rattle.std.specs.Prelude.{ℕ, zero, suc, min, ◌+◌, ◌*◌, ◌/◌, ◌%◌, ◌^◌, Bool, cond, ◌&&◌, List, [], ◌∷◌, ◌++◌, map, take, set, eqb, ltb, leb}
use Rattle.std.specs.Int.Count.{ones}
use Rattle.model.specs.Set.{Set, at}
use Rattle.model.specs.Forbidden.{device_boxes}
use Rattle.model.specs.TaskTable.{table}
use Rattle.model.specs.Plan.{forbidden_words}
use Rattle.plan_words.specs.Words.{up_to}
use Rattle.forbidden_boxes.specs.Rows.{ROW, WHOLE}

-- how many of the n tasks from t on have holds
unfoldable pub claimers_from : ℕ → ℕ → List ℕ → ℕ
claimers_from t zero holds = 0
claimers_from t (suc n) holds = cond (eqb (at holds t) 0) 0 1 + claimers_from (t + 1) n holds

-- holds of `sum` units, `least` of them the fewest of one hold: they exceed capacity s, but no longer do without that one
unfoldable pub just_over : ℕ → ℕ → ℕ → Bool
just_over s sum least = ltb s sum && leb sum (s + least)

-- task t is in the set, by the mask's lowest bit: one side for each of its holds, from its row's front; else one, at its row's end
unfoldable pub side_count : List ℕ → ℕ → ℕ → ℕ
side_count holds t m = cond (eqb (m % 2) 1) (at holds t) 1

-- where the first of them stands
unfoldable pub first_side : ℕ → ℕ → ℕ
first_side t m = cond (eqb (m % 2) 1) (t * ROW) (t * ROW + WHOLE)

-- the units so far, and the fewest of one hold, with a side that holds u units if its task is in the set
unfoldable pub sum_with : ℕ → ℕ → ℕ → ℕ
sum_with m sum u = cond (eqb (m % 2) 1) (sum + u) sum

unfoldable pub least_with : ℕ → ℕ → ℕ → ℕ
least_with m least u = cond (eqb (m % 2) 1) (min least u) least

module _ (rows units : List ℕ) (header s : ℕ) where
  -- a box for each of `count` holds of task t that with the other sides of the n tasks, as given with their units, just exceeds the capacity s
  unfoldable pub hold_words : ℕ → ℕ → List ℕ → ℕ → ℕ → ℕ → List ℕ
  hold_words n t sides sum least count =
      up_to count 0
      (λ i. let u = at units (t * ROW + i) in cond (just_over s (sum + u) (min least u)) (header ∷ take n (set sides t (at rows (t * ROW + i)))) [])

module _ (rows units holds : List ℕ) (header s : ℕ) where
  -- each choice of one side a task that just exceeds the capacity, over n tasks from t on, after the sides of the tasks before and their units
  unfoldable pub choice_words : ℕ → ℕ → ℕ → ℕ → ℕ → List ℕ → List ℕ
  choice_words zero t m sum least before = cond (just_over s sum least) (header ∷ before) []
  choice_words (suc n) t m sum least before =
      up_to (side_count holds t m) 0
      (λ i.
      let u = at units (first_side t m + i) in
      choice_words n (t + 1) (m / 2) (sum_with m sum u) (least_with m least u) (before ++ (at rows (first_side t m + i) ∷ [])))

  -- of one mask of the table: nothing if it has an absent task, or can't exceed the capacity with `most` units a task; before any hold is chosen the fewest are 255
  unfoldable pub set_words : ℕ → ℕ → ℕ → List ℕ
  set_words n most m = cond (ltb m (2 ^ n) && ltb s (ones m * most)) (choice_words n 0 m 0 255 []) []

  -- of the table, as far as its sets are not too large
  unfoldable pub table_words : ℕ → ℕ → List ℕ
  table_words n most = up_to 255 0 (λ k. let m = at table k in cond (ltb (s + 1) (ones m)) [] (set_words n most m))

-- of device d
unfoldable pub device_words : Set → ℕ → List ℕ
device_words s d = forbidden_words (map (λ b. record { device = d; box = b }) (device_boxes d (at s.capacities d) s.tasks))
