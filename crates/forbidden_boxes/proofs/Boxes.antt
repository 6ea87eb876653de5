-- The boxes of the model as words: each choice that the rows give and that just exceeds the capacity is a box of the task set, in order.
use Prim.Native.Nat.{ℕ, zero, suc, min, ◌+◌, ◌*◌, ◌/◌, ◌%◌, ◌^◌, ◌<◌, ◌≤◌}
use native.Mathlib.Nat.{mod-lt, pow-suc}
use native.Mathlib.Numerals.{add-one}
use native.Mathlib.Omega.{arith}
use mathlib.Core.Path.{◌≡◌, refl, sym, ap, ap₂, ◌∙◌}
use mathlib.Core.Bool.{true, false, cond}
use mathlib.Core.List.{List, [], ◌∷◌, ◌++◌, map, flat_map, append_assoc, append-nil}
use lib.Arith.{lt-one}
use lib.ListN.{length, get_or}
use lib.Count.{ones, ones_step}
use lib.Dec.{eqb, ltb, lit<}
use borrow.Author.Tests.{ne_eqb, ltb-true, ltb-false}
use Rattle.model.specs.Set.{Task, at}
use Rattle.model.specs.Layout.{word}
use Rattle.model.specs.Hold.{Interval, Hold}
use Rattle.model.specs.Hold as hold
use Rattle.model.specs.Box.{Box}
use Rattle.model.specs.Forbidden.{TaskSet, Choice, prefixed, sides_of, choices_of, choices_of_all, total, boxes_of, device_boxes}
use Rattle.model.specs.TaskTable.{table, set_of_mask, sets_in}
use Rattle.model.specs.Plan.{FORBIDDEN_BOX, side_word, side_words, forbidden_words}
use Rattle.model.proofs.Bools.{by_bool}
use Rattle.model.proofs.Each.{Each, each_at}
use Rattle.model.proofs.OneHold.{holds-some}
use Rattle.model.proofs.Choices.{taken, boxes-append}
use Rattle.model.proofs.SetSizes.{AtMost, too_few, too_many}
use Rattle.model.proofs.TableOrder.{table-length, table-sets}
use Rattle.plan_words.specs.Words.{up_to}
use Rattle.plan_words.proofs.UpTo.{each_below}
use Rattle.forbidden_boxes.specs.Rows.{ROW, WHOLE, nth, HoldAt, Row}
use Rattle.forbidden_boxes.specs.Choices.{just_over, side_count, first_side, sum_with, least_with, choice_words, set_words, table_words}
use Rattle.forbidden_boxes.proofs.Chosen.{same-choice}
use Rattle.forbidden_boxes.proofs.Sums.{fewest, fewest_of, boxes_after, after-append, after-hold, boxes-after}

-- the words of boxes over the tasks from t on, each after a header and the sides of the tasks before
pub box_words : ℕ → List ℕ → ℕ → List Box → List ℕ
box_words hd before t [] = []
box_words hd before t (b ∷ bs) = (hd ∷ (before ++ side_words t b)) ++ box_words hd before t bs

box-append : (hd : ℕ) (before : List ℕ) (t : ℕ) (bs cs : List Box) → box_words hd before t (bs ++ cs) ≡ box_words hd before t bs ++ box_words hd before t cs
unfolding box_words
box-append hd before t [] cs = refl
box-append hd before t (b ∷ bs) cs =
    rw (box-append hd before t bs cs) (sym (append_assoc (hd ∷ (before ++ side_words t b)) (box_words hd before t bs) (box_words hd before t cs)))

-- a side more before each box
box-side : (hd : ℕ) (before : List ℕ) (t : ℕ) (i : Interval) (bs : List Box)
    → box_words hd before t (map (λ b. i ∷ b) bs) ≡ box_words hd (before ++ (side_word t i ∷ [])) (suc t) bs
unfolding box_words side_words
box-side hd before t i [] = refl
box-side hd before t i (b ∷ bs) =
    rw (box-side hd before t i bs, append_assoc before (side_word t i ∷ []) (side_words (suc t) b))

box-sides : (hd s sum least : ℕ) (before : List ℕ) (t : ℕ) (hs : List Hold) (cs : List Choice)
    → box_words hd before t (boxes_after s sum least (prefixed hs cs))
    ≡ flat_map (λ h. box_words hd (before ++ (side_word t h.over ∷ [])) (suc t) (boxes_after s (sum + h.units) (fewest least h.units) cs)) hs
unfolding box_words boxes_after prefixed flat_map
box-sides hd s sum least before t [] cs = refl
box-sides hd s sum least before t (h ∷ hs) cs =
    let here = map (λ c. h ∷ c) cs in
    ap (box_words hd before t) (after-append s sum least here (prefixed hs cs))
    ∙ box-append hd before t (boxes_after s sum least here) (boxes_after s sum least (prefixed hs cs))
    ∙ ap₂ ◌++◌
    (ap (box_words hd before t) (after-hold s sum least h cs) ∙ box-side hd before t h.over (boxes_after s (sum + h.units) (fewest least h.units) cs))
    (box-sides hd s sum least before t hs cs)

-- the tasks of a mask's set are its ones
mask-taken : (n m : ℕ) → m < 2 ^ n → taken (set_of_mask n m) ≡ ones m
unfolding taken set_of_mask ones
mask-taken zero m h = sym (ap ones (lt-one h))
mask-taken (suc n) m h =
    ap₂ ◌+◌ (bit (m % 2) (mod-lt m (lit< tt))) (mask-taken n (m / 2) (omega (arith, pow-suc 2 n))) ∙ sym (ones_step m)
  where
    bit : (b : ℕ) → b < 2 → cond (eqb b 1) 1 0 ≡ b
    bit zero l = refl
    bit (suc zero) l = refl
    bit (suc (suc b)) l = absurd (omega arith)

none-fewest : (least : ℕ) → least ≡ fewest least 0
unfolding fewest
none-fewest least = refl

module _ (rows units holds : List ℕ) (d : ℕ) where
  -- the sides that a row gives are those of the task, in the set or not
  record RowSides (t m : ℕ) (task : Task) : Type 0 where
    count : side_count holds t m ≡ length (sides_of d (eqb (m % 2) 1) task)
    side : (i : ℕ) → i < length (sides_of d (eqb (m % 2) 1) task) → at rows (first_side t m + i) ≡ side_word t (nth (sides_of d (eqb (m % 2) 1) task) i).over
    all : (i : ℕ) → i < length (sides_of d (eqb (m % 2) 1) task) → (sum : ℕ)
        → sum_with m sum (at units (first_side t m + i)) ≡ sum + (nth (sides_of d (eqb (m % 2) 1) task) i).units
    least : (i : ℕ) → i < length (sides_of d (eqb (m % 2) 1) task) → (least : ℕ)
        → least_with m least (at units (first_side t m + i)) ≡ fewest least (nth (sides_of d (eqb (m % 2) 1) task) i).units

  -- a hold takes units
  fewest-hold : (task : Task) (i : ℕ) → i < length (hold.holds d task) → (least u : ℕ) → u ≡ (nth (hold.holds d task) i).units
      → min least u ≡ fewest least (nth (hold.holds d task) i).units
  unfolding fewest
  fewest-hold task i h least u e =
      let some = each_at (λ h. 0 < h.units) (record { over = record { low = 0; high = 0 }; units = 0 }) (hold.holds d task) (holds-some d 0 task) i h in
      rw (e, ne_eqb (nth (hold.holds d task) i).units 0 (λ z. absurd (omega (arith, some, z))))

  row-sides : (t m : ℕ) (task : Task) → Row d t task (at holds t) rows units → RowSides t m task
  unfolding side_count first_side sides_of sum_with least_with
  row-sides t m task r =
      by_bool (eqb (m % 2) 1)
      (λ e. record {
        count = rw e r.listed.count;
        side = rw e (λ i h. (here i h).side);
        all = rw e (λ i h sum. ap (λ (u : ℕ). sum + u) (here i h).taken);
        least = rw e (λ i h least. fewest-hold task i h least (at units (t * ROW + i)) (here i h).taken);
      })
      (λ e. record { count = rw e; side = rw e side; all = rw e all; least = rw e few })
    where
      here : (i : ℕ) → i < length (hold.holds d task) → HoldAt rows units (t * ROW + i) t (nth (hold.holds d task) i)
      here i h = r.listed.each i (omega (arith, r.listed.count))

      last : List Hold
      last = record { over = record { low = 0; high = length task }; units = 0 } ∷ []

      side : (i : ℕ) → i < 1 → at rows (t * ROW + WHOLE + i) ≡ side_word t (nth last i).over
      side zero h = let z : t * ROW + WHOLE + 0 ≡ t * ROW + WHOLE = omega arith in rw z r.whole
      side (suc i) h = absurd (omega arith)

      all : (i : ℕ) → i < 1 → (sum : ℕ) → sum ≡ sum + (nth last i).units
      all zero h sum = omega arith
      all (suc i) h sum = absurd (omega arith)

      few : (i : ℕ) → i < 1 → (least : ℕ) → least ≡ fewest least (nth last i).units
      few zero h least = none-fewest least
      few (suc i) h least = absurd (omega arith)

  -- the rows of these tasks, from task t on
  abbrev pub RowsFrom : ℕ → List Task → Type 0
  RowsFrom t tasks = (i : ℕ) → i < length tasks → Row d (t + i) (get_or tasks i []) (at holds (t + i)) rows units

  pub rows_next : (t : ℕ) (task : Task) (tasks : List Task) → RowsFrom t (task ∷ tasks) → RowsFrom (t + 1) tasks
  rows_next t task tasks r i h = let e : t + 1 + i ≡ t + suc i = omega arith in rw e (r (suc i) (omega arith))

  choices-boxes : (hd s t m sum least : ℕ) (before : List ℕ) (tasks : List Task) → RowsFrom t tasks
      → choice_words rows units holds hd s (length tasks) t m sum least before
      ≡ box_words hd before t (boxes_after s sum least (choices_of d (set_of_mask (length tasks) m) tasks))
  unfolding choice_words box_words boxes_after choices_of set_of_mask side_words total fewest_of
  choices-boxes hd s t m sum least before [] r =
      let z : sum + 0 ≡ sum = omega arith in
      by_bool (just_over s sum least) (λ e. rw (z, e, append-nil before, append-nil before)) (λ e. rw (z, e))
  choices-boxes hd s t m sum least before (task ∷ tasks) r =
      let z : t + 0 ≡ t = omega arith in
      let row = row-sides t m task (rw z at (r 0 (omega arith))) in
      let hs = sides_of d (eqb (m % 2) 1) task in
      let cs = choices_of d (set_of_mask (length tasks) (m / 2)) tasks in
      rw row.count
      (each_below (record { over = record { low = 0; high = 0 }; units = 0 })
      (λ h. box_words hd (before ++ (side_word t h.over ∷ [])) (suc t) (boxes_after s (sum + h.units) (fewest least h.units) cs)) hs _
      (λ i l.
      let h = nth hs i in
      let more = before ++ (side_word t h.over ∷ []) in
      same-choice rows units holds hd s (length tasks) (t + 1) (m / 2) (row.all i l sum) (row.least i l least) (ap (λ (v : ℕ). before ++ (v ∷ [])) (row.side i l))
      ∙ choices-boxes hd s (t + 1) (m / 2) (sum + h.units) (fewest least h.units) more tasks (rows_next t task tasks r)
      ∙ ap (λ (u : ℕ). box_words hd more u (boxes_after s (sum + h.units) (fewest least h.units) cs)) (add-one t))
      ∙ sym (box-sides hd s sum least before t hs cs))

  module _ (hd s most : ℕ) (tasks : List Task) (r : RowsFrom 0 tasks) (a : Each (AtMost d most) tasks) (small : most ≤ 255) where
    -- the words of a mask, and the boxes of its set
    abbrev mask_words : ℕ → List ℕ
    mask_words m = cond (ltb (s + 1) (ones m)) [] (set_words rows units holds hd s (length tasks) most m)

    abbrev set_boxes : ℕ → List Box
    set_boxes m = boxes_of s (choices_of d (set_of_mask (length tasks) m) tasks)

    -- a set of tasks that are all there: too many of them or too few have no boxes
    mask-boxes : (m : ℕ) → ltb m (2 ^ length tasks) ≡ true → mask_words m ≡ box_words hd [] 0 (set_boxes m)
    unfolding set_words box_words
    mask-boxes m e =
        let size = mask-taken (length tasks) m (ltb-true m (2 ^ length tasks) e) in
        let set = set_of_mask (length tasks) m in
        by_bool (ltb (s + 1) (ones m))
        (λ k. rw (k, too_many d most s set tasks a (omega (arith, size, ltb-true (s + 1) (ones m) k))))
        (λ k.
        by_bool (ltb s (ones m * most))
        (λ l. rw (k, e, l) (choices-boxes hd s 0 m 0 255 [] tasks r ∙ ap (box_words hd [] 0) (boxes-after d s most set tasks a small)))
        (λ l. rw (k, e, l, too_few d most s set tasks a (rw size (ltb-false s (ones m * most) l)))))

    -- one with an absent task has none
    mask-absent : (m : ℕ) → ltb m (2 ^ length tasks) ≡ false → mask_words m ≡ []
    unfolding set_words
    mask-absent m e = by_bool (ltb (s + 1) (ones m)) (λ k. rw k) (λ k. rw (k, e))

    -- the masks of a list
    sets-boxes : (ms : List ℕ) → flat_map mask_words ms ≡ box_words hd [] 0 (boxes_of s (choices_of_all d (sets_in (length tasks) ms) tasks))
    unfolding flat_map sets_in choices_of_all boxes_of box_words
    sets-boxes [] = refl
    sets-boxes (m ∷ ms) =
        by_bool (ltb m (2 ^ length tasks))
        (λ e.
        let set = set_of_mask (length tasks) m in
        let rest = choices_of_all d (sets_in (length tasks) ms) tasks in
        rw (e, boxes-append s (choices_of d set tasks) rest)
        (ap₂ ◌++◌ (mask-boxes m e) (sets-boxes ms) ∙ sym (box-append hd [] 0 (set_boxes m) (boxes_of s rest))))
        (λ e. rw e (ap₂ ◌++◌ (mask-absent m e) (sets-boxes ms)))

    -- the whole table
    pub table-boxes : length tasks < 9 → table_words rows units holds hd s (length tasks) most ≡ box_words hd [] 0 (device_boxes d s tasks)
    unfolding table_words device_boxes
    table-boxes hn =
        ap (λ (k : ℕ). up_to k 0 (λ k. mask_words (at table k))) (sym table-length)
        ∙ each_below 0 mask_words table (λ k. mask_words (at table k)) (λ i l. refl)
        ∙ sets-boxes table
        ∙ ap (λ (cs : List TaskSet). box_words hd [] 0 (boxes_of s (choices_of_all d cs tasks))) (table-sets (length tasks) hn)

-- with a device's own header they are the words of its forbidden boxes
pub device-boxes : (d : ℕ) (bs : List Box) → box_words (word FORBIDDEN_BOX d) [] 0 bs ≡ forbidden_words (map (λ b. record { device = d; box = b }) bs)
unfolding box_words forbidden_words
device-boxes d [] = refl
device-boxes d (b ∷ bs) = rw (device-boxes d bs)
