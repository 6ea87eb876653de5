-- The choices of a device and a task set: those whose sides fit task by task, by rising starts; and the boxes of those that just exceed a capacity.
use Prim.Native.Nat.{ℕ, zero, suc, ◌-◌, ◌<◌, ◌≤◌, suc-le-suc}
use native.Mathlib.Omega.{arith}
use native.Mathlib.Nat.{le_of_suc-le-suc}
use mathlib.Core.Path.{◌≡◌, refl, sym, subst, ap, ap₂, ◌∙◌}
use mathlib.Core.Bool.{Bool, true, false}
use mathlib.Core.List.Memᴰ
use mathlib.Core.List.{List, [], ◌∷◌, map, Memᴰ}
use lib.ListN.{length, get_or}
use lib.Dec.{ltb}
use borrow.Author.Tests.{ltb-true, ltb-false, lt-ltb}
use Rattle.model.specs.Set.{units_taken, Task, balanced}
use Rattle.model.specs.Hold.{Interval, Hold, holds}
use Rattle.model.specs.Box.{Box, side}
use Rattle.model.specs.Forbidden.{TaskSet, Choice, prefixed, sides_of, choices_of, total, just_exceeds, box_of, boxes_of}
use Rattle.model.proofs.Bools.{by_bool, by_cases}
use Rattle.model.proofs.Each.{Each}
use Rattle.model.proofs.Choices.{prefixed-mem, mem-prefixed, Needed}
use Rattle.demands.specs.Terms.{◌to◌, sum_below, before, Ordered}
use Rattle.demands.specs.Holds.{IsHold}
use Rattle.demands.specs.ForbiddenRule.{tasks_from, side_units, lows}
use Rattle.demands.proofs.HoldList.{holds-listed, holds-rise}
use Rattle.demands.proofs.HoldsHold.{sum_first}
use Rattle.demands.proofs.Orders.{ordered-append, ordered-map, ordered-weaken, before-lower, before_same}
use Rattle.demands.proofs.TaskSetList.{members}

-- the task set of a box: the tasks whose sides start at 1 or later
abbrev pub chosen : Box → TaskSet
chosen b = map (λ i. ltb 0 i.low) b

pub tasks-chosen : (t : ℕ) (b : Box) → tasks_from t b ≡ members t (chosen b)
unfolding tasks_from members
tasks-chosen t [] = refl
tasks-chosen t (i ∷ b) =
    let rest = tasks-chosen (suc t) b in
    by_bool (ltb 0 i.low) (λ e. rw e (ap (λ l. t ∷ l) rest)) (λ e. rw e rest)

abbrev LowerStart : Hold → Hold → Type 0
LowerStart g h = g.over.low < h.over.low

abbrev pub ByStarts : Choice → Choice → Type 0
ByStarts c e = before (lows (box_of c)) (lows (box_of e)) ≡ true

prefixed-ordered : (hs : List Hold) (cs : List Choice) → Ordered LowerStart hs → Ordered ByStarts cs → Ordered ByStarts (prefixed hs cs)
unfolding prefixed
prefixed-ordered [] cs o p = tt
prefixed-ordered (h ∷ hs) cs o p =
    ordered-append ByStarts (map (λ c. h ∷ c) cs) (prefixed hs cs)
    (ordered-map ByStarts ByStarts (λ c. h ∷ c) cs (λ a b q. before_same h.over.low (lows (box_of a)) (lows (box_of b)) q) p)
    (prefixed-ordered hs cs o.1 p)
    (λ a b m n.
    let r = Memᴰ.of_map (λ c. h ∷ c) cs m in
    let s = prefixed-mem hs cs n in
    rw (← r.2, s.is) (before-lower h.over.low s.first.over.low (lows (box_of r.0)) (lows (box_of s.rest)) (o.0 s.first s.first-in)))

-- a side with the units that its task's actions give it
abbrev pub with_units : Task → Interval → Hold
with_units task i = record { over = i; units = side_units task i }

-- a hold of the device, or the whole task
pub record Over (d : ℕ) (task : Task) (i : Interval) : Type 0 where
  pub hold : 0 < i.low → IsHold d task (with_units task i)
  pub whole : i.low ≡ 0 → i ≡ 0 to length task

-- a side for each task
pub record Sides (d : ℕ) (tasks : List Task) (b : Box) : Type 0 where
  pub count : length b ≡ length tasks
  pub over : (t : ℕ) → t < length tasks → Over d (get_or tasks t []) (side b t)

-- the choice of a box
unfoldable pub choice_of : List Task → Box → Choice
choice_of tasks [] = []
choice_of [] (i ∷ b) = []
choice_of (task ∷ tasks) (i ∷ b) = with_units task i ∷ choice_of tasks b

pub box-back : (tasks : List Task) (b : Box) → length b ≡ length tasks → box_of (choice_of tasks b) ≡ b
unfolding choice_of
box-back tasks [] e = refl
box-back [] (i ∷ b) e = absurd (omega arith)
box-back (task ∷ tasks) (i ∷ b) e = ap (λ (l : Box). i ∷ l) (box-back tasks b (omega arith))

-- its units, task by task
pub choice-total : (tasks : List Task) (b : Box) → length b ≡ length tasks
    → total (choice_of tasks b) ≡ sum_below (length tasks) (λ t. side_units (get_or tasks t []) (side b t))
unfolding choice_of total sum_below
choice-total [] [] e = refl
choice-total [] (i ∷ b) e = absurd (omega arith)
choice-total (task ∷ tasks) [] e = absurd (omega arith)
choice-total (task ∷ tasks) (i ∷ b) e =
    rw (choice-total tasks b (omega arith)) (sym (sum_first (length tasks) (λ t. side_units (get_or (task ∷ tasks) t []) (side (i ∷ b) t))))

-- what is needed of each hold, and what is needed of each task over one
choice-member : (tasks : List Task) (b : Box) → length b ≡ length tasks → (t : ℕ) → t < length tasks
    → Memᴰ (with_units (get_or tasks t []) (side b t)) (choice_of tasks b)
unfolding choice_of
choice-member [] b e t l = absurd (omega arith)
choice-member (task ∷ tasks) [] e t l = absurd (omega arith)
choice-member (task ∷ tasks) (i ∷ b) e zero l = Memᴰ.head refl
choice-member (task ∷ tasks) (i ∷ b) e (suc t) l = Memᴰ.tail (choice-member tasks b (omega arith) t (le_of_suc-le-suc l))

member-choice : (tasks : List Task) (b : Box) → length b ≡ length tasks → (h : Hold) → Memᴰ h (choice_of tasks b)
    → (t : ℕ) × (t < length tasks) × (h ≡ with_units (get_or tasks t []) (side b t))
unfolding choice_of
member-choice tasks [] e h m = absurd (Memᴰ.not-nil m)
member-choice [] (i ∷ b) e h m = absurd (omega arith)
member-choice (task ∷ tasks) (i ∷ b) e h m =
    by_cases (Memᴰ.cases_cons m)
    (λ q. (0, omega arith, q))
    (λ n. let r = member-choice tasks b (omega arith) h n in (suc r.0, suc-le-suc r.1, r.2))

module _ (tasks : List Task) (b : Box) (count : length b ≡ length tasks) (s n : ℕ) where
  abbrev NoneSpare : Type 0
  NoneSpare = (t : ℕ) → t < length tasks → 0 < (side b t).low → n - side_units (get_or tasks t []) (side b t) ≤ s

  pub needed-spare : ((t : ℕ) → t < length tasks → 0 < (side b t).low → 0 < side_units (get_or tasks t []) (side b t)) → Needed s n (choice_of tasks b) → NoneSpare
  needed-spare some f t l h = f (with_units (get_or tasks t []) (side b t)) (choice-member tasks b count t l) (some t l h)

  pub spare-needed : NoneSpare → Needed s n (choice_of tasks b)
  unfolding side_units
  spare-needed f h m u =
      let r = member-choice tasks b count h m in
      let own : h.units ≡ side_units (get_or tasks r.0 []) (side b r.0) = ap (λ (k : Hold). k.units) r.2 in
      by_bool (ltb 0 (side b r.0).low)
      (λ k. rw own (f r.0 r.1 (ltb-true 0 (side b r.0).low k)))
      (λ k. let none : h.units ≡ 0 = own ∙ rw k in absurd (omega arith))

module _ (d : ℕ) where
  abbrev pub Balanced : Task → Type 0
  Balanced task = balanced d false task ≡ true

  -- the units of a hold are those of its side
  hold-units : (task : Task) (h : Hold) → IsHold d task h → h ≡ with_units task h.over
  unfolding side_units units_taken
  hold-units task h i =
      let e = i.claimed in
      let own : side_units task h.over ≡ h.units = rw (lt-ltb 0 h.over.low i.counted, e.1, e.2) in
      ap (λ (u : ℕ). record { over = h.over; units = u }) (sym own)

  side-told : (c : Bool) (task : Task) → Balanced task → (h : Hold) → Memᴰ h (sides_of d c task)
      → (c ≡ ltb 0 h.over.low) × Over d task h.over × (h ≡ with_units task h.over)
  unfolding sides_of side_units
  side-told true task b h m =
      let i = (holds-listed d task h b).0 m in
      let same = hold-units task h i in
      (sym (lt-ltb 0 h.over.low i.counted), record { hold = λ l. subst (IsHold d task) same i; whole = λ e. absurd (omega (arith, i.counted)) }, same)
  side-told false task b h m =
      let e = Memᴰ.eq_of_singleton m in
      rw e (refl, record { hold = λ l. absurd (omega arith); whole = λ z. refl }, refl)

  side-listed : (c : Bool) (task : Task) → Balanced task → (i : Interval) → c ≡ ltb 0 i.low → Over d task i → Memᴰ (with_units task i) (sides_of d c task)
  unfolding sides_of side_units
  side-listed true task b i e o = (holds-listed d task (with_units task i) b).1 (o.hold (ltb-true 0 i.low (sym e)))
  side-listed false task b i e o =
      let none : with_units task i ≡ record { over = i; units = 0 } = rw (sym e) in
      let z : i ≡ 0 to length task = o.whole (omega (arith, ltb-false 0 i.low (sym e))) in
      Memᴰ.head (none ∙ ap (λ (j : Interval). record { over = j; units = 0 }) z)

  sides-ordered : (c : Bool) (task : Task) → Balanced task → Ordered LowerStart (sides_of d c task)
  unfolding sides_of
  sides-ordered true task b =
      ordered-weaken (λ g h. g.over.high < h.over.low) LowerStart (holds d task)
      (λ g h m n l. let i = (holds-listed d task g b).0 m in omega (arith, i.lasts)) (holds-rise d 0 false task b)
  sides-ordered false task b = ((λ j m. absurd (Memᴰ.not-nil m)), tt)

  sides-cons : (task : Task) (tasks : List Task) (i : Interval) (b : Box) → Over d task i → Sides d tasks b → Sides d (task ∷ tasks) (i ∷ b)
  sides-cons task tasks i b o s = record { count = ap suc s.count; over = each }
    where
      each : (t : ℕ) → t < suc (length tasks) → Over d (get_or (task ∷ tasks) t []) (side (i ∷ b) t)
      each zero h = o
      each (suc t) h = s.over t (le_of_suc-le-suc h)

  -- a choice is that of its box, whose sides fit, and its task set is the box's
  pub choices-told : (c : TaskSet) (tasks : List Task) → Each Balanced tasks → (e : Choice) → Memᴰ e (choices_of d c tasks)
      → (c ≡ chosen (box_of e)) × Sides d tasks (box_of e) × (e ≡ choice_of tasks (box_of e))
  unfolding choices_of choice_of
  choices-told [] [] g e m = rw (Memᴰ.eq_of_singleton m) (refl, record { count = refl; over = λ t h. absurd (omega arith) }, refl)
  choices-told [] (task ∷ tasks) g e m = absurd (Memᴰ.not-nil m)
  choices-told (c ∷ cs) [] g e m = absurd (Memᴰ.not-nil m)
  choices-told (c ∷ cs) (task ∷ tasks) g e m =
      let r = prefixed-mem (sides_of d c task) (choices_of d cs tasks) m in
      let first = side-told c task g.0 r.first r.first-in in
      let rest = choices-told cs tasks g.1 r.rest r.rest_in in
      rw r.is (
        ap₂ ◌∷◌ first.0 rest.0,
        sides-cons task tasks r.first.over (box_of r.rest) first.1 rest.1,
        ap₂ {A = Hold} {B = Choice} ◌∷◌ first.2 rest.2,
      )

  pub choices-listed : (tasks : List Task) → Each Balanced tasks → (b : Box) → Sides d tasks b → Memᴰ (choice_of tasks b) (choices_of d (chosen b) tasks)
  unfolding choices_of choice_of
  choices-listed [] g [] s = Memᴰ.head refl
  choices-listed [] g (i ∷ b) s = absurd (omega (arith, s.count))
  choices-listed (task ∷ tasks) g [] s = absurd (omega (arith, s.count))
  choices-listed (task ∷ tasks) g (i ∷ b) s =
      mem-prefixed
      (side-listed (ltb 0 i.low) task g.0 i refl (s.over 0 (omega arith)))
      (choices-listed tasks g.1 b (record { count = omega (arith, s.count); over = λ t h. s.over (suc t) (suc-le-suc h) }))

  pub choices-ordered : (c : TaskSet) (tasks : List Task) → Each Balanced tasks → Ordered ByStarts (choices_of d c tasks)
  unfolding choices_of
  choices-ordered [] [] g = ((λ b m. absurd (Memᴰ.not-nil m)), tt)
  choices-ordered [] (task ∷ tasks) g = tt
  choices-ordered (c ∷ cs) [] g = tt
  choices-ordered (c ∷ cs) (task ∷ tasks) g =
      prefixed-ordered (sides_of d c task) (choices_of d cs tasks) (sides-ordered c task g.0) (choices-ordered cs tasks g.1)

-- ---- the boxes of those that just exceed a capacity
pub boxes-told : (s : ℕ) (cs : List Choice) (b : Box) → Memᴰ b (boxes_of s cs) → (c : Choice) × Memᴰ c cs × (just_exceeds s c ≡ true) × (b ≡ box_of c)
unfolding boxes_of
boxes-told s [] b m = absurd (Memᴰ.not-nil m)
boxes-told s (c ∷ cs) b m =
    let later : Memᴰ b (boxes_of s cs) → (e : Choice) × Memᴰ e (c ∷ cs) × (just_exceeds s e ≡ true) × (b ≡ box_of e) =
    λ n. let r = boxes-told s cs b n in (r.0, Memᴰ.tail r.1, r.2, r.3) in
    by_bool (just_exceeds s c)
    (λ k. by_cases (Memᴰ.cases_cons (rw k at m)) (λ q. (c, Memᴰ.head refl, k, q)) later)
    (λ k. later (rw k at m))

pub boxes-listed : (s : ℕ) (cs : List Choice) (c : Choice) → Memᴰ c cs → just_exceeds s c ≡ true → Memᴰ (box_of c) (boxes_of s cs)
unfolding boxes_of
boxes-listed s [] c m e = absurd (Memᴰ.not-nil m)
boxes-listed s (k ∷ cs) c m e =
    by_cases (Memᴰ.cases_cons m)
    (λ q. let own : just_exceeds s k ≡ true = rw q at e in rw own (Memᴰ.head (ap box_of q)))
    (λ n. let rest = boxes-listed s cs c n e in by_bool (just_exceeds s k) (λ j. rw j (Memᴰ.tail rest)) (λ j. rw j rest))

pub boxes-ordered : (s : ℕ) (R : Choice → Choice → Type 0) (S : Box → Box → Type 0) → ((a b : Choice) → R a b → S (box_of a) (box_of b))
    → (cs : List Choice) → Ordered R cs → Ordered S (boxes_of s cs)
unfolding boxes_of
boxes-ordered s R S f [] o = tt
boxes-ordered s R S f (c ∷ cs) o =
    let rest = boxes-ordered s R S f cs o.1 in
    by_bool (just_exceeds s c)
    (λ k. rw k ((λ b m. let r = boxes-told s cs b m in rw r.3 (f c r.0 (o.0 r.0 r.1))), rest))
    (λ k. rw k rest)
