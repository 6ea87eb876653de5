-- The walk over a task's actions that puts the side words and units of its holds into its row.
use Prim.Native.Nat.{ℕ, suc, ◌+◌, ◌*◌, ◌<◌, ◌≤◌}
use native.Mathlib.Numerals.{add-one}
use native.Mathlib.Nat.{eq-or-lt_of_le, le_of_suc-le-suc}
use native.Mathlib.Omega.{arith}
use mathlib.Core.Path.{◌≡◌, refl, sym, ap, ◌∙◌}
use mathlib.Core.Bool.{Bool, true, false}
use mathlib.Core.List.{List, [], ◌∷◌}
use lib.ListN.{length, drop, set, length-set, length-drop, drop_of_length-le}
use lib.Seq.{drop-cons, get_or-set_same, get_or-set_other}
use borrow.Author.Tests.{not-true}
use Rattle.model.specs.Set.{Action, claim, release, device_of, is_claim, units_taken, Task, at, balanced}
use Rattle.model.specs.Layout.{action_of}
use Rattle.model.specs.Hold.{Hold, holds_from, holds}
use Rattle.model.specs.Plan.{side_word}
use Rattle.model.proofs.Bools.{by_cases, true-not-false}
use Rattle.model.proofs.Lists.{length-tabulate, get_d_tabulate, more_left, head_of, tail_of}
use Rattle.forbidden_boxes.specs.Rows.{ROW, task_in, Acts, nth, HoldAt, RowsBefore, HoldSides}
use Rattle.forbidden_boxes.proofs.Holds.{to_close, opens, closes, passes, holds-count}

-- an action, by its device and kind
a-claim : (a : Action) (d : ℕ) → device_of a ≡ d → is_claim a ≡ true → (u : ℕ) × (a ≡ claim d u) × (units_taken a ≡ suc u)
unfolding device_of is_claim units_taken
a-claim (claim e u) d h k = (u, rw h, refl)
a-claim (release e) d h k = true-not-false false k refl

a-release : (a : Action) (d : ℕ) → device_of a ≡ d → is_claim a ≡ false → a ≡ release d
unfolding device_of is_claim
a-release (claim e u) d h k = true-not-false true refl k
a-release (release e) d h k = rw h

-- a place of the rows that is set anew, and one that isn't
module _ (rows units : List ℕ) (i t v w : ℕ) (h : Hold) where
  set_here : i < length rows → i < length units → v ≡ side_word t h.over → w ≡ h.units → HoldAt (set rows i v) (set units i w) i t h
  set_here l m e f = record { side = get_or-set_same rows i v 0 l ∙ e; taken = get_or-set_same units i w 0 m ∙ f }

  set_there : (j : ℕ) → (j ≡ i → ⊥) → HoldAt rows units j t h → HoldAt (set rows i v) (set units i w) j t h
  set_there j n r = record { side = get_or-set_other rows i j v 0 n ∙ r.side; taken = get_or-set_other units i j w 0 n ∙ r.taken }

module _ (words : List ℕ) (start n d t : ℕ) (rows₀ units₀ : List ℕ) where
  abbrev task : Task
  task = task_in words start n

  abbrev all : List Hold
  all = holds d task

  -- after p actions, with `count` holds closed; the device may be held since `low`, with `taken` units
  pub record Gathering (rows units : List ℕ) (count low taken p : ℕ) : Type 0 where
    pub within : p ≤ n
    pub same : length rows ≡ length rows₀
    pub same_units : length units ≡ length units₀
    pub held : Bool
    pub balance : balanced d held (drop p task) ≡ true
    pub left : to_close d held low taken p (drop p task) ≡ drop count all
    pub closed : count ≤ length all
    pub each : (j : ℕ) → j < count → HoldAt rows units (t * ROW + j) t (nth all j)
    pub kept : RowsBefore t rows₀ rows
    pub kept_units : RowsBefore t units₀ units

  pub task-length : length task ≡ n
  unfolding task_in
  task-length = length-tabulate n (λ p. action_of (at words (start + p)))

  next-action : (p : ℕ) → p < n → drop p task ≡ action_of (at words (start + p)) ∷ drop (suc p) task
  unfolding task_in
  next-action p h =
      drop-cons task p (claim 0 0) (omega (arith, task-length))
      ∙ ap (λ (a : Action). a ∷ drop (suc p) task) (get_d_tabulate n (λ p. action_of (at words (start + p))) p (claim 0 0) h)

  module _ (good : Acts words start n d) where
    pub few : 2 * length all ≤ n
    few = omega (arith, holds-count d 0 false task good.balance, task-length)

    pub begins : Gathering rows₀ units₀ 0 0 0 0
    unfolding to_close
    begins =
        record {
          within = omega arith;
          same = refl;
          same_units = refl;
          held = false;
          balance = good.balance;
          left = refl;
          closed = omega arith;
          each = λ j h. absurd (omega arith);
          kept = λ i h. refl;
          kept_units = λ i h. refl;
        }

    module _ {rows units : List ℕ} {count low taken p : ℕ} (now : Gathering rows units count low taken p) (h : p < n) where
      abbrev w : ℕ
      w = at words (start + p)

      abbrev rest : Task
      rest = drop (suc p) task

      -- the action at hand
      acts : (a : Action) → action_of w ≡ a → drop p task ≡ a ∷ rest
      acts a e = next-action p h ∙ ap (λ (b : Action). b ∷ rest) e

      pub claims : {v : ℕ} → device_of (action_of w) ≡ d → is_claim (action_of w) ≡ true → v ≡ units_taken (action_of w)
          → Gathering rows units count (p + 1) v (p + 1)
      claims {v} e k g =
          let q = a-claim (action_of w) d e k in
          let a = acts (claim d q.0) q.1 in
          let o = opens d low taken p now.held rest q.0 (rw a at now.balance) in
          rw (add-one p, g ∙ q.2)
          (record {
            within = omega arith;
            same = now.same;
            same_units = now.same_units;
            held = true;
            balance = o.balance;
            left = sym o.same ∙ (rw a at now.left);
            closed = now.closed;
            each = now.each;
            kept = now.kept;
            kept_units = now.kept_units;
          })

      -- one more hold, behind those that are there
      pub releases : device_of (action_of w) ≡ d → is_claim (action_of w) ≡ false → t * ROW + ROW ≤ length rows₀ → t * ROW + ROW ≤ length units₀ → n ≤ 255
          → Gathering (set rows (t * ROW + count) (side_word t (record { low = low; high = p }))) (set units (t * ROW + count) taken) (count + 1) low taken (p + 1)
      releases e k room room-units most =
          let a = acts (release d) (a-release (action_of w) d e k) in
          let o = closes d low taken p now.held rest (rw a at now.balance) in
          let hold : Hold = record { over = record { low = low; high = p }; units = taken } in
          let closing : drop count all ≡ hold ∷ to_close d false low taken (suc p) rest
          = sym now.left ∙ ap (to_close d now.held low taken p) a ∙ o.same in
          let more = more_left all count _ _ closing in
          let v = side_word t (record { low = low; high = p }) in
          let here : hold ≡ nth all count = sym (head_of all count _ _ _ closing) in
          rw (add-one p, add-one count)
          (record {
            within = omega arith;
            same = length-set rows (t * ROW + count) v ∙ now.same;
            same_units = length-set units (t * ROW + count) taken ∙ now.same_units;
            held = false;
            balance = o.balance;
            left = sym (tail_of all count _ _ closing);
            closed = omega arith;
            each = λ j g.
                by_cases (eq-or-lt_of_le (le_of_suc-le-suc g))
                (λ z.
                rw z
                (set_here rows units (t * ROW + count) t v taken (nth all count) (omega (arith, few, now.same)) (omega (arith, few, now.same_units))
                (ap (λ (i : Hold). side_word t i.over) here) (ap (λ (i : Hold). i.units) here)))
                (λ l. set_there rows units (t * ROW + count) t v taken (nth all j) (t * ROW + j) (λ y. absurd (omega arith)) (now.each j l));
            kept = λ i g. get_or-set_other rows (t * ROW + count) i v 0 (λ y. absurd (omega arith)) ∙ now.kept i g;
            kept_units = λ i g. get_or-set_other units (t * ROW + count) i taken 0 (λ y. absurd (omega arith)) ∙ now.kept_units i g;
          })

      pub passed : (device_of (action_of w) ≡ d → ⊥) → Gathering rows units count low taken (p + 1)
      passed e =
          let a = next-action p h in
          let o = passes d low taken p now.held rest (action_of w) e (rw a at now.balance) in
          rw (add-one p)
          (record {
            within = omega arith;
            same = now.same;
            same_units = now.same_units;
            held = now.held;
            balance = o.balance;
            left = sym o.same ∙ (rw a at now.left);
            closed = now.closed;
            each = now.each;
            kept = now.kept;
            kept_units = now.kept_units;
          })

    none_left : (count low taken p : ℕ) (h : Bool) → balanced d h [] ≡ true → to_close d h low taken p [] ≡ drop count all → length all ≤ count
    unfolding balanced to_close holds_from
    none_left count low taken p h b e =
        let l : drop count all ≡ [] = sym e ∙ rw (not-true h b) in
        omega (arith, length-drop count all, ap length l)

    -- at the close nothing is held, and every hold is closed
    pub ends : {rows units : List ℕ} {count low taken p : ℕ} → Gathering rows units count low taken p → n ≤ p → n ≤ 255
        → HoldSides words start n d t rows₀ units₀ count rows units
    ends {rows} {units} {count} {low} {taken} {p} now h most =
        let z : drop p task ≡ [] = drop_of_length-le task {i = p} (omega (arith, task-length)) in
        let c : length all ≤ count = none_left count low taken p now.held (rw z at now.balance) (rw z at now.left) in
        let l = few in
        record {
          listed = record { count = omega (arith, now.closed); few = omega (arith, now.closed); each = now.each };
          kept = now.kept;
          kept_units = now.kept_units;
        }
