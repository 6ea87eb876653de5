-- The rows of a set's tasks, one after the other.
use Prim.Native.Nat.{ℕ, ◌+◌, ◌*◌, ◌<◌, ◌≤◌}
use native.Mathlib.Numerals.{add-one}
use native.Mathlib.Nat.{eq-or-lt_of_le, le_of_suc-le-suc}
use native.Mathlib.Omega.{arith}
use mathlib.Core.Path.{◌≡◌, sym, ap, ◌∙◌}
use mathlib.Core.List.{List}
use lib.ListN.{length, set, length-set}
use lib.Seq.{get_or-set_same, get_or-set_other}
use lib.Dec.{eqb}
use borrow.Author.Tests.{eqb-true, eqb-false}
use Rattle.model.specs.Set.{Task, Set, task_at, at}
use Rattle.model.specs.Plan.{side_word}
use Rattle.model.proofs.Bools.{by_bool, by_cases}
use Rattle.forbidden_boxes.specs.Rows.{ROW, WHOLE, task_in, RowsBefore, HoldSides, Row, RowMade, RowsMade}
use Rattle.forbidden_boxes.proofs.Gather.{task-length}

-- the word over all positions, put at the row's end
pub row_made : (words : List ℕ) (start n d t : ℕ) (rows₀ units₀ rows units : List ℕ) (count v : ℕ)
    → HoldSides words start n d t rows₀ units₀ count rows units → t * ROW + ROW ≤ length rows → v ≡ side_word t (record { low = 0; high = n })
    → RowMade words start n d t rows₀ units₀ count (set rows (t * ROW + WHOLE) v) units
row_made words start n d t rows₀ units₀ rows units count v made room e =
    let l = made.listed in
    record {
      row = record {
        listed = record {
          count = l.count;
          few = l.few;
          each = λ j h. record {
            side = get_or-set_other rows (t * ROW + WHOLE) (t * ROW + j) v 0 (λ y. absurd (omega (arith, l.few))) ∙ (l.each j h).side;
            taken = (l.each j h).taken;
          };
        };
        whole = get_or-set_same rows (t * ROW + WHOLE) v 0 (omega arith)
            ∙ e
            ∙ ap (λ (m : ℕ). side_word t (record { low = 0; high = m })) (sym (task-length words start n d t rows₀ units₀));
      };
      kept = λ i h. get_or-set_other rows (t * ROW + WHOLE) i v 0 (λ y. absurd (omega arith)) ∙ made.kept i h;
      kept_units = made.kept_units;
    }

-- a row before the one that is made
row_kept : {d u t n : ℕ} {task : Task} {rows₀ units₀ rows units : List ℕ} → u < t → RowsBefore t rows₀ rows → RowsBefore t units₀ units
    → Row d u task n rows₀ units₀ → Row d u task n rows units
row_kept {d} {u} {t} h k m r =
    let l = r.listed in
    record {
      listed = record {
        count = l.count;
        few = l.few;
        each = λ j g. record {
          side = k (u * ROW + j) (omega (arith, l.few)) ∙ (l.each j g).side;
          taken = m (u * ROW + j) (omega (arith, l.few)) ∙ (l.each j g).taken;
        };
      };
      whole = k (u * ROW + WHOLE) (omega arith) ∙ r.whole;
    }

-- the rows of the tasks before t
module _ (s : Set) (d : ℕ) where
  pub one-made : {words rows units holds rows' units' : List ℕ} {start n t count : ℕ} → RowsMade s t d holds rows units → t < 8 → length rows' ≡ length rows
      → length units' ≡ length units → task_in words start n ≡ task_at s t → RowMade words start n d t rows units count rows' units'
      → RowsMade s (t + 1) d (set holds t count) rows' units'
  one-made {words} {rows} {units} {holds} {rows'} {units'} {start} {n} {t} {count} made h e f same r =
      let z = made.sized in
      rw (add-one t)
      (record {
        sized = record {
          eight_rows = e ∙ z.eight_rows;
          eight_units = f ∙ z.eight_units;
          eight_holds = length-set holds t count ∙ z.eight_holds;
          few = at_most;
        };
        row = λ u g.
            by_cases (eq-or-lt_of_le (le_of_suc-le-suc g))
            (λ q. rw (q, here, ← same) r.row)
            (λ l. rw (get_or-set_other holds t u count 0 (λ y. absurd (omega arith))) (row_kept l r.kept r.kept_units (made.row u l)));
      })
    where
      here : at (set holds t count) t ≡ count
      here = get_or-set_same holds t count 0 (omega (arith, made.sized.eight_holds))

      at_most : (u : ℕ) → at (set holds t count) u ≤ 127
      at_most u =
          by_bool (eqb u t)
          (λ q. rw (eqb-true u t q, here) r.row.listed.few)
          (λ q. rw (get_or-set_other holds t u count 0 (eqb-false u t q)) (made.sized.few u))
