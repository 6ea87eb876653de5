-- The walk over the task sets, smaller sets first: behind a set that is too large for a capacity none has boxes.
use Prim.Native.Nat.{ℕ, ◌+◌, ◌<◌, ◌≤◌}
use native.Mathlib.Numerals.{add-one}
use native.Mathlib.Omega.{arith}
use mathlib.Core.Path.{◌≡◌, sym, ap, ◌∙◌}
use mathlib.Core.Bool.{false, cond}
use mathlib.Core.List.{List, [], ◌∷◌}
use lib.ListN.{length, drop, length-drop}
use lib.Count.{ones}
use lib.Dec.{ltb}
use borrow.Author.Tests.{lt-ltb}
use Rattle.model.specs.Set.{at}
use Rattle.model.specs.TaskTable.{table}
use Rattle.model.proofs.Lists.{more_left, head_of, tail_of}
use Rattle.model.proofs.TableOrder.{table-length}
use Rattle.task_sets.proofs.Walks.{sizes-rise}
use Rattle.forbidden_boxes.specs.Choices.{set_words}

-- the sets from the k-th on are left, and m comes first: it is the k-th, and the sets behind it are left
pub record Comes (k m : ℕ) (more : List ℕ) : Type 0 where
  pub inside : k < 255
  pub this : m ≡ at table k
  pub behind : more ≡ drop (k + 1) table

pub comes : (k m : ℕ) (now more : List ℕ) → now ≡ drop k table → now ≡ m ∷ more → Comes k m more
comes k m now more e f =
    let g : drop k table ≡ m ∷ more = sym e ∙ f in
    record {
      inside = omega (arith, more_left table k m more g, table-length);
      this = sym (head_of table k m 0 more g);
      behind = sym (tail_of table k m more g) ∙ ap (λ (j : ℕ). drop j table) (sym (add-one k));
    }

-- none is left
pub none_left : (k : ℕ) (now : List ℕ) → now ≡ drop k table → now ≡ [] → 255 ≤ k
none_left k now e f = omega (arith, length-drop k table, ap length (sym e ∙ f), table-length)

module _ (rows units holds : List ℕ) (header s n most : ℕ) where
  -- the words for the k-th set
  abbrev pub set_at : ℕ → List ℕ
  set_at k = cond (ltb (s + 1) (ones (at table k))) [] (set_words rows units holds header s n most (at table k))

  pub too_large : (k : ℕ) → s + 1 < ones (at table k) → (j : ℕ) → k ≤ j → j < 255 → set_at j ≡ []
  too_large k h j l b = rw (lt-ltb (s + 1) (ones (at table j)) (omega (arith, sizes-rise k j l b)))

  -- one that isn't
  pub small-enough : (k m : ℕ) → m ≡ at table k → ltb (s + 1) (ones m) ≡ false → set_words rows units holds header s n most m ≡ set_at k
  small-enough k m e h = let l = rw e at h in rw (e, l)
