-- A device's words from its rows, and all devices' words one after the other.
use Prim.Native.Nat.{ℕ, suc, ◌+◌, ◌*◌, ◌<◌, ◌≤◌}
use native.Mathlib.Numerals.{add-one}
use native.Mathlib.Omega.{arith}
use mathlib.Core.Path.{◌≡◌, refl, sym, ap, ap₂, ◌∙◌}
use mathlib.Core.List.{List, [], ◌∷◌, ◌++◌, map, append_assoc}
use lib.ListN.{length}
use Rattle.model.specs.Set.{Task, Set, at}
use Rattle.model.specs.Layout.{word}
use Rattle.model.specs.Forbidden.{device_boxes, Forbidden, forbidden_from, forbidden}
use Rattle.model.specs.Plan.{FORBIDDEN_BOX, side_words, forbidden_words}
use Rattle.shape.specs.declared.Shape.{Shape}
use Rattle.shape.specs.Declares.{Declares}
use Rattle.shape.proofs.Declared.{tasks-are, capacity-at}
use Rattle.plan_words.specs.Words.{up_to}
use Rattle.forbidden_boxes.specs.Units.{NoMore}
use Rattle.forbidden_boxes.specs.Rows.{RowsMade}
use Rattle.forbidden_boxes.specs.Choices.{claimers_from, table_words, device_words}
use Rattle.forbidden_boxes.proofs.Boxes.{RowsFrom, table-boxes, device-boxes}
use Rattle.forbidden_boxes.proofs.Claims.{few-tasks, few-claimers}
use Rattle.forbidden_boxes.proofs.Most.{tasks-within}

module _ {words : List ℕ} {shape : Shape} {s : Set} (says : Declares words shape s) (d most : ℕ) (bound : NoMore s d most) where
  -- the rows are those of the set's tasks
  rows-from : {holds rows units : List ℕ} → RowsMade s shape.tasks d holds rows units → RowsFrom rows units holds d 0 s.tasks
  rows-from {holds} {rows} {units} made i h =
      let z : 0 + i ≡ i = omega arith in
      rw z (made.row i (omega (arith, tasks-are says)))

  pub device-written : {holds rows units : List ℕ} → RowsMade s shape.tasks d holds rows units → most ≤ 255
      → table_words rows units holds (word FORBIDDEN_BOX d) (at shape.capacities d) shape.tasks most ≡ device_words s d
  unfolding device_words
  device-written {holds} {rows} {units} made small =
      rw (tasks-are says, capacity-at says d)
      (table-boxes rows units holds d (word FORBIDDEN_BOX d) (at s.capacities d) most s.tasks (rows-from made) (tasks-within s d most bound) small
      (omega (arith, says.well_formed.tasks))
      ∙ device-boxes d (device_boxes d (at s.capacities d) s.tasks))

  -- a capacity that the tasks can't exceed
  pub device-passed : shape.tasks * most ≤ at shape.capacities d → device_words s d ≡ []
  unfolding device_words forbidden_words
  device-passed h = rw (few-tasks d most (at s.capacities d) s.tasks (tasks-within s d most bound) (rw (tasks-are says, capacity-at says d) at h))

  -- nor can those that claim it
  pub device-unclaimed : {holds rows units : List ℕ} → RowsMade s shape.tasks d holds rows units
      → (count : ℕ) → count ≡ claimers_from 0 shape.tasks holds → count * most ≤ at shape.capacities d → device_words s d ≡ []
  unfolding device_words forbidden_words
  device-unclaimed {holds} {rows} {units} made count e h =
      rw (few-claimers rows units holds d most (at s.capacities d) s.tasks (rows-from made) (tasks-within s d most bound)
      (rw (e, tasks-are says, capacity-at says d) at h))

words_append : (fs gs : List Forbidden) → forbidden_words (fs ++ gs) ≡ forbidden_words fs ++ forbidden_words gs
unfolding forbidden_words
words_append [] gs = refl
words_append (f ∷ fs) gs =
    rw (words_append fs gs) (sym (append_assoc (word FORBIDDEN_BOX f.device ∷ side_words 0 f.box) (forbidden_words fs) (forbidden_words gs)))

-- the devices from d on
from-device : (tasks : List Task) (cs : List ℕ) (d : ℕ) (f : ℕ → List ℕ)
    → ((i : ℕ) → i < length cs → f (d + i) ≡ forbidden_words (map (λ b. record { device = d + i; box = b }) (device_boxes (d + i) (at cs i) tasks)))
    → up_to (length cs) d f ≡ forbidden_words (forbidden_from d cs tasks)
unfolding up_to forbidden_from forbidden_words
from-device tasks [] d f h = refl
from-device tasks (c ∷ cs) d f h =
    let z : d + 0 ≡ d = omega arith in
    ap₂ ◌++◌ (rw z at (h 0 (omega arith)))
    (from-device tasks cs (d + 1) f (λ i l. let e : d + 1 + i ≡ d + suc i = omega arith in rw e (h (suc i) (omega arith)))
    ∙ ap (λ (e : ℕ). forbidden_words (forbidden_from e cs tasks)) (add-one d))
    ∙ sym (words_append (map (λ b. record { device = d; box = b }) (device_boxes d c tasks)) (forbidden_from (suc d) cs tasks))

pub all-devices : (s : Set) (n : ℕ) → n ≡ length s.capacities → up_to n 0 (device_words s) ≡ forbidden_words (forbidden s)
unfolding forbidden device_words
all-devices s n e =
    rw e (from-device s.tasks s.capacities 0 (device_words s) (λ i l. let z : 0 + i ≡ i = omega arith in rw z))
