-- `forbidden_boxes::choices::hold_boxes` meets its contract. The invariant: the boxes with the first i holds are written.
use Prim.Native.Nat.{ℕ, ◌+◌, ◌*◌}
use mathlib.Core.Bool.{cond, ◌&&◌}
use mathlib.Core.List.{List, [], ◌∷◌}
use lib.ListN.{take, set}
use lib.Dec.{ltb, leb}
use Rattle.model.specs.Set.{at}
use Rattle.plan_words.proofs.Run.{Turn}
use Rattle.forbidden_boxes.specs.Rows.{ROW}
use Rattle.forbidden_boxes.proofs.choices.hold_boxes.Given as goal

-- the box with the i-th hold, if its units are `first` at least and less than `end`
abbrev pub box_at : List ℕ → List ℕ → ℕ → ℕ → ℕ → ℕ → ℕ → List ℕ → ℕ → List ℕ
box_at rows units header first end n t sides i =
    let u = at units (t * ROW + i) in
    cond (leb first u && ltb u end) (header ∷ take n (set sides t (at rows (t * ROW + i)))) []

abbrev pub invariant-loop-i : goal.invariant-loop-i
invariant-loop-i l =
    Turn (box_at l.rows.sides l.rows.units l.limit.header l.missing.start l.missing.end (l.task + l.left) l.task l.sides) l.initial.plan l.at l.count l.plan l.to l.i
