-- `reader::close` meets its contract: the grid decides between refusal 12 and what the set has.
use borrow.Author.Tests.{lt-ltb, le-ltb}
use Prim.Native.Nat.{ℕ, ◌≤◌}
use mathlib.Core.Path.{◌≡◌, sym, ap, ◌∙◌}
use lib.ListN.{length, take, length-map}
use Rattle.model.specs.Answer.{◌then◌}
use Rattle.model.specs.Set.{lengths_of, size}
use Rattle.model.specs.Read as model
use Rattle.refusals.specs.Answers.{number_of, answer_of}
use Rattle.shape.specs.ShapeOf.{padded}
use Rattle.shape.proofs.Padded.{padded-front}
use Rattle.reader.specs.declared.scan.Scan.{Scan}
use Rattle.reader.specs.declared.weights.Weights.{Weights}
use Rattle.reader.specs.Follow.{scan_of, Weighs}
use Rattle.reader.proofs.close.Goals as goal

-- what is weighed are the set's action counts
module _ (m : model.Scan) (few : length m.set.tasks ≤ 8) where
  counts : take (length m.set.tasks) (padded 8 (lengths_of m.set)) ≡ lengths_of m.set
  counts =
      let same = length-map {B = ℕ} m.set.tasks length in
      ap (λ (n : ℕ). take n (padded 8 (lengths_of m.set))) (sym same) ∙ padded-front 8 (lengths_of m.set) (rw same few)

  weighed : (s : Scan) (w : Weights) → s ≡ scan_of m → Weighs (take s.tasks s.lengths) w → Weighs (lengths_of m.set) w
  weighed s w e h = rw counts at (rw e at h)

pub returns-then-grid-gt-MAX_GRID : goal.returns-then-grid-gt-MAX_GRID
unfolding model.close answer_of number_of ◌then◌
returns-then-grid-gt-MAX_GRID c m few e =
    let told = weighed m few _ _ e c.weigh-grid.ensures in
    rw (c.at.ensures, lt-ltb 65536 (size (lengths_of m.set)) (told.over c.if-grid-gt-MAX_GRID.true))

pub returns : goal.returns
unfolding model.close answer_of ◌then◌
returns c m few e =
    let told = weighed m few _ _ e c.weigh-grid.ensures in
    let within = c.if-grid-gt-MAX_GRID.false in
    rw (told.grid within, told.weights within, e, le-ltb 65536 (size (lengths_of m.set)) (rw (told.grid within) at within))
