-- `cleaner::write_set` meets its contract: its parts, written one after the other, are the cleaned set.
use Prim.Native.Nat.{ℕ, ◌≤◌}
use native.Mathlib.Omega.{arith}
use mathlib.Core.Path.{ap, ◌∙◌}
use mathlib.Core.List.{List, [], ◌∷◌}
use lib.ListN.{length}
use Rattle.model.specs.Slice.{write}
use Rattle.model.specs.Layout.{word, END}
use Rattle.cleaner.specs.Numbers.{former_set, clean_words}
use Rattle.cleaner.proofs.Parts.{Parts, parts, written, new_tasks}
use Rattle.cleaner.proofs.write_set.Goals.{Start}
use Rattle.cleaner.proofs.write_set.Goals as goal

-- what is known at the start
module _ (c : Start) where
  abbrev words : List ℕ
  words = c.args.words.now

  known : Parts words c.args.shape c.args.claimed c.args.numbers (former_set words)
  known = parts words c.args.shape c.args.claimed c.args.numbers c.requires.accepted c.requires.numbers_are

  room : length (clean_words words) ≤ length c.args.slice.now
  room = c.requires.words_in_bounds

pub overflow_sub-end : goal.overflow_sub-end
overflow_sub-end c =
    let s = (goal.at.overflow_sub-end c).Start in
    omega (arith, (known s).inside)

pub write_devices-tasks-requires : goal.write_devices-tasks-requires
write_devices-tasks-requires c =
    let s = (goal.at.write_devices-tasks-requires c).Start in
    let k = known s in
    record { devices_bound = k.few; capacities_len = (k.capacities_all, k.marks-all); false_in_bounds = omega (arith, k.inside, k.needed, room s) }

pub offset_bounds-words-devices : goal.offset_bounds-words-devices
offset_bounds-words-devices c =
    let s = (goal.at.offset_bounds-words-devices c).Start in
    omega (arith, (known s).few)

pub slice_bounds-write_tasks-count : goal.slice_bounds-write_tasks-count
slice_bounds-write_tasks-count c =
    let s = (goal.at.slice_bounds-write_tasks-count c).Start in
    omega (arith, (known s).inside)

pub slice_bounds-write_tasks-start : goal.slice_bounds-write_tasks-start
slice_bounds-write_tasks-start c =
    let s = (goal.at.slice_bounds-write_tasks-start c).Start in
    omega (arith, (known s).inside)

pub write_tasks-last-requires : goal.write_tasks-last-requires
write_tasks-last-requires c =
    let s = (goal.at.write_tasks-last-requires c).Start in
    let k = known s in
    let placed = c.write_devices-tasks.ensures.value in
    record { named = k.named; numbers_len = c.requires.numbers_are.sixteen; tasks_in_bounds = omega (arith, placed, k.tasks-length, k.needed, room s) }

pub write_end-requires : goal.write_end-requires
write_end-requires c =
    let s = (goal.at.write_end-requires c).Start in
    let k = known s in
    let placed = c.write_devices-tasks.ensures.value in
    let behind = c.write_tasks-last.ensures.value in
    record { to_in_bounds = omega (arith, placed, behind, k.tasks-length, k.needed, room s); to_bound = omega (arith, placed, behind, k.tasks-length, k.needed, k.short, k.no_more) }

pub returns : goal.returns
returns c =
    let s = (goal.at.returns c).Start in
    let k = known s in
    let x = c.write_devices-tasks.ensures in
    let y = c.write_tasks-last.ensures in
    let z = c.write_end.ensures in
    let w = written (words s) c.args.shape c.args.claimed c.args.numbers c.requires.accepted c.requires.numbers_are c.args.slice.now c.write_devices-tasks.result c.write_tasks-last.result
    (omega (arith, x.value, k.kept)) y.value (room s) in
    record {
      value = omega (arith, z.value, w.0);
      slice_after = z.out_after ∙ ap (λ (l : List ℕ). write l c.write_tasks-last.result (word END c.write_tasks-last.result ∷ []))
          (y.out_after ∙ ap (λ (l : List ℕ). write l c.write_devices-tasks.result (new_tasks (words s) c.args.shape c.args.numbers)) x.out_after) ∙ w.1;
    }
