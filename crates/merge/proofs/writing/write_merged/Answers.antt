-- `merge::writing::write_merged` meets its contract: its parts, written one after the other, are the merged set.
use Prim.Native.Nat.{ℕ, ◌+◌, ◌≤◌}
use native.Mathlib.Omega.{arith}
use mathlib.Core.Path.{◌≡◌, sym, ◌∙◌}
use mathlib.Core.List.{List}
use lib.ListN.{length, length-map}
use Rattle.model.specs.Set.{at}
use Rattle.set_writer.specs.Renamed.{renamed_word}
use Rattle.merge.specs.Sets.{merged_words}
use Rattle.merge.proofs.Parts.{Parts, parts, all_devices_in, devices_in, tasks_in, new_tasks, whole, nothing, then_written, ended}
use Rattle.merge.proofs.writing.write_merged.Goals.{Start}
use Rattle.merge.proofs.writing.write_merged.Goals as goal

-- what is known at the start
module _ (c : Start) where
  known : Parts c.args.shared c.args.first.now c.args.second.now
  known = parts _ _ _ c.requires.shares

  abbrev all_words : List ℕ
  all_words = merged_words c.args.shared c.args.first.now.words.now c.args.second.now.words.now

  room : length all_words ≤ length c.args.slice.now
  room = c.requires.second_in_bounds

pub overflow_sub-end : goal.overflow_sub-end
overflow_sub-end c =
    let k = known (goal.at.overflow_sub-end c).Start in
    omega (arith, k.first-tasks)

pub overflow_sub-last : goal.overflow_sub-last
overflow_sub-last c =
    let k = known (goal.at.overflow_sub-last c).Start in
    omega (arith, k.second-tasks)

pub number_devices-numbers-requires : goal.number_devices-numbers-requires
number_devices-numbers-requires c = (known (goal.at.number_devices-numbers-requires c).Start).few

pub slice_bounds-write_words-end : goal.slice_bounds-write_words-end
slice_bounds-write_words-end c = sym (known (goal.at.slice_bounds-write_words-end c).Start).first-devices

pub write_words-own-requires : goal.write_words-own-requires
write_words-own-requires c =
    let s = (goal.at.write_words-own-requires c).Start in
    let k = known s in
    omega (arith, k.first-devices, k.first-tasks, k.second-tasks, k.shared, k.all, room s)

pub offset_bounds-second-shared : goal.offset_bounds-second-shared
offset_bounds-second-shared c =
    let k = known (goal.at.offset_bounds-second-shared c).Start in
    omega (arith, k.few, k.shared)

pub slice_bounds-write_words-end-2 : goal.slice_bounds-write_words-end-2
slice_bounds-write_words-end-2 c =
    let k = known (goal.at.slice_bounds-write_words-end-2 c).Start in
    omega (arith, k.second-tasks, k.shared)

pub write_words-tasks-requires : goal.write_words-tasks-requires
write_words-tasks-requires c =
    let s = (goal.at.write_words-tasks-requires c).Start in
    let k = known s in
    omega (arith, c.write_words-own.ensures.value, k.first-devices, k.own-devices, k.first-tasks, k.second-tasks, k.all, room s)

pub offset_bounds-first-devices : goal.offset_bounds-first-devices
offset_bounds-first-devices c =
    let k = known (goal.at.offset_bounds-first-devices c).Start in
    omega (arith, k.few)

pub slice_bounds-write_words-count-2 : goal.slice_bounds-write_words-count-2
slice_bounds-write_words-count-2 c =
    let k = known (goal.at.slice_bounds-write_words-count-2 c).Start in
    omega (arith, k.first-tasks)

pub slice_bounds-write_words-start-2 : goal.slice_bounds-write_words-start-2
slice_bounds-write_words-start-2 c =
    let k = known (goal.at.slice_bounds-write_words-start-2 c).Start in
    omega (arith, k.first-tasks)

pub write_words-more-requires : goal.write_words-more-requires
write_words-more-requires c =
    let s = (goal.at.write_words-more-requires c).Start in
    let k = known s in
    omega (arith, c.write_words-own.ensures.value, c.write_words-tasks.ensures.value, k.first-devices, k.own-devices, k.first-tasks, k.second-tasks, k.all, room s)

pub offset_bounds-second-others : goal.offset_bounds-second-others
offset_bounds-second-others c =
    let k = known (goal.at.offset_bounds-second-others c).Start in
    omega (arith, k.few)

pub slice_bounds-write_tasks-count : goal.slice_bounds-write_tasks-count
slice_bounds-write_tasks-count c =
    let k = known (goal.at.slice_bounds-write_tasks-count c).Start in
    omega (arith, k.second-tasks)

pub slice_bounds-write_tasks-start : goal.slice_bounds-write_tasks-start
slice_bounds-write_tasks-start c =
    let k = known (goal.at.slice_bounds-write_tasks-start c).Start in
    omega (arith, k.second-tasks)

pub write_tasks-to-requires : goal.write_tasks-to-requires
write_tasks-to-requires c =
    let s = (goal.at.write_tasks-to-requires c).Start in
    let k = known s in
    record {
      named = k.named;
      numbers_len = c.number_devices-numbers.ensures.sixteen;
      tasks_in_bounds = omega (
        arith,
        c.write_words-own.ensures.value,
        c.write_words-tasks.ensures.value,
        c.write_words-more.ensures.value,
        k.first-devices,
        k.own-devices,
        k.first-tasks,
        k.second-tasks,
        k.all,
        room s,
      );
    }

-- END's place is the last of the merged words
pub write_end-requires : goal.write_end-requires
write_end-requires c =
    let s = (goal.at.write_end-requires c).Start in
    let k = known s in
    let end : c.write_tasks-to.result + 1 ≡ length (all_words s) =
    omega (
      arith,
      c.write_words-own.ensures.value,
      c.write_words-tasks.ensures.value,
      c.write_words-more.ensures.value,
      c.write_tasks-to.ensures.value,
      k.first-devices,
      k.own-devices,
      k.first-tasks,
      k.second-tasks,
      k.all,
    ) in
    record { to_in_bounds = omega (arith, end, room s); to_bound = omega (arith, end, k.all, k.short) }

pub returns : goal.returns
returns c =
    let s = (goal.at.returns c).Start in
    let k = known s in
    let a = c.args in
    let w = c.write_words-own.ensures in
    let x = c.write_words-tasks.ensures in
    let y = c.write_words-more.ensures in
    let z = c.write_tasks-to.ensures in
    let last : c.write_tasks-to.result + 1 ≡ length (all_words s) =
    omega (arith, w.value, x.value, y.value, z.value, k.first-devices, k.own-devices, k.first-tasks, k.second-tasks, k.all) in
    let one = then_written (nothing {slice = a.slice.now}) (all_devices_in a.first.now) w.out_after w.value (omega (arith, last, room s, x.value, y.value, z.value)) in
    let two = then_written one (devices_in a.shared a.second.now) x.out_after x.value (omega (arith, last, room s, y.value, z.value)) in
    let three = then_written two (tasks_in a.first.now) y.out_after y.value (omega (arith, last, room s, z.value)) in
    let four = then_written three (new_tasks a.shared a.first.now a.second.now c.number_devices-numbers.result) z.out_after
    (rw (length-map (tasks_in a.second.now) (renamed_word (at c.number_devices-numbers.result))) z.value) (omega (arith, last, room s)) in
    let all = ended four c.write_end.ensures.out_after (omega (arith, last, room s)) _ (whole a.shared a.first.now a.second.now c.number_devices-numbers.result s.requires.shares c.number_devices-numbers.ensures) in
    record { value = c.write_end.ensures.value ∙ all.0; slice_after = all.1 }
