-- `cleaner::clean_set` meets its contract: 25 before anything is written, or the cleaned set.
use Prim.Native.Nat.{ℕ, ◌-◌, ◌<◌, ◌≤◌}
use native.Mathlib.Omega.{arith}
use mathlib.Core.Path.{◌≡◌, ap₂, ◌∙◌}
use mathlib.Core.List.{List}
use lib.ListN.{length}
use Rattle.model.specs.Answer.{given, refused}
use Rattle.refusals.specs.Answers.{answer_of, number_of}
use Rattle.model.specs.Clean.{clean}
use Rattle.cleaner.specs.Numbers.{former_set, clean_words}
use Rattle.cleaner.proofs.Parts.{few-devices, Parts, parts}
use Rattle.cleaner.proofs.Answers.{too_short, cleans}
use Rattle.cleaner.proofs.clean_set.Goals.{After-number_devices-numbered}
use Rattle.cleaner.proofs.clean_set.Goals as goal

-- what is known once the devices are numbered
module _ (c : After-number_devices-numbered) where
  abbrev words : List ℕ
  words = c.args.words.now

  known : Parts words c.args.shape c.args.claimed c.number_devices-numbered.result.numbers (former_set words)
  known = parts words c.args.shape c.args.claimed _ c.requires c.number_devices-numbered.ensures.numbers

  -- the dropped devices are the words that are spared
  count : c.number_devices-numbered.result.count ≤ c.args.shape.devices
  count = omega (arith, c.number_devices-numbered.ensures.count, known.no_more)

  needed : length words - (c.args.shape.devices - c.number_devices-numbered.result.count) ≡ length (clean_words words)
  needed = omega (arith, c.number_devices-numbered.ensures.count, known.no_more, known.needed, known.inside)

  -- 25 tells how many words are needed
  told : length c.args.slice.now < length (clean_words words)
      → record { answer = refused 25 (length words - (c.args.shape.devices - c.number_devices-numbered.result.count)); slice = c.args.slice.now }
      ≡ clean words c.args.slice.now
  told h = rw needed (too_short words c.args.slice.now c.requires.accepted h)

pub number_devices-numbered-requires : goal.number_devices-numbered-requires
number_devices-numbered-requires c = few-devices c.requires

pub overflow_sub-needed : goal.overflow_sub-needed
overflow_sub-needed c =
    let n = (goal.at.overflow_sub-needed c).After-number_devices-numbered in
    count n

pub overflow_sub-needed-2 : goal.overflow_sub-needed-2
overflow_sub-needed-2 c =
    let n = (goal.at.overflow_sub-needed-2 c).After-number_devices-numbered in
    omega (arith, count n, (known n).inside)

pub returns-then-slice-needed : goal.returns-then-slice-needed
unfolding answer_of number_of
returns-then-slice-needed c =
    let n = (goal.at.returns-then-slice-needed c).After-number_devices-numbered in
    let short : length c.args.slice.now < length (clean_words (words n)) = rw (needed n) at c.if-slice-needed.true in
    rw c.at.ensures (told n short)

pub write_set-requires : goal.write_set-requires
write_set-requires c =
    let n = (goal.at.write_set-requires c).After-number_devices-numbered in
    record { accepted = c.requires; numbers_are = c.number_devices-numbered.ensures.numbers; words_in_bounds = rw (needed n) at c.if-slice-needed.false }

pub returns : goal.returns
unfolding answer_of
returns c =
    let n = (goal.at.returns c).After-number_devices-numbered in
    let fits : length (clean_words (words n)) ≤ length c.args.slice.now = rw (needed n) at c.if-slice-needed.false in
    ap₂ (λ (k : ℕ) (l : List ℕ). record { answer = given k; slice = l }) c.write_set.ensures.value c.write_set.ensures.slice_after
    ∙ cleans (words n) c.args.slice.now c.requires.accepted fits
