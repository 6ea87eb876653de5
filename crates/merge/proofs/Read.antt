-- What is read of the merged words, by what the two shapes tell: only devices, tasks and states can be too many.
use Prim.Native.Nat.{ℕ, zero, suc, ◌+◌, ◌*◌, ◌-◌, ◌<◌, ◌≤◌}
use native.Mathlib.Nat.{not-suc-le-zero, mul_assoc}
use native.Mathlib.Omega.{arith}
use mathlib.Core.Path.{◌≡◌, sym, ap, ap₂, ◌∙◌}
use mathlib.Core.List.{List, [], ◌∷◌, ◌++◌, map, map-append}
use lib.ListN.{length, take, drop, length-append, length-map, take-append-drop}
use lib.Seq.{take-append-add}
use Rattle.std.proofs.lemmas.List.{take-map}
use Rattle.model.specs.Answer.{given, refused}
use Rattle.model.specs.Set.{Task, Set, lengths, lengths_of, at, size}
use Rattle.model.specs.Layout.{task_words, present, WellFormed}
use Rattle.model.specs.Read.{read}
use Rattle.model.specs.Clean.{renamed, renamed_tasks}
use Rattle.model.specs.Merge.{merged_number, Shares}
use Rattle.model.proofs.Words.{words_append}
use Rattle.model.proofs.Renamed.{lengths-renamed}
use Rattle.model.proofs.Cleaned.{length-words}
use Rattle.model.proofs.ReadAccepts.{read-complete}
use Rattle.model.proofs.Merged.{device-count, task-count, word_count, devices-refused, tasks-refused, grid-refused, merged-formed}
use Rattle.shape.specs.declared.Shape.{Shape}
use Rattle.shape.specs.declared.accepted.AcceptedSet.{AcceptedSet}
use Rattle.shape.specs.ShapeOf.{starts_from}
use Rattle.shape.specs.SetOf.{set_of}
use Rattle.shape.proofs.Padded.{padded-at}
use Rattle.shape.proofs.Declared.{devices-are, tasks-are, grid-is, few-tasks}
use Rattle.shape.proofs.Read.{length-starts}
use Rattle.merge.specs.Sets.{merged_set, merged_words}
use Rattle.merge.proofs.Parts.{words-are, count}

-- a task's start is behind the words before its TASK, and that
start-at : (n : ℕ) (tasks : List Task) (t : ℕ) → t < length tasks → at (starts_from n tasks) t ≡ n + length (task_words (take t tasks)) + 1
unfolding starts_from task_words
start-at n [] t h = absurd (not-suc-le-zero h)
start-at n (u ∷ us) zero h = omega arith
start-at n (u ∷ us) (suc t) h =
    let l : t < length us = omega arith in
    simp (length-append, length-map) (omega (arith, start-at (n + 1 + length u) us t l))

module _ (a : AcceptedSet) (t : ℕ) (h : t < a.shape.tasks) where
  abbrev its : Set
  its = set_of a

  pub start-is : at a.shape.starts t ≡ length its.capacities + length (task_words (take t its.tasks)) + 1
  start-is =
      let n = length its.capacities in
      ap (λ (x : Shape). at x.starts t) a.declares.shaped
      ∙ padded-at 8 (starts_from n its.tasks) (omega (arith, length-starts n its.tasks, a.declares.well_formed.tasks)) t
      ∙ start-at n its.tasks t (omega (arith, tasks-are a.declares))

  -- it is among the words
  pub start-inside : (1 ≤ at a.shape.starts t) × (at a.shape.starts t ≤ length a.words.now)
  start-inside =
      let front = take t its.tasks in
      let behind = drop t its.tasks in
      let cut : length (task_words its.tasks) ≡ length (task_words front) + length (task_words behind) =
      ap (λ (l : List Task). length (task_words l)) (sym (take-append-drop t its.tasks)) ∙ ap length (words_append front behind)
      ∙ length-append (task_words front) (task_words behind) in
      (omega (arith, start-is), omega (arith, start-is, cut, count a))

-- the states of tasks and more tasks
size-append : (ls ms : List ℕ) → size (ls ++ ms) ≡ size ls * size ms
unfolding size
size-append [] ms = omega arith
size-append (l ∷ ls) ms = rw (size-append ls ms) (sym (mul_assoc (suc l) (size ls) (size ms)))

module _ (k : ℕ) (a b : AcceptedSet) (shares : Shares k (set_of a) (set_of b)) where
  abbrev s : Set
  s = set_of a

  abbrev t : Set
  t = set_of b

  abbrev u : Set
  u = merged_set k a.words.now b.words.now

  abbrev new : ℕ → ℕ
  new = merged_number (length s.capacities) k

  v : WellFormed s
  v = a.declares.well_formed

  w : WellFormed t
  w = b.declares.well_formed

  devices : length u.capacities + k ≡ a.shape.devices + b.shape.devices
  devices = omega (arith, device-count k s t v w shares, devices-are a.declares, devices-are b.declares)

  tasks : length u.tasks ≡ a.shape.tasks + b.shape.tasks
  tasks = omega (arith, task-count k s t v w shares, tasks-are a.declares, tasks-are b.declares)

  grid : size (lengths_of u) ≡ a.shape.grid * b.shape.grid
  grid =
      ap size (map-append length s.tasks (renamed_tasks new t.tasks) ∙ ap (λ (l : List ℕ). lengths s.tasks ++ l) (lengths-renamed new t.tasks))
      ∙ size-append (lengths s.tasks) (lengths t.tasks)
      ∙ ap₂ (λ (i j : ℕ). i * j) (sym (grid-is a.declares)) (sym (grid-is b.declares))

  pub many-devices : 16 < a.shape.devices + b.shape.devices - k → read (merged_words k a.words.now b.words.now) ≡ refused 7 16
  many-devices l = devices-refused k s t v w shares (omega (arith, devices))

  module _ (few : a.shape.devices + b.shape.devices - k ≤ 16) where
    few-merged : length u.capacities ≤ 16
    few-merged = omega (arith, devices)

    -- the 9th TASK, among the second set's words and among the merged ones
    ninth : 8 < a.shape.tasks + b.shape.tasks
        → length a.words.now - 1 - k + at b.shape.starts (8 - a.shape.tasks) - 1 ≡ length u.capacities + length (task_words (take 8 u.tasks))
    ninth l =
        let n = 8 - a.shape.tasks in
        let most = few-tasks a.declares in
        let renamed-all = renamed_tasks new t.tasks in
        let eight : length s.tasks + n ≡ 8 = omega (arith, tasks-are a.declares) in
        let front : take 8 u.tasks ≡ s.tasks ++ renamed_tasks new (take n t.tasks) =
        ap (λ (i : ℕ). take i u.tasks) (sym eight) ∙ take-append-add s.tasks renamed-all n
        ∙ ap (λ (l : List Task). s.tasks ++ l) (take-map (map (renamed new)) n t.tasks) in
        let words : length (task_words (take 8 u.tasks)) ≡ length (task_words s.tasks) + length (task_words (take n t.tasks)) =
        ap (λ (l : List Task). length (task_words l)) front
        ∙ ap length (words_append s.tasks (renamed_tasks new (take n t.tasks)))
        ∙ length-append (task_words s.tasks) (task_words (renamed_tasks new (take n t.tasks)))
        ∙ ap (λ (i : ℕ). length (task_words s.tasks) + i) (length-words new (take n t.tasks)) in
        omega (arith, words, count a, devices, devices-are a.declares, devices-are b.declares, shares.of_first, start-is b n (omega (arith, most)))

    pub many-tasks : 8 < a.shape.tasks + b.shape.tasks
        → read (merged_words k a.words.now b.words.now) ≡ refused 7 (length a.words.now - 1 - k + at b.shape.starts (8 - a.shape.tasks) - 1)
    many-tasks l = tasks-refused k s t v w shares few-merged (omega (arith, tasks)) ∙ ap (refused 7) (sym (ninth l))

    module _ (fit : a.shape.tasks + b.shape.tasks ≤ 8) where
      fit-merged : length u.tasks ≤ 8
      fit-merged = omega (arith, tasks)

      pub many-states : 65536 < a.shape.grid * b.shape.grid → read (merged_words k a.words.now b.words.now) ≡ refused 12 (length a.words.now - 1 - k + length b.words.now - 1)
      many-states l =
          grid-refused k s t v w shares few-merged fit-merged (rw grid l)
          ∙ ap (refused 12) (omega (arith, word_count k s t v w shares, ap length (words-are a), ap length (words-are b), count a, shares.of_first))

      pub merged-read : a.shape.grid * b.shape.grid ≤ 65536 → read (merged_words k a.words.now b.words.now) ≡ given u
      merged-read l = read-complete present u (merged-formed k s t v w shares few-merged fit-merged (rw grid l))
