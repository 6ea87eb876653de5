-- The parts of two accepted sets' words and what becomes of them: the first set's DEVICEs, the second's own, the first set's tasks, the second's with new numbers,
-- and END are the words of the merged set.
use Prim.Native.Nat.{ℕ, ◌+◌, ◌-◌, ◌<◌, ◌≤◌}
use native.Mathlib.Omega.{arith}
use mathlib.Core.Path.{◌≡◌, refl, sym, ap, ap₂, ◌∙◌}
use mathlib.Core.Bool.{not}
use mathlib.Core.List.{List, [], ◌∷◌, ◌++◌, map, map-append, append_assoc}
use lib.ListN.{length, take, drop, length-append, length-map, length-drop}
use lib.Dec.{eqb}
use lib.Seq.{take_at, drop_at, drop-append-le}
use Rattle.std.proofs.lemmas.List.{drop-map}
use borrow.Author.Tests.{eqb-true}
use Rattle.model.specs.Below.{lowest}
use Rattle.model.specs.Slice.{over, write}
use Rattle.model.specs.Set.{device_of, Set, at}
use Rattle.model.specs.Layout.{word, DEVICE, END, task_words, body, with_end, encode}
use Rattle.model.specs.Answer.{given}
use Rattle.model.specs.Read.{read}
use Rattle.model.specs.Clean.{renamed_tasks}
use Rattle.model.specs.Merge.{merged_number, first_unequal, Shares}
use Rattle.model.proofs.Bools.{by_bool, true-not-false}
use Rattle.model.proofs.Counts.{below-lowest, lowest-same}
use Rattle.model.proofs.Each.{each-mono}
use Rattle.model.proofs.Words.{all_fit, words_append}
use Rattle.model.proofs.Renamed.{renamed-same}
use Rattle.model.proofs.Cleaned.{all-declared}
use Rattle.model.proofs.Merged.{encode-count, word_count}
use Rattle.model.proofs.ReadExact.{read-sound}
use Rattle.model.proofs.Slices.{write-none, write-front, write-next}
use Rattle.shape.specs.declared.accepted.AcceptedSet.{AcceptedSet}
use Rattle.shape.specs.SetOf.{set_of}
use Rattle.shape.proofs.Declared.{devices-are, capacity-at}
use Rattle.shape.proofs.WereRead.{accepted}
use Rattle.set_writer.specs.Renamed.{renamed_word, Named}
use Rattle.set_writer.proofs.Words.{words-renamed, words-named}
use Rattle.merge.specs.Sets.{NumbersAre, merged_set, merged_words}

-- ---- one accepted set
-- its words were read, and they are those of the set that they declare
pub were-read : (a : AcceptedSet) → read a.words.now ≡ given (set_of a)
were-read a = accepted a.declares

pub words-are : (a : AcceptedSet) → a.words.now ≡ encode (set_of a)
words-are a = (read-sound a.words.now (set_of a) (were-read a)).0

-- the words of the devices, those of the devices from k on, and those of the tasks
abbrev pub all_devices_in : AcceptedSet → List ℕ
all_devices_in a = take a.shape.devices a.words.now

abbrev pub devices_in : ℕ → AcceptedSet → List ℕ
devices_in k a = take (a.shape.devices - k) (drop k a.words.now)

abbrev pub tasks_in : AcceptedSet → List ℕ
tasks_in a = take (length a.words.now - 1 - a.shape.devices) (drop a.shape.devices a.words.now)

module _ (s : Set) where
  abbrev cs : List ℕ
  cs = s.capacities

  abbrev end : List ℕ
  end = word END (length (body s)) ∷ []

  split : encode s ≡ map (word DEVICE) cs ++ (task_words s.tasks ++ end)
  unfolding with_end body
  split = append_assoc (map (word DEVICE) cs) (task_words s.tasks) end

  devices-of : (k : ℕ) → k ≤ length cs → take (length cs - k) (drop k (encode s)) ≡ map (word DEVICE) (drop k cs)
  devices-of k h =
      let all = map (word DEVICE) cs in
      let own = map (word DEVICE) (drop k cs) in
      let rest = task_words s.tasks ++ end in
      let fits : k ≤ length all = omega (arith, length-map cs (word DEVICE)) in
      let behind : drop k (encode s) ≡ own ++ rest =
      ap (drop k) split ∙ drop-append-le k all rest fits ∙ ap (λ (l : List ℕ). l ++ rest) (drop-map (word DEVICE) k cs) in
      ap (take (length cs - k)) behind ∙ take_at own rest (length cs - k) (length-map (drop k cs) (word DEVICE) ∙ length-drop k cs)

  tasks-of : take (length (encode s) - 1 - length cs) (drop (length cs) (encode s)) ≡ task_words s.tasks
  tasks-of =
      let devices = map (word DEVICE) cs in
      let behind : drop (length cs) (encode s) ≡ task_words s.tasks ++ end =
      ap (drop (length cs)) split ∙ drop_at devices (task_words s.tasks ++ end) (length cs) (length-map cs (word DEVICE)) in
      let count : length (task_words s.tasks) ≡ length (encode s) - 1 - length cs = omega (arith, encode-count s) in
      ap (take (length (encode s) - 1 - length cs)) behind ∙ take_at (task_words s.tasks) end (length (encode s) - 1 - length cs) count

module _ (a : AcceptedSet) where
  abbrev its : Set
  its = set_of a

  pub device-count : a.shape.devices ≡ length its.capacities
  device-count = devices-are a.declares

  pub count : length a.words.now ≡ length its.capacities + length (task_words its.tasks) + 1
  count = ap length (words-are a) ∙ encode-count its

  pub all-devices-words : all_devices_in a ≡ map (word DEVICE) its.capacities
  all-devices-words =
      ap₂ take device-count (words-are a ∙ split its)
      ∙ take_at (map (word DEVICE) its.capacities) (task_words its.tasks ++ end its) (length its.capacities) (length-map its.capacities (word DEVICE))

  pub devices-words : (k : ℕ) → k ≤ length its.capacities → devices_in k a ≡ map (word DEVICE) (drop k its.capacities)
  devices-words k h = ap₂ (λ (n : ℕ) (l : List ℕ). take (n - k) (drop k l)) device-count (words-are a) ∙ devices-of its k h

  pub tasks-words : tasks_in a ≡ task_words its.tasks
  tasks-words = ap₂ (λ (n : ℕ) (l : List ℕ). take (length l - 1 - n) (drop n l)) device-count (words-are a) ∙ tasks-of its

  pub short : length a.words.now ≤ 4096
  short = omega (arith, ap length (words-are a), a.declares.well_formed.words)

-- ---- two of them
module _ (a b : AcceptedSet) (k : ℕ) where
  -- the lowest of the first k devices with two capacities in the shapes is that of the sets
  pub unequal-is : lowest k (λ d. not (eqb (at a.shape.capacities d) (at b.shape.capacities d))) ≡ first_unequal k (set_of a) (set_of b)
  unequal-is = lowest-same k _ _ (λ d l. ap₂ (λ (i j : ℕ). not (eqb i j)) (capacity-at a.declares d) (capacity-at b.declares d))

  -- without one the first k devices can be the same ones
  pub shares : k ≤ a.shape.devices → k ≤ b.shape.devices → k ≤ first_unequal k (set_of a) (set_of b) → Shares k (set_of a) (set_of b)
  shares h l m =
      let cs = (set_of a).capacities in
      let ds = (set_of b).capacities in
      let test = λ (d : ℕ). not (eqb (at cs d) (at ds d)) in
      record {
        of_first = omega (arith, device-count a);
        of_second = omega (arith, device-count b);
        same = λ d n.
            by_bool (eqb (at cs d) (at ds d)) (eqb-true (at cs d) (at ds d))
            (λ z. true-not-false (test d) (rw z) (below-lowest k test d (omega arith)));
      }

-- ---- two whose first k devices can be the same ones
-- what is known of the parts
pub record Parts (k : ℕ) (a b : AcceptedSet) : Type 0 where
  pub few : (a.shape.devices ≤ 16) × (b.shape.devices ≤ 16)
  pub shared : (k ≤ a.shape.devices) × (k ≤ b.shape.devices)
  pub named : Named (tasks_in b)
  pub first-devices : length (all_devices_in a) ≡ a.shape.devices
  pub own-devices : length (devices_in k b) + k ≡ b.shape.devices
  pub first-tasks : length (tasks_in a) + a.shape.devices + 1 ≡ length a.words.now
  pub second-tasks : length (tasks_in b) + b.shape.devices + 1 ≡ length b.words.now
  pub all : length (merged_words k a.words.now b.words.now) + k + 1 ≡ length a.words.now + length b.words.now
  pub short : (length a.words.now ≤ 4096) × (length b.words.now ≤ 4096)

pub parts : (k : ℕ) (a b : AcceptedSet) → Shares k (set_of a) (set_of b) → Parts k a b
parts k a b h =
    let s = set_of a in
    let t = set_of b in
    let v = a.declares.well_formed in
    let w = b.declares.well_formed in
    let n = device-count a in
    let m = device-count b in
    record {
      few = (omega (arith, n, v.devices), omega (arith, m, w.devices));
      shared = (omega (arith, n, h.of_first), omega (arith, m, h.of_second));
      named = rw (tasks-words b) (words-named t.tasks (all_fit t w));
      first-devices = ap length (all-devices-words a) ∙ length-map s.capacities (word DEVICE) ∙ sym n;
      own-devices = omega (arith, ap length (devices-words b k h.of_second), m, h.of_second, length-map (drop k t.capacities) (word DEVICE), length-drop k t.capacities);
      first-tasks = omega (arith, ap length (tasks-words a), n, count a);
      second-tasks = omega (arith, ap length (tasks-words b), m, count b);
      all = omega (arith, word_count k s t v w h, ap length (words-are a), ap length (words-are b));
      short = (short a, short b);
    }

-- the parts together, with the second set's tasks renamed by an array of numbers
module _ (k : ℕ) (a b : AcceptedSet) (numbers : List ℕ) where
  abbrev pub new_tasks : List ℕ
  new_tasks = map (renamed_word (at numbers)) (tasks_in b)

  pub whole : Shares k (set_of a) (set_of b) → NumbersAre a.shape.devices k b.shape.devices numbers
      → ((all_devices_in a ++ devices_in k b) ++ tasks_in a) ++ new_tasks ≡ body (merged_set k a.words.now b.words.now)
  unfolding body
  whole h n =
      let s = set_of a in
      let t = set_of b in
      let w = b.declares.well_formed in
      let new = merged_number (length s.capacities) k in
      let devices : all_devices_in a ++ devices_in k b ≡ map (word DEVICE) (s.capacities ++ drop k t.capacities) =
      ap₂ (λ (l m : List ℕ). l ++ m) (all-devices-words a) (devices-words b k h.of_second)
      ∙ sym (map-append (word DEVICE) s.capacities (drop k t.capacities)) in
      let number : (d : ℕ) → d < length t.capacities → at numbers d ≡ new d = λ d l.
      n.each d (omega (arith, device-count b)) ∙ ap (λ (i : ℕ). merged_number i k d) (device-count a) in
      let renamed-tasks : new_tasks ≡ task_words (renamed_tasks new t.tasks) =
      ap (map (renamed_word (at numbers))) (tasks-words b)
      ∙ words-renamed (at numbers) t.tasks (all_fit t w)
      ∙ ap task_words (renamed-same (at numbers) new t.tasks
      (each-mono _ _ (λ task. each-mono _ _ (λ c l. number (device_of c) l) task) t.tasks (all-declared t w))) in
      ap₂ (λ (l m : List ℕ). (l ++ m) ++ new_tasks) devices (tasks-words a)
      ∙ append_assoc _ (task_words s.tasks) new_tasks
      ∙ ap (λ (l : List ℕ). map (word DEVICE) (s.capacities ++ drop k t.capacities) ++ l)
      (ap (λ (l : List ℕ). task_words s.tasks ++ l) renamed-tasks ∙ sym (words_append s.tasks (renamed_tasks new t.tasks)))

-- ---- parts written one after the other
-- these words stand at the front of the slice, and so many they are
pub record Written (slice words out : List ℕ) (to : ℕ) : Type 0 where
  pub same : out ≡ write slice 0 words
  pub place : to ≡ length words

module _ {slice : List ℕ} where
  pub nothing : Written slice [] slice 0
  nothing = record { same = sym (write-none slice 0 (omega arith)); place = refl }

  -- a part more
  pub then_written : {words out : List ℕ} {to : ℕ} → Written slice words out to → (more : List ℕ) {out' : List ℕ} {to' : ℕ}
      → out' ≡ write out to more → to' ≡ to + length more → to' ≤ length slice → Written slice (words ++ more) out' to'
  then_written {words} {out} {to} w more e q h =
      record {
        same = e ∙ ap (λ (l : List ℕ). write l to more) w.same ∙ write-next slice 0 words more to (omega (arith, w.place)) (omega (arith, w.place));
        place = omega (arith, w.place, length-append words more);
      }

  -- with END all is written
  pub ended : {words out out' : List ℕ} {to : ℕ} → Written slice words out to → out' ≡ write out to (word END to ∷ []) → to + 1 ≤ length slice → (ws : List ℕ) → words ≡ ws
      → (to + 1 ≡ length (with_end ws)) × (out' ≡ over (with_end ws) slice)
  unfolding with_end
  ended {words} {to = to} w e h ws q =
      let count : to ≡ length ws = w.place ∙ ap length q in
      let all = then_written w (word END to ∷ []) e refl h in (
        omega (arith, count, length-append ws (word END (length ws) ∷ [])),
        all.same ∙ write-front slice (words ++ (word END to ∷ []))
            ∙ ap₂ (λ (l : List ℕ) (i : ℕ). over (l ++ (word END i ∷ [])) slice) q count,
      )
