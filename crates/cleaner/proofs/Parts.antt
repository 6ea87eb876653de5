-- The parts of a set's words and what becomes of them: the devices that are kept, the tasks with new numbers, and END are the words of the cleaned set.
use Prim.Native.Nat.{ℕ, ◌+◌, ◌-◌, ◌<◌, ◌≤◌}
use native.Mathlib.Omega.{arith}
use mathlib.Core.Path.{◌≡◌, sym, ap, ap₂, subst, ◌∙◌}
use mathlib.Core.Bool.{Bool, false}
use mathlib.Core.List.{List, [], ◌∷◌, ◌++◌, map, append_assoc}
use lib.ListN.{length, get_or, take, drop, length-append, length-map}
use lib.Seq.{drop_at, take-append_seam}
use Rattle.model.specs.Below.{how_many, tabulate}
use Rattle.model.specs.Slice.{over, write}
use Rattle.model.specs.Set.{device_of, Task, Set, claimed, at}
use Rattle.model.specs.Layout.{word, DEVICE, END, task_words, body, with_end, encode, former, WellFormedBy}
use Rattle.model.specs.Clean.{kept_from, new_number, cleaned}
use Rattle.model.proofs.Counts.{many-bound, many-same}
use Rattle.model.proofs.Each.{each-mono}
use Rattle.model.proofs.Lists.{length-tabulate, get_d_tabulate}
use Rattle.model.proofs.Kept.{length-kept, kept_same}
use Rattle.model.proofs.Renamed.{renamed-same}
use Rattle.model.proofs.Cleaned.{all-declared, length-cleaned}
use Rattle.model.proofs.Words.{all_fit}
use Rattle.model.proofs.ReadExact.{read-sound}
use Rattle.model.proofs.Slices.{write-front, write-next}
use Rattle.shape.specs.declared.Shape.{Shape}
use Rattle.shape.specs.ShapeOf.{padded, shape_of}
use Rattle.shape.proofs.Padded.{length-padded, padded-front}
use Rattle.set_writer.specs.Renamed.{renamed_word, Named}
use Rattle.set_writer.proofs.Words.{words-renamed, words-named}
use Rattle.cleaner.specs.Numbers.{marks_before, NumbersAre, former_set, clean_words, Accepted}

-- the words of the tasks, between the devices and END
abbrev pub tasks_in : List ℕ → Shape → List ℕ
tasks_in words shape = take (length words - 1 - shape.devices) (drop shape.devices words)

-- the devices that are written, and the tasks
abbrev pub new_devices : Shape → List Bool → List ℕ
new_devices shape marks = map (word DEVICE) (kept_from (λ d. get_or marks d false) 0 (take shape.devices shape.capacities))

abbrev pub new_tasks : List ℕ → Shape → List ℕ → List ℕ
new_tasks words shape numbers = map (renamed_word (at numbers)) (tasks_in words shape)

-- what is known of the parts of an accepted set, and of what is written of them
pub record Parts (words : List ℕ) (shape : Shape) (marks : List Bool) (numbers : List ℕ) (s : Set) : Type 0 where
  pub few : shape.devices ≤ 16
  pub capacities_all : length shape.capacities ≡ 16
  pub marks-all : length marks ≡ 16
  pub inside : shape.devices + 1 ≤ length words
  pub short : length words ≤ 4096
  pub named : Named (tasks_in words shape)
  pub tasks-length : length (tasks_in words shape) + shape.devices + 1 ≡ length words
  pub kept : length (new_devices shape marks) ≡ marks_before marks shape.devices
  pub no_more : marks_before marks shape.devices ≤ shape.devices
  pub needed : length (encode (cleaned s)) + shape.devices ≡ length words + marks_before marks shape.devices
  pub whole : new_devices shape marks ++ new_tasks words shape numbers ≡ body (cleaned s)

module _ (s : Set) (w : WellFormedBy former s) (numbers : List ℕ) where
  abbrev cs : List ℕ
  cs = s.capacities

  abbrev ts : List Task
  ts = s.tasks

  abbrev marks : List Bool
  marks = tabulate 16 (claimed ts)

  -- the marks are the claims, and the arrays' fronts the lists
  mark-is : (d : ℕ) → d < length cs → get_or marks d false ≡ claimed ts d
  mark-is d h = get_d_tabulate 16 (claimed ts) d false (omega (arith, w.devices))

  front : take (length cs) (padded 16 cs) ≡ cs
  front = padded-front 16 cs w.devices

  count-is : (d : ℕ) → d ≤ length cs → marks_before marks d ≡ new_number ts d
  count-is d h = many-same d (λ e. get_or marks e false) (claimed ts) (λ t k. mark-is t (omega arith))

  -- the tasks' words
  split : encode s ≡ map (word DEVICE) cs ++ (task_words ts ++ (word END (length (body s)) ∷ []))
  unfolding with_end body
  split = append_assoc (map (word DEVICE) cs) (task_words ts) (word END (length (body s)) ∷ [])

  middle : tasks_in (encode s) (shape_of s) ≡ task_words ts
  middle =
      let devices = map (word DEVICE) cs in
      let end = word END (length (body s)) ∷ [] in
      let behind : drop (length cs) (encode s) ≡ task_words ts ++ end =
      ap (drop (length cs)) split ∙ drop_at devices (task_words ts ++ end) (length cs) (length-map cs (word DEVICE)) in
      let all : length (encode s) ≡ length cs + (length (task_words ts) + 1) = ap length split ∙ simp (length-append, length-map) in
      let count : length (encode s) - 1 - length cs ≡ length (task_words ts) = omega arith in
      ap₂ (λ (k : ℕ) (l : List ℕ). take k l) count behind ∙ take-append_seam (task_words ts) end

  kept-devices : new_devices (shape_of s) marks ≡ map (word DEVICE) (cleaned s).capacities
  kept-devices =
      ap (λ (l : List ℕ). map (word DEVICE) (kept_from (λ d. get_or marks d false) 0 l)) front
      ∙ ap (map (word DEVICE)) (kept_same (λ d. get_or marks d false) (claimed ts) 0 cs (λ i h. let z : 0 + i ≡ i = omega arith in rw z (mark-is i h)))

  module _ (n : NumbersAre (length cs) marks numbers) where
    tasks-renamed : new_tasks (encode s) (shape_of s) numbers ≡ task_words (cleaned s).tasks
    tasks-renamed =
        ap (map (renamed_word (at numbers))) middle
        ∙ words-renamed (at numbers) ts (all_fit s w)
        ∙ ap task_words (renamed-same (at numbers) (new_number ts) ts
        (each-mono _ _ (λ task. each-mono _ _ (λ a h. n.each (device_of a) h ∙ count-is (device_of a) (omega arith)) task) ts (all-declared s w)))

    of-set : Parts (encode s) (shape_of s) marks numbers s
    unfolding body how_many
    of-set =
        let count = count-is (length cs) (omega arith) in
        record {
          few = w.devices;
          capacities_all = length-padded 16 cs;
          marks-all = length-tabulate 16 (claimed ts);
          inside = rw split (simp (length-append, length-map) (omega arith));
          short = w.words;
          named = rw middle (words-named ts (all_fit s w));
          tasks-length = rw (middle, split) (simp (length-append, length-map) (omega arith));
          kept = ap length kept-devices ∙ length-map (kept_from (claimed ts) 0 cs) (word DEVICE) ∙ (let z : 0 + length cs ≡ length cs = omega arith in omega (arith, rw z at (length-kept (claimed ts) 0 cs), count));
          no_more = many-bound (length cs) (λ d. get_or marks d false);
          needed = omega (arith, length-cleaned s, count);
          whole = ap₂ ◌++◌ kept-devices tasks-renamed;
        }

-- three parts written one after the other
three-parts : (slice d t : List ℕ) (v i j : ℕ) → i ≡ length d → j ≡ length d + length t → length d + length t + 1 ≤ length slice
    → write (write (write slice 0 d) i t) j (v ∷ []) ≡ over ((d ++ t) ++ (v ∷ [])) slice
three-parts slice d t v i j e q h =
    ap (λ (l : List ℕ). write l j (v ∷ [])) (write-next slice 0 d t i (omega arith) (omega arith))
    ∙ write-next slice 0 (d ++ t) (v ∷ []) j (omega (arith, length-append d t)) (omega (arith, length-append d t))
    ∙ write-front slice ((d ++ t) ++ (v ∷ []))

-- an accepted set has at most 16 devices
pub few-devices : {words : List ℕ} {shape : Shape} {claims : List Bool} → Accepted words shape claims → shape.devices ≤ 16
few-devices {words} a = rw a.shaped (read-sound words (former_set words) a.accepted).1.devices

module _ (words : List ℕ) (shape : Shape) (claims : List Bool) (numbers : List ℕ) (a : Accepted words shape claims) (n : NumbersAre shape.devices claims numbers) where
  -- of an accepted set
  pub parts : Parts words shape claims numbers (former_set words)
  parts =
      let s = former_set words in
      let r = read-sound words s a.accepted in
      let m : NumbersAre (shape_of s).devices (tabulate 16 (claimed s.tasks)) numbers =
      subst (λ (l : List Bool). NumbersAre (shape_of s).devices l numbers) a.marked (subst (λ (x : Shape). NumbersAre x.devices claims numbers) a.shaped n) in
      subst (λ (l : List ℕ). Parts l shape claims numbers s) (sym r.0)
      (subst (λ (x : Shape). Parts (encode s) x claims numbers s) (sym a.shaped)
      (subst (λ (l : List Bool). Parts (encode s) (shape_of s) l numbers s) (sym a.marked) (of-set s r.1 numbers m)))

  -- written one after the other they are the cleaned set
  pub written : (slice : List ℕ) (i j : ℕ) → i ≡ length (new_devices shape claims) → j ≡ i + length (tasks_in words shape) → length (clean_words words) ≤ length slice
      → (j + 1 ≡ length (clean_words words)) × (write (write (write slice 0 (new_devices shape claims)) i (new_tasks words shape numbers)) j (word END j ∷ []) ≡ over (clean_words words) slice)
  unfolding with_end
  written slice i j h k fits =
      let d = new_devices shape claims in
      let t = new_tasks words shape numbers in
      let b = body (cleaned (former_set words)) in
      let renamed = length-map (tasks_in words shape) (renamed_word (at numbers)) in
      let end : j ≡ length d + length t = omega arith in
      let all : j ≡ length b = end ∙ sym (length-append d t) ∙ ap length parts.whole in
      let room : length b + 1 ≤ length slice = omega (arith, length-append b (word END (length b) ∷ [])) in (
        omega (arith, length-append b (word END (length b) ∷ [])),
        three-parts slice d t (word END j) i j h end (omega arith)
            ∙ ap₂ (λ (l : List ℕ) (v : ℕ). over (l ++ (word END v ∷ [])) slice) parts.whole all,
      )
