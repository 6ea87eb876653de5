-- The words of a set that has one device, one task or a few states too many, and is as it should be otherwise: 7 at the 17th DEVICE, 7 at the 9th TASK, 12 at END.
use Prim.Native.Nat.{ℕ, suc, ◌+◌, ◌-◌, ◌<◌, ◌≤◌}
use native.Mathlib.Omega.{arith}
use native.Mathlib.Nat.{zero-add}
use mathlib.Core.Path.{◌≡◌, refl, sym, ap, ◌∙◌}
use mathlib.Core.Bool.{true, false, not, ◌&&◌}
use mathlib.Core.List.{List, [], ◌∷◌, ◌++◌, map, map-append, append_assoc}
use lib.ListN.{length, get_or, take, drop, length-append, take-append-drop}
use lib.Seq.{drop-cons, length-take-le, get_or-take}
use lib.Dec.{leb}
use borrow.Author.Tests.{lt-ltb, le-ltb, le-leb, ne_eqb}
use Rattle.model.specs.Set.{Task, Set, lengths_of, task_at, claimed, at, size, GoodTask}
use Rattle.model.specs.Layout.{word, DEVICE, TASK, END, action_word, task_words, body, with_end, encode}
use Rattle.model.specs.Answer.{refused, ◌then◌}
use Rattle.model.specs.Read.{Scan, last_task, held_after, out_of_order, field_allowed, too_many, fault, read_from, read_words, first_unclaimed, close, read_by, read}
use Rattle.model.proofs.Counts.{none-lowest}
use Rattle.model.proofs.Held.{EachPlace}
use Rattle.model.proofs.Words.{kind-word, field-word, words_append}
use Rattle.model.proofs.Faults.{scan_of}
use Rattle.model.proofs.ReadAccepts.{InWords, words-complete, devices, tasks}

-- a word that is allowed but for its number
full : (s : Scan) (i k f : ℕ) (ws : List ℕ) → f < 0x10000000 → s.ended ≡ false → (leb 1 k && leb k 5) ≡ true → out_of_order s k ≡ false
    → field_allowed s i k f ≡ true → too_many s k ≡ true → read_from s i (word k f ∷ ws) ≡ refused 7 i
unfolding read_from fault out_of_order field_allowed too_many
full s i k f ws h ended kind order field many = rw (kind-word k f h, field-word k f h, ended, kind, order, field, many)

-- an entry of a list, between those before it and those behind
split_at : {A : Type 0} (l : List A) (n : ℕ) (z : A) → n < length l → l ≡ take n l ++ (get_or l n z ∷ drop (suc n) l)
split_at l n z h =
    sym (take-append-drop n l) ∙ ap (λ m. take n l ++ m) (drop-cons l n z h)

module _ (s : Set) (capacities : EachPlace (λ c. (1 ≤ c) × (c ≤ 8)) s.capacities 0) where
  abbrev cs : List ℕ
  cs = s.capacities

  abbrev ts : List Task
  ts = s.tasks

  abbrev end : List ℕ
  end = word END (length (body s)) ∷ []

  parts : encode s ≡ map (word DEVICE) cs ++ (task_words ts ++ end)
  unfolding with_end body
  parts = append_assoc (map (word DEVICE) cs) (task_words ts) end

  -- words without a number that stops them at once
  reads : length (encode s) ≤ 4096 → (n p : ℕ) → read_from (scan_of [] []) 0 (encode s) ≡ refused n p → read (encode s) ≡ refused n p
  unfolding read_by read_words with_end ◌then◌
  reads fits n p e =
      let some : length (encode s) ≡ 0 → ⊥ = λ z. omega (arith, length-append (body s) end) in
      rw (ne_eqb (length (encode s)) 0 some, le-ltb 4096 (length (encode s)) fits, e)

  -- 7 at the 17th DEVICE
  pub too-many-devices : 16 < length cs → length (encode s) ≤ 4096 → read (encode s) ≡ refused 7 16
  unfolding out_of_order field_allowed too_many
  too-many-devices many fits =
      let c = at cs 16 in
      let front = take 16 cs in
      let behind = task_words ts ++ end in
      let rest = map (word DEVICE) (drop 17 cs) ++ behind in
      let count : length front ≡ 16 = length-take-le 16 cs (omega arith) in
      let here = capacities 16 many in
      let laid : encode s ≡ map (word DEVICE) front ++ (word DEVICE c ∷ rest) =
      parts ∙ ap (λ (l : List ℕ). map (word DEVICE) l ++ behind) (split_at cs 16 0 many)
      ∙ ap (λ (l : List ℕ). l ++ behind) (map-append (word DEVICE) front (c ∷ drop 17 cs))
      ∙ append_assoc (map (word DEVICE) front) (word DEVICE c ∷ map (word DEVICE) (drop 17 cs)) behind in
      reads fits 7 16
      (ap (read_from (scan_of [] []) 0) laid
      ∙ devices [] front 0 (word DEVICE c ∷ rest) (λ p h. rw (get_or-take 16 cs p 0 (omega arith)) (capacities p (omega arith))) (omega arith)
      ∙ ap (λ (i : ℕ). read_from (scan_of front []) i (word DEVICE c ∷ rest)) (zero-add (length front) ∙ count)
      ∙ full (scan_of front []) 16 DEVICE c rest (omega arith) refl refl refl (rw (le-leb 1 c here.0, le-leb c 8 here.1)) (le-leb 16 (length front) (omega arith)))

  -- 7 at the 9th TASK
  pub too-many-tasks : length cs ≤ 16 → EachPlace (GoodTask cs) ts [] → 8 < length ts → length (encode s) ≤ 4096
      → read (encode s) ≡ refused 7 (length cs + length (task_words (take 8 ts)))
  unfolding out_of_order field_allowed too_many task_words held_after last_task
  too-many-tasks few good many fits =
      let front = take 8 ts in
      let rest = map action_word (task_at s 8) ++ task_words (drop 9 ts) ++ end in
      let count : length front ≡ 8 = length-take-le 8 ts (omega arith) in
      let laid : task_words ts ++ end ≡ task_words front ++ (word TASK 0 ∷ rest) =
      ap (λ (l : List Task). task_words l ++ end) (split_at ts 8 [] many)
      ∙ ap (λ (l : List ℕ). l ++ end) (words_append front (task_at s 8 ∷ drop 9 ts))
      ∙ append_assoc (task_words front) (task_words (task_at s 8 ∷ drop 9 ts)) end in
      let read-tasks = tasks cs few capacities [] front (length cs) (word TASK 0 ∷ rest) (omega arith) (λ d h. refl)
      (λ p h. rw (get_or-take 8 ts p [] (omega arith)) (good p (omega arith))) in
      let place = length cs + length (task_words front) in
      reads fits 7 place
      (ap (read_from (scan_of [] []) 0) parts
      ∙ devices [] cs 0 (task_words ts ++ end) capacities (omega arith)
      ∙ ap (λ (i : ℕ). read_from (scan_of cs []) i (task_words ts ++ end)) (zero-add (length cs))
      ∙ ap (read_from (scan_of cs []) (length cs)) laid
      ∙ read-tasks.0
      ∙ full (scan_of cs front) place TASK 0 rest (omega arith) refl refl refl refl (le-leb 8 (length front) (omega arith)))

-- 12 at END
pub too_large : (s : Set) → InWords s → ((d : ℕ) → d < length s.capacities → claimed s.tasks d ≡ true) → 65536 < size (lengths_of s)
    → read (encode s) ≡ refused 12 (length (encode s) - 1)
unfolding read_by close ◌then◌
too_large s w each large =
    let all = none-lowest (length s.capacities) (λ d. not (claimed s.tasks d)) (λ d h. rw (each d h)) in
    rw (words-complete s w, le-ltb (first_unclaimed s) (length s.capacities) (omega (arith, all)), lt-ltb 65536 (size (lengths_of s)) large)
