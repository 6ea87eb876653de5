-- The merged set: where the second set's devices stand in it, and that it is well formed but for its counts, so that the reading of its words answers by these alone.
use Prim.Native.Nat.{ℕ, suc, ◌+◌, ◌*◌, ◌-◌, ◌<◌, ◌≤◌}
use native.Mathlib.Omega.{arith}
use native.Mathlib.Nat.{mul-le-mul}
use mathlib.Core.Path.{◌≡◌, refl, sym, ap, ◌∙◌}
use mathlib.Core.Logic.{inl, inr}
use mathlib.Core.Bool.{true, false, ◌&&◌}
use mathlib.Core.List.{List, [], ◌∷◌, ◌++◌, map}
use lib.ListN.{length, take, drop, length-append, length-drop, length-map, get_or-append}
use lib.Seq.{get_or-append-add, get_or-drop}
use lib.Dec.{eqb, ltb, leb}
use borrow.Author.Tests.{lt-ltb, le-ltb, ltb-true, ltb-false, le-leb, leb-true, leb-false, eqb-true, eqb-false, eq-eqb, ne_eqb}
use Rattle.model.specs.Set.{claim, device_of, Task, Set, lengths, lengths_of, claims, claimed, at, size, GoodTask}
use Rattle.model.specs.Layout.{task_words, body, with_end, encode, WellFormed}
use Rattle.model.specs.Answer.{refused}
use Rattle.model.specs.Read.{read}
use Rattle.model.specs.Clean.{renamed, renamed_tasks}
use Rattle.model.specs.Merge.{merged_number, merged, Shares}
use Rattle.model.proofs.Bools.{by_bool, by_cases, true-not-false, and-true, or-true, or_right}
use Rattle.model.proofs.Ranks.{size-pos}
use Rattle.model.proofs.Each.{Each, each_append, each-mono, each_map, each-place, each_at}
use Rattle.model.proofs.Held.{EachPlace}
use Rattle.model.proofs.Words.{words_append}
use Rattle.model.proofs.Renamed.{Follows, claimed-renamed}
use Rattle.model.proofs.RenamedTask.{Carries, task-good}
use Rattle.model.proofs.Cleaned.{all-declared, length-words}
use Rattle.model.proofs.ReadAccepts.{InWords}
use Rattle.model.proofs.ReadTooMany.{too-many-devices, too-many-tasks, too_large}

-- ---- the second set's numbers
module _ (n k : ℕ) where
  abbrev number : ℕ → ℕ
  number = merged_number n k

  pub number-shared : (d : ℕ) → d < k → number d ≡ d
  unfolding merged_number
  number-shared d h = rw (lt-ltb d k h)

  pub number-own : (d : ℕ) → k ≤ d → number d ≡ n + (d - k)
  unfolding merged_number
  number-own d h = rw (le-ltb d k h)

  -- a device is shared or the second set's own
  by_number : {G : Type 0} (d : ℕ) → (d < k → number d ≡ d → G) → (k ≤ d → number d ≡ n + (d - k) → G) → G
  by_number d p q = by_bool (ltb d k) (λ e. let h = ltb-true d k e in p h (number-shared d h)) (λ e. let h = ltb-false d k e in q h (number-own d h))

  -- no two have one number
  module _ (few : k ≤ n) where
    same_number : (c d : ℕ) → number c ≡ number d → c ≡ d
    same_number c d e =
        by_number c
        (λ h p. by_number d (λ l q. omega arith) (λ l q. absurd (omega arith)))
        (λ h p. by_number d (λ l q. absurd (omega arith)) (λ l q. omega arith))

    pub numbers_apart : (c d : ℕ) → eqb (number c) (number d) ≡ eqb c d
    numbers_apart c d =
        by_bool (eqb c d)
        (λ e. eq-eqb (number c) (number d) (ap number (eqb-true c d e)) ∙ sym e)
        (λ e. ne_eqb (number c) (number d) (λ z. eqb-false c d e (same_number c d z)) ∙ sym e)

-- ---- the words of a set: eight tasks of which the grid lets two at most be long
module _ (task : Task) (tasks : List Task) where
  count_next : length (task_words (task ∷ tasks)) ≡ suc (length task) + length (task_words tasks)
  unfolding task_words
  count_next = simp (length-append, length-map)

abbrev Short : List Task → Type 0
Short = Each (λ task. length task ≤ 255)

words-most : (tasks : List Task) → Short tasks → length (task_words tasks) ≤ length tasks * 256
unfolding task_words
words-most [] h = omega arith
words-most (task ∷ tasks) h = omega (arith, count_next task tasks, h.0, words-most tasks h.1)

three-long : (a b c : Task) (tasks : List Task) → 240 ≤ suc (length a) → 240 ≤ suc (length b) → 240 ≤ suc (length c) → 13824000 ≤ size (lengths (a ∷ b ∷ c ∷ tasks))
unfolding size
three-long a b c tasks h k l = mul-le-mul h (mul-le-mul k (mul-le-mul l (size-pos (lengths tasks))))

words-few : (tasks : List Task) → Short tasks → length tasks ≤ 8 → size (lengths tasks) ≤ 65536 → length (task_words tasks) ≤ 2031
words-few [] h n g = omega (arith, words-most [] h)
words-few (a ∷ []) h n g = omega (arith, words-most (a ∷ []) h)
words-few (a ∷ b ∷ []) h n g = omega (arith, words-most (a ∷ b ∷ []) h)
words-few (a ∷ b ∷ c ∷ tasks) h n g =
    let rest = words-most tasks h.1.1.1 in
    let all : length (task_words (a ∷ b ∷ c ∷ tasks)) ≡ suc (length a) + (suc (length b) + (suc (length c) + length (task_words tasks))) =
    omega (arith, count_next a (b ∷ c ∷ tasks), count_next b (c ∷ tasks), count_next c tasks) in
    by_bool (leb 240 (suc (length a))) (λ p.
    by_bool (leb 240 (suc (length b))) (λ q.
    by_bool (leb 240 (suc (length c))) (λ r.
    absurd (omega (arith, g, three-long a b c tasks (leb-true _ _ p) (leb-true _ _ q) (leb-true _ _ r))))
    (λ r. omega (arith, leb-false 240 (suc (length c)) r, all, rest, h.0, h.1.0)))
    (λ q. omega (arith, leb-false 240 (suc (length b)) q, all, rest, h.0, h.1.1.0)))
    (λ p. omega (arith, leb-false 240 (suc (length a)) p, all, rest, h.1.0, h.1.1.0))

pub encode-count : (s : Set) → length (encode s) ≡ length s.capacities + length (task_words s.tasks) + 1
unfolding with_end body
encode-count s = simp (length-append, length-map)

set_words : (s : Set) → WellFormed s → length (encode s) ≤ 2048
set_words s w =
    let short : Short s.tasks = each-place (λ task. length task ≤ 255) [] s.tasks (λ t h. (w.each_task t h).actions) in
    omega (arith, encode-count s, w.devices, words-few s.tasks short w.tasks w.grid)

-- ---- a device claimed in one part of the tasks
claimed-first : (ts us : List Task) (d : ℕ) → claimed ts d ≡ true → claimed (ts ++ us) d ≡ true
unfolding claimed
claimed-first [] us d e = true-not-false false e refl
claimed-first (t ∷ ts) us d e = by_cases (or-true (claims d t) (claimed ts d) e) (λ p. rw p) (λ p. or_right (claims d t) (claimed (ts ++ us) d) (claimed-first ts us d p))

claimed-second : (ts us : List Task) (d : ℕ) → claimed us d ≡ true → claimed (ts ++ us) d ≡ true
unfolding claimed
claimed-second [] us d e = e
claimed-second (t ∷ ts) us d e = or_right (claims d t) (claimed (ts ++ us) d) (claimed-second ts us d e)

-- ---- two sets whose first k devices can be the same ones
module _ (k : ℕ) (s t : Set) (v : WellFormed s) (w : WellFormed t) (h : Shares k s t) where
  abbrev cs : List ℕ
  cs = s.capacities

  abbrev ds : List ℕ
  ds = t.capacities

  abbrev new : ℕ → ℕ
  new = merged_number (length cs) k

  abbrev u : Set
  u = merged k s t

  pub device-count : length u.capacities + k ≡ length cs + length ds
  device-count = omega (arith, length-append cs (drop k ds), length-drop k ds, h.of_second)

  pub task-count : length u.tasks ≡ length s.tasks + length t.tasks
  task-count = length-append s.tasks (renamed_tasks new t.tasks) ∙ ap (λ (i : ℕ). length s.tasks + i) (length-map {B = Task} t.tasks (map (renamed new)))

  -- a number behind the first set's devices is one of the second set's own
  own-device : (e : ℕ) → length cs ≤ e → e < length u.capacities → (d : ℕ) × (d < length ds) × (e ≡ new d)
  own-device e l m =
      let d = e - length cs + k in
      (d, omega (arith, device-count), omega (arith, number-own (length cs) k d (omega arith)))

  -- the second set's numbers lead to the merged devices
  pub carries : Carries (λ d. d < length ds) new ds u.capacities
  carries =
      let n = length cs in
      record {
        declared = λ d l. l;
        inside = λ d l. by_number n k d (λ p e. omega (arith, device-count, h.of_first)) (λ p e. omega (arith, device-count));
        capacity = λ d l.
            by_number n k d
            (λ p e. rw e (get_or-append cs (drop k ds) 0 d (omega (arith, h.of_first)) ∙ h.same d p))
            (λ p e.
            let back : k + (d - k) ≡ d = omega arith in
            rw e (get_or-append-add cs (drop k ds) (d - k) 0 ∙ get_or-drop k ds (d - k) 0 ∙ ap (at ds) back));
        apart = λ c d _ _. numbers_apart n k h.of_first c d;
        back = λ e.
            by_bool (ltb e k)
            (λ p. let l = ltb-true e k p in inl (e, omega (arith, h.of_second), sym (number-shared n k e l)))
            (λ p. by_bool (leb n e && ltb e (length u.capacities))
            (λ q. let r = and-true (leb n e) (ltb e (length u.capacities)) q in inl (own-device e (leb-true n e r.0) (ltb-true e (length u.capacities) r.1)))
            (λ q. inr (λ d l. ne_eqb (new d) e (λ z.
            by_number n k d
            (λ m f. omega (arith, ltb-false e k p))
            (λ m f. true-not-false (leb n e && ltb e (length u.capacities)) (rw (le-leb n e (omega arith), lt-ltb e (length u.capacities) (omega (arith, device-count)))) q)))));
      }

  -- ---- it is well formed but for its counts
  first_good : (task : Task) → GoodTask cs task → GoodTask u.capacities task
  first_good task g =
      record {
        actions = g.actions;
        declared = λ p q. omega (arith, g.declared p q, device-count, h.of_second);
        units = λ p q. rw (get_or-append cs (drop k ds) 0 _ (g.declared p q)) (g.units p q);
        balance = g.balance;
      }

  second-good : (task : Task) → GoodTask ds task → GoodTask u.capacities (map (renamed new) task)
  second-good task g = task-good carries task (each-place (λ a. device_of a < length ds) (claim 0 0) task g.declared) g

  pub tasks-good : EachPlace (GoodTask u.capacities) u.tasks []
  tasks-good =
      let Good = GoodTask u.capacities in
      each_at Good [] u.tasks
      (each_append Good s.tasks (renamed_tasks new t.tasks)
      (each-mono (GoodTask cs) Good first_good s.tasks (each-place (GoodTask cs) [] s.tasks v.each_task))
      (each_map (GoodTask ds) Good (map (renamed new)) second-good t.tasks (each-place (GoodTask ds) [] t.tasks w.each_task)))

  -- a device is the first set's, or one of the second set's own
  by-device : {G : Type 0} (e : ℕ) → e < length u.capacities → (e < length cs → G) → ((d : ℕ) → d < length ds → e ≡ new d → G) → G
  by-device e l p q =
      by_bool (ltb e (length cs)) (λ r. p (ltb-true e (length cs) r)) (λ r. let o = own-device e (ltb-false e (length cs) r) l in q o.0 o.1 o.2)

  pub capacities-good : EachPlace (λ c. (1 ≤ c) × (c ≤ 8)) u.capacities 0
  capacities-good e l =
      by-device e l
      (λ p. rw (get_or-append cs (drop k ds) 0 e p) (v.capacities e p))
      (λ d p q. rw (q, carries.capacity d p) (w.capacities d p))

  each_claimed : (e : ℕ) → e < length u.capacities → claimed u.tasks e ≡ true
  each_claimed e l =
      by-device e l
      (λ p. claimed-first s.tasks (renamed_tasks new t.tasks) e (v.each_device refl e p))
      (λ d p q.
      let followed = each-mono _ _ (λ task. each-mono _ (Follows new d (new d)) (λ a _. numbers_apart (length cs) k h.of_first (device_of a) d) task) t.tasks (all-declared t w) in
      claimed-second s.tasks (renamed_tasks new t.tasks) e
      (rw q (claimed-renamed new d (new d) t.tasks followed ∙ w.each_device refl d p)))

  pub word_count : length (encode u) + k + 1 ≡ length (encode s) + length (encode t)
  word_count =
      let tasks : length (task_words u.tasks) ≡ length (task_words s.tasks) + length (task_words t.tasks) =
      ap length (words_append s.tasks (renamed_tasks new t.tasks))
      ∙ length-append (task_words s.tasks) (task_words (renamed_tasks new t.tasks))
      ∙ ap (λ (i : ℕ). length (task_words s.tasks) + i) (length-words new t.tasks) in
      omega (arith, encode-count u, encode-count s, encode-count t, device-count)

  pub words-fit : length (encode u) ≤ 4096
  words-fit = omega (arith, word_count, set_words s v, set_words t w)

  -- ---- what is read of its words
  pub devices-refused : 16 < length u.capacities → read (encode u) ≡ refused 7 16
  devices-refused l = too-many-devices u capacities-good l words-fit

  module _ (few : length u.capacities ≤ 16) where
    pub tasks-refused : 8 < length u.tasks → read (encode u) ≡ refused 7 (length u.capacities + length (task_words (take 8 u.tasks)))
    tasks-refused l = too-many-tasks u capacities-good few tasks-good l words-fit

    module _ (fit : length u.tasks ≤ 8) where
      some : 1 ≤ length u.tasks
      some = omega (arith, task-count, v.some_task)

      pub grid-refused : 65536 < size (lengths_of u) → read (encode u) ≡ refused 12 (length (encode u) - 1)
      grid-refused l =
          let in_words : InWords u =
          record {
            capacities = capacities-good;
            devices = few;
            some_task = some;
            tasks = fit;
            each_task = tasks-good;
            words = words-fit;
          } in
          too_large u in_words each_claimed l

      pub merged-formed : size (lengths_of u) ≤ 65536 → WellFormed u
      merged-formed l =
          record {
            capacities = capacities-good;
            devices = few;
            some_task = some;
            tasks = fit;
            each_task = tasks-good;
            each_device = λ _. each_claimed;
            grid = l;
            words = words-fit;
          }
