-- Accepted words declare the set that is read, with its shape. Assumes nothing.
use Prim.Native.Nat.{ℕ, zero, suc, ◌+◌, ◌<◌}
use mathlib.Core.Path.{◌≡◌, refl, sym, ap, ◌∙◌}
use mathlib.Core.List.{List, [], ◌∷◌, ◌++◌, map, append_assoc}
use native.Mathlib.Nat.{not-suc-le-zero}
use native.Mathlib.Omega.{arith}
use borrow.Author.Tests.{ltb-true, ltb-false}
use lib.Dec.{ltb}
use lib.ListN.{length, get_or, length-append, length-map, get_or-append, get_or-eq_default}
use lib.Seq.{get_or-append-add}
use Rattle.model.specs.Set.{claim, Task, Set, task_at, at, action_at}
use Rattle.model.specs.Layout.{word, DEVICE, TASK, END, action_word, action_of, task_words, body, with_end, encode, WellFormed}
use Rattle.model.specs.Answer.{given}
use Rattle.model.specs.Read.{read}
use Rattle.model.proofs.Bools.{by_bool}
use Rattle.model.proofs.Lists.{map_at}
use Rattle.model.proofs.Each.{Each, each_at}
use Rattle.model.proofs.Words.{FitsWord, all_fit, action-back}
use Rattle.model.proofs.ReadExact.{read-sound}
use Rattle.shape.specs.ShapeOf.{starts_from, shape_of}
use Rattle.shape.specs.Declares.{Declares}
use Rattle.shape.proofs.Padded.{padded-at}

-- as many starts as tasks
pub length-starts : (n : ℕ) (tasks : List Task) → length (starts_from n tasks) ≡ length tasks
unfolding starts_from
length-starts n [] = refl
length-starts n (task ∷ tasks) = ap suc (length-starts (n + 1 + length task) tasks)

-- where task t's actions stand: p words past its start
action-from : (before after : List ℕ) (tasks : List Task) (t p : ℕ) → p < length (get_or tasks t [])
    → at (before ++ (task_words tasks ++ after)) (at (starts_from (length before) tasks) t + p) ≡ action_word (get_or (get_or tasks t []) p (claim 0 0))
unfolding task_words starts_from
action-from before after [] t p k = absurd (not-suc-le-zero k)
action-from before after (u ∷ us) zero p k =
    let there : length before + 1 + p ≡ length before + suc p = omega arith in
    rw (there, get_or-append-add before _ (suc p) 0)
    (ap (λ (l : List ℕ). at l p) (append_assoc (map action_word u) (task_words us) after)
    ∙ get_or-append (map action_word u) (task_words us ++ after) 0 p (rw (length-map {B = ℕ} u action_word) k)
    ∙ map_at action_word u p (claim 0 0) k)
action-from before after (u ∷ us) (suc t) p k =
    let task = word TASK 0 ∷ map action_word u in
    let longer : length (before ++ task) ≡ length before + 1 + length u = simp (length-append, length-map) (omega arith) in
    let words : before ++ (task ++ task_words us ++ after) ≡ (before ++ task) ++ (task_words us ++ after) =
    ap (λ (l : List ℕ). before ++ l) (append_assoc task (task_words us) after) ∙ sym (append_assoc before task (task_words us ++ after)) in
    rw (words, ← longer) (action-from (before ++ task) after us t p k)

start-inside : (n : ℕ) (tasks : List Task) (t p : ℕ) → p < length (get_or tasks t []) → at (starts_from n tasks) t + p < n + length (task_words tasks)
unfolding task_words starts_from
start-inside n [] t p k = absurd (not-suc-le-zero k)
start-inside n (u ∷ us) zero p k = simp (length-append, length-map) (omega arith)
start-inside n (u ∷ us) (suc t) p k = simp (length-append, length-map) (omega (arith, start-inside (n + 1 + length u) us t p k))

-- the words of a set by their parts
parts : (s : Set) → encode s ≡ map (word DEVICE) s.capacities ++ (task_words s.tasks ++ (word END (length (body s)) ∷ []))
unfolding with_end body
parts s = append_assoc (map (word DEVICE) s.capacities) (task_words s.tasks) (word END (length (body s)) ∷ [])

-- an action by its place
fits : (s : Set) → WellFormed s → (t p : ℕ) → p < length (get_or s.tasks t []) → FitsWord (action_at s t p)
fits s w t p k =
    by_bool (ltb t (length s.tasks))
    (λ e. each_at FitsWord (claim 0 0) (task_at s t) (each_at (Each FitsWord) [] s.tasks (all_fit s w) t (ltb-true t (length s.tasks) e)) p k)
    (λ e. absurd (not-suc-le-zero (rw (get_or-eq_default s.tasks [] (ltb-false t (length s.tasks) e)) at k)))

-- the words of a well-formed set declare it
declares : (s : Set) → WellFormed s → Declares (encode s) (shape_of s) s
declares s w =
    let cs = s.capacities in
    let ts = s.tasks in
    let start = padded-at 8 (starts_from (length cs) ts) (rw (length-starts (length cs) ts) w.tasks) in
    let word-at : (t p : ℕ) → p < length (get_or ts t []) → at (encode s) (at (shape_of s).starts t + p) ≡ action_word (action_at s t p) = λ t p k.
    rw (start t, parts s, ← length-map {B = ℕ} cs (word DEVICE)) (action-from (map (word DEVICE) cs) (word END (length (body s)) ∷ []) ts t p k) in
    record {
      well_formed = w;
      shaped = refl;
      inside = λ t p k. rw (start t, parts s) (simp (length-append, length-map) (omega (arith, start-inside (length cs) ts t p k)));
      action = λ t p k. ap action_of (word-at t p k) ∙ action-back (action_at s t p) (fits s w t p k);
    }

-- accepted words declare the set that was read
pub read-declares : (ws : List ℕ) (s : Set) → read ws ≡ given s → Declares ws (shape_of s) s
read-declares ws s e = let r = read-sound ws s e in rw r.0 (declares s r.1)
