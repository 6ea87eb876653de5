-- The words of a set that grows by a device, a task or an action.
use Prim.Native.Nat.{ℕ, ◌<◌, ◌≤◌}
use native.Mathlib.Omega.{arith}
use mathlib.Core.Path.{◌≡◌, refl, sym, ap, ◌∙◌}
use mathlib.Core.List.{List, [], ◌∷◌, ◌++◌, map, append-nil, append_assoc, map-append}
use Rattle.model.specs.Set.{Action, claim, release, device_of, units_taken, Task, Set, task_at, action_at}
use Rattle.model.specs.Layout.{word, kind_of, field_of, claim_field, device_bits, extra_bits, DEVICE, TASK, CLAIM, RELEASE, action_word, action_of, task_words, body, Rules, WellFormedBy}
use Rattle.model.proofs.Each.{Each, each-place}

-- a set of these capacities and tasks
abbrev pub set_with : List ℕ → List Task → Set
set_with cs ts = record { capacities = cs; tasks = ts }

-- the parts of a word
module _ (k f : ℕ) (h : f < 0x10000000) where
  pub kind-word : kind_of (word k f) ≡ k
  kind-word = omega arith

  pub field-word : field_of (word k f) ≡ f
  field-word = omega arith

-- a word is made of its parts
pub word-parts : (w : ℕ) → w ≡ word (kind_of w) (field_of w)
word-parts w = omega arith

-- the parts of a claim's field
module _ (d e : ℕ) (h : d < 0x10000) (k : e < 0x100) where
  pub device-field : device_bits (claim_field d e) ≡ d
  device-field = omega arith

  pub extra-field : extra_bits (claim_field d e) ≡ e
  extra-field = omega arith

-- a field without a bit above 23 is made of its parts
pub claim-parts : (f : ℕ) → f < 0x1000000 → f ≡ claim_field (device_bits f) (extra_bits f)
claim-parts f h = omega arith

-- an action that a word has room for, as each of a well-formed set is
abbrev pub FitsWord : Action → Type 0
FitsWord a = (device_of a < 16) × (units_taken a ≤ 8)

pub all_fit : {rules : Rules} (s : Set) → WellFormedBy rules s → Each (Each FitsWord) s.tasks
all_fit s w =
    each-place _ [] s.tasks λ t h.
    let good = w.each_task t h in
    each-place FitsWord (claim 0 0) (task_at s t) λ p k.
    let declared = good.declared p k in
    (omega (arith, w.devices), omega (arith, good.units p k, (w.capacities (device_of (action_at s t p)) declared).1))

-- its word read back
pub action-back : (a : Action) → FitsWord a → action_of (action_word a) ≡ a
unfolding action_of action_word device_of units_taken
action-back (claim d e) h =
    let f = claim_field d e in
    rw (kind-word CLAIM f (omega arith), field-word CLAIM f (omega arith), device-field d e (omega arith) (omega arith), extra-field d e (omega arith) (omega arith))
action-back (release d) h = rw (kind-word RELEASE d (omega arith), field-word RELEASE d (omega arith))

pub words_append : (ts us : List Task) → task_words (ts ++ us) ≡ task_words ts ++ task_words us
unfolding task_words
words_append [] us = refl
words_append (t ∷ ts) us = rw (words_append ts us, append_assoc)

words_last : (ts : List Task) (t : Task) → task_words (ts ++ (t ∷ [])) ≡ task_words ts ++ (word TASK 0 ∷ map action_word t)
unfolding task_words
words_last ts t = rw (words_append ts (t ∷ []), append-nil (word TASK 0 ∷ map action_word t))

pub body-device : (cs : List ℕ) (c : ℕ) → body (set_with (cs ++ (c ∷ [])) []) ≡ body (set_with cs []) ++ (word DEVICE c ∷ [])
unfolding body task_words
body-device cs c =
    rw (append-nil (map (word DEVICE) (cs ++ (c ∷ []))), append-nil (map (word DEVICE) cs)) (map-append (word DEVICE) cs (c ∷ []))

pub body-task : (cs : List ℕ) (ts : List Task) → body (set_with cs (ts ++ ([] ∷ []))) ≡ body (set_with cs ts) ++ (word TASK 0 ∷ [])
unfolding body
body-task cs ts = rw (words_last ts []) (sym (append_assoc (map (word DEVICE) cs) (task_words ts) (word TASK 0 ∷ [])))

pub body-action : (cs : List ℕ) (ts : List Task) (t : Task) (a : Action)
    → body (set_with cs (ts ++ ((t ++ (a ∷ [])) ∷ []))) ≡ body (set_with cs (ts ++ (t ∷ []))) ++ (action_word a ∷ [])
unfolding body
body-action cs ts t a =
    let devices = map (word DEVICE) cs in
    let task = word TASK 0 ∷ map action_word t in
    rw (words_last ts (t ++ (a ∷ [])), words_last ts t, map-append action_word t (a ∷ []))
    (sym
    (append_assoc devices (task_words ts ++ task) (action_word a ∷ [])
    ∙ ap (λ (l : List ℕ). devices ++ l) (append_assoc (task_words ts) task (action_word a ∷ []))))
