-- The task opened last: one more task, one more action, and their counts, starts and words.
use Prim.Native.Nat.{ℕ, zero, suc, ◌+◌, ◌-◌, ◌≤◌}
use mathlib.Core.Path.{◌≡◌, refl, ap, ◌∙◌}
use mathlib.Core.List.{List, [], ◌∷◌, ◌++◌}
use mathlib.Core.Bool.{Bool, true, false, not, cond, ◌&&◌, ◌||◌}
use native.Mathlib.Nat.{add-zero, le_of_suc-le-suc, not-suc-le-zero}
use native.Mathlib.Omega.{arith}
use lib.ListN.{length, get_or, set, length-append, length-map}
use lib.Dec.{eqb}
use Rattle.model.specs.Below.{tabulate}
use Rattle.model.specs.Set.{Action, claim, release, Task, lengths}
use Rattle.model.specs.Layout.{device_bits, extra_bits, task_words}
use Rattle.model.specs.Read.{last_task, add_action, held_after}
use Rattle.model.proofs.Held.{held-append}
use Rattle.shape.specs.ShapeOf.{padded, starts_from}
use Rattle.shape.proofs.Read.{length-starts}
use Rattle.reader.proofs.Arrays.{padded-add, padded-zero}

-- ---- one more task, which has no action yet
lengths-open : (ts : List Task) → lengths (ts ++ ([] ∷ [])) ≡ lengths ts ++ (0 ∷ [])
lengths-open [] = refl
lengths-open (t ∷ ts) = ap {B = List ℕ} (λ l. length t ∷ l) (lengths-open ts)

pub counts-open : (n : ℕ) (ts : List Task) → padded n (lengths (ts ++ ([] ∷ []))) ≡ padded n (lengths ts)
counts-open n ts = rw (lengths-open ts) (padded-zero n (lengths ts))

pub words_open : (ts : List Task) → length (task_words (ts ++ ([] ∷ []))) ≡ length (task_words ts) + 1
unfolding task_words
words_open [] = refl
words_open (t ∷ ts) = simp (length-append, length-map) (omega (arith, words_open ts))

starts-open : (n : ℕ) (ts : List Task) → starts_from n (ts ++ ([] ∷ [])) ≡ starts_from n ts ++ ((n + length (task_words ts) + 1) ∷ [])
unfolding starts_from task_words
starts-open n [] = rw (add-zero n)
starts-open n (u ∷ ts) =
    ap {B = List ℕ} (λ l. (n + 1) ∷ l)
    (starts-open (n + 1 + length u) ts ∙ ap (λ (k : ℕ). starts_from (n + 1 + length u) ts ++ (k ∷ [])) (simp (length-append, length-map) (omega arith)))

-- its actions start after the words so far and its TASK
pub start_open : (k n : ℕ) (ts : List Task)
    → set (padded k (starts_from n ts)) (length ts) (n + length (task_words ts) + 1) ≡ padded k (starts_from n (ts ++ ([] ∷ [])))
start_open k n ts = rw (starts-open n ts, ← length-starts n ts) (padded-add k (starts_from n ts) _)

-- ---- one more action
pub tasks-act : (ts : List Task) (a : Action) → length (add_action ts a) ≡ length ts
unfolding add_action
tasks-act [] a = refl
tasks-act (t ∷ []) a = refl
tasks-act (t ∷ u ∷ ts) a = ap suc (tasks-act (u ∷ ts) a)

pub last-act : (ts : List Task) (a : Action) → 1 ≤ length ts → last_task (add_action ts a) ≡ last_task ts ++ (a ∷ [])
unfolding last_task add_action
last-act [] a h = absurd (not-suc-le-zero h)
last-act (t ∷ []) a h = refl
last-act (t ∷ u ∷ []) a h = refl
last-act (t ∷ u ∷ v ∷ ts) a h = last-act (u ∷ v ∷ ts) a (omega arith)

pub words-act : (ts : List Task) (a : Action) → 1 ≤ length ts → length (task_words (add_action ts a)) ≡ length (task_words ts) + 1
unfolding task_words add_action
words-act [] a h = absurd (not-suc-le-zero h)
words-act (t ∷ []) a h = simp (length-append, length-map) (omega arith)
words-act (t ∷ u ∷ ts) a h = simp (length-append, length-map) (omega (arith, simp (length-append, length-map) at (words-act (u ∷ ts) a (omega arith))))

pub starts-act : (n : ℕ) (ts : List Task) (a : Action) → starts_from n (add_action ts a) ≡ starts_from n ts
unfolding starts_from add_action
starts-act n [] a = refl
starts-act n (t ∷ []) a = refl
starts-act n (t ∷ u ∷ ts) a = ap {B = List ℕ} (λ l. (n + 1) ∷ l) (starts-act (n + 1 + length t) (u ∷ ts) a)

last_up : (n : ℕ) → suc (suc n) - 1 ≡ suc (suc n - 1)
last_up n = omega arith

pub count-last : (n : ℕ) (ts : List Task) → 1 ≤ length ts → length ts ≤ n → get_or (padded n (lengths ts)) (length ts - 1) 0 ≡ length (last_task ts)
unfolding tabulate last_task
count-last n [] h k = absurd (not-suc-le-zero h)
count-last zero (t ∷ ts) h k = absurd (not-suc-le-zero k)
count-last (suc n) (t ∷ []) h k = refl
count-last (suc n) (t ∷ u ∷ ts) h k = rw (last_up (length ts)) (count-last n (u ∷ ts) (omega arith) (le_of_suc-le-suc k))

pub count-act : (n : ℕ) (ts : List Task) (a : Action) → 1 ≤ length ts
    → set (padded n (lengths ts)) (length ts - 1) (length (last_task ts) + 1) ≡ padded n (lengths (add_action ts a))
unfolding tabulate last_task add_action
count-act n [] a h = absurd (not-suc-le-zero h)
count-act zero (t ∷ ts) a h = refl
count-act (suc n) (t ∷ []) a h = rw (length-append t (a ∷ []))
count-act (suc n) (t ∷ u ∷ ts) a h = rw (last_up (length ts)) (ap {B = List ℕ} (λ l. length t ∷ l) (count-act n (u ∷ ts) a (omega arith)))

-- an action by its field, a claim or not, makes its device held or free
unfoldable pub act : Bool → ℕ → Action
act true f = claim (device_bits f) (extra_bits f)
act false f = release f

-- the device that it names
abbrev pub named : Bool → ℕ → ℕ
named b f = cond b (device_bits f) f

or-cond : (a b : Bool) → (a || b) ≡ cond a true b
or-cond true b = refl
or-cond false b = refl

and-cond : (a b : Bool) → (not a && b) ≡ cond a false b
and-cond true b = refl
and-cond false b = refl

pub held-act : (d : ℕ) (h : Bool) (t : Task) (b : Bool) (f : ℕ) → held_after d h (t ++ (act b f ∷ [])) ≡ cond (eqb (named b f) d) b (held_after d h t)
unfolding held_after act
held-act d h t true f = held-append d h t (claim (device_bits f) (extra_bits f) ∷ []) ∙ or-cond (eqb (device_bits f) d) (held_after d h t)
held-act d h t false f = held-append d h t (release f ∷ []) ∙ and-cond (eqb f d) (held_after d h t)
