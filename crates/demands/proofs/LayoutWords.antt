-- The words of a set and of a plan are those of the layouts in SCOPE.md, "Sets" and "Plan".
use Prim.Native.Nat.{ℕ, suc, ◌+◌}
use native.Mathlib.Omega.{arith}
use mathlib.Core.Path.{◌≡◌, refl, sym, ap₂, ◌∙◌}
use mathlib.Core.List.{List, [], ◌∷◌, ◌++◌, map, flatten, append_assoc}
use lib.ListN.{length}
use Rattle.model.specs.Set.{Action, claim, release, Task, Set}
use Rattle.model.specs.Layout.{word, DEVICE, action_word, task_words, body, with_end, encode}
use Rattle.model.specs.Box.{Box}
use Rattle.model.specs.Forbidden.{Forbidden}
use Rattle.model.specs.Plan.{Plan, DEAD_STATE, UNREACHED_STATE, side_words, forbidden_words, unsafe_words, rank_words, plan_body, plan_words}
use Rattle.demands.specs.Reading.{word_of, words_of}
use Rattle.demands.specs.Analyses.{sides_from, list_of}

-- the same word, and then the same list
infixr 60 ◌and_then◌
◌and_then◌ : {w v : ℕ} {l m : List ℕ} → w ≡ v → l ≡ m → w ∷ l ≡ v ∷ m
e and_then f = ap₂ (λ (w : ℕ) (l : List ℕ). w ∷ l) e f

joined : {l m k n : List ℕ} → l ≡ m → k ≡ n → l ++ k ≡ m ++ n
joined e f = ap₂ (λ (l k : List ℕ). l ++ k) e f

with-end : {ws vs : List ℕ} → ws ≡ vs → with_end ws ≡ vs ++ ((0x50000000 + length vs) ∷ [])
unfolding with_end
with-end e = rw e refl

-- ---- a set
action-word : (a : Action) → action_word a ≡ word_of a
unfolding action_word word_of
action-word (claim d e) = omega arith
action-word (release d) = omega arith

action-words : (task : Task) → map action_word task ≡ map word_of task
action-words [] = refl
action-words (a ∷ task) = action-word a and_then action-words task

task-words : (tasks : List Task) → task_words tasks ≡ flatten (map (λ task. 0x20000000 ∷ map word_of task) tasks)
unfolding task_words flatten
task-words [] = refl
task-words (task ∷ tasks) = refl and_then joined (action-words task) (task-words tasks)

device-words : (cs : List ℕ) → map (word DEVICE) cs ≡ map (λ c. 0x10000000 + c) cs
device-words cs = refl

pub set_words : (s : Set) → encode s ≡ words_of s ++ ((0x50000000 + length (words_of s)) ∷ [])
unfolding body
set_words s = with-end (joined (device-words s.capacities) (task-words s.tasks))

-- ---- a plan
side-words : (t : ℕ) (b : Box) → side_words t b ≡ sides_from t b
unfolding side_words sides_from
side-words t [] = refl
side-words t (i ∷ b) = omega arith and_then side-words (suc t) b

forbidden-words : (fs : List Forbidden) → forbidden_words fs ≡ flatten (map (λ f. (0x60000000 + f.device) ∷ sides_from 0 f.box) fs)
unfolding forbidden_words flatten
forbidden-words [] = refl
forbidden-words (f ∷ fs) = omega arith and_then joined (side-words 0 f.box) (forbidden-words fs)

unsafe-words : (bs : List Box) → unsafe_words bs ≡ flatten (map (λ b. 0x70000000 ∷ sides_from 0 b) bs)
unfolding unsafe_words flatten
unsafe-words [] = refl
unsafe-words (b ∷ bs) = refl and_then joined (side-words 0 b) (unsafe-words bs)

-- the words of ranks by computing
pub body-words : (p : Plan) → plan_body p ≡ list_of p
body-words p =
    sym (append_assoc (forbidden_words p.forbidden ++ unsafe_words p.unsafe) (rank_words DEAD_STATE p.reached) (rank_words UNREACHED_STATE p.unreached))
    ∙ joined (joined (joined (forbidden-words p.forbidden) (unsafe-words p.unsafe)) refl) refl

pub plan-words : (p : Plan) → plan_words p ≡ list_of p ++ ((0x50000000 + length (list_of p)) ∷ [])
unfolding plan_words
plan-words p = with-end (body-words p)
