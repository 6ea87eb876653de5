-- The words of tasks whose devices have other numbers are the tasks' words renamed one by one, and name one of 16 devices each.
use Prim.Native.Nat.{ℕ, ◌<◌}
use native.Mathlib.Omega.{arith}
use mathlib.Core.Path.{◌≡◌, refl, ◌∙◌}
use mathlib.Core.List.{List, [], ◌∷◌, map, map-append}
use borrow.Author.Tests.{ne_eqb}
use Rattle.model.specs.Set.{Action, claim, release, device_of, units_taken, Task}
use Rattle.model.specs.Layout.{word, kind_of, claim_field, TASK, CLAIM, RELEASE, action_word, action_of, task_words}
use Rattle.model.specs.Clean.{renamed, renamed_tasks}
use Rattle.model.proofs.Each.{Each, each_append, each_map, each_at}
use Rattle.model.proofs.Words.{kind-word, FitsWord, action-back}
use Rattle.set_writer.specs.Renamed.{renamed_word, Named}

-- each action fits into a word
abbrev Small : List Task → Type 0
Small = Each (Each FitsWord)

-- the word of an action is no TASK
no_task : (a : Action) → FitsWord a → kind_of (action_word a) ≡ TASK → ⊥
unfolding action_word device_of units_taken
no_task (claim d e) h k = omega (arith, kind-word CLAIM (claim_field d e) (omega arith))
no_task (release d) h k = omega (arith, kind-word RELEASE d (omega arith))

module _ (f : ℕ → ℕ) where
  action-renamed : (a : Action) → FitsWord a → renamed_word f (action_word a) ≡ action_word (renamed f a)
  unfolding renamed_word
  action-renamed a h = rw (ne_eqb (kind_of (action_word a)) TASK (no_task a h), action-back a h)

  actions-renamed : (task : Task) → Each FitsWord task → map (renamed_word f) (map action_word task) ≡ map action_word (map (renamed f) task)
  actions-renamed [] h = refl
  actions-renamed (a ∷ task) h = rw (action-renamed a h.0, actions-renamed task h.1)

  pub words-renamed : (tasks : List Task) → Small tasks → map (renamed_word f) (task_words tasks) ≡ task_words (renamed_tasks f tasks)
  unfolding task_words renamed_word
  words-renamed [] h = refl
  words-renamed (task ∷ tasks) h =
      map-append (renamed_word f) (word TASK 0 ∷ map action_word task) (task_words tasks) ∙ rw (actions-renamed task h.0, words-renamed tasks h.1)

-- a word that names a device names one of 16
abbrev NamesOne : ℕ → Type 0
NamesOne w = (kind_of w ≡ TASK → ⊥) → device_of (action_of w) < 16

action-names : (a : Action) → FitsWord a → NamesOne (action_word a)
action-names a h k = rw (action-back a h) h.0

words-names : (tasks : List Task) → Small tasks → Each NamesOne (task_words tasks)
unfolding task_words
words-names [] h = tt
words-names (task ∷ tasks) h =
    each_append NamesOne (word TASK 0 ∷ map action_word task) (task_words tasks)
    ((λ k. absurd (k refl)), each_map FitsWord NamesOne action_word action-names task h.0)
    (words-names tasks h.1)

pub words-named : (tasks : List Task) → Small tasks → Named (task_words tasks)
words-named tasks h = each_at NamesOne 0 (task_words tasks) (words-names tasks h)
