-- The layout of a set (SCOPE.md, "Sets"): its words, and which sets are well formed, by the present rules and by the former ones.
use Rattle.std.specs.Prelude.{ℕ, ◌+◌, ◌*◌, ◌/◌, ◌%◌, ◌<◌, ◌≤◌, ◌≡◌, Bool, true, false, cond, List, [], ◌∷◌, ◌++◌, map, length, eqb}
use Rattle.model.specs.Set.{Action, claim, release, Task, Set, lengths_of, task_at, claimed, at, size, GoodTask}

-- a word's top four bits are its kind, the low 28 its field
abbrev pub word : ℕ → ℕ → ℕ
word kind field = kind * 0x10000000 + field

-- a word's top four bits
abbrev pub kind_of : ℕ → ℕ
kind_of w = w / 0x10000000

-- its low 28 bits
abbrev pub field_of : ℕ → ℕ
field_of w = w % 0x10000000

-- the kinds of a set's words
abbrev pub DEVICE : ℕ
DEVICE = 1

abbrev pub TASK : ℕ
TASK = 2

abbrev pub CLAIM : ℕ
CLAIM = 3

abbrev pub RELEASE : ℕ
RELEASE = 4

abbrev pub END : ℕ
END = 5

-- the field of a CLAIM: bits 23 to 16 are the extra units, bits 15 to 0 the device
abbrev pub claim_field : ℕ → ℕ → ℕ
claim_field device extra = extra * 0x10000 + device

-- its bits 15 to 0
abbrev pub device_bits : ℕ → ℕ
device_bits f = f % 0x10000

-- its bits 23 to 16
abbrev pub extra_bits : ℕ → ℕ
extra_bits f = f / 0x10000 % 0x100

-- CLAIM with its units and device, or RELEASE with the device as field
unfoldable pub action_word : Action → ℕ
action_word (claim d e) = word CLAIM (claim_field d e)
action_word (release d) = word RELEASE d

-- the action of a word that is a CLAIM or a RELEASE
unfoldable pub action_of : ℕ → Action
action_of w = let f = field_of w in cond (eqb (kind_of w) CLAIM) (claim (device_bits f) (extra_bits f)) (release f)

-- each task: a TASK, then its actions
unfoldable pub task_words : List Task → List ℕ
task_words [] = []
task_words (task ∷ tasks) = (word TASK 0 ∷ map action_word task) ++ task_words tasks

-- the words before END: the devices, then the tasks
unfoldable pub body : Set → List ℕ
body s = map (word DEVICE) s.capacities ++ task_words s.tasks

-- words, and END with the number of words before it
unfoldable pub with_end : List ℕ → List ℕ
with_end ws = ws ++ (word END (length ws) ∷ [])

-- the words of a set
abbrev pub encode : Set → List ℕ
encode s = with_end (body s)

-- the rules that a set is held to: whether they ask that some task claims each device. The present rules do; the former ones didn't
abbrev pub Rules : Type 0
Rules = Bool

abbrev pub present : Rules
present = true

abbrev pub former : Rules
former = false

-- a set within the limits, whose tasks claim, release and close as they should, and whose devices are claimed if the rules ask for it
pub record WellFormedBy (rules : Rules) (s : Set) : Type 0 where
  pub capacities : (d : ℕ) → d < length s.capacities → (1 ≤ at s.capacities d) × (at s.capacities d ≤ 8)
  pub devices : length s.capacities ≤ 16
  pub some_task : 1 ≤ length s.tasks
  pub tasks : length s.tasks ≤ 8
  pub each_task : (t : ℕ) → t < length s.tasks → GoodTask s.capacities (task_at s t)
  pub each_device : rules ≡ present → (d : ℕ) → d < length s.capacities → claimed s.tasks d ≡ true
  pub grid : size (lengths_of s) ≤ 65536
  pub words : length (encode s) ≤ 4096

-- by the present rules
abbrev pub WellFormed : Set → Type 0
WellFormed = WellFormedBy present
