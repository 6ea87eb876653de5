-- Reading a set (SCOPE.md, "Refusals", 1 to 12, 24 and 28): the words' first fault, or the set that they declare.
use Rattle.std.specs.Prelude.{ℕ, suc, ◌-◌, Bool, true, false, not, cond, ◌&&◌, ◌||◌, List, [], ◌∷◌, ◌++◌, length, eqb, ltb, leb}
use Rattle.model.specs.Below.{any, lowest}
use Rattle.model.specs.Answer.{Answer, given, refused, ◌then◌}
use Rattle.model.specs.Set.{Action, claim, release, Task, Set, lengths_of, claimed, at, size}
use Rattle.model.specs.Layout.{kind_of, field_of, device_bits, extra_bits, DEVICE, TASK, CLAIM, RELEASE, END, Rules, present}

-- the task opened last, and the tasks with one more action in it
unfoldable pub last_task : List Task → Task
last_task [] = []
last_task (t ∷ []) = t
last_task (t ∷ u ∷ ts) = last_task (u ∷ ts)

unfoldable pub add_action : List Task → Action → List Task
add_action [] a = []
add_action (t ∷ []) a = (t ++ (a ∷ [])) ∷ []
add_action (t ∷ u ∷ ts) a = t ∷ add_action (u ∷ ts) a

-- whether a task holds device d after these actions, where it held it before (h) or not
unfoldable pub held_after : ℕ → Bool → Task → Bool
held_after d h [] = h
held_after d h (claim c e ∷ rest) = held_after d (eqb c d || h) rest
held_after d h (release c ∷ rest) = held_after d (not (eqb c d) && h) rest

-- the words read so far: the set that they declare, and whether END was among them
pub record Scan : Type 0 where
  pub set : Set
  pub ended : Bool

-- before the first word
abbrev pub nothing_read : Scan
nothing_read = record { set = record { capacities = []; tasks = [] }; ended = false }

-- one more word, of kind k and field f
unfoldable pub note : Scan → ℕ → ℕ → Scan
note s k f =
    let cs = s.set.capacities in
    let ts = s.set.tasks in
    cond (eqb k DEVICE) (record { set = record { capacities = cs ++ (f ∷ []); tasks = ts }; ended = false })
    (cond (eqb k TASK) (record { set = record { capacities = cs; tasks = ts ++ ([] ∷ []) }; ended = false })
    (cond (eqb k CLAIM) (record { set = record { capacities = cs; tasks = add_action ts (claim (device_bits f) (extra_bits f)) }; ended = false })
    (cond (eqb k RELEASE) (record { set = record { capacities = cs; tasks = add_action ts (release f) }; ended = false })
    (record { set = s.set; ended = true }))))

module _ (s : Scan) where
  abbrev device_count : ℕ
  device_count = length s.set.capacities

  abbrev task_count : ℕ
  task_count = length s.set.tasks

  -- the open task holds device d
  abbrev pub holds_now : ℕ → Bool
  holds_now d = held_after d false (last_task s.set.tasks)

  -- it holds something
  abbrev pub holds_some : Bool
  holds_some = any device_count holds_now

  -- 5: DEVICE after a TASK; CLAIM, RELEASE or END before any
  unfoldable pub out_of_order : ℕ → Bool
  out_of_order k =
      cond (eqb k DEVICE) (ltb 0 task_count)
      (cond (eqb k TASK) false
      (eqb task_count 0))

  -- 6: a capacity is 1 to 8, TASK's field is 0, CLAIM's has a declared device in bits 15 to 0 and no bit above 23, RELEASE's is a declared device, END's
  -- the number i of words before it
  unfoldable pub field_allowed : ℕ → ℕ → ℕ → Bool
  field_allowed i k f =
      cond (eqb k DEVICE) (leb 1 f && leb f 8)
      (cond (eqb k TASK) (eqb f 0)
      (cond (eqb k CLAIM) (ltb f 0x1000000 && ltb (device_bits f) device_count)
      (cond (eqb k END) (eqb f i)
      (ltb f device_count))))

  -- 7: 17th device, 9th task, 256th action
  unfoldable pub too_many : ℕ → Bool
  too_many k =
      cond (eqb k DEVICE) (leb 16 device_count)
      (cond (eqb k TASK) (leb 8 task_count)
      (cond (eqb k END) false
      (leb 255 (length (last_task s.set.tasks)))))

  -- 28: a claim of more units than the device has
  unfoldable pub too_many_units : ℕ → Bool
  too_many_units f = ltb (at s.set.capacities (device_bits f)) (suc (extra_bits f))

  -- the first number, in the order 3, 4, 5, 6, 7, 28, 8, 9, 10, that the word of kind k and field f at index i brings, 0 if none
  unfoldable pub fault : ℕ → ℕ → ℕ → ℕ
  fault i k f =
      cond s.ended 3
      (cond (not (leb 1 k && leb k 5)) 4
      (cond (out_of_order k) 5
      (cond (not (field_allowed i k f)) 6
      (cond (too_many k) 7
      (cond (eqb k CLAIM && too_many_units f) 28
      (cond (eqb k CLAIM && holds_now (device_bits f)) 8
      (cond (eqb k RELEASE && not (holds_now f)) 9
      (cond ((eqb k TASK || eqb k END) && holds_some) 10
      0))))))))

-- what a reading answers: the set, or the refusal's number and place
abbrev pub Reading : Type 0
Reading = Answer Set

-- the words from index i on: the first fault counts; after words without one: 11 no END
unfoldable pub read_from : Scan → ℕ → List ℕ → Reading
read_from s i [] = cond (not s.ended) (refused 11 i) (given s.set)
read_from s i (w ∷ ws) =
    let n = fault s i (kind_of w) (field_of w) in
    cond (ltb 0 n) (refused n i) (read_from (note s (kind_of w) (field_of w)) (suc i) ws)

-- all words: 1 none, 2 over 4,096
unfoldable pub read_words : List ℕ → Reading
read_words ws =
    cond (eqb (length ws) 0) (refused 1 0)
    (cond (ltb 4096 (length ws)) (refused 2 4096)
    (read_from nothing_read 0 ws))

-- the lowest device that no task claims, the number of devices if each is claimed
abbrev pub first_unclaimed : Set → ℕ
first_unclaimed s = lowest (length s.capacities) (λ d. not (claimed s.tasks d))

-- the set that n words declare: 24 a device that no task claims, if the rules ask for a claim; 12 grid over 65,536
unfoldable pub close : Rules → ℕ → Set → Reading
close rules n s =
    cond (rules && ltb (first_unclaimed s) (length s.capacities)) (refused 24 (first_unclaimed s))
    (cond (ltb 65536 (size (lengths_of s))) (refused 12 (n - 1))
    (given s))

-- a list of words by these rules
unfoldable pub read_by : Rules → List ℕ → Reading
read_by rules ws = read_words ws then close rules (length ws)

-- by the present rules
abbrev pub read : List ℕ → Reading
read = read_by present

-- the set that accepted words declare
unfoldable pub set_of : Reading → Set
set_of (given s) = s
set_of (refused n p) = record { capacities = []; tasks = [] }

-- the set that a list of words declares
abbrev pub set_in : List ℕ → Set
set_in ws = set_of (read ws)
