-- SCOPE.md, "Sets" and "Refusals", 1 to 12, 24 and 28: which sets are well formed, each refusal and each limit at its edge, and the order of the rows.
use Rattle.std.specs.Prelude.{ℕ, suc, ◌+◌, ◌*◌, ◌%◌, ◌<◌, ◌≤◌, ◌≡◌, ◌↔◌, ◌⊎◌, length, replicate}
use mathlib.Core.List.{List, [], ◌∷◌, ◌++◌, map, flatten}
use Rattle.model.specs.Below.{tabulate}
use Rattle.model.specs.Set.{Action, claim, release, Set, lengths_of, task_at, action_at, at, size}
use Rattle.model.specs.Layout.{encode, Rules, present, former, WellFormedBy}
use Rattle.model.specs.Answer.{given, refused}
use Rattle.model.specs.Read.{read_by, read}
use Rattle.demands.specs.Terms.{times, StillHeld, Claims, AllClaimed}

-- the sentences of "Sets", each by itself; the former rules didn't have the one on claimed devices
pub record InLayout (rules : Rules) (s : Set) : Type 0 where
  -- at most 16 devices, of capacity 1 to 8
  pub devices : length s.capacities ≤ 16
  pub capacity : (d : ℕ) → d < length s.capacities → (1 ≤ at s.capacities d) × (at s.capacities d ≤ 8)
  -- 1 to 8 tasks, of at most 255 actions
  pub tasks : (1 ≤ length s.tasks) × (length s.tasks ≤ 8)
  pub actions : (t : ℕ) → t < length s.tasks → length (task_at s t) ≤ 255
  -- an action names a declared device
  pub declared : (t p d : ℕ) → t < length s.tasks → p < length (task_at s t) → Claims (action_at s t p) d ⊎ (action_at s t p ≡ release d)
      → d < length s.capacities
  -- a claim takes no more units than its device has: the first and the extra ones
  pub units : (t p d e : ℕ) → t < length s.tasks → p < length (task_at s t) → action_at s t p ≡ claim d e → suc e ≤ at s.capacities d
  -- a task claims only what it doesn't hold, releases only what it holds, and holds nothing at its close
  pub claims : (t p d : ℕ) → t < length s.tasks → p < length (task_at s t) → Claims (action_at s t p) d → StillHeld d (task_at s t) p → ⊥
  pub releases : (t p d : ℕ) → t < length s.tasks → p < length (task_at s t) → action_at s t p ≡ release d → StillHeld d (task_at s t) p
  pub closes : (t d : ℕ) → t < length s.tasks → StillHeld d (task_at s t) (length (task_at s t)) → ⊥
  -- some task claims each device
  pub each_claimed : rules ≡ present → AllClaimed s
  -- the grid is at most 65,536
  pub grid : size (lengths_of s) ≤ 65536

-- CLAIM is kind 3, with the extra units in bits 23 to 16 and the device in bits 15 to 0; RELEASE is kind 4, with the device as field
unfoldable pub word_of : Action → ℕ
word_of (claim d e) = 0x30000000 + e * 0x10000 + d
word_of (release d) = 0x40000000 + d

-- DEVICE is kind 1, with the capacity as field; then for each task TASK, kind 2 with field 0, and its actions
abbrev pub words_of : Set → List ℕ
words_of s = map (λ c. 0x10000000 + c) s.capacities ++ flatten (map (λ task. 0x20000000 ∷ map word_of task) s.tasks)

-- a claim of one unit and a release of device 0, as actions and as words
abbrev pub turn : List Action
turn = claim 0 0 ∷ release 0 ∷ []

abbrev pub turn_words : List ℕ
turn_words = 0x30000000 ∷ 0x40000000 ∷ []

pub record ReadingRight : Type 0 where
  -- the words of a set, and END, kind 5, with the number of words before it
  pub words : (s : Set) → encode s ≡ words_of s ++ ((0x50000000 + length (words_of s)) ∷ [])
  -- a set is well formed exactly if each of those sentences holds of it; then each L is even and the grid is odd
  pub layout : (rules : Rules) (s : Set) → WellFormedBy rules s ↔ InLayout rules s
  pub even : (rules : Rules) (s : Set) → WellFormedBy rules s → (t : ℕ) → length (task_at s t) % 2 ≡ 0
  pub odd : (rules : Rules) (s : Set) → WellFormedBy rules s → size (lengths_of s) % 2 ≡ 1
  -- accepted: two devices of the least and the most capacity, and a task without actions between two others; no device at all
  pub accepted : (read (0x10000001 ∷ 0x10000008 ∷ 0x20000000 ∷ 0x30000001 ∷ 0x30000000 ∷ 0x40000001 ∷ 0x40000000 ∷ 0x20000000 ∷ 0x20000000 ∷ 0x30000001 ∷ 0x40000001 ∷ 0x5000000B ∷ [])
      ≡ given (record { capacities = 1 ∷ 8 ∷ []; tasks = (claim 1 0 ∷ claim 0 0 ∷ release 1 ∷ release 0 ∷ []) ∷ [] ∷ (claim 1 0 ∷ release 1 ∷ []) ∷ [] }))
      × (read (0x20000000 ∷ 0x50000001 ∷ []) ≡ given (record { capacities = []; tasks = [] ∷ [] }))
  -- accepted with extra units: each of two tasks claims both devices, with the most units and with fewer, and one device again with other units after its release
  pub accepted_units : read (0x10000002 ∷ 0x10000008 ∷ 0x20000000 ∷ 0x30010000 ∷ 0x30070001 ∷ 0x40000000 ∷ 0x40000001 ∷ 0x20000000 ∷ 0x30060001 ∷ 0x30000000 ∷ 0x40000001 ∷ 0x30010001 ∷ 0x40000000
      ∷ 0x40000001 ∷ 0x5000000E ∷ [])
      ≡ given (record {
        capacities = 2 ∷ 8 ∷ [];
        tasks =
            (claim 0 1 ∷ claim 1 7 ∷ release 0 ∷ release 1 ∷ [])
            ∷ (claim 1 6 ∷ claim 0 0 ∷ release 1 ∷ claim 1 1 ∷ release 0 ∷ release 1 ∷ [])
            ∷ [];
      })
  -- 1: no words
  pub refusal_1 : read [] ≡ refused 1 0
  -- 2: over 4,096 words, whatever they are
  pub refusal_2 : (read (replicate 4097 0) ≡ refused 2 4096) × (read (replicate 4096 0) ≡ refused 4 0)
  -- 3: a word after END; before 4, 5, 6, 7, 9 and 12
  pub refusal_3 : (read (0x20000000 ∷ 0x50000001 ∷ 0x50000002 ∷ []) ≡ refused 3 2)
      × (read (0x20000000 ∷ 0x50000001 ∷ 0x00000000 ∷ []) ≡ refused 3 2)
      × (read (0x20000000 ∷ 0x50000001 ∷ 0x10000001 ∷ []) ≡ refused 3 2)
      × (read (0x20000000 ∷ 0x50000001 ∷ 0x20000001 ∷ []) ≡ refused 3 2)
      × (read (replicate 8 0x20000000 ++ (0x50000008 ∷ 0x20000000 ∷ [])) ≡ refused 3 9)
      × (read (0x10000001 ∷ 0x20000000 ∷ 0x50000002 ∷ 0x40000000 ∷ []) ≡ refused 3 3)
      × (read (0x10000001 ∷ 0x20000000 ∷ times 127 turn_words (0x20000000 ∷ times 127 turn_words (0x20000000 ∷ times 1 turn_words (0x50000202 ∷ 0x20000000 ∷ [])))) ≡ refused 3 515)
  -- 4: a kind that is not 1 to 5, before 5 and 6
  pub refusal_4 : (read (0x00000001 ∷ []) ≡ refused 4 0) × (read (0x6FFFFFFF ∷ []) ≡ refused 4 0) × (read (0x20000000 ∷ 0xF0000000 ∷ []) ≡ refused 4 1)
  -- 5: DEVICE after a TASK, CLAIM, RELEASE or END before any; before 6, 7 and 9
  pub refusal_5 : (read (0x20000000 ∷ 0x10000001 ∷ []) ≡ refused 5 1)
      × (read (0x10000001 ∷ 0x30000000 ∷ []) ≡ refused 5 1)
      × (read (0x10000001 ∷ 0x40000000 ∷ []) ≡ refused 5 1)
      × (read (0x50000000 ∷ []) ≡ refused 5 0)
      × (read (0x50000001 ∷ []) ≡ refused 5 0)
      × (read (0x20000000 ∷ 0x10000009 ∷ []) ≡ refused 5 1)
      × (read (replicate 16 0x10000001 ++ (0x20000000 ∷ 0x10000001 ∷ [])) ≡ refused 5 17)
  -- 6: a capacity of 0 or 9; TASK with a field; an undeclared device, claimed or released (so before 9), or any where none is declared; END with another field than
  -- its index; a CLAIM with a bit above 23, the lowest and the highest; all 28 bits of a field count, and of a CLAIM's device all 16
  pub refusal_6 : (read (0x10000000 ∷ []) ≡ refused 6 0)
      × (read (0x10000009 ∷ []) ≡ refused 6 0)
      × (read (0x18000001 ∷ []) ≡ refused 6 0)
      × (read (0x20000001 ∷ []) ≡ refused 6 0)
      × (read (0x28000000 ∷ []) ≡ refused 6 0)
      × (read (0x10000001 ∷ 0x20000000 ∷ 0x30000001 ∷ []) ≡ refused 6 2)
      × (read (0x10000001 ∷ 0x20000000 ∷ 0x30008000 ∷ []) ≡ refused 6 2)
      × (read (0x10000001 ∷ 0x20000000 ∷ 0x31000000 ∷ []) ≡ refused 6 2)
      × (read (0x10000001 ∷ 0x20000000 ∷ 0x38000000 ∷ []) ≡ refused 6 2)
      × (read (0x10000001 ∷ 0x20000000 ∷ 0x40000001 ∷ []) ≡ refused 6 2)
      × (read (0x20000000 ∷ 0x30000000 ∷ []) ≡ refused 6 1)
      × (read (0x20000000 ∷ 0x50000000 ∷ []) ≡ refused 6 1)
      × (read (0x20000000 ∷ 0x50000002 ∷ []) ≡ refused 6 1)
  -- 6 with units: a CLAIM of an undeclared device, whatever the units (so before 28), and one with a bit above 23 beside too many; a RELEASE with units, of a device
  -- that is not held (so before 9), of one held with just these, and of one of capacity 1
  pub with_units_6 : (read (0x10000002 ∷ 0x20000000 ∷ 0x30010001 ∷ []) ≡ refused 6 2)
      × (read (0x10000002 ∷ 0x20000000 ∷ 0x30FF0001 ∷ []) ≡ refused 6 2)
      × (read (0x10000002 ∷ 0x20000000 ∷ 0x31FF0000 ∷ []) ≡ refused 6 2)
      × (read (0x10000002 ∷ 0x20000000 ∷ 0x40010000 ∷ []) ≡ refused 6 2)
      × (read (0x10000002 ∷ 0x20000000 ∷ 0x30010000 ∷ 0x40010000 ∷ []) ≡ refused 6 3)
      × (read (0x10000001 ∷ 0x20000000 ∷ 0x30000000 ∷ 0x40010000 ∷ []) ≡ refused 6 3)
  -- 6 before 7 and before 10
  pub before_7 : (read (replicate 16 0x10000001 ++ (0x10000009 ∷ [])) ≡ refused 6 16)
      × (read (replicate 8 0x20000000 ++ (0x20000001 ∷ [])) ≡ refused 6 8)
      × (read (0x10000001 ∷ 0x20000000 ∷ times 127 turn_words (0x30000000 ∷ 0x40000001 ∷ [])) ≡ refused 6 257)
      × (read (0x10000001 ∷ 0x20000000 ∷ 0x30000000 ∷ 0x50000004 ∷ []) ≡ refused 6 3)
      × (read (0x10000001 ∷ 0x20000000 ∷ 0x30000000 ∷ 0x20000001 ∷ []) ≡ refused 6 3)
  -- 7: 17th device, 9th task, 256th action; before 8, 9 and 10
  pub refusal_7 : (read (replicate 17 0x10000001) ≡ refused 7 16)
      × (read (replicate 9 0x20000000) ≡ refused 7 8)
      × (read (0x10000001 ∷ 0x20000000 ∷ times 127 turn_words (0x30000000 ∷ 0x40000000 ∷ [])) ≡ refused 7 257)
      × (read (0x10000001 ∷ 0x20000000 ∷ times 127 turn_words (0x30000000 ∷ 0x30000000 ∷ [])) ≡ refused 7 257)
      × (read (0x10000001 ∷ 0x10000001 ∷ 0x20000000 ∷ times 127 turn_words (0x30000000 ∷ 0x40000001 ∷ [])) ≡ refused 7 258)
      × (read (0x10000001 ∷ replicate 8 0x20000000 ++ (0x30000000 ∷ 0x20000000 ∷ [])) ≡ refused 7 10)
  -- 16 devices and 8 tasks, and 254 actions, are accepted; the 255th action is no 7 (then END is missing), and is still looked at for 9 and for 8
  pub within_7 : (read (replicate 16 0x10000001 ++ (0x20000000 ∷ flatten (tabulate 16 (λ d. (0x30000000 + d) ∷ (0x40000000 + d) ∷ [])) ++ (replicate 7 0x20000000 ++ (0x50000038 ∷ []))))
      ≡ given (record { capacities = replicate 16 1; tasks = flatten (tabulate 16 (λ d. claim d 0 ∷ release d ∷ [])) ∷ replicate 7 [] }))
      × (read (0x10000001 ∷ 0x20000000 ∷ times 127 turn_words (0x50000100 ∷ [])) ≡ given (record { capacities = 1 ∷ []; tasks = times 127 turn [] ∷ [] }))
      × (read (0x10000001 ∷ 0x20000000 ∷ times 127 turn_words (0x30000000 ∷ [])) ≡ refused 11 257)
      × (read (0x10000001 ∷ 0x20000000 ∷ times 127 turn_words (0x40000000 ∷ [])) ≡ refused 9 256)
      × (read (0x10000001 ∷ 0x10000001 ∷ 0x20000000 ∷ 0x30000001 ∷ times 126 turn_words (0x30000000 ∷ 0x30000000 ∷ [])) ≡ refused 8 257)
  -- 28: a claim of more units than the device has, one more or 256, at capacities 1, 2 and 8
  pub refusal_28 : (read (0x10000001 ∷ 0x20000000 ∷ 0x30010000 ∷ []) ≡ refused 28 2)
      × (read (0x10000002 ∷ 0x20000000 ∷ 0x30020000 ∷ []) ≡ refused 28 2)
      × (read (0x10000008 ∷ 0x20000000 ∷ 0x30080000 ∷ []) ≡ refused 28 2)
      × (read (0x10000001 ∷ 0x20000000 ∷ 0x30FF0000 ∷ []) ≡ refused 28 2)
      × (read (0x10000008 ∷ 0x20000000 ∷ 0x30FF0000 ∷ []) ≡ refused 28 2)
  -- as many as it has are no 28 (then END is missing); of two devices the claimed one's capacity counts
  pub within_28 : (read (0x10000002 ∷ 0x20000000 ∷ 0x30010000 ∷ []) ≡ refused 11 3)
      × (read (0x10000008 ∷ 0x20000000 ∷ 0x30070000 ∷ []) ≡ refused 11 3)
      × (read (0x10000001 ∷ 0x10000002 ∷ 0x20000000 ∷ 0x30010001 ∷ []) ≡ refused 11 4)
      × (read (0x10000002 ∷ 0x10000001 ∷ 0x20000000 ∷ 0x30010001 ∷ []) ≡ refused 28 3)
  -- after 3, 5 and 7 (6 is above) and before 8, which comes where the units of this claim alone are not too many; the 255th action is still looked at for 28
  pub between_28 : (read (0x10000001 ∷ 0x20000000 ∷ 0x50000002 ∷ 0x30010000 ∷ []) ≡ refused 3 3)
      × (read (0x10000001 ∷ 0x30010000 ∷ []) ≡ refused 5 1)
      × (read (0x10000001 ∷ 0x20000000 ∷ times 127 turn_words (0x30000000 ∷ 0x30010000 ∷ [])) ≡ refused 7 257)
      × (read (0x10000001 ∷ 0x20000000 ∷ times 127 turn_words (0x30010000 ∷ [])) ≡ refused 28 256)
      × (read (0x10000001 ∷ 0x20000000 ∷ 0x30000000 ∷ 0x30010000 ∷ []) ≡ refused 28 3)
      × (read (0x10000002 ∷ 0x20000000 ∷ 0x30010000 ∷ 0x30020000 ∷ []) ≡ refused 28 3)
      × (read (0x10000002 ∷ 0x20000000 ∷ 0x30010000 ∷ 0x30010000 ∷ []) ≡ refused 8 3)
  -- by the former rules too
  pub formerly_28 : (read_by former (0x10000002 ∷ 0x20000000 ∷ 0x30020000 ∷ []) ≡ refused 28 2)
      × (read_by former (0x10000001 ∷ 0x10000002 ∷ 0x20000000 ∷ 0x30010001 ∷ 0x40000001 ∷ 0x50000005 ∷ [])
      ≡ given (record { capacities = 1 ∷ 2 ∷ []; tasks = (claim 1 1 ∷ release 1 ∷ []) ∷ [] }))
  -- 8: claim of a held device; 9: release of one not held, also after its release, which gives all units back, and while another is held
  pub refusal_8 : (read (0x10000008 ∷ 0x20000000 ∷ 0x30000000 ∷ 0x30000000 ∷ []) ≡ refused 8 3)
      × (read (0x10000001 ∷ 0x10000001 ∷ 0x20000000 ∷ 0x30000000 ∷ 0x30000001 ∷ 0x30000000 ∷ []) ≡ refused 8 5)
  pub refusal_9 : (read (0x10000001 ∷ 0x20000000 ∷ 0x40000000 ∷ []) ≡ refused 9 2)
      × (read (0x10000001 ∷ 0x20000000 ∷ 0x30000000 ∷ 0x40000000 ∷ 0x40000000 ∷ []) ≡ refused 9 4)
      × (read (0x10000001 ∷ 0x10000001 ∷ 0x20000000 ∷ 0x30000000 ∷ 0x40000001 ∷ []) ≡ refused 9 4)
      × (read (0x10000002 ∷ 0x20000000 ∷ 0x30010000 ∷ 0x40000000 ∷ 0x40000000 ∷ []) ≡ refused 9 4)
  -- 10: TASK or END while something is held, be it the last device, or with extra units
  pub refusal_10 : (read (0x10000001 ∷ 0x20000000 ∷ 0x30000000 ∷ 0x20000000 ∷ []) ≡ refused 10 3)
      × (read (0x10000001 ∷ 0x10000001 ∷ 0x20000000 ∷ 0x30000001 ∷ 0x50000004 ∷ []) ≡ refused 10 4)
      × (read (0x10000002 ∷ 0x20000000 ∷ 0x30010000 ∷ 0x50000003 ∷ []) ≡ refused 10 3)
  -- 11: no END, whatever is held and whatever the grid
  pub refusal_11 : (read (0x10000001 ∷ []) ≡ refused 11 1)
      × (read (0x10000001 ∷ 0x20000000 ∷ 0x30000000 ∷ []) ≡ refused 11 3)
      × (read (0x10000001 ∷ 0x20000000 ∷ times 127 turn_words (0x20000000 ∷ times 127 turn_words (0x20000000 ∷ times 1 turn_words []))) ≡ refused 11 514)
  -- 12: a grid over 65,536, the smallest that there is (101 · 59 · 11 = 65,549), 255 · 255 · 3, and one that is 64,445 modulo 2^32 (7 · 13 · 13 · 13 · 13 · 21 · 31 · 33)
  pub refusal_12 : (read (0x10000001 ∷ 0x20000000 ∷ times 50 turn_words (0x20000000 ∷ times 29 turn_words (0x20000000 ∷ times 5 turn_words (0x500000AC ∷ [])))) ≡ refused 12 172)
      × (read (0x10000001 ∷ 0x20000000 ∷ times 127 turn_words (0x20000000 ∷ times 127 turn_words (0x20000000 ∷ times 1 turn_words (0x50000202 ∷ [])))) ≡ refused 12 514)
      × (read (0x10000001 ∷ 0x20000000 ∷ times 3 turn_words (0x20000000 ∷ times 6 turn_words (0x20000000 ∷ times 6 turn_words (0x20000000 ∷ times 6 turn_words (0x20000000 ∷ times 6 turn_words
      (0x20000000 ∷ times 10 turn_words (0x20000000 ∷ times 15 turn_words (0x20000000 ∷ times 16 turn_words (0x50000091 ∷ []))))))))) ≡ refused 12 145)
  -- the largest grid that there is (71 · 71 · 13 = 65,533) is accepted, and two tasks of 254 actions are (65,025)
  pub within_12 : (read (0x10000001 ∷ 0x20000000 ∷ times 35 turn_words (0x20000000 ∷ times 35 turn_words (0x20000000 ∷ times 6 turn_words (0x5000009C ∷ []))))
      ≡ given (record { capacities = 1 ∷ []; tasks = times 35 turn [] ∷ times 35 turn [] ∷ times 6 turn [] ∷ [] }))
      × (read (0x10000001 ∷ 0x20000000 ∷ times 127 turn_words (0x20000000 ∷ times 127 turn_words (0x500001FF ∷ [])))
      ≡ given (record { capacities = 1 ∷ []; tasks = times 127 turn [] ∷ times 127 turn [] ∷ [] }))
  -- 24: a device that no task claims, the lowest; in every place among the others, and where there is no other
  pub refusal_24 : (read (0x10000008 ∷ 0x20000000 ∷ 0x50000002 ∷ []) ≡ refused 24 0)
      × (read (0x10000001 ∷ 0x10000001 ∷ 0x10000001 ∷ 0x20000000 ∷ 0x30000002 ∷ 0x40000002 ∷ 0x50000006 ∷ []) ≡ refused 24 0)
      × (read (0x10000001 ∷ 0x10000001 ∷ 0x10000001 ∷ 0x20000000 ∷ 0x30000000 ∷ 0x40000000 ∷ 0x50000006 ∷ []) ≡ refused 24 1)
      × (read (0x10000001 ∷ 0x10000001 ∷ 0x10000001 ∷ 0x20000000 ∷ 0x30000000 ∷ 0x30000001 ∷ 0x40000000 ∷ 0x40000001 ∷ 0x50000008 ∷ []) ≡ refused 24 2)
      × (read (replicate 16 0x10000001 ++ (replicate 8 0x20000000 ++ (0x50000018 ∷ []))) ≡ refused 24 0)
  -- one that only the last of three tasks claims is claimed
  pub within_24 : read (0x10000001 ∷ 0x10000002 ∷ 0x20000000 ∷ 0x30000000 ∷ 0x40000000 ∷ 0x20000000 ∷ 0x20000000 ∷ 0x30000001 ∷ 0x40000001 ∷ 0x50000009 ∷ [])
      ≡ given (record { capacities = 1 ∷ 2 ∷ []; tasks = turn ∷ [] ∷ (claim 1 0 ∷ release 1 ∷ []) ∷ [] })
  -- after 11, and before 12
  pub between_24 : (read (0x10000001 ∷ 0x20000000 ∷ []) ≡ refused 11 2)
      × (read (0x10000001 ∷ 0x10000001 ∷ 0x20000000 ∷ times 127 turn_words (0x20000000 ∷ times 127 turn_words (0x20000000 ∷ times 1 turn_words (0x50000203 ∷ [])))) ≡ refused 24 1)
  -- by the former rules the first set of refusal-24 is accepted, and the last of between-24 is 12
  pub formerly : (read_by former (0x10000008 ∷ 0x20000000 ∷ 0x50000002 ∷ []) ≡ given (record { capacities = 8 ∷ []; tasks = [] ∷ [] }))
      × (read_by former (0x10000001 ∷ 0x10000001 ∷ 0x20000000 ∷ times 127 turn_words (0x20000000 ∷ times 127 turn_words (0x20000000 ∷ times 1 turn_words (0x50000203 ∷ [])))) ≡ refused 12 515)
  -- the first faulty word counts, not the lowest number: 9 before a later 4, and 28 before a later 4
  pub first-fault : (read (0x10000001 ∷ 0x20000000 ∷ 0x40000000 ∷ 0x00000000 ∷ []) ≡ refused 9 2)
      × (read (0x10000001 ∷ 0x20000000 ∷ 0x30010000 ∷ 0x00000000 ∷ []) ≡ refused 28 2)
