-- The number that a word brings after what the code has noted, by its kind: that of the first rule that it breaks, 0 if none. By `proofs/FaultLaws` it is the model's.
use Rattle.std.specs.Prelude.{ℕ, suc, ◌-◌, Bool, true, false, not, cond, ◌&&◌, List, get_or, eqb, ltb, leb, Option, Some, None}
use Rattle.std.specs.Bool.{beq}
use Rattle.model.specs.Below.{any}
use Rattle.model.specs.Set.{at}
use Rattle.model.specs.Layout.{device_bits, extra_bits, DEVICE, TASK, CLAIM, RELEASE, END}
use Rattle.refusals.specs.declared.Reason.{Reason}
use Rattle.refusals.specs.Answers.{number_of}
use Rattle.reader.specs.declared.scan.Scan.{Scan}

-- the number of a fault that the code found, 0 if it found none
unfoldable pub fault_number : Option Reason → ℕ
fault_number None = 0
fault_number (Some reason) = number_of reason

-- some device is held
abbrev pub some_held : List Bool → Bool
some_held held = any 16 (λ d. get_or held d false)

-- DEVICE of field f, after so many devices and tasks
unfoldable pub device_fault : ℕ → ℕ → ℕ → ℕ
device_fault devices tasks f = cond (ltb 0 tasks) 5 (cond (not (leb 1 f && leb f 8)) 6 (cond (leb 16 devices) 7 0))

-- TASK of field f, after so many tasks
unfoldable pub task_fault : ℕ → List Bool → ℕ → ℕ
task_fault tasks held f = cond (not (eqb f 0)) 6 (cond (leb 8 tasks) 7 (cond (some_held held) 10 0))

-- CLAIM (b) or RELEASE of a device that is held (h) or not
unfoldable pub held_fault : Bool → Bool → ℕ
held_fault h b = cond (beq h b) (cond b 8 9) 0

-- CLAIM (b) or RELEASE of field f, which is no declared device alone, in a task of l actions, after devices of capacities cs
unfoldable pub units_fault : ℕ → List ℕ → ℕ → List Bool → Bool → ℕ → ℕ
units_fault devices cs l held b f =
    cond (not b) 6
    (cond (not (ltb f 0x1000000 && ltb (device_bits f) devices)) 6
    (cond (leb 255 l) 7
    (cond (ltb (at cs (device_bits f)) (suc (extra_bits f))) 28
    (held_fault (get_or held (device_bits f) false) true))))

-- of any field f
unfoldable pub action_fault : ℕ → List ℕ → ℕ → ℕ → List Bool → Bool → ℕ → ℕ
action_fault devices cs tasks l held b f =
    cond (eqb tasks 0) 5
    (cond (not (ltb f devices)) (units_fault devices cs l held b f)
    (cond (leb 255 l) 7
    (held_fault (get_or held f false) b)))

-- END of field f at index i
unfoldable pub end_fault : ℕ → ℕ → List Bool → ℕ → ℕ
end_fault tasks i held f = cond (eqb tasks 0) 5 (cond (not (eqb f i)) 6 (cond (some_held held) 10 0))

-- the word of kind k and field f at index i, before any END
unfoldable pub word_fault : Scan → ℕ → ℕ → ℕ → ℕ
word_fault s i k f =
    let acts = action_fault s.devices s.capacities s.tasks (at s.lengths (s.tasks - 1)) s.held in
    cond (eqb k DEVICE) (device_fault s.devices s.tasks f)
    (cond (eqb k TASK) (task_fault s.tasks s.held f)
    (cond (eqb k CLAIM) (acts true f)
    (cond (eqb k RELEASE) (acts false f)
    (cond (eqb k END) (end_fault s.tasks i s.held f)
    4))))
