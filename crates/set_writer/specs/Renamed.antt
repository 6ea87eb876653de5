-- The words of a set's tasks with other numbers for the devices.
use Rattle.std.specs.Prelude.{ℕ, ◌<◌, ◌≡◌, cond, List, length, eqb}
use Rattle.model.specs.Set.{device_of, at}
use Rattle.model.specs.Layout.{kind_of, TASK, action_word, action_of}
use Rattle.model.specs.Clean.{renamed}

-- a TASK stays; an action names the device by its new number
unfoldable pub renamed_word : (ℕ → ℕ) → ℕ → ℕ
renamed_word f w = cond (eqb (kind_of w) TASK) w (action_word (renamed f (action_of w)))

-- each word but TASK names one of 16 devices
abbrev pub Named : List ℕ → Type 0
Named ws = (i : ℕ) → i < length ws → (kind_of (at ws i) ≡ TASK → ⊥) → device_of (action_of (at ws i)) < 16
