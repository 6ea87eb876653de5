-- The action of a word, by its kind and field.
use Prim.Native.Nat.{ℕ, suc, ◌<◌}
use native.Mathlib.Omega.{arith}
use mathlib.Core.Path.{◌≡◌, refl, sym, ◌∙◌}
use mathlib.Core.Bool.{Bool, true, false, cond}
use lib.Dec.{eqb}
use Rattle.model.specs.Set.{Action, claim, release, device_of, is_claim, units_taken}
use Rattle.model.specs.Layout.{word, kind_of, field_of, device_bits, extra_bits, CLAIM, RELEASE, claim_field, action_word, action_of}
use Rattle.model.specs.Clean.{renamed}

-- a claim's field has units beside its device
abbrev by_field : Bool → ℕ → Action
by_field b f = cond b (claim (device_bits f) (extra_bits f)) (release f)

is-claim : (b : Bool) (f : ℕ) → is_claim (by_field b f) ≡ b
unfolding is_claim
is-claim true f = refl
is-claim false f = refl

names : (b : Bool) (f : ℕ) → device_of (by_field b f) ≡ cond b (device_bits f) f
unfolding device_of
names true f = refl
names false f = refl

pub claim-kind : (w : ℕ) → is_claim (action_of w) ≡ eqb (kind_of w) CLAIM
unfolding action_of
claim-kind w = is-claim (eqb (kind_of w) CLAIM) (field_of w)

pub device-field : (w : ℕ) → device_of (action_of w) ≡ cond (is_claim (action_of w)) (device_bits (field_of w)) (field_of w)
unfolding action_of
device-field w = rw (claim-kind w) (names (eqb (kind_of w) CLAIM) (field_of w))

-- a device below 16 is in the lowest bits of its word, whatever the action
pub device-low : (w : ℕ) → device_of (action_of w) < 16 → device_bits w ≡ device_of (action_of w)
device-low w h = low (is_claim (action_of w)) refl
  where
    low : (b : Bool) → b ≡ is_claim (action_of w) → device_bits w ≡ device_of (action_of w)
    low true e = let d : device_of (action_of w) ≡ device_bits (field_of w) = device-field w ∙ rw (sym e) in omega arith
    low false e = let d : device_of (action_of w) ≡ field_of w = device-field w ∙ rw (sym e) in omega arith

-- the extra units of a word are those of its field
extra-field : (w : ℕ) → extra_bits (field_of w) ≡ extra_bits w
extra-field w = omega arith

-- a claim takes the units of its word
pub claim-units : (w : ℕ) → is_claim (action_of w) ≡ true → units_taken (action_of w) ≡ suc (extra_bits w)
unfolding action_of units_taken
claim-units w e = let k = sym (claim-kind w) ∙ e in rw (k, extra-field w)

-- an action's word with another number d for its device
with_number : (b : Bool) (f d : ℕ) → action_word (renamed (λ e. d) (by_field b f)) ≡ cond b (word CLAIM (claim_field d (extra_bits f))) (word RELEASE d)
unfolding renamed action_word
with_number true f d = refl
with_number false f d = refl

pub number-field : (w d : ℕ) → action_word (renamed (λ e. d) (action_of w)) ≡ cond (is_claim (action_of w)) (word CLAIM (claim_field d (extra_bits w))) (word RELEASE d)
unfolding action_of
number-field w d = rw (claim-kind w, ← extra-field w) (with_number (eqb (kind_of w) CLAIM) (field_of w) d)
