-- What a task holds after its actions, and the task opened last.
use Prim.Native.Nat.{ℕ, zero, suc, ◌+◌, ◌<◌, ◌≤◌}
use native.Mathlib.Omega.{arith}
use native.Mathlib.Nat.{le_of_suc-le-suc}
use mathlib.Core.Path.{◌≡◌, refl, sym, ap, ◌∙◌}
use mathlib.Core.Bool.{Bool, true, false, not, ◌&&◌, ◌||◌}
use mathlib.Core.List.{List, [], ◌∷◌, ◌++◌}
use lib.ListN.{length, get_or, length-append}
use lib.Dec.{eqb}
use borrow.Author.Tests.{ne_eqb, not-true}
use Rattle.model.specs.Set.{Action, claim, release, device_of, units_taken, Task, at, balanced}
use Rattle.model.specs.Read.{last_task, add_action, held_after}
use Rattle.model.proofs.Bools.{by_bool, and-true}

-- each element of a list, read by its place, has the property
abbrev pub EachPlace : {A : Type 0} → (A → Type 0) → List A → A → Type 0
EachPlace P l z = (p : ℕ) → p < length l → P (get_or l p z)

pub place-added : {A : Type 0} (P : A → Type 0) (l : List A) (a z : A) → EachPlace P l z → P a → EachPlace P (l ++ (a ∷ [])) z
place-added P [] a z h q zero k = q
place-added P [] a z h q (suc p) k = absurd (omega arith)
place-added P (b ∷ l) a z h q zero k = h 0 (omega arith)
place-added P (b ∷ l) a z h q (suc p) k = place-added P l a z (λ i m. h (suc i) (omega arith)) q p (le_of_suc-le-suc k)

-- every action names one of n devices
abbrev pub Declared : ℕ → Task → Type 0
Declared n t = EachPlace (λ a. device_of a < n) t (claim 0 0)

-- none takes more units than its device has
abbrev pub WithinUnits : List ℕ → Task → Type 0
WithinUnits cs t = EachPlace (λ a. units_taken a ≤ at cs (device_of a)) t (claim 0 0)

-- ---- the task opened last
pub count_add : (ts : List Task) (t : Task) → length (ts ++ (t ∷ [])) ≡ length ts + 1
count_add ts t = length-append ts (t ∷ [])

pub last-added : (ts : List Task) (t : Task) → last_task (ts ++ (t ∷ [])) ≡ t
unfolding last_task
last-added [] t = refl
last-added (u ∷ []) t = refl
last-added (u ∷ v ∷ ts) t = last-added (v ∷ ts) t

pub action-added : (ts : List Task) (t : Task) (a : Action) → add_action (ts ++ (t ∷ [])) a ≡ ts ++ ((t ++ (a ∷ [])) ∷ [])
unfolding add_action
action-added [] t a = refl
action-added (u ∷ []) t a = refl
action-added (u ∷ v ∷ ts) t a = ap {B = List Task} (λ l. u ∷ l) (action-added (v ∷ ts) t a)

-- ---- what is held after some actions
pub held-append : (d : ℕ) (h : Bool) (t u : Task) → held_after d h (t ++ u) ≡ held_after d (held_after d h t) u
unfolding held_after
held-append d h [] u = refl
held-append d h (claim e v ∷ t) u = held-append d (eqb e d || h) t u
held-append d h (release e ∷ t) u = held-append d (not (eqb e d) && h) t u

-- a device that no action names stays as it was
pub held-unnamed : (n d : ℕ) (h : Bool) (t : Task) → n ≤ d → Declared n t → held_after d h t ≡ h
unfolding held_after device_of
held-unnamed n d h [] far ok = refl
held-unnamed n d h (claim e u ∷ t) far ok =
    let below : e < n = ok 0 (omega arith) in
    rw (ne_eqb e d (λ q. omega arith)) (held-unnamed n d h t far (λ p k. ok (suc p) (omega arith)))
held-unnamed n d h (release e ∷ t) far ok =
    let below : e < n = ok 0 (omega arith) in
    rw (ne_eqb e d (λ q. omega arith)) (held-unnamed n d h t far (λ p k. ok (suc p) (omega arith)))

-- whether an action wants its device held
unfoldable pub releases : Action → Bool
releases (claim d e) = false
releases (release d) = true

-- ---- one action of a balanced task
pub balanced-on : (d : ℕ) (h : Bool) (a : Action) (u : Task) → (eqb (device_of a) d ≡ true → h ≡ releases a)
    → balanced d h (a ∷ u) ≡ balanced d (held_after d h (a ∷ [])) u
unfolding balanced held_after releases device_of
balanced-on d h (claim e v) u ok = by_bool (eqb e d) (λ k. rw (k, ok k)) (λ k. rw k)
balanced-on d h (release e) u ok = by_bool (eqb e d) (λ k. rw (k, ok k)) (λ k. rw k)

pub balanced-first : (d : ℕ) (h : Bool) (a : Action) (u : Task) → balanced d h (a ∷ u) ≡ true → eqb (device_of a) d ≡ true → h ≡ releases a
unfolding balanced releases device_of
balanced-first d h (claim e v) u b k = not-true h (and-true (not h) (balanced d true u) (rw k at b)).0
balanced-first d h (release e) u b k = (and-true h (balanced d false u) (rw k at b)).0

pub balanced-next : (d : ℕ) (h : Bool) (a : Action) (u : Task) → balanced d h (a ∷ u) ≡ true → balanced d (held_after d h (a ∷ [])) u ≡ true
balanced-next d h a u b = sym (balanced-on d h a u (balanced-first d h a u b)) ∙ b

-- at its close it holds nothing
pub balanced-close : (d : ℕ) (h : Bool) (t : Task) → balanced d h t ≡ true → held_after d h t ≡ false
unfolding balanced held_after
balanced-close d h [] b = not-true h b
balanced-close d h (a ∷ t) b =
    held-append d h (a ∷ []) t ∙ balanced-close d (held_after d h (a ∷ [])) t (balanced-next d h a t b)
