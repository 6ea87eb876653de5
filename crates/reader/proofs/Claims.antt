-- Which devices the tasks claim: after one more task, and after one more action, which names a device that is claimed then.
use Prim.Native.Nat.{ℕ, ◌≤◌}
use mathlib.Core.Path.{◌≡◌, refl, ◌∙◌}
use mathlib.Core.List.{List, [], ◌∷◌, ◌++◌}
use mathlib.Core.Bool.{Bool, true, false, ◌||◌, or-false as or_nothing}
use native.Mathlib.Nat.{not-suc-le-zero}
use native.Mathlib.Omega.{arith}
use borrow.Author.Tests.{eq-eqb, ne_eqb}
use lib.ListN.{length, set}
use lib.Dec.{eqb}
use Rattle.model.specs.Below.{tabulate}
use Rattle.model.specs.Set.{Action, claim, release, Task, claims, claimed}
use Rattle.model.specs.Layout.{device_bits}
use Rattle.model.specs.Read.{last_task, add_action, held_after}
use Rattle.model.proofs.Bools.{by_bool, true-not-false, or_right}
use Rattle.model.proofs.Lists.{tabulate-set}
use Rattle.reader.proofs.LastTask.{act, named}

-- what is held was claimed
held-claims : (d : ℕ) (t : Task) → held_after d false t ≡ true → claims d t ≡ true
unfolding held_after claims
held-claims d [] h = true-not-false false h refl
held-claims d (claim e u ∷ t) h = by_bool (eqb e d) (λ k. rw k) (λ k. rw k (held-claims d t (rw k at h)))
held-claims d (release e ∷ t) h = held-claims d t (by_bool (eqb e d) (λ k. rw k at h) (λ k. rw k at h))

claimed-last : (d : ℕ) (ts : List Task) → 1 ≤ length ts → claims d (last_task ts) ≡ true → claimed ts d ≡ true
unfolding last_task claimed
claimed-last d [] some c = absurd (not-suc-le-zero some)
claimed-last d (t ∷ []) some c = rw c
claimed-last d (t ∷ u ∷ ts) some c = or_right (claims d t) _ (claimed-last d (u ∷ ts) (omega arith) c)

-- ---- one more task, which has no action yet
pub claimed-open : (d : ℕ) (ts : List Task) → claimed (ts ++ ([] ∷ [])) d ≡ claimed ts d
unfolding claimed claims
claimed-open d [] = refl
claimed-open d (t ∷ ts) = rw (claimed-open d ts)

-- ---- one more action
or_apart : (a b c : Bool) → (a || (b || c)) ≡ (b || (a || c))
or_apart true true c = refl
or_apart true false c = refl
or_apart false true c = refl
or_apart false false c = refl

claims-append : (d : ℕ) (t : Task) (a : Action) → claims d (t ++ (a ∷ [])) ≡ (claims d (a ∷ []) || claims d t)
unfolding claims
claims-append d [] a = rw or_nothing
claims-append d (claim c u ∷ t) a = rw (claims-append d t a) (or_apart (eqb c d) (claims d (a ∷ [])) (claims d t))
claims-append d (release c ∷ t) a = claims-append d t a

claimed-act : (d : ℕ) (ts : List Task) (a : Action) → 1 ≤ length ts → claimed (add_action ts a) d ≡ (claims d (a ∷ []) || claimed ts d)
unfolding add_action claimed
claimed-act d [] a some = absurd (not-suc-le-zero some)
claimed-act d (t ∷ []) a some = rw (claims-append d t a) (simp or_nothing)
claimed-act d (t ∷ u ∷ ts) a some =
    rw (claimed-act d (u ∷ ts) a (omega arith)) (or_apart (claims d t) (claims d (a ∷ [])) (claimed (u ∷ ts) d))

-- its device is claimed then, since a release is one of what is held
pub claimed-named : (ts : List Task) (b : Bool) (f : ℕ) → 1 ≤ length ts → (b ≡ false → held_after (named b f) false (last_task ts) ≡ true)
    → set (tabulate 16 (claimed ts)) (named b f) true ≡ tabulate 16 (claimed (add_action ts (act b f)))
unfolding act claims
claimed-named ts b f some may =
    tabulate-set 16 (named b f) true (claimed ts) (claimed (add_action ts (act b f)))
    (claimed-act (named b f) ts (act b f) some ∙ here b may)
    λ d n. claimed-act d ts (act b f) some ∙ other b d n
  where
    here : (c : Bool) → (c ≡ false → held_after (named c f) false (last_task ts) ≡ true) → (claims (named c f) (act c f ∷ []) || claimed ts (named c f)) ≡ true
    here true m = rw (eq-eqb (device_bits f) (device_bits f) refl)
    here false m = claimed-last f ts some (held-claims f (last_task ts) (m refl))

    other : (c : Bool) (d : ℕ) → (named c f ≡ d → ⊥) → (claims d (act c f ∷ []) || claimed ts d) ≡ claimed ts d
    other true d n = rw (ne_eqb (device_bits f) d n)
    other false d n = refl
