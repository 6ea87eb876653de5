-- Slices with something written into them: their length, nothing written, one run after another, and what stands at the front.
use mathlib.Core.Path.{◌≡◌, sym, ap, ◌∙◌}
use mathlib.Core.List.{List, [], ◌∷◌, ◌++◌}
use Prim.Native.Nat.{ℕ, suc, ◌+◌, ◌≤◌, ◌<◌}
use native.Mathlib.Nat.{add-zero, add-suc, suc-add}
use native.Mathlib.Omega.{arith}
use lib.ListN.{length, set, drop, length-append}
use lib.Seq.{sets, sets-eq, length-sets}
use Rattle.model.specs.Slice.{over, write}

pub length-write : (p : List ℕ) (a : ℕ) (ws : List ℕ) → a + length ws ≤ length p → length (write p a ws) ≡ length p
length-write p a ws h = ap length (sym (sets-eq ws p a h)) ∙ length-sets p a ws

pub write-none : (p : List ℕ) (a : ℕ) → a ≤ length p → write p a [] ≡ p
write-none p a h = sym (sets-eq [] p a (omega arith))

-- one entry
pub write-one : (p : List ℕ) (a v : ℕ) → a < length p → set p a v ≡ write p a (v ∷ [])
write-one p a v h = sets-eq (v ∷ []) p a (omega arith)

-- at the front
pub write-front : (p ws : List ℕ) → write p 0 ws ≡ over ws p
write-front p ws = let z : 0 + length ws ≡ length ws = omega arith in ap (λ (n : ℕ). ws ++ drop n p) z

sets-append : (p : List ℕ) (a : ℕ) (us vs : List ℕ) → sets p a (us ++ vs) ≡ sets (sets p a us) (a + length us) vs
sets-append p a [] vs = ap (λ (i : ℕ). sets p i vs) (sym (add-zero a))
sets-append p a (u ∷ us) vs =
    sets-append (set p a u) (suc a) us vs
    ∙ ap (λ (i : ℕ). sets (sets (set p a u) (suc a) us) i vs) (suc-add a (length us) ∙ sym (add-suc a (length us)))

pub write_then : (p : List ℕ) (a : ℕ) (us vs : List ℕ) → a + length us + length vs ≤ length p
    → write (write p a us) (a + length us) vs ≡ write p a (us ++ vs)
write_then p a us vs h =
    let e : sets p a us ≡ write p a us = sets-eq us p a (omega arith) in
    ap (λ (l : List ℕ). write l (a + length us) vs) (sym e)
    ∙ sym (sets-eq vs (sets p a us) (a + length us) (omega (arith, length-sets p a us)))
    ∙ sym (sets-append p a us vs)
    ∙ sets-eq (us ++ vs) p a (omega (arith, length-append us vs))

-- the same with the second place by its number
pub write-next : (p : List ℕ) (a : ℕ) (us vs : List ℕ) (b : ℕ) → b ≡ a + length us → a + length us + length vs ≤ length p
    → write (write p a us) b vs ≡ write p a (us ++ vs)
write-next p a us vs b e h = ap (λ (i : ℕ). write (write p a us) i vs) e ∙ write_then p a us vs h
