-- The holds say what a walk over the actions says: how many units of device d are held after k of them.
use Prim.Native.Nat.{ℕ, zero, suc, max, ◌+◌, ◌≤◌}
use native.Mathlib.Omega.{arith}
use mathlib.Core.Path.{◌≡◌, refl, sym, ap, ◌∙◌}
use mathlib.Core.Bool.{true, false, not, cond}
use mathlib.Core.List.{[], ◌∷◌, ◌++◌}
use lib.ListN.{length, take}
use lib.Dec.{eqb, ltb, leb}
use borrow.Author.Tests.{le-leb, lt-leb, lt-ltb, not-true, ltb-false}
use Rattle.model.specs.Set.{claim, release, Task, balanced}
use Rattle.model.specs.Read.{held_after}
use Rattle.model.specs.Hold.{held_to, holds_from, holds, units_at}
use Rattle.model.proofs.Bools.{by_bool, and-true}
use Rattle.model.proofs.Holds.{not-before}

-- the units of device d held after these actions, where n were held before
unfoldable pub units_after : ℕ → ℕ → Task → ℕ
units_after d n [] = n
units_after d n (claim e u ∷ rest) = units_after d (cond (eqb e d) (suc u) n) rest
units_after d n (release e ∷ rest) = units_after d (cond (eqb e d) 0 n) rest

pub units-append : (d n : ℕ) (t u : Task) → units_after d n (t ++ u) ≡ units_after d (units_after d n t) u
unfolding units_after
units-append d n [] u = refl
units-append d n (claim e v ∷ t) u = units-append d (cond (eqb e d) (suc v) n) t u
units-append d n (release e ∷ t) u = units-append d (cond (eqb e d) 0 n) t u

-- a device is held where units of it are
pub units-held : (d n : ℕ) (t : Task) → held_after d (ltb 0 n) t ≡ ltb 0 (units_after d n t)
unfolding units_after held_after
units-held d n [] = refl
units-held d n (claim e u ∷ t) =
    by_bool (eqb e d)
    (λ k. rw k (ap (λ b. held_after d b t) (sym (lt-ltb 0 (suc u) (omega arith))) ∙ units-held d (suc u) t))
    (λ k. rw k (units-held d n t))
units-held d n (release e ∷ t) = by_bool (eqb e d) (λ k. rw k (units-held d 0 t)) (λ k. rw k (units-held d n t))

-- one action on, where m units are then held
after-claim : (d e u n m : ℕ) (rest : Task) → cond (eqb e d) (suc u) n ≡ m → units_after d m rest ≡ units_after d n (claim e u ∷ rest)
unfolding units_after
after-claim d e u n m rest q = ap (λ k. units_after d k rest) (sym q)

after-release : (d e n m : ℕ) (rest : Task) → cond (eqb e d) 0 n ≡ m → units_after d m rest ≡ units_after d n (release e ∷ rest)
unfolding units_after
after-release d e n m rest q = ap (λ k. units_after d k rest) (sym q)

-- held from now on, to this position or a later one
pub held_to-le : (d p : ℕ) (task : Task) → p ≤ held_to d p task
unfolding held_to
held_to-le d p [] = omega arith
held_to-le d p (claim e u ∷ rest) = omega (arith, held_to-le d (suc p) rest)
held_to-le d p (release e ∷ rest) = by_bool (eqb e d) (λ k. rw k (omega arith)) (λ k. rw k (omega (arith, held_to-le d (suc p) rest)))

-- what is held now lasts to its release, and the later holds are as listed
walk : (d n p k : ℕ) (task : Task) (q : ℕ) → q ≡ p + k → balanced d (ltb 0 n) task ≡ true → k ≤ length task
    → max (cond (leb q (held_to d p task)) n 0) (units_at (holds_from d p task) q) ≡ units_after d n (take k task)
unfolding balanced units_at holds_from held_to units_after
walk d n p zero task q e b l =
    let to = held_to-le d p task in
    rw (not-before d p task q (omega arith), le-leb q (held_to d p task) (omega arith)) (omega arith)
walk d n p (suc k) [] q e b l = absurd (omega arith)
walk d n p (suc k) (claim c u ∷ rest) q e b l =
    by_bool (eqb c d)
    (λ t.
    let r = and-true (not (ltb 0 n)) (balanced d true rest) (rw t at b) in
    let z : n ≡ 0 = omega (arith, ltb-false 0 n (not-true (ltb 0 n) r.0)) in
    let b' : balanced d (ltb 0 (suc u)) rest ≡ true = rw (lt-ltb 0 (suc u) (omega arith)) r.1 in
    let later = walk d (suc u) (suc p) k rest q (omega arith) b' (omega arith) in
    let more = units_at (holds_from d (suc p) rest) q in
    by_bool (leb q (held_to d (suc p) rest))
    (λ m.
    let same : max (suc u) more ≡ units_after d (suc u) (take k rest) = rw m at later in
    let all : max 0 (max (suc u) more) ≡ units_after d (suc u) (take k rest) = omega arith in
    rw (t, z, le-leb (suc p) q (omega arith), m) (all ∙ after-claim d c u 0 (suc u) (take k rest) (rw t)))
    (λ m.
    let same : max 0 more ≡ units_after d (suc u) (take k rest) = rw m at later in
    let all : max 0 (max 0 more) ≡ units_after d (suc u) (take k rest) = omega arith in
    rw (t, z, le-leb (suc p) q (omega arith), m) (all ∙ after-claim d c u 0 (suc u) (take k rest) (rw t))))
    (λ t. rw t (walk d n (suc p) k rest q (omega arith) (rw t at b) (omega arith) ∙ after-claim d c u n n (take k rest) (rw t)))
walk d n p (suc k) (release c ∷ rest) q e b l =
    by_bool (eqb c d)
    (λ t.
    let r = and-true (ltb 0 n) (balanced d false rest) (rw t at b) in
    let later = walk d 0 (suc p) k rest q (omega arith) r.1 (omega arith) in
    let more = units_at (holds_from d (suc p) rest) q in
    by_bool (leb q (held_to d (suc p) rest))
    (λ m. let same : max 0 more ≡ units_after d 0 (take k rest) = rw m at later in rw (t, lt-leb q p (omega arith)) (same ∙ after-release d c n 0 (take k rest) (rw t)))
    (λ m. let same : max 0 more ≡ units_after d 0 (take k rest) = rw m at later in rw (t, lt-leb q p (omega arith)) (same ∙ after-release d c n 0 (take k rest) (rw t))))
    (λ t. rw t (walk d n (suc p) k rest q (omega arith) (rw t at b) (omega arith) ∙ after-release d c n n (take k rest) (rw t)))

pub holds-walk : (d k : ℕ) (task : Task) → balanced d false task ≡ true → k ≤ length task → units_at (holds d task) k ≡ units_after d 0 (take k task)
holds-walk d k task b l =
    let all = walk d 0 0 k task k (omega arith) b l in
    let more = units_at (holds d task) k in
    let after = units_after d 0 (take k task) in
    by_bool (leb k (held_to d 0 task))
    (λ m. let same : max 0 more ≡ after = rw m at all in omega arith)
    (λ m. let same : max 0 more ≡ after = rw m at all in omega arith)
