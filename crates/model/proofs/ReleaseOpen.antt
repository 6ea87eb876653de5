-- A release is always safe: from an open state it leads to an open state, since in a run to the end it can be moved to the front.
use Prim.Native.Nat.{ℕ, zero, suc, ◌<◌, ◌≤◌}
use native.Mathlib.Omega.{arith}
use mathlib.Core.Path.{◌≡◌, refl, sym, ap, ◌∙◌}
use mathlib.Core.Bool.{true, false, cond}
use mathlib.Core.List.{List, [], ◌∷◌, ◌++◌}
use lib.ListN.{length, get_or, take, length-map, get_or-map}
use lib.Seq.{take-suc}
use lib.Dec.{eqb}
use borrow.Author.Tests.{ltb-true, eqb-true, eqb-false}
use Rattle.model.specs.Set.{claim, release, Task, Set, lengths_of, task_at, action_at, at, balanced}
use Rattle.model.specs.Layout.{Rules, WellFormedBy}
use Rattle.model.specs.State.{State, InGrid, next, unfinished}
use Rattle.model.specs.Hold.{holds, units_at, held, permitted}
use Rattle.model.specs.Run.{CanEnd, is-end, step, Open}
use Rattle.model.proofs.Bools.{by_bool, and-true}
use Rattle.model.proofs.States.{unfinished-task, end-finished, next-grid, at-next-other}
use Rattle.model.proofs.HoldWalk.{units_after, units-append, holds-walk}
use Rattle.model.proofs.Permitted.{permitted-intro, permitted-fits}

-- steps of two tasks may be taken in either order
pub next-swap : (x : State) (t u : ℕ) → (t ≡ u → ⊥) → next (next x t) u ≡ next (next x u) t
next-swap [] t u n = refl
next-swap (p ∷ x) zero zero n = absurd (n refl)
next-swap (p ∷ x) zero (suc u) n = refl
next-swap (p ∷ x) (suc t) zero n = refl
next-swap (p ∷ x) (suc t) (suc u) n = ap (p ∷◌) (next-swap x t u (λ e. n (ap suc e)))

-- where a step takes no unit of a device, no more of it are held afterwards
held-step : (e : ℕ) (tasks : List Task) (x : State) (t : ℕ)
    → units_at (holds e (get_or tasks t [])) (suc (at x t)) ≤ units_at (holds e (get_or tasks t [])) (at x t) → held e tasks (next x t) ≤ held e tasks x
unfolding held
held-step e [] x t h = omega arith
held-step e (task ∷ tasks) [] t h = omega arith
held-step e (task ∷ tasks) (p ∷ x) zero h = omega arith
held-step e (task ∷ tasks) (p ∷ x) (suc t) h = omega (arith, held-step e tasks x t h)

-- a release takes none
release-units : (e d p : ℕ) (task : Task) → balanced e false task ≡ true → p < length task → get_or task p (claim 0 0) ≡ release d
    → units_at (holds e task) (suc p) ≤ units_at (holds e task) p
unfolding units_after
release-units e d p task b h a =
    let one : take (suc p) task ≡ take p task ++ (release d ∷ []) = take-suc task p (claim 0 0) h ∙ ap (λ c. take p task ++ (c ∷ [])) a in
    let here = holds-walk e p task b (omega arith) in
    let walked : units_at (holds e task) (suc p) ≡ cond (eqb d e) 0 (units_at (holds e task) p) =
    holds-walk e (suc p) task b h ∙ ap (units_after e 0) one ∙ units-append e 0 (take p task) (release d ∷ []) ∙ ap (λ n. cond (eqb d e) 0 n) (sym here) in
    by_bool (eqb d e) (λ q. rw (walked, q) (omega arith)) (λ q. rw (walked, q) (omega arith))

module _ {rules : Rules} (s : Set) (w : WellFormedBy rules s) where
  abbrev ls : List ℕ
  ls = lengths_of s

  module _ (t d : ℕ) where
    -- a release leads from a permitted state to a permitted one
    pub release-permitted : (x : State) → unfinished ls x t ≡ true → action_at s t (at x t) ≡ release d → permitted s x ≡ true → permitted s (next x t) ≡ true
    release-permitted x u a p =
        let task = task_at s t in
        let h = (w.each_task t (omega (arith, length-map s.tasks length, unfinished-task ls x t u))).balance in
        let l : at x t < length task = omega (arith, ltb-true (at x t) (at ls t) u, get_or-map length s.tasks t []) in
        permitted-intro s (next x t) λ e k.
        let units = release-units e d (at x t) task (h e) l a in
        omega (arith, held-step e s.tasks x t units, permitted-fits s x p e k)

    -- and from one that can end to one that can
    release-ends : (x : State) → InGrid ls x → unfinished ls x t ≡ true → action_at s t (at x t) ≡ release d → CanEnd ls (permitted s) x
        → CanEnd ls (permitted s) (next x t)
    release-ends x g u a (is-end e) = absurd (end-finished ls x e t u)
    release-ends x g u a (step v b c) =
        by_bool (eqb v t) (λ q. rw (eqb-true v t q) at c) λ q.
        let n = eqb-false v t q in
        let y = next x v in
        let m = and-true (unfinished ls x v) (permitted s y) b in
        let same : at y t ≡ at x t = at-next-other x v t (λ k. n (sym k)) in
        let u' : unfinished ls y t ≡ true = rw same u in
        let a' : action_at s t (at y t) ≡ release d = rw same a in
        let later = release-ends y (next-grid ls x g v m.0) u' a' c in
        let p = release-permitted y u' a' m.1 in
        let left : unfinished ls (next x t) v ≡ true = rw (at-next-other x t v n) m.0 in
        let swap : next (next x t) v ≡ next y t = next-swap x t v (λ k. n (sym k)) in
        let good : permitted s (next (next x t) v) ≡ true = rw swap p in
        step {x = next x t} v (rw (left, good)) (rw swap later)

    pub release_open : (x : State) → InGrid ls x → unfinished ls x t ≡ true → action_at s t (at x t) ≡ release d → Open ls (permitted s) x
        → Open ls (permitted s) (next x t)
    release_open x g u a o = (release-permitted x u a o.0, release-ends x g u a o.1)
