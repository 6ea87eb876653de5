-- Open, unsafe and dead states are what SCOPE.md, "Map", says, and so is each byte of a slice that carries the map.
use Prim.Native.Nat.{ℕ, zero, suc, ◌+◌, ◌<◌, ◌≤◌}
use native.Mathlib.Omega.{arith}
use mathlib.Core.Path.{◌≡◌, refl, sym}
use mathlib.Core.Logic.Iff
use mathlib.Core.Logic.{◌↔◌, ◌⊎◌, inl, inr}
use mathlib.Core.Bool.{Bool, true, false}
use mathlib.Core.List.{List, [], ◌∷◌, ◌++◌}
use lib.ListN.{length}
use lib.Dec.{eqb}
use borrow.Author.Tests.{eqb-true, eqb-false, ltb-true, lt-ltb}
use Rattle.model.specs.Below.{any}
use Rattle.model.specs.Set.{Set, lengths_of, at}
use Rattle.model.specs.State.{State, InGrid, next, unfinished, start, is_end, sum, rank}
use Rattle.model.specs.Hold.{permitted}
use Rattle.model.specs.Run.{CanEnd, is-end, step, Reached, at_start, step_on, allowed, Open, Dead}
use Rattle.model.specs.Map.{Byte, bytes, map_of}
use Rattle.model.proofs.Bools.{by_bool, true-not-false, and-true, any-true, any_false}
use Rattle.model.proofs.States.{unfinished-task, next-grid, start_grid}
use Rattle.model.proofs.StartOpen.{start-permitted}
use Rattle.model.proofs.Ranks.{rank_lt}
use Rattle.model.proofs.Sums.{sum-next, sum_lt}
use Rattle.model.proofs.Byte.{dead_unsafe}
use Rattle.model.proofs.MapExact.{map-right}
use Rattle.model.proofs.Records.{Carries}
use Rattle.demands.specs.MapDemand.{Leads, ReachesEnd, IsReached, no_step_made, one_step_more, IsDead, IsOpen, IsUnsafe, Bytes, MapDemand}
use Rattle.demands.proofs.StatesHold.{before-end, of-states}

module _ (s : Set) where
  abbrev ls : List ℕ
  ls = lengths_of s

  -- a step that stands in a list of steps
  left : (x : State) (t : ℕ) → at x t < at ls t → unfinished ls x t ≡ true
  left x t h = lt-ltb (at x t) (at ls t) h

  can-reach : (x : State) → InGrid ls x → CanEnd ls (permitted s) x → ReachesEnd s x
  can-reach x g (is-end e) = ([], ((of-states ls).end x g).0 e)
  can-reach x g (step t a c) =
      let q = and-true (unfinished ls x t) (permitted s (next x t)) a in
      let r = can-reach (next x t) (next-grid ls x g t q.0) c in
      (t ∷ r.0, (ltb-true (at x t) (at ls t) q.0, q.1, r.1))

  reach-can : (x : State) → InGrid ls x → (ts : List ℕ) → Leads s x ts ls → CanEnd ls (permitted s) x
  reach-can x g [] e = is-end (((of-states ls).end x g).1 e)
  reach-can x g (t ∷ ts) l =
      let u = left x t l.0 in
      step {x = x} t (rw (u, l.1)) (reach-can (next x t) (next-grid ls x g t u) ts l.2)

  pub can_end : (x : State) → InGrid ls x → CanEnd ls (permitted s) x ↔ ReachesEnd s x
  can_end x g = (can-reach x g, (λ r. reach-can x g r.0 r.1))

  dead-is : (x : State) → InGrid ls x → Dead ls (permitted s) x → IsDead s x
  dead-is x g d = record {
    is_permitted = d.is_permitted;
    not_the_end = λ e. true-not-false (is_end ls x) (((of-states ls).end x g).1 e) d.not_the_end;
    no_step = λ t h. by_bool (permitted s (next x t)) (λ p. absurd (d.no_step t (rw (left x t h, p)))) (λ p. p);
  }

  is-dead : (x : State) → InGrid ls x → IsDead s x → Dead ls (permitted s) x
  is-dead x g d = record {
    is_permitted = d.is_permitted;
    not_the_end = before-end ls x g d.not_the_end;
    no_step = λ t a.
        let q = and-true (unfinished ls x t) (permitted s (next x t)) a in
        true-not-false (permitted s (next x t)) q.1 (d.no_step t (ltb-true (at x t) (at ls t) q.0));
  }

  pub dead-both : (x : State) → InGrid ls x → Dead ls (permitted s) x ↔ IsDead s x
  dead-both x g = (dead-is x g, is-dead x g)

  -- reached, by the two definitions
  reached-is : {x : State} → Reached ls (permitted s) x → IsReached s x
  reached-is at_start = no_step_made
  reached-is (step_on {x} t r a) =
      let q = and-true (unfinished ls x t) (permitted s (next x t)) a in
      one_step_more {x = x} t (reached-is r) (ltb-true (at x t) (at ls t) q.0) q.1

  is-reached : {x : State} → IsReached s x → Reached ls (permitted s) x
  is-reached no_step_made = at_start
  is-reached (one_step_more {x} t r l p) = step_on {x = x} t (is-reached r) (rw (left x t l, p))

  pub reached-both : (x : State) → Reached ls (permitted s) x ↔ IsReached s x
  reached-both x = (reached-is, is-reached)

  -- and by a list of steps: one more at its end, and all of them after a state that is reached
  leads-more : (x : State) (ts : List ℕ) (y : State) (t : ℕ) → Leads s x ts y → at y t < at ls t → permitted s (next y t) ≡ true → Leads s x (ts ++ (t ∷ [])) (next y t)
  leads-more x [] y t e l p = rw e (l, p, refl)
  leads-more x (u ∷ ts) y t e l p = (e.0, e.1, leads-more (next x u) ts y t e.2 l p)

  reached-leads : {x : State} → IsReached s x → (ts : List ℕ) × Leads s (start ls) ts x
  reached-leads no_step_made = ([], refl)
  reached-leads (one_step_more {x} t r l p) = let (ts, e) = reached-leads r in (ts ++ (t ∷ []), leads-more (start ls) ts x t e l p)

  leads-reached : (x : State) (ts : List ℕ) (y : State) → IsReached s x → Leads s x ts y → IsReached s y
  leads-reached x [] y r e = rw (sym e) r
  leads-reached x (t ∷ ts) y r e = leads-reached (next x t) ts y (one_step_more {x = x} t r e.0 e.1) e.2

  abbrev some_allowed : State → Bool
  some_allowed x = any (length ls) (allowed ls (permitted s) x)

  -- an unsafe state without an allowed step is dead
  stuck : (x : State) → IsUnsafe s x → some_allowed x ≡ false → IsDead s x
  stuck x u e = record {
    is_permitted = u.0;
    not_the_end = λ q. u.1 ([], q);
    no_step = λ t l.
        by_bool (permitted s (next x t))
        (λ p. true-not-false (allowed ls (permitted s) x t) (rw (left x t l, p))
        (any_false (length ls) (allowed ls (permitted s) x) e t (unfinished-task ls x t (left x t l))))
        (λ p. p);
  }

  -- and with one it steps to an unsafe state, until no action is left
  unsafe_dead : (k : ℕ) (x : State) → InGrid ls x → sum ls ≤ sum x + k → IsUnsafe s x → (ts : List ℕ) × (y : State) × Leads s x ts y × IsDead s y
  unsafe_dead zero x g h u =
      by_bool (some_allowed x)
      (λ e.
      let r = any-true (length ls) (allowed ls (permitted s) x) e in
      let q = and-true (unfinished ls x r.0) (permitted s (next x r.0)) r.2 in
      absurd (omega (arith, sum_lt ls x g r.0 (ltb-true (at x r.0) (at ls r.0) q.0))))
      (λ e. ([], x, refl, stuck x u e))
  unsafe_dead (suc k) x g h u =
      by_bool (some_allowed x)
      (λ e.
      let r = any-true (length ls) (allowed ls (permitted s) x) e in
      let t = r.0 in
      let q = and-true (unfinished ls x t) (permitted s (next x t)) r.2 in
      let l = ltb-true (at x t) (at ls t) q.0 in
      let n = next-grid ls x g t q.0 in
      let on = unsafe_dead k (next x t) n (omega (arith, sum-next x t (omega (arith, g.count)))) (q.1, λ w. u.1 (t ∷ w.0, (l, q.1, w.1))) in
      (t ∷ on.0, on.1, (l, q.1, on.2), on.3))
      (λ e. ([], x, refl, stuck x u e))

  -- a reached state is a permitted one of the grid
  reached-permitted : {x : State} → IsReached s x → InGrid ls x × (permitted s x ≡ true)
  reached-permitted no_step_made = (start_grid ls, start-permitted s)
  reached-permitted (one_step_more {x} t r l p) = (next-grid ls x (reached-permitted r).0 t (left x t l), p)

  -- a reached state that isn't open is unsafe, and leads to a dead one, which is reached too
  none_reached : ((y : State) → IsReached s y → IsDead s y → ⊥) → (x : State) → IsReached s x → IsOpen s x
  none_reached none x r =
      let (g, p) = reached-permitted r in
      let says = map-right ls (permitted s) x g in
      let byte = at (bytes ls (permitted s)) (rank ls x) in
      let unsafe : (CanEnd ls (permitted s) x → ⊥) → ⊥ = λ u.
      let (ts, y, leads, dead) = unsafe_dead (sum ls) x g (omega arith) (p, λ w. u ((can_end x g).1 w)) in
      none y (leads-reached x ts y r leads) dead in
      by_bool (eqb byte 0) (λ e. let o = says.open_state.0 (eqb-true byte 0 e) in (p, (can_end x g).0 o.1)) λ e.
      absurd (unsafe λ c. eqb-false byte 0 e (says.open_state.1 (p, c)))

-- an open state, by the definitions of Run and by its steps
pub open-both : (s : Set) (x : State) → InGrid (lengths_of s) x → Open (lengths_of s) (permitted s) x ↔ IsOpen s x
open-both s x g = let c = can_end s x g in ((λ o. (o.0, c.0 o.1)), (λ o. (o.0, c.1 o.1)))

-- a slice that carries the map of a set has the right byte for each state
pub bytes-right : (s : Set) (m : List ℕ) → Carries s m → Bytes s m
bytes-right s m lent = record {
  forbidden = λ x g. (says x g).forbidden;
  dead = λ x g. Iff.trans (says x g).dead (dead-both s x g);
  unsafe = λ x g.
      let c = can_end s x g in
      let d = dead-both s x g in
      Iff.trans (says x g).unsafe
      ((λ u. ((u.0.0, λ r. u.0.1 (c.1 r)), λ e. u.1 (d.1 e))), (λ u. ((u.0.0, λ r. u.0.1 (c.0 r)), λ e. u.1 (d.0 e))));
  open_state = λ x g. Iff.trans (says x g).open_state (open-both s x g);
  no_other = λ x g. (says x g).small;
}
  where
    says : (x : State) → InGrid (lengths_of s) x → Byte (lengths_of s) (permitted s) x (at m (rank (lengths_of s) x))
    says x g = rw (lent.same (rank (lengths_of s) x) (rank_lt (lengths_of s) x g)) (map-right (lengths_of s) (permitted s) x g)

pub map-demand : MapDemand
map-demand = record {
  map_bytes = λ s. bytes-right s (map_of s) (record { room = omega arith; same = λ r h. refl });
  can_end = can_end;
  dead = dead-both;
  reached = reached-both;
  reached_by = λ s x. (reached-leads s, λ l. leads-reached s (start (lengths_of s)) l.0 x no_step_made l.1);
  dead_unsafe = λ s x g d. (d.is_permitted, (λ r. dead_unsafe (lengths_of s) (permitted s) x (is-dead s x g d) ((can_end s x g).1 r)));
  unsafe_dead = λ s x g. unsafe_dead s (sum (lengths_of s)) x g (omega arith);
  none_reached = none_reached;
}

-- the bytes of unsafe states are 2 and 3
module _ (s : Set) (m : List ℕ) (b : Bytes s m) (x : State) (g : InGrid (lengths_of s) x) where
  abbrev own : ℕ
  own = at m (rank (lengths_of s) x)

  pub unsafe-byte : IsUnsafe s x → (own ≡ 2) ⊎ (own ≡ 3)
  unsafe-byte u =
      let not-open : own ≡ 0 → ⊥ = λ e. u.1 ((b.open_state x g).0 e).1 in
      let not-forbidden : own ≡ 1 → ⊥ = λ e. true-not-false (permitted s x) u.0 ((b.forbidden x g).0 e) in
      by_bool (eqb own 2) (λ e. inl (eqb-true own 2 e)) (λ e. inr (omega (arith, b.no_other x g, not-open, not-forbidden, eqb-false own 2 e)))

  pub byte-unsafe : (own ≡ 2) ⊎ (own ≡ 3) → IsUnsafe s x
  byte-unsafe (inl e) = ((b.unsafe x g).0 e).0
  byte-unsafe (inr e) = map-demand.dead_unsafe s x g ((b.dead x g).0 e)
