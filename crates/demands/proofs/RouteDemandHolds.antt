-- The route's demand holds.
use Prim.Native.Nat.{ℕ, ◌+◌, ◌<◌, ◌≤◌}
use native.Mathlib.Omega.{arith}
use mathlib.Core.Path.{◌≡◌, ap, ◌∙◌}
use mathlib.Core.Logic.{◌⊎◌, inl, inr}
use mathlib.Core.List.{List, [], ◌∷◌}
use lib.ListN.{length}
use lib.Dec.{eqb, ltb}
use borrow.Author.Tests.{lt-ltb, ltb-true, ltb-false, eqb-true, eqb-false}
use Rattle.model.specs.Answer.{given, refused}
use Rattle.model.specs.Set.{Set, lengths_of, at, size}
use Rattle.model.specs.State.{State, InGrid, next, sum, rank}
use Rattle.model.specs.Read.{read}
use Rattle.model.specs.Analysis.{analyse}
use Rattle.model.specs.Record.{Record, state_in}
use Rattle.model.specs.Route.{Routed, route}
use Rattle.model.proofs.Bools.{by_bool}
use Rattle.model.proofs.States.{unfinished-task, next-grid}
use Rattle.model.proofs.Sums.{sum-next}
use Rattle.model.proofs.DeadRanks.{map_length}
use Rattle.model.proofs.Records.{Carries}
use Rattle.demands.specs.MapDemand.{Leads, IsOpen, IsUnsafe, Bytes}
use Rattle.demands.specs.Calls.{Unfit, no_route, byte_of, Walk, stops, goes, Walks, OfRoute}
use Rattle.demands.specs.RouteDemand.{actions_left, Arrives, RouteRight, RouteDemand}
use Rattle.demands.proofs.MapDemandHolds.{bytes-right, unsafe-byte, byte-unsafe}
use Rattle.demands.proofs.AnalysesHold.{map-carries}
use Rattle.demands.proofs.CallsHold.{grid, of-route}

module _ (s : Set) (m : List ℕ) (lent : Carries s m) where
  abbrev ls : List ℕ
  ls = lengths_of s

  says : Bytes s m
  says = bytes-right s m lent

  -- a walk from an open state goes through open states, and stops at the end alone
  record Ends (y : State) (ts : List ℕ) (z : State) : Type 0 where
    arrives : Arrives s y ts
    last : z ≡ ls
    count : length ts + sum y ≡ sum ls

  grid-next : (y : State) → InGrid ls y → (t : ℕ) → at y t < at ls t → InGrid ls (next y t)
  grid-next y g t l = next-grid ls y g t (lt-ltb (at y t) (at ls t) l)

  walk_ends : {y z : State} {ts : List ℕ} → Walk s m y ts z → InGrid ls y → IsOpen s y → Ends y ts z
  walk_ends {y} (stops n) g o = at-end o.1.0 o.1.1
    where
      at-end : (ts : List ℕ) → Leads s y ts ls → Ends y [] y
      at-end [] e = record { arrives = e; last = e; count = omega (arith, ap sum e) }
      at-end (t ∷ ts) l = absurd (n t l.0 ((says.open_state (next y t) (grid-next y g t l.0)).1 (l.1, (ts, l.2))))
  walk_ends {y} {z} (goes {ts = ts} t i w) g o =
      let h = grid-next y g t i.left in
      let Open-next = (says.open_state (next y t) h).0 i.lands in
      let r = walk_ends w h Open-next in
      let step = sum-next y t (omega (arith, g.count, unfinished-task ls y t (lt-ltb (at y t) (at ls t) i.left))) in
      record {
        arrives = (i.left, Open-next, (λ u l k q. i.none_smaller u l k ((says.open_state (next y u) (grid-next y g u k)).1 q)), r.arrives);
        last = r.last;
        count = omega (arith, r.count);
      }

module _ (words m : List ℕ) (s : Set) (is_read : read words ≡ given s) (lent : Carries s m) (r : Record) (full : length r.positions ≡ 8)
    (fits : Unfit s r → ⊥) (slice : List ℕ) where
  abbrev x : State
  x = state_in s r

  own-grid : InGrid (lengths_of s) x
  own-grid = grid words s is_read r full fits

  room : size (lengths_of s) ≤ length m
  room = omega (arith, lent.room, map_length s)

  of : OfRoute words s r m slice
  of = of-route words s is_read r full m slice

  module _ (o : IsOpen s x) where
    walks : Walks words s r m slice
    walks = of.from_open (room, fits, ((says s m lent).open_state x own-grid).1 o)

    ends : Ends s m lent x walks.steps walks.last
    ends = walk_ends s m lent walks.walk own-grid o

    all_left : length walks.steps ≡ actions_left s x
    all_left = omega (arith, ends.count)

    not-20 : (p : ℕ) → (route words m r slice).answer ≡ refused 20 p → ⊥
    not-20 p q =
        by_bool (ltb (length slice) (length walks.steps))
        (λ h.
        let e = ap (λ (v : Routed). v.answer) (walks.short ends.last (ltb-true (length slice) (length walks.steps) h)) in
        let z : ◌≡◌ {A = ℕ} 20 21 = cc in
        omega arith)
        (λ h.
        let e = ap (λ (v : Routed). v.answer) (walks.arrives ends.last (ltb-false (length slice) (length walks.steps) h)) in
        let z : ◌≡◌ {A = ℕ} 0 1 = cc in
        omega arith)

  -- the state's own byte decides
  abbrev b : ℕ
  b = byte_of s m x

  unsafe-route : (b ≡ 2) ⊎ (b ≡ 3) → route words m r slice ≡ no_route 20 (rank (lengths_of s) x) slice
  unsafe-route e = of.no-route room fits e

  only_unsafe : (p : ℕ) → (route words m r slice).answer ≡ refused 20 p → IsUnsafe s x × (p ≡ rank (lengths_of s) x)
  only_unsafe p q =
      by_bool (eqb b 0) (λ e. absurd (not-20 (((says s m lent).open_state x own-grid).0 (eqb-true b 0 e)) p q)) λ n₀.
      by_bool (eqb b 1)
      (λ e.
      let f = ap (λ (v : Routed). v.answer) (of.bad_record room (inr (eqb-true b 1 e))) in
      let z : ◌≡◌ {A = ℕ} 16 20 = cc in
      absurd (omega arith)) λ n₁.
      let small = (says s m lent).no_other x own-grid in
      let two : (b ≡ 2) ⊎ (b ≡ 3) =
      by_bool (eqb b 2) (λ e. inl (eqb-true b 2 e)) (λ n₂. inr (omega (arith, eqb-false b 0 n₀, eqb-false b 1 n₁, eqb-false b 2 n₂))) in
      let f = ap (λ (v : Routed). v.answer) (unsafe-route two) in
      (byte-unsafe s m (says s m lent) x own-grid two, (cc))

  right : RouteRight s x slice (route words m r slice)
  right = record {
    arrives = λ o h. ((walks o).steps, (ends o).arrives, all_left o, (walks o).arrives (ends o).last (omega (arith, all_left o)));
    too_short = λ o h. (walks o).short (ends o).last (omega (arith, all_left o)) ∙ ap (λ n. no_route 21 n slice) (all_left o);
    no-route = λ u. unsafe-route (unsafe-byte s m (says s m lent) x own-grid u);
    only_unsafe = only_unsafe;
    forbidden = λ f. of.bad_record room (inr (((says s m lent).forbidden x own-grid).1 f));
  }

pub route-demand : RouteDemand
route-demand = record {
  routes = λ words map plan s e h r full fits slice.
      right words (analyse words map plan).map s e (map-carries words map plan s e h) r full fits slice;
}
