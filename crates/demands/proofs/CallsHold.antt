-- Again and route on any map and record: their definitions gone through, case by case, as `BidsHold` does for bids. Then lists of calls.
use Prim.Native.Nat.{ℕ, ◌+◌, ◌-◌, ◌≤◌}
use native.Mathlib.Omega.{arith}
use mathlib.Core.Path.{◌≡◌, refl, sym, ap, ◌∙◌}
use mathlib.Core.Logic.{◌⊎◌, inl, inr}
use mathlib.Core.Bool.{true, false, cond}
use mathlib.Core.List.{List, [], ◌∷◌, map, map-append, flatten}
use lib.ListN.{length, replicate}
use lib.Seq.{get_or-take, length-take-le}
use borrow.Author.Tests.{lt-ltb, le-ltb, ne_eqb}
use Rattle.model.specs.Answer.{Answer, given, refused, ◌then◌, if_given}
use Rattle.model.specs.Set.{Set, lengths_of, size}
use Rattle.model.specs.Layout.{WellFormed}
use Rattle.model.specs.State.{State, InGrid, is_end, sum, rank}
use Rattle.model.specs.Read.{read}
use Rattle.model.specs.Slice.{over}
use Rattle.model.specs.Record.{Record, state_in, unfit, map_fits, placed}
use Rattle.model.specs.Broker.{
  Settings,
  Bid,
  granted,
  is_granted,
  bid,
  again_answer,
  bids,
  after_list,
  granted_in,
  after_call,
  is_grant,
  grant_count,
  round_calls,
}
use Rattle.model.specs.Route.{steps_from, walked, route_from, route_steps, route_fits, route}
use Rattle.model.proofs.Bools.{by_bool}
use Rattle.model.proofs.Sums.{sum-le}
use Rattle.model.proofs.ReadExact.{read-sound}
use Rattle.demands.specs.Calls.{no_route, OfFaulty, OfState, OfAgain, byte_of, Ready, Unfit, Walks, OfRoute, OfLists, Calls}
use Rattle.demands.proofs.StatesHold.{before-end, of-states}
use Rattle.demands.proofs.WalkSteps.{walk_is, walk-grid}
use Rattle.demands.proofs.Placed.{told-unfit, is-fit, placed-grid}
use Rattle.demands.proofs.BidsHold.{granted-told, of-bid}

faults : (words : List ℕ) (n p : ℕ) → read words ≡ refused n p → OfFaulty words n p
unfolding ◌then◌ if_given is_granted
faults words n p e = record {
  analyses = λ map plan. rw e;
  bids_refused = λ m c r t. rw e;
  agains_refused = λ r. rw e;
  routes = λ m r slice. rw e;
}

module _ (words : List ℕ) (s : Set) (is_read : read words ≡ given s) (r : Record) (full : length r.positions ≡ 8) where
  abbrev ls : List ℕ
  ls = lengths_of s

  abbrev x : State
  x = state_in s r

  well_formed : WellFormed s
  well_formed = (read-sound words s is_read).1

  pub grid : (Unfit s r → ⊥) → InGrid ls x
  grid p = placed-grid s well_formed r full (is-fit s well_formed r p)

  of-state : OfState s r
  of-state = record {
    count = length-take-le (length s.tasks) r.positions (omega (arith, well_formed.tasks));
    positions = λ t h. get_or-take (length s.tasks) r.positions t 0 h;
  }

  pub of-again : OfAgain words s r
  unfolding ◌then◌ if_given placed again_answer
  of-again = record {
    bad_record = λ b. rw (is_read, told-unfit s well_formed r b);
    not_ended = λ p n. rw (is_read, is-fit s well_formed r p, before-end ls x (grid p) n);
    at-end = λ e p. rw (is_read, is-fit s well_formed r p, ((of-states ls).end x (grid p)).1 e);
  }

  module _ (m : List ℕ) where
    module _ (slice : List ℕ) where
      abbrev steps : List ℕ
      steps = steps_from ls m x

      -- the route from an open state, in the slice
      abbrev fitting : Answer (List ℕ)
      fitting = route_from ls m x then λ ts. route_fits slice ts

      from_open : Ready s r m → route words m r slice
          ≡ record { answer = fitting then λ ts. given (length ts); route = if_given fitting (λ ts. over ts slice) (replicate (length slice) 255) }
      unfolding ◌then◌ map_fits placed route_steps
      from_open q = rw (is_read, le-ltb (length m) (size ls) q.0, is-fit s well_formed r q.1, q.2)

      walks : Ready s r m → Walks words s r m slice
      unfolding ◌then◌ if_given route_from route_fits
      walks q =
          let g = grid q.1 in
          let w = walk_is s m (sum ls - sum x) x g (omega (arith, sum-le ls x g)) in
          let h = walk-grid s m w g in
          let ends : walked x steps ≡ ls → is_end ls (walked x steps) ≡ true = ((of-states ls).end (walked x steps) h).1 in
          record {
            steps = steps;
            last = walked x steps;
            walk = w;
            stuck = λ n. from_open q ∙ rw (before-end ls (walked x steps) h n);
            short = λ e l. from_open q ∙ rw (ends e, lt-ltb (length slice) (length steps) l);
            arrives = λ e l. from_open q ∙ rw (ends e, le-ltb (length slice) (length steps) l);
          }

      no-route : size ls ≤ length m → (Unfit s r → ⊥) → (byte_of s m x ≡ 2) ⊎ (byte_of s m x ≡ 3) → route words m r slice ≡ no_route 20 (rank ls x) slice
      unfolding ◌then◌ if_given map_fits placed route_steps
      no-route h p (inl b) = rw (is_read, le-ltb (length m) (size ls) h, is-fit s well_formed r p, b)
      no-route h p (inr b) = rw (is_read, le-ltb (length m) (size ls) h, is-fit s well_formed r p, b)

      forbidden-route : size ls ≤ length m → Unfit s r ⊎ (byte_of s m x ≡ 1) → route words m r slice ≡ no_route 16 0 slice
      unfolding ◌then◌ if_given map_fits placed route_steps
      forbidden-route h (inl b) = rw (is_read, le-ltb (length m) (size ls) h, told-unfit s well_formed r b)
      forbidden-route h (inr e) =
          by_bool (unfit s r)
          (λ f. rw (is_read, le-ltb (length m) (size ls) h, f))
          (λ f. rw (is_read, le-ltb (length m) (size ls) h, f, e))

      pub of-route : OfRoute words s r m slice
      unfolding ◌then◌ if_given map_fits placed route_steps
      of-route = record {
        map_short = λ h. rw (is_read, lt-ltb (length m) (size ls) h);
        bad_record = forbidden-route;
        bad_byte = λ h p b.
            let c = byte_of s m x in
            rw (is_read, le-ltb (length m) (size ls) h, is-fit s well_formed r p, ne_eqb c 1 (λ e. omega arith), lt-ltb 3 c b);
        no-route = no-route;
        from_open = walks;
      }

-- the count of grants goes by the answer
is-granted : (a : Answer Bid) → a ≡ given granted → is_granted a ≡ true
unfolding is_granted
is-granted a e = rw e

not-granted : (a : Answer Bid) → (a ≡ given granted → ⊥) → is_granted a ≡ false
not-granted a n = by_bool (is_granted a) (λ e. absurd (n (granted-told a e))) (λ e. e)

of-lists : (words m : List ℕ) → OfLists words m
unfolding after_call is_grant after_list granted_in
of-lists words m = record {
  a_bid = λ r c t. refl;
  an_again = λ r. refl;
  no_call = λ r. refl;
  more_calls = λ r k cs. refl;
  none_granted = λ r. refl;
  one_granted = λ r c t cs e. ap (λ b. cond b 1 0 + grant_count words m (bid words m c r t).after cs) (is-granted (bid words m c r t).answer e);
  other_answer = λ r c t cs n.
      ap (λ b. cond b 1 0 + grant_count words m (bid words m c r t).after cs) (not-granted (bid words m c r t).answer n) ∙ omega arith;
  again-answer = λ r cs. omega arith;
}

rounds-flat : (c : Settings) (rs : List (List ℕ)) → round_calls c rs ≡ map (bids c) (flatten rs)
unfolding round_calls flatten
rounds-flat c [] = refl
rounds-flat c (r ∷ rs) = rw (rounds-flat c rs) (sym (map-append (bids c) r (flatten rs)))

pub calls-hold : Calls
calls-hold = record {
  faults = faults;
  states = of-state;
  agains_right = of-again;
  bids_right = λ words s e r eight m c t. of-bid words s e r m c t eight;
  routes_right = of-route;
  lists = of-lists;
  fresh_record = refl;
  kept = λ c cs. ((λ f. f), (λ f. f));
  round = λ n ts. ((λ f. f), (λ f. f));
  rounds = rounds-flat;
}
