-- Trials: what each counts is what the broker answers over its list of bids.
use Prim.Native.Nat.{ℕ, zero, suc, ◌*◌, ◌<◌, ◌≤◌}
use native.Mathlib.Omega.{arith}
use mathlib.Core.Path.{◌≡◌, refl, sym, ap, subst, ◌∙◌}
use mathlib.Core.Logic.{◌⊎◌, ⊎_elim}
use mathlib.Core.Bool.{Bool, true, false, ◌&&◌}
use mathlib.Core.List.Memᴰ
use mathlib.Core.List.{List, [], ◌∷◌, ◌++◌, map, flatten, append-nil, Memᴰ}
use lib.ListN.{length, take, replicate, length-replicate, length-append, length-map, get_or-append, get_or-map}
use lib.Seq.{get_or-take, take-append_seam, take-append-le, get_or-append_seam}
use lib.Dec.{eqb, ltb}
use borrow.Author.Tests.{eqb-true, lt-ltb, le-ltb, ltb-true, ltb-false}
use Rattle.model.specs.Answer.{given, refused, ◌then◌}
use Rattle.model.specs.Set.{Set, lengths_of, at, size}
use Rattle.model.specs.State.{InGrid, is_end, sum}
use Rattle.model.specs.Layout.{WellFormed}
use Rattle.model.specs.Read.{read}
use Rattle.model.specs.Analysis.{analyse}
use Rattle.model.specs.Record.{Record, fresh, state_in, map_fits}
use Rattle.model.specs.Broker.{Settings, settled, is_granted, bid_answer, bid, bids, after_list, after_call, IsRound}
use Rattle.model.specs.Trial.{Tried, untried, ordered, rounds_of, try_from, trial_on, trial}
use Rattle.model.proofs.Bools.{by_bool, by_cases, true-not-false, and-true}
use Rattle.model.proofs.Answers.{given-refused, given-value, refused-given, then-given}
use Rattle.model.proofs.States.{unfinished-task, end-intro, next-grid, start_grid}
use Rattle.model.proofs.Sums.{at_sum}
use Rattle.model.proofs.DeadRanks.{map_length}
use Rattle.model.proofs.Records.{Carries, start-state, grant-state}
use Rattle.model.proofs.Moves.{moves-unfinished}
use Rattle.model.proofs.BidAnswers.{would-move, granted-tells}
use Rattle.model.proofs.Service.{bids-keep}
use Rattle.model.proofs.BrokerRecord.{calls-serve, calls-within, bid-refused, rounds-finish}
use Rattle.model.proofs.ReadExact.{read-sound}
use Rattle.model.proofs.Trials.{rounds-length, none_made}
use Rattle.demands.specs.Calls.{Allowed}
use Rattle.demands.specs.Trials.{column, row_of, answer_to, answered_in, counts_of, all_bids, AllFinished, BidSoFar, Ends, all_bid, all_finished, next_refused, IsRight, FirstFaulty, OfTrial, OfTried, OfOwnMap, Trials}
use Rattle.demands.proofs.WordsBefore.{some-passes}
use Rattle.demands.proofs.StatesHold.{of-states}
use Rattle.demands.proofs.AnalysesHold.{map-carries}
use Rattle.demands.proofs.AllowedSettings.{allowed, not_allowed}
use Rattle.demands.proofs.CallsHold.{calls-hold}
use Rattle.demands.proofs.TrialOrders.{faulty-order, right-order, right_or_faulty, rounds-tasks}
use Rattle.demands.proofs.TrialRuns.{after, count_from, Cut, cuts}
use Rattle.demands.proofs.TrialCounts.{Few, found-made, found-eight, found-row, found-is, found-adds-up, found-position}

-- rounds of one order are all that order
same-round : {order : List ℕ} (n : ℕ) (ts : List ℕ) → Memᴰ ts (replicate n order) → ts ≡ order
same-round zero ts q = absurd (Memᴰ.not-nil q)
same-round (suc n) ts q = by_cases (Memᴰ.cases_cons q) (λ e. e) (same-round n ts)

module _ (words : List ℕ) (s : Set) (is_read : read words ≡ given s) (m : List ℕ) (c : Settings) where
  well_formed : WellFormed s
  well_formed = (read-sound words s is_read).1

  -- a bid keeps the state in the grid, on any map
  bid-grid : (r : Record) (t : ℕ) → InGrid (lengths_of s) (state_in s r) → InGrid (lengths_of s) (state_in s (bid words m c r t).after)
  unfolding ◌then◌
  bid-grid r t g =
      rw is_read
      (by_bool (is_granted (bid_answer s m c r t))
      (λ y.
      let u = moves-unfinished (lengths_of s) m (state_in s r) t (sym (would-move s m (state_in s r) t) ∙ (granted-tells s m c r t y).would) in
      let h : t < length s.tasks = omega (arith, length-map s.tasks length, unfinished-task (lengths_of s) (state_in s r) t u) in
      rw (y, grant-state s c.window r t h) (next-grid (lengths_of s) (state_in s r) g t u))
      (λ y. rw y g))

  in-grid : (r : Record) (ts : List ℕ) → InGrid (lengths_of s) (state_in s r) → InGrid (lengths_of s) (state_in s (after words m c r ts))
  unfolding after_list after_call
  in-grid r [] g = g
  in-grid r (t ∷ ts) g = in-grid (bid words m c r t).after ts (bid-grid r t g)

  fresh-grid : (ts : List ℕ) → InGrid (lengths_of s) (state_in s (after words m c fresh ts))
  fresh-grid ts = in-grid fresh ts (rw (start-state s well_formed) (start_grid (lengths_of s)))

  module _ (order : List ℕ) (rounds : ℕ) where
    -- every task is finished, by the test and as it is stated
    ended : (ts : List ℕ) → is_end (lengths_of s) (state_in s (after words m c fresh ts)) ≡ true → AllFinished words m s order rounds c ts
    ended ts e = ((of-states (lengths_of s)).end _ (fresh-grid ts)).0 e

    not_ended : (ts : List ℕ) → is_end (lengths_of s) (state_in s (after words m c fresh ts)) ≡ false → AllFinished words m s order rounds c ts → ⊥
    not_ended ts e f = true-not-false _ (((of-states (lengths_of s)).end _ (fresh-grid ts)).1 f) e

    -- the trial on the set
    on-set : trial words m order rounds c ≡ trial_on words m order rounds c s
    unfolding ◌then◌
    on-set = rw is_read

    short : length m < size (lengths_of s) → trial words m order rounds c ≡ refused 13 (size (lengths_of s))
    unfolding trial_on map_fits ◌then◌
    short h = on-set ∙ rw (lt-ltb _ _ h)

    module _ (room : size (lengths_of s) ≤ length m) where
      fits : map_fits s m ≡ given (size (lengths_of s))
      unfolding map_fits
      fits = rw (le-ltb _ _ room)

      bad_setting : (Allowed c → ⊥) → trial words m order rounds c ≡ refused 26 0
      unfolding trial_on ◌then◌
      bad_setting n = on-set ∙ rw (fits, not_allowed c n)

      bad_order : Allowed c → (i : ℕ) → FirstFaulty s order i → trial words m order rounds c ≡ refused 27 i
      unfolding trial_on ◌then◌
      bad_order a i f = on-set ∙ rw (fits, allowed c a, faulty-order s order i f)

      -- past the refusals before any bid
      bids-made : Allowed c → IsRight s order → trial words m order rounds c ≡ try_from words m c s untried fresh (rounds_of order rounds)
      unfolding trial_on ◌then◌
      bids-made a r = on-set ∙ rw (fits, allowed c a, right-order s order r)

    -- where the bids are cut
    cut : Cut words m c s untried fresh (rounds_of order rounds) (try_from words m c s untried fresh (rounds_of order rounds))
    cut = cuts words m c s untried fresh (rounds_of order rounds)

    module _ (r : IsRight s order) where
      -- those that bid are tasks of the set
      are-tasks : (i : ℕ) → i < length cut.us → at cut.us i < length s.tasks
      are-tasks i h =
          let q = get_or-append cut.us cut.later 0 i h in
          let e = ap (λ l. at l i) cut.listed in
          let l : i < length (rounds_of order rounds) = omega (arith, length-append cut.us cut.later, ap length cut.listed) in
          rw (← q, e) (rounds-tasks s order r rounds i l)

      few : Few words m c cut.us
      few i h = omega (arith, are-tasks i h, well_formed.tasks)

      tries : (ts later : List ℕ) × BidSoFar words m s order rounds c ts later × Ends words m s order rounds c ts later (try_from words m c s untried fresh (rounds_of order rounds))
      tries = (cut.us, cut.later, so_far, ⊎_elim by_value by-refusal cut.ends)
        where
          so_far : BidSoFar words m s order rounds c cut.us cut.later
          so_far = record { listed = cut.listed; not_finished = λ i h. not_ended (take i cut.us) (cut.unfinished i h); answered = cut.answered }

          counted-right : given (count_from words m c untried fresh cut.us) ≡ given (counts_of words m c cut.us)
          counted-right = ap given (found-is words m c cut.us few cut.answered)

          by_value : (try_from words m c s untried fresh (rounds_of order rounds) ≡ given (count_from words m c untried fresh cut.us))
              × ((cut.later ≡ []) ⊎ (is_end (lengths_of s) (state_in s (after words m c fresh cut.us)) ≡ true))
              → Ends words m s order rounds c cut.us cut.later (try_from words m c s untried fresh (rounds_of order rounds))
          by_value w =
              subst (Ends words m s order rounds c cut.us cut.later) (sym (w.0 ∙ counted-right))
              (⊎_elim (λ e. subst (λ l. Ends words m s order rounds c cut.us l (given (counts_of words m c cut.us))) (sym e) all_bid)
              (λ e. all_finished cut.later (ended cut.us e)) w.1)

          by-refusal : (t : ℕ) × (rest : List ℕ) × (n : ℕ) × (p : ℕ) × (cut.later ≡ t ∷ rest)
              × (is_end (lengths_of s) (state_in s (after words m c fresh cut.us)) ≡ false)
              × ((bid words m c (after words m c fresh cut.us) t).answer ≡ refused n p) × (try_from words m c s untried fresh (rounds_of order rounds) ≡ refused n p)
              → Ends words m s order rounds c cut.us cut.later (try_from words m c s untried fresh (rounds_of order rounds))
          by-refusal w =
              subst (Ends words m s order rounds c cut.us cut.later) (sym w.7)
              (subst (λ l. Ends words m s order rounds c cut.us l (refused w.2 w.3)) (sym w.4)
              (next_refused w.0 w.1 w.2 w.3 (not_ended cut.us w.5) w.6))

    of-trial : OfTrial words m s order rounds c
    of-trial = record {
      map_short = short;
      bad_setting = bad_setting;
      bad_order = bad_order;
      tries = λ room a r. let t = tries r in (t.0, t.1, t.2, subst (Ends words m s order rounds c t.0 t.1) (sym (bids-made room a r)) t.3);
    }

    -- a trial that isn't refused: its order is right, and its bids are counted
    module _ (k : Tried) (e : trial words m order rounds c ≡ given k) where
      past : (right : List ℕ) × (ordered s order ≡ given right) × (try_from words m c s untried fresh (rounds_of order rounds) ≡ given k)
      unfolding trial_on
      past =
          let a = (then-given _ (map_fits s m) k).0 (sym on-set ∙ e) in
          let b = (then-given _ (settled c) k).0 a.2 in
          (then-given _ (ordered s order) k).0 b.2

      is_right : IsRight s order
      is_right = ⊎_elim (λ r. r) (λ f. refused-given (sym (faulty-order s order f.0 f.1) ∙ past.1)) (right_or_faulty s order)

      -- what it counts, and where it was cut
      is_cut : (k ≡ count_from words m c untried fresh cut.us)
          × ((cut.later ≡ []) ⊎ (is_end (lengths_of s) (state_in s (after words m c fresh cut.us)) ≡ true))
      is_cut = ⊎_elim (λ w. (given-value (sym past.2 ∙ w.0), w.1)) (λ w. given-refused (sym past.2 ∙ w.7)) cut.ends

      made-is : k.made ≡ length cut.us
      made-is = ap (λ n. n.made) is_cut.0 ∙ found-made words m c cut.us (few is_right) cut.answered

      -- the bids made are those before the cut
      bids-are : take k.made (all_bids words m s order rounds c) ≡ cut.us
      bids-are = rw (made-is, ← cut.listed) (take-append_seam cut.us cut.later)

      cut-fewer : k.made < rounds * length order → AllFinished words m s order rounds c cut.us
      cut-fewer h =
          ⊎_elim
          (λ z.
          let all : length (cut.us ++ cut.later) ≡ rounds * length order = ap length cut.listed ∙ rounds-length order rounds in
          absurd (omega (arith, made-is, all, length-append cut.us cut.later, ap length z)))
          (ended cut.us)
          is_cut.1

      -- a task that no bid names has no answer counted
      none_of : (t j : ℕ) → length s.tasks ≤ t → answered_in words m c cut.us j t ≡ 0
      none_of t j h =
          by_bool (ltb 0 (answered_in words m c cut.us j t))
          (λ e.
          let named : ℕ → Bool = λ i. eqb (at cut.us i) t && eqb (column (answer_to words m c cut.us i)) j in
          let q = some-passes named (length cut.us) (ltb-true 0 (answered_in words m c cut.us j t) e) in
          let same = eqb-true (at cut.us q.0) t (and-true (eqb (at cut.us q.0) t) (eqb (column (answer_to words m c cut.us q.0)) j) q.2).0 in
          absurd (omega (arith, same, are-tasks is_right q.0 q.1)))
          (λ e. omega (arith, ltb-false 0 (answered_in words m c cut.us j t) e))

      no_sooner : (i : ℕ) → i < k.made → AllFinished words m s order rounds c (take i (all_bids words m s order rounds c)) → ⊥
      no_sooner i h f =
          let h' : i < length cut.us = omega (arith, made-is) in
          let same : take i (all_bids words m s order rounds c) ≡ take i cut.us =
          ap (take i) (sym cut.listed) ∙ take-append-le i cut.us cut.later (omega arith) in
          not_ended (take i cut.us) (cut.unfinished i h') (subst (AllFinished words m s order rounds c) same f)

      of_tried : OfTried words m s order rounds c k
      of_tried = record {
        counted = rw bids-are (is_cut.0 ∙ found-is words m c cut.us (few is_right) cut.answered);
        no_sooner = no_sooner;
        adds_up = rw (made-is, is_cut.0) (found-adds-up words m c cut.us (few is_right) cut.answered);
        at_most =
            let all = ap length cut.listed ∙ rounds-length order rounds in
            omega (arith, made-is, all, length-append cut.us cut.later);
        fewer = λ h. rw bids-are (cut-fewer h);
        position = λ t h.
            rw (bids-are, get_or-take (length s.tasks) (after words m c fresh cut.us).positions t 0 h, is_cut.0)
            (found-position words m c cut.us (few is_right) cut.answered t);
        eight = rw is_cut.0 (found-eight words m c cut.us (few is_right) cut.answered);
        absent = λ t h.
            ap (λ n. row_of n t) is_cut.0 ∙ found-row words m c cut.us (few is_right) cut.answered t
            ∙ (λ i. record { granted = none_of t 0 h i; busy = none_of t 1 h i; held = none_of t 2 h i; share-spent = none_of t 3 h i });
      }

    -- no bid is made where there are no rounds or no actions
    at_once : (ts : List ℕ) → is_end (lengths_of s) (state_in s fresh) ≡ true → try_from words m c s untried fresh ts ≡ given untried
    at_once [] e = unfold try_from in refl
    at_once (t ∷ ts) e = none_made words m c s untried fresh t ts e

    no-rounds : rounds ≡ 0 → try_from words m c s untried fresh (rounds_of order rounds) ≡ given untried
    unfolding try_from flatten
    no-rounds z = ap (λ n. try_from words m c s untried fresh (rounds_of order n)) z

    no-actions : sum (lengths_of s) ≡ 0 → try_from words m c s untried fresh (rounds_of order rounds) ≡ given untried
    no-actions z =
        at_once (rounds_of order rounds)
        (end-intro (lengths_of s) (state_in s fresh) λ t u. omega (arith, ltb-true (at (state_in s fresh) t) (at (lengths_of s) t) u, at_sum (lengths_of s) t))

    no-bids : size (lengths_of s) ≤ length m → Allowed c → IsRight s order → (rounds ≡ 0) ⊎ (sum (lengths_of s) ≡ 0) → trial words m order rounds c ≡ given untried
    no-bids room a r none-to-do = bids-made room a r ∙ ⊎_elim no-rounds no-actions none-to-do

    -- on the set's own map
    module _ (lent : Carries s m) (a : Allowed c) (r : IsRight s order) where
      -- no bid of a task is refused
      never-refused : (ts : List ℕ) (t : ℕ) → t < length s.tasks → (n p : ℕ) → (bid words m c (after words m c fresh ts) t).answer ≡ refused n p → ⊥
      never-refused ts t h n p e =
          let i = calls-serve words m s well_formed is_read lent (map (bids c) ts) in
          let w = calls-within words m c (allowed c a) (map (bids c) ts) (bids-keep c ts) in
          let q = bid-refused words m s well_formed is_read lent (after words m c fresh ts) i c w t n p e in
          omega (arith, q.0)

      -- the task that comes next is one of the set's
      next-task : (t : ℕ) (rest : List ℕ) → cut.later ≡ t ∷ rest → t < length s.tasks
      next-task t rest e =
          let l : length cut.us < length (rounds_of order rounds) = omega (arith, length-append cut.us cut.later, ap length cut.listed, ap length e) in
          let here : at (rounds_of order rounds) (length cut.us) ≡ t =
          ap (λ l. at l (length cut.us)) (sym cut.listed)
          ∙ ap (λ l. at (cut.us ++ l) (length cut.us)) e
          ∙ get_or-append_seam cut.us t rest 0 in
          rw (← here) (rounds-tasks s order r rounds (length cut.us) l)

      tried-value : (k : Tried) × (trial words m order rounds c ≡ given k)
      tried-value =
          ⊎_elim
          (λ w. (count_from words m c untried fresh cut.us, bids-made (omega (arith, lent.room, map_length s)) a r ∙ w.0))
          (λ w. absurd (never-refused cut.us w.0 (next-task w.0 w.1 w.4) w.2 w.3 w.6))
          cut.ends

      home : IsRound (length s.tasks) order → sum (lengths_of s) ≤ rounds → (k : Tried) (e : trial words m order rounds c ≡ given k)
          → AllFinished words m s order rounds c (take k.made (all_bids words m s order rounds c))
      home named enough k e = rw (bids-are k e) (⊎_elim all-rounds (ended cut.us) (is_cut k e).1)
        where
          all-rounds : cut.later ≡ [] → AllFinished words m s order rounds c cut.us
          all-rounds z =
              let us-all : rounds_of order rounds ≡ cut.us = sym cut.listed ∙ ap (λ l. cut.us ++ l) z ∙ append-nil cut.us in
              let end =
              rounds-finish words m s well_formed is_read lent c (allowed c a) (replicate rounds order) (λ ts q. rw (same-round rounds ts q) named)
              (omega (arith, length-replicate rounds order)) in
              subst (AllFinished words m s order rounds c) us-all (ended (rounds_of order rounds) (rw (calls-hold.rounds c (replicate rounds order)) at end))

      of-own-map : OfOwnMap words m s order rounds c
      of-own-map = record {
        tried = tried-value;
        goes_home = λ named enough k e.
            let f = home named enough k e in
            (f, λ t h. (of_tried k e).position t h ∙ ap (λ x. at x t) f ∙ get_or-map length s.tasks t []);
      }

-- a refused set
faulty-set : (words m order : List ℕ) (rounds : ℕ) (c : Settings) (n p : ℕ) → read words ≡ refused n p → trial words m order rounds c ≡ refused n p
unfolding ◌then◌
faulty-set words m order rounds c n p e = rw e

pub trials : Trials
trials = record {
  right_or_faulty = right_or_faulty;
  faults = faulty-set;
  trials_right = λ words s e m order rounds c. of-trial words s e m c order rounds;
  trials_count = λ words s e m order rounds c. of_tried words s e m c order rounds;
  no-bids = λ words s e m order rounds c. no-bids words s e m c order rounds;
  own_map = λ words map plan s e h order rounds c a r. of-own-map words s e (analyse words map plan).map c order rounds (map-carries words map plan s e h) a r;
}
