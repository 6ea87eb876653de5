-- What a trial counts, over the list of its bids: one law for each number that a bid may raise by 1, and the same for positions.
use Prim.Native.Nat.{ℕ, zero, suc, ◌+◌, ◌<◌}
use native.Mathlib.Omega.{arith}
use mathlib.Core.Path.{◌≡◌, refl, sym, ap, ◌∙◌}
use mathlib.Core.Bool.{Bool, true, cond, ◌&&◌}
use mathlib.Core.List.{List, [], ◌∷◌, map}
use lib.ListN.{length, get_or, set, length-set}
use lib.Seq.{get_or-set_same, get_or-set_other, ext_get_or}
use lib.Dec.{eqb}
use borrow.Author.Tests.{eqb-true, eqb-false}
use Rattle.model.specs.Below as below
use Rattle.model.specs.Answer.{Answer, given}
use Rattle.model.specs.Set.{at}
use Rattle.model.specs.State.{sum}
use Rattle.model.specs.Record.{Record, fresh}
use Rattle.model.specs.Broker.{Settings, Bid, granted, finished, share-spent, busy, held, is_granted, bid, after_list, after_call}
use Rattle.model.specs.Trial.{Tally, Tried, untried, row_with, is_finished, counted}
use Rattle.model.proofs.Bools.{by_bool}
use Rattle.model.proofs.Counts.{many-first}
use Rattle.model.proofs.Kept.{many-all}
use Rattle.model.proofs.Lists.{length-tabulate, get_d_tabulate, at-zeros, same_at}
use Rattle.demands.specs.Trials.{column, empty_row, row_of, together, answered_in, counts_of}
use Rattle.demands.proofs.HowMany.{same_count}
use Rattle.demands.proofs.TrialRuns.{after, answer, AllGiven, count_from, counts-first, first-given, others-given}

-- the numbers of a row after one more answer
granted-with : (b : Bid) (k : Tally) → (row_with b k).granted ≡ k.granted + cond (eqb (column (given b)) 0) 1 0
unfolding row_with column
granted-with granted k = refl
granted-with finished k = omega arith
granted-with share-spent k = omega arith
granted-with (busy d) k = omega arith
granted-with (held r) k = omega arith

busy-with : (b : Bid) (k : Tally) → (row_with b k).busy ≡ k.busy + cond (eqb (column (given b)) 1) 1 0
unfolding row_with column
busy-with granted k = omega arith
busy-with finished k = omega arith
busy-with share-spent k = omega arith
busy-with (busy d) k = refl
busy-with (held r) k = omega arith

held_with : (b : Bid) (k : Tally) → (row_with b k).held ≡ k.held + cond (eqb (column (given b)) 2) 1 0
unfolding row_with column
held_with granted k = omega arith
held_with finished k = omega arith
held_with share-spent k = omega arith
held_with (busy d) k = omega arith
held_with (held r) k = refl

spent-with : (b : Bid) (k : Tally) → (row_with b k).share-spent ≡ k.share-spent + cond (eqb (column (given b)) 3) 1 0
unfolding row_with column
spent-with granted k = omega arith
spent-with finished k = omega arith
spent-with share-spent k = refl
spent-with (busy d) k = omega arith
spent-with (held r) k = omega arith

-- all together: one more, in the row or beside it
together-with : (b : Bid) (k : Tally) → together (row_with b k) + cond (is_finished b) 1 0 ≡ together k + 1
unfolding row_with is_finished
together-with granted k = omega arith
together-with finished k = refl
together-with share-spent k = omega arith
together-with (busy d) k = omega arith
together-with (held r) k = omega arith

finished-column : (b : Bid) → is_finished b ≡ eqb (column (given b)) 4
unfolding is_finished column
finished-column granted = refl
finished-column finished = refl
finished-column share-spent = refl
finished-column (busy d) = refl
finished-column (held r) = refl

granted-column : (b : Bid) → is_granted (given b) ≡ eqb (column (given b)) 0
unfolding is_granted column
granted-column granted = refl
granted-column finished = refl
granted-column share-spent = refl
granted-column (busy d) = refl
granted-column (held r) = refl

-- a row set anew in a sum over the rows
sum-set : (f : Tally → ℕ) (l : List Tally) (t : ℕ) (x : Tally) → t < length l → sum (map f (set l t x)) + f (get_or l t empty_row) ≡ sum (map f l) + f x
unfolding sum
sum-set f [] t x h = absurd (omega arith)
sum-set f (y ∷ l) zero x h = omega arith
sum-set f (y ∷ l) (suc t) x h = omega (arith, sum-set f l t x (omega arith))

module _ (words m : List ℕ) (c : Settings) where
  -- each task is below 8
  abbrev pub Few : List ℕ → Type 0
  Few ts = (i : ℕ) → i < length ts → at ts i < 8

  -- a number that each bid raises by 1 or leaves, as `raises` tells of its task and answer, counts the bids that raise it
  module _ (number : Tried → ℕ) (raises : ℕ → Answer Bid → Bool)
      (raised : (k : Tried) → length k.rows ≡ 8 → (t : ℕ) → t < 8 → (b : Bid) → number (counted k t b) ≡ number k + cond (raises t (given b)) 1 0) where
    counting : (ts : List ℕ) (k : Tried) (r : Record) → length k.rows ≡ 8 → Few ts → AllGiven words m c r ts
        → number (count_from words m c k r ts) ≡ number k + below.how_many (length ts) (λ i. raises (at ts i) (answer words m c r ts i))
    unfolding after_list after_call
    counting [] k r e few g = unfold count_from in unfold below.how_many in omega arith
    counting (t ∷ ts) k r e few g =
        let q = first-given words m c r t ts g in
        let b = q.0 in
        let r' = (bid words m c r t).after in
        let rest = counting ts (counted k t b) r' (length-set k.rows t _ ∙ e) (λ i h. few (suc i) (omega arith)) (others-given words m c r t ts g) in
        let first : cond {A = ℕ} (raises t (bid words m c r t).answer) 1 0 ≡ cond (raises t (given b)) 1 0 = ap (λ a. cond (raises t a) 1 0) q.1 in
        ap number (counts-first words m c k r t ts b q.1)
        ∙ omega (arith, rest, first, raised k e t (few 0 (omega arith)) b, many-first (length ts) (λ i. raises (at (t ∷ ts) i) (answer words m c r (t ∷ ts) i)))

  -- there are eight rows throughout
  keeps-eight : (ts : List ℕ) (k : Tried) (r : Record) → length k.rows ≡ 8 → AllGiven words m c r ts → length (count_from words m c k r ts).rows ≡ 8
  keeps-eight [] k r e g = unfold count_from in e
  keeps-eight (t ∷ ts) k r e g =
      let q = first-given words m c r t ts g in
      ap (λ n. length n.rows) (counts-first words m c k r t ts q.0 q.1)
      ∙ keeps-eight ts (counted k t q.0) (bid words m c r t).after (length-set k.rows t _ ∙ e) (others-given words m c r t ts g)

  -- a position rises with each grant to its task
  module _ (r : Record) (t : ℕ) (e : length r.positions ≡ 8) (h : t < 8) where
    moved_at : (b : Bid) → (bid words m c r t).answer ≡ given b → (u : ℕ)
        → at (bid words m c r t).after.positions u ≡ at r.positions u + cond (eqb t u && eqb (column (bid words m c r t).answer) 0) 1 0
    moved_at b q u =
        let is : eqb (column (bid words m c r t).answer) 0 ≡ is_granted (bid words m c r t).answer = ap (λ a. eqb (column a) 0) q ∙ sym (granted-column b) ∙ ap is_granted (sym q) in
        by_bool (is_granted (bid words m c r t).answer)
        (λ y.
        by_bool (eqb t u)
        (λ v. rw (y, is ∙ y, v, ← eqb-true t u v) (get_or-set_same r.positions t (at r.positions t + 1) 0 (omega (arith, e))))
        (λ v. rw (y, is ∙ y, v, get_or-set_other r.positions t u (at r.positions t + 1) 0 (λ p. eqb-false t u v (sym p))) (omega arith)))
        (λ y. by_bool (eqb t u) (λ v. rw (y, is ∙ y, v) (omega arith)) (λ v. rw (y, is ∙ y, v) (omega arith)))

    still-eight : length (bid words m c r t).after.positions ≡ 8
    still-eight =
        by_bool (is_granted (bid words m c r t).answer)
        (λ y. rw y (length-set r.positions t _ ∙ e))
        (λ y. rw y e)

  positions-count : (ts : List ℕ) (r : Record) → length r.positions ≡ 8 → Few ts → AllGiven words m c r ts → (u : ℕ)
      → at (after words m c r ts).positions u ≡ at r.positions u + below.how_many (length ts) (λ i. eqb (at ts i) u && eqb (column (answer words m c r ts i)) 0)
  unfolding after_list after_call
  positions-count [] r e few g u = unfold below.how_many in omega arith
  positions-count (t ∷ ts) r e few g u =
      let q = first-given words m c r t ts g in
      let h = few 0 (omega arith) in
      let rest = positions-count ts (bid words m c r t).after (still-eight r t e h) (λ i l. few (suc i) (omega arith)) (others-given words m c r t ts g) u in
      omega (arith, rest, moved_at r t e h q.0 q.1 u, many-first (length ts) (λ i. eqb (at (t ∷ ts) i) u && eqb (column (answer words m c r (t ∷ ts) i)) 0))

  -- what is counted of the bids from the fresh record on
  module _ (ts : List ℕ) (few : Few ts) (g : AllGiven words m c fresh ts) where
    abbrev found : Tried
    found = count_from words m c untried fresh ts

    pub found-made : found.made ≡ length ts
    found-made =
        counting (λ k. k.made) (λ t a. true) (λ k e t h b. refl) ts untried fresh refl few g
        ∙ omega (arith, many-all (λ i. true) (length ts) (λ i h. refl))

    found-finished : found.finished ≡ below.how_many (length ts) (λ i. eqb (column (answer words m c fresh ts i)) 4)
    found-finished =
        counting (λ k. k.finished) (λ t a. eqb (column a) 4) (λ k e t h b. ap (λ x. k.finished + cond x 1 0) (finished-column b)) ts untried fresh refl few g
        ∙ omega arith

    pub found-eight : length found.rows ≡ 8
    found-eight = keeps-eight ts untried fresh refl g

    -- a number of task u's row
    module _ (part : Tally → ℕ) (j u : ℕ) (with-one : (b : Bid) (k : Tally) → part (row_with b k) ≡ part k + cond (eqb (column (given b)) j) 1 0) where
      raised : (k : Tried) → length k.rows ≡ 8 → (t : ℕ) → t < 8 → (b : Bid)
          → part (row_of (counted k t b) u) ≡ part (row_of k u) + cond (eqb t u && eqb (column (given b)) j) 1 0
      raised k e t h b =
          by_bool (eqb t u)
          (λ q.
          let same = eqb-true t u q in
          rw (q, ← same, get_or-set_same k.rows t (row_with b (get_or k.rows t empty_row)) empty_row (omega arith)) (with-one b (get_or k.rows t empty_row)))
          (λ q. rw (q, get_or-set_other k.rows t u (row_with b (get_or k.rows t empty_row)) empty_row (λ p. eqb-false t u q (sym p))) (omega arith))

      found_part : part (row_of found u) ≡ part (row_of untried u) + answered_in words m c ts j u
      found_part =
          counting (λ k. part (row_of k u)) (λ t a. eqb t u && eqb (column a) j) raised ts untried fresh refl few g
          ∙ ap (λ n. part (row_of untried u) + n) (same_count (length ts) (λ i. eqb (at ts i) u && eqb (column (answer words m c fresh ts i)) j))

    abbrev row : ℕ → Tally
    row u = record { granted = answered_in words m c ts 0 u; busy = answered_in words m c ts 1 u; held = answered_in words m c ts 2 u; share-spent = answered_in words m c ts 3 u }

    pub found-row : (u : ℕ) → row_of found u ≡ row u
    found-row u = λ i. record {
      granted = number (λ k. k.granted) 0 granted-with refl i;
      busy = number (λ k. k.busy) 1 busy-with refl i;
      held = number (λ k. k.held) 2 held_with refl i;
      share-spent = number (λ k. k.share-spent) 3 spent-with refl i;
    }
      where
        number : (part : Tally → ℕ) (j : ℕ) → ((b : Bid) (k : Tally) → part (row_with b k) ≡ part k + cond (eqb (column (given b)) j) 1 0) → part empty_row ≡ 0
            → part (row_of found u) ≡ answered_in words m c ts j u
        number part j w z = let start : part (row_of untried u) ≡ 0 = ap part (same_at empty_row 8 u) ∙ z in omega (arith, found_part part j u w, start)

    -- it is all that the statement counts
    pub found-is : found ≡ counts_of words m c ts
    found-is = λ i. record {
      made = found-made i;
      rows = ext_get_or empty_row found.rows (below.tabulate 8 row) (found-eight ∙ sym (length-tabulate 8 row))
          (λ u h. found-row u ∙ sym (get_d_tabulate 8 row u empty_row (omega (arith, found-eight)))) i;
      finished = (found-finished ∙ same_count (length ts) (λ j. eqb (column (answer words m c fresh ts j)) 4)) i;
    }

    -- the numbers of the rows and the Finished ones together
    pub found-adds-up : sum (map together found.rows) + found.finished ≡ length ts
    unfolding sum
    found-adds-up =
        counting (λ k. sum (map together k.rows) + k.finished) (λ t a. true)
        (λ k e t h b. omega (arith, sum-set together k.rows t (row_with b (row_of k t)) (omega arith), together-with b (row_of k t))) ts untried fresh refl few g
        ∙ omega (arith, many-all (λ i. true) (length ts) (λ i h. refl))

    -- a task's granted is its position
    pub found-position : (u : ℕ) → (row_of found u).granted ≡ at (after words m c fresh ts).positions u
    found-position u =
        let places = positions-count ts fresh refl few g u in
        let same = same_count (length ts) (λ i. eqb (at ts i) u && eqb (column (answer words m c fresh ts i)) 0) in
        ap (λ k. k.granted) (found-row u) ∙ omega (arith, places, same, at-zeros 8 u)
