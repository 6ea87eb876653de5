-- What the loop of a trial keeps, and how a bid moves it on.
use Prim.Native.Nat.{ℕ, zero, suc, ◌+◌, ◌*◌, ◌<◌, ◌≤◌}
use native.Mathlib.Omega.{arith}
use native.Mathlib.Nat.{suc-mul, mul-le-mul_right}
use native.Mathlib.Numerals.{add-one}
use mathlib.Core.Path.{◌≡◌, refl, sym, ap, ap₂, ◌∙◌}
use mathlib.Core.Bool.{Bool, true, false, cond}
use mathlib.Core.List.{List, [], ◌∷◌, map}
use lib.ListN.{length, get_or, set, drop, replicate, length-set, drop_of_length-le, get_or-map}
use lib.Seq.{drop-cons, get_or-set_same, get_or-set_other}
use lib.Dec.{eqb, ltb}
use borrow.Author.Tests.{eqb-true, eqb-false}
use Rattle.model.specs.Answer.{Answer, given, refused}
use Rattle.model.specs.Set.{Set, lengths_of, at, size}
use Rattle.model.specs.State.{is_end}
use Rattle.model.specs.Layout.{WellFormed}
use Rattle.model.specs.Read.{read}
use Rattle.model.specs.Record.{Record, fresh, state_in}
use Rattle.model.specs.Broker.{Settings, Bid, granted, finished, share-spent, busy, held, is_granted, bid_answer, grant}
use Rattle.model.specs.Trial as model
use Rattle.model.specs.Trial.{no_bids, untried, row_with, is_finished, counted, rounds_of, try_from}
use Rattle.model.proofs.Bools.{by_bool}
use Rattle.model.proofs.Lists.{same_at}
use Rattle.model.proofs.Ranks.{AtStart, rank-start}
use Rattle.model.proofs.Records.{start-state, start-serves, is-fit}
use Rattle.model.proofs.Trials.{rounds-length, rounds-at, none_made, bid-refuses, bid-counts}
use Rattle.records.specs.Ranked.{Ranked}
use Rattle.trial.specs.declared.tallies.Tally.{Tally}
use Rattle.trial.specs.Says.{tallied}

-- a row's four numbers, as the code has it
abbrev pub tally_of : model.Tally → Tally
tally_of k = record { granted = k.granted; busy = k.busy; held = k.held; share_spent = k.share-spent }

-- what is counted, as the code has it
abbrev pub so_far : List Tally → ℕ → ℕ → model.Tried
so_far rows done made = record { made = made; rows = map tallied rows; finished = done }

-- the row of task t
abbrev pub row_at : List Tally → ℕ → Tally
row_at rows t = get_or rows t (tally_of no_bids)

-- no number of a row is over that of the bids made
pub record Small (made : ℕ) (k : Tally) : Type 0 where
  pub granted-small : k.granted ≤ made
  pub busy-small : k.busy ≤ made
  pub held_small : k.held ≤ made
  pub spent-small : k.share_spent ≤ made

-- it stays so
small-still : {made : ℕ} {k : Tally} → Small made k → Small (made + 1) k
small-still w = record {
  granted-small = omega (arith, w.granted-small);
  busy-small = omega (arith, w.busy-small);
  held_small = omega (arith, w.held_small);
  spent-small = omega (arith, w.spent-small);
}

-- one more answer keeps it so, whichever it is
small-more : (made : ℕ) (k : Tally) → Small made k → (b : Bid) → Small (made + 1) (tally_of (row_with b (tallied k)))
unfolding row_with
small-more made k w granted = record {
  granted-small = omega (arith, w.granted-small);
  busy-small = omega (arith, w.busy-small);
  held_small = omega (arith, w.held_small);
  spent-small = omega (arith, w.spent-small);
}
small-more made k w share-spent = record {
  granted-small = omega (arith, w.granted-small);
  busy-small = omega (arith, w.busy-small);
  held_small = omega (arith, w.held_small);
  spent-small = omega (arith, w.spent-small);
}
small-more made k w (busy d) = record {
  granted-small = omega (arith, w.granted-small);
  busy-small = omega (arith, w.busy-small);
  held_small = omega (arith, w.held_small);
  spent-small = omega (arith, w.spent-small);
}
small-more made k w (held r) = record {
  granted-small = omega (arith, w.granted-small);
  busy-small = omega (arith, w.busy-small);
  held_small = omega (arith, w.held_small);
  spent-small = omega (arith, w.spent-small);
}
small-more made k w finished = small-still w

-- a row set in the code's array is set in the definition's list
map-set : (rows : List Tally) (t : ℕ) (k : Tally) → map tallied (set rows t k) ≡ set (map tallied rows) t (tallied k)
map-set [] t k = refl
map-set (x ∷ rows) zero k = refl
map-set (x ∷ rows) (suc t) k = ap (λ l. tallied x ∷ l) (map-set rows t k)

module _ (words m : List ℕ) (c : Settings) (s : Set) (order : List ℕ) (rounds : ℕ) where
  -- all bids
  abbrev all : List ℕ
  all = rounds_of order rounds

  -- the whole trial
  abbrev whole : Answer model.Tried
  whole = try_from words m c s untried fresh all

  pub record Trying (r : Record) (k : ℕ) (ended : Bool) (rows : List Tally) (done made lap place : ℕ) : Type 0 where
    pub ranked : Ranked s m r k
    pub is-ended : ended ≡ is_end (lengths_of s) (state_in s r)
    pub eight : length rows ≡ 8
    -- the order's place that bids next, in which round
    pub here : made ≡ lap * length order + place
    pub small : (t : ℕ) → Small made (row_at rows t)
    pub few : done ≤ made
    -- the whole trial answers what the rest of it answers from here
    pub rest : whole ≡ try_from words m c s (so_far rows done made) r (drop made all)

  -- before the first bid
  pub begins : WellFormed s → ltb (length m) (size (lengths_of s)) ≡ false → (ended : Bool) → ended ≡ is_end (lengths_of s) (state_in s fresh)
      → Trying fresh 0 ended (replicate 8 (tally_of no_bids)) 0 0 0 0
  begins w room ended e = record {
    ranked = record {
      eight = refl;
      room = room;
      fits = is-fit s fresh (start-serves s w 0);
      ranked = sym (rank-start (lengths_of s) (state_in s fresh) at_start);
    };
    is-ended = e;
    eight = refl;
    here = omega arith;
    small = λ t. rw (same_at (tally_of no_bids) 8 t) (record { granted-small = omega arith; busy-small = omega arith; held_small = omega arith; spent-small = omega arith });
    few = omega arith;
    rest = refl;
  }
    where
      at_start : AtStart (state_in s fresh)
      at_start j h = rw (start-state s w) (get_or-map (λ l. 0) (lengths_of s) j 0)

  module _ {r : Record} {k : ℕ} {ended : Bool} {rows : List Tally} {done made lap place : ℕ} (now : Trying r k ended rows done made lap place) where
    -- the end of a round is the begin of the next
    pub next-lap : place ≡ length order → Trying r k ended rows done made (lap + 1) 0
    next-lap e = record {
      ranked = now.ranked;
      is-ended = now.is-ended;
      eight = now.eight;
      here = omega (arith, now.here, e, suc-mul lap (length order));
      small = now.small;
      few = now.few;
      rest = now.rest;
    }

    -- where as many rounds are made as there are, the trial is over
    pub over : lap ≡ rounds → place ≡ 0 → whole ≡ given (so_far rows done made)
    unfolding try_from
    over last first =
        let e : rounds * length order ≤ made = omega (arith, now.here, first, ap (λ l. l * length order) last) in
        now.rest ∙ ap (try_from words m c s (so_far rows done made) r) (drop_of_length-le all {i = made} (omega (arith, rounds-length order rounds)))

    module _ (in-round : lap < rounds) (inside : place < length order) where
      -- the task that bids next
      abbrev t : ℕ
      t = at order place

      more : made < rounds * length order
      more =
          let l : suc lap ≤ rounds = omega arith in
          omega (arith, now.here, suc-mul lap (length order), mul-le-mul_right (length order) l)

      -- so many bids are less than a number of 32 bits holds
      pub made-small : rounds < 65536 → length order ≤ 255 → made < 4294967295
      made-small few-rounds few-places =
          let l : lap ≤ 65535 = omega arith in
          omega (arith, now.here, mul-le-mul_right (length order) l)

      next-bid : drop made all ≡ t ∷ drop (suc made) all
      next-bid =
          drop-cons all made 0 (omega (arith, rounds-length order rounds, more))
          ∙ ap (λ u. u ∷ drop (suc made) all) (ap (at all) now.here ∙ rounds-at order rounds lap place in-round inside)

      from-here : whole ≡ try_from words m c s (so_far rows done made) r (t ∷ drop (suc made) all)
      from-here = now.rest ∙ ap (try_from words m c s (so_far rows done made) r) next-bid

      -- so it is where every task is finished
      pub stops : ended ≡ true → whole ≡ given (so_far rows done made)
      stops e = from-here ∙ none_made words m c s _ r t _ (sym now.is-ended ∙ e)

      module _ (accepted : read words ≡ given s) (goes_on : ended ≡ false) where
        not_yet : is_end (lengths_of s) (state_in s r) ≡ false
        not_yet = sym now.is-ended ∙ goes_on

        -- a refused bid ends it
        pub refuses : (n p : ℕ) → bid_answer s m c r t ≡ refused n p → whole ≡ refused n p
        refuses n p e = from-here ∙ bid-refuses words m c s _ r t _ accepted not_yet n p e

        -- any other moves it on: the record as the bid leaves it, the task's row and the Finished ones as its answer says, and the place after this one
        module _ (b : Bid) (answered : bid_answer s m c r t ≡ given b) where
          pub moves : (r' : Record) → r' ≡ cond (is_granted (given b)) (grant c.window r t) r → (k' : ℕ) → Ranked s m r' k'
              → (ended' : Bool) → ended' ≡ is_end (lengths_of s) (state_in s r')
              → t < 8 → (row : Tally) → tallied row ≡ row_with b (tallied (row_at rows t))
              → (done' : ℕ) → done' ≡ done + cond (is_finished b) 1 0
              → Trying r' k' ended' (set rows t row) done' (made + 1) lap (place + 1)
          moves r' left k' ranked ended' is-ended task row counts done' more-done = record {
            ranked = ranked;
            is-ended = is-ended;
            eight = length-set rows t row ∙ now.eight;
            here = omega (arith, now.here);
            small = λ u.
                by_bool (eqb u t)
                (λ e. rw (eqb-true u t e, get_or-set_same rows t row (tally_of no_bids) (omega (arith, now.eight))) row_small)
                (λ e. rw (get_or-set_other rows t u row (tally_of no_bids) (eqb-false u t e)) (small-still (now.small u)));
            few = by_bool (is_finished b) (λ e. omega (arith, now.few, rw e at more-done)) (λ e. omega (arith, now.few, rw e at more-done));
            rest = from-here ∙ bid-counts words m c s (so_far rows done made) r t (drop (suc made) all) accepted not_yet b answered ∙ same;
          }
            where
              row_small : Small (made + 1) row
              row_small = let e : row ≡ tally_of (row_with b (tallied (row_at rows t))) = ap tally_of counts in rw e (small-more made (row_at rows t) (now.small t) b)

              rows_are : set (map tallied rows) t (row_with b (get_or (map tallied rows) t no_bids)) ≡ map tallied (set rows t row)
              rows_are =
                  ap (λ k. set (map tallied rows) t (row_with b k)) (get_or-map tallied rows t (tally_of no_bids))
                  ∙ ap (set (map tallied rows) t) (sym counts) ∙ sym (map-set rows t row)

              counted_is : counted (so_far rows done made) t b ≡ so_far (set rows t row) done' (made + 1)
              counted_is = ap₂ (λ rs n. record { made = made + 1; rows = rs; finished = n }) rows_are (sym more-done)

              same : try_from words m c s (counted (so_far rows done made) t b) (cond (is_granted (given b)) (grant c.window r t) r) (drop (suc made) all)
                  ≡ try_from words m c s (so_far (set rows t row) done' (made + 1)) r' (drop (made + 1) all)
              same = rw (counted_is, ← left, add-one made)
