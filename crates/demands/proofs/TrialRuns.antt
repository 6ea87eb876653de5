-- A trial bid by bid: where its list of bids is cut, and what its answer counts of the bids before.
use Prim.Native.Nat.{ℕ, zero, suc, ◌<◌}
use native.Mathlib.Omega.{arith}
use mathlib.Core.Path.{◌≡◌, refl, sym, ap, subst, ◌∙◌}
use mathlib.Core.Logic.{◌⊎◌, inl, inr, ⊎_elim}
use mathlib.Core.Bool.{true, false, cond}
use mathlib.Core.List.{List, [], ◌∷◌, ◌++◌, map}
use lib.ListN.{length, take}
use Rattle.model.specs.Answer.{Answer, given, refused, ◌then◌, if_given}
use Rattle.model.specs.Set.{Set, lengths_of, at}
use Rattle.model.specs.State.{is_end}
use Rattle.model.specs.Record.{Record, state_in}
use Rattle.model.specs.Broker.{Settings, Bid, bid, bids, after_list, after_call, after_calls}
use Rattle.model.specs.Trial.{Tried, counted, try_from}
use Rattle.model.proofs.Bools.{by_bool}

-- an answer is a value or a refusal
pub by_answer : {A G : Type 0} (a : Answer A) → ((b : A) → a ≡ given b → G) → ((n p : ℕ) → a ≡ refused n p → G) → G
by_answer (given b) f g = f b refl
by_answer (refused n p) f g = g n p refl

module _ (words m : List ℕ) (c : Settings) where
  -- the record after the bids of these tasks from r on
  abbrev pub after : Record → List ℕ → Record
  after r ts = after_calls words m r (map (bids c) ts)

  -- what the i-th of them is answered
  abbrev pub answer : Record → List ℕ → ℕ → Answer Bid
  answer r ts i = (bid words m c (after r (take i ts)) (at ts i)).answer

  abbrev pub AllGiven : Record → List ℕ → Type 0
  AllGiven r ts = (i : ℕ) → i < length ts → (b : Bid) × (answer r ts i ≡ given b)

  -- what is counted of them, behind k
  unfoldable pub count_from : Tried → Record → List ℕ → Tried
  count_from k r [] = k
  count_from k r (t ∷ ts) = count_from (if_given (bid words m c r t).answer (counted k t) k) (bid words m c r t).after ts

  pub counts-first : (k : Tried) (r : Record) (t : ℕ) (ts : List ℕ) (b : Bid) → (bid words m c r t).answer ≡ given b
      → count_from k r (t ∷ ts) ≡ count_from (counted k t b) (bid words m c r t).after ts
  unfolding count_from if_given
  counts-first k r t ts b q = ap (λ a. count_from (if_given a (counted k t) k) (bid words m c r t).after ts) q

  -- the first is answered on r, and the others on the record that it leaves
  pub first-given : (r : Record) (t : ℕ) (ts : List ℕ) → AllGiven r (t ∷ ts) → (b : Bid) × ((bid words m c r t).answer ≡ given b)
  unfolding after_list
  first-given r t ts g = g 0 (omega arith)

  pub others-given : (r : Record) (t : ℕ) (ts : List ℕ) → AllGiven r (t ∷ ts) → AllGiven (bid words m c r t).after ts
  unfolding after_list after_call
  others-given r t ts g i h = g (suc i) (omega arith)

  all-given : (r : Record) (t : ℕ) (ts : List ℕ) (b : Bid) → (bid words m c r t).answer ≡ given b → AllGiven (bid words m c r t).after ts → AllGiven r (t ∷ ts)
  unfolding after_list after_call
  all-given r t ts b e g zero h = (b, e)
  all-given r t ts b e g (suc i) h = g i (omega arith)

  module _ (s : Set) where
    -- every task is finished after these bids, by the test that is made
    abbrev pub ended : Record → List ℕ → Type 0
    ended r ts = is_end (lengths_of s) (state_in s (after r ts)) ≡ true

    abbrev pub going : Record → List ℕ → Type 0
    going r ts = is_end (lengths_of s) (state_in s (after r ts)) ≡ false

    -- where the trial is cut: us bid, and `later` would
    pub record Cut (k : Tried) (r : Record) (ts : List ℕ) (a : Answer Tried) : Type 0 where
      pub us : List ℕ
      pub later : List ℕ
      pub listed : us ++ later ≡ ts
      pub unfinished : (i : ℕ) → i < length us → going r (take i us)
      pub answered : AllGiven r us
      pub ends : ((a ≡ given (count_from k r us)) × ((later ≡ []) ⊎ ended r us))
          ⊎ ((t : ℕ) × (rest : List ℕ) × (n : ℕ) × (p : ℕ) × (later ≡ t ∷ rest) × going r us × ((bid words m c (after r us) t).answer ≡ refused n p) × (a ≡ refused n p))

    -- what the definition does with the first bid
    abbrev onwards : Tried → Record → ℕ → List ℕ → Answer Bid → Answer Tried
    onwards k r t ts a = a then λ b. try_from words m c s (counted k t b) (bid words m c r t).after ts

    tries-first : (k : Tried) (r : Record) (t : ℕ) (ts : List ℕ) → is_end (lengths_of s) (state_in s r) ≡ false
        → try_from words m c s k r (t ∷ ts) ≡ onwards k r t ts (bid words m c r t).answer
    unfolding try_from
    tries-first k r t ts e = ap (λ b. cond b (given k) (onwards k r t ts (bid words m c r t).answer)) e

    tries-on : (k : Tried) (r : Record) (t : ℕ) (ts : List ℕ) (b : Bid) → (bid words m c r t).answer ≡ given b
        → onwards k r t ts (bid words m c r t).answer ≡ try_from words m c s (counted k t b) (bid words m c r t).after ts
    unfolding ◌then◌
    tries-on k r t ts b q = ap (onwards k r t ts) q

    tries-no-more : (k : Tried) (r : Record) (t : ℕ) (ts : List ℕ) (n p : ℕ) → (bid words m c r t).answer ≡ refused n p
        → onwards k r t ts (bid words m c r t).answer ≡ refused n p
    unfolding ◌then◌
    tries-no-more k r t ts n p q = ap (onwards k r t ts) q

    -- no bid is made
    stops-here : (k : Tried) (r : Record) (t : ℕ) (ts : List ℕ) → is_end (lengths_of s) (state_in s r) ≡ true → Cut k r (t ∷ ts) (given k)
    unfolding count_from after_list
    stops-here k r t ts e = record { us = []; later = t ∷ ts; listed = refl; unfinished = λ i h. absurd (omega arith); answered = λ i h. absurd (omega arith); ends = inl (refl, inr e) }

    refused-here : (k : Tried) (r : Record) (t : ℕ) (ts : List ℕ) (n p : ℕ) → is_end (lengths_of s) (state_in s r) ≡ false → (bid words m c r t).answer ≡ refused n p
        → Cut k r (t ∷ ts) (refused n p)
    unfolding after_list
    refused-here k r t ts n p e q =
        record { us = []; later = t ∷ ts; listed = refl; unfinished = λ i h. absurd (omega arith); answered = λ i h. absurd (omega arith); ends = inr (t, ts, n, p, refl, e, q, refl) }

    -- one bid more before
    goes_on : (k : Tried) (r : Record) (t : ℕ) (ts : List ℕ) (b : Bid) (a : Answer Tried) → is_end (lengths_of s) (state_in s r) ≡ false → (bid words m c r t).answer ≡ given b
        → Cut (counted k t b) (bid words m c r t).after ts a → Cut k r (t ∷ ts) a
    unfolding after_list after_call
    goes_on k r t ts b a e q cut = record {
      us = t ∷ cut.us;
      later = cut.later;
      listed = ap (λ l. t ∷ l) cut.listed;
      unfinished = not_yet;
      answered = all-given r t cut.us b q cut.answered;
      ends = ⊎_elim (λ w. inl (w.0 ∙ ap given (sym (counts-first k r t cut.us b q)), w.1)) inr cut.ends;
    }
      where
        not_yet : (i : ℕ) → i < length (t ∷ cut.us) → going r (take i (t ∷ cut.us))
        not_yet zero h = e
        not_yet (suc i) h = cut.unfinished i (omega arith)

    pub cuts : (k : Tried) (r : Record) (ts : List ℕ) → Cut k r ts (try_from words m c s k r ts)
    unfolding try_from
    cuts k r [] = unfold count_from in record {
      us = [];
      later = [];
      listed = refl;
      unfinished = λ i h. absurd (omega arith);
      answered = λ i h. absurd (omega arith);
      ends = inl (refl, inl refl);
    }
    cuts k r (t ∷ ts) =
        by_bool (is_end (lengths_of s) (state_in s r))
        (λ e. rw e (stops-here k r t ts e))
        (λ e.
        by_answer (bid words m c r t).answer
        (λ b q. subst (Cut k r (t ∷ ts)) (sym (tries-first k r t ts e ∙ tries-on k r t ts b q)) (goes_on k r t ts b _ e q (cuts (counted k t b) (bid words m c r t).after ts)))
        (λ n p q. subst (Cut k r (t ∷ ts)) (sym (tries-first k r t ts e ∙ tries-no-more k r t ts n p q)) (refused-here k r t ts n p e q)))
