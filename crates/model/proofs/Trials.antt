-- A trial's bids one by one: the list of tasks that bid by its places, and what each bid does to what is counted.
use Prim.Native.Nat.{ℕ, zero, suc, ◌+◌, ◌*◌, ◌<◌}
use native.Mathlib.Omega.{arith}
use native.Mathlib.Nat.{suc-mul}
use mathlib.Core.Path.{◌≡◌, sym, ap, ◌∙◌}
use mathlib.Core.Bool.{true, false, cond}
use mathlib.Core.List.{List, ◌∷◌, ◌++◌, flatten}
use lib.ListN.{length, length-append, get_or-append}
use lib.Seq.{get_or-drop, drop-append_seam}
use Rattle.model.specs.Answer.{given, refused, ◌then◌}
use Rattle.model.specs.Set.{Set, lengths_of, at}
use Rattle.model.specs.State.{is_end}
use Rattle.model.specs.Read.{read}
use Rattle.model.specs.Record.{Record, state_in}
use Rattle.model.specs.Broker.{Settings, Bid, is_granted, bid_answer, grant}
use Rattle.model.specs.Trial.{Tried, counted, rounds_of, try_from}

-- so many rounds have so many bids
pub rounds-length : (order : List ℕ) (n : ℕ) → length (rounds_of order n) ≡ n * length order
unfolding flatten
rounds-length order zero = omega arith
rounds-length order (suc n) = omega (arith, length-append order (rounds_of order n), rounds-length order n, suc-mul n (length order))

-- place p of the order bids there in every round
pub rounds-at : (order : List ℕ) (n q p : ℕ) → q < n → p < length order → at (rounds_of order n) (q * length order + p) ≡ at order p
unfolding flatten
rounds-at order zero q p h l = absurd (omega arith)
rounds-at order (suc n) zero p h l =
    let z : 0 * length order + p ≡ p = omega arith in
    rw z (get_or-append order (rounds_of order n) 0 p l)
rounds-at order (suc n) (suc q) p h l =
    let i : suc q * length order + p ≡ length order + (q * length order + p) = omega (arith, suc-mul q (length order)) in
    rw i
    (sym (get_or-drop (length order) (order ++ rounds_of order n) (q * length order + p) 0)
    ∙ ap (λ rest. at rest (q * length order + p)) (drop-append_seam order (rounds_of order n))
    ∙ rounds-at order n q p (omega arith) l)

module _ (words m : List ℕ) (c : Settings) (s : Set) (k : Tried) (r : Record) (t : ℕ) (ts : List ℕ) where
  -- no bid is made where every task is finished
  pub none_made : is_end (lengths_of s) (state_in s r) ≡ true → try_from words m c s k r (t ∷ ts) ≡ given k
  unfolding try_from
  none_made e = rw e

  module _ (accepted : read words ≡ given s) (goes_on : is_end (lengths_of s) (state_in s r) ≡ false) where
    -- a refused bid ends the trial
    pub bid-refuses : (n p : ℕ) → bid_answer s m c r t ≡ refused n p → try_from words m c s k r (t ∷ ts) ≡ refused n p
    unfolding try_from ◌then◌
    bid-refuses n p e = rw (goes_on, accepted, e)

    -- any other is counted, and a grant moves the record on
    pub bid-counts : (b : Bid) → bid_answer s m c r t ≡ given b
        → try_from words m c s k r (t ∷ ts) ≡ try_from words m c s (counted k t b) (cond (is_granted (given b)) (grant c.window r t) r) ts
    unfolding try_from ◌then◌
    bid-counts b e = rw (goes_on, accepted, e)
