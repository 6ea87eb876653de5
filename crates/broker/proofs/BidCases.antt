-- A bid on an accepted set, case by case, and what a granted one tells of its task.
use Prim.Native.Nat.{ℕ, ◌<◌, ◌≤◌}
use native.Mathlib.Omega.{arith}
use mathlib.Core.Path.{◌≡◌, sym, ap, ◌∙◌}
use mathlib.Core.Bool.{true, false, ◌&&◌}
use mathlib.Core.List.{List, []}
use lib.ListN.{length, length-map, get_or-map}
use lib.Seq.{get_or-take}
use lib.Dec.{ltb}
use borrow.Author.Tests.{eq-eqb, ne_eqb, le-leb, lt-leb, ltb-true, leb-false}
use Rattle.model.specs.Answer.{given, refused, ◌then◌}
use Rattle.model.specs.Set.{Set, lengths_of, at, size}
use Rattle.model.specs.State.{sum}
use Rattle.model.specs.Layout.{WellFormed}
use Rattle.model.specs.Record.{Record, state_in, unfit}
use Rattle.model.specs.Read.{read}
use Rattle.model.specs.Broker.{Settings, granted, is_granted, would_be_granted, is_setting, settled, shared_answer, bid_answer}
use Rattle.model.proofs.Answers.{then-given}
use Rattle.model.proofs.States.{unfinished-task}
use Rattle.model.proofs.Sums.{at_sum}
use Rattle.model.proofs.BidAnswers.{would-move, granted-tells}
use Rattle.model.proofs.BrokerRecord.{window-bounds}
use Rattle.model.proofs.Moves.{moves-unfinished}
use Rattle.model.proofs.ReadExact.{read-sound}
use Rattle.records.specs.Ranked.{Ranked}
use Rattle.records.proofs.Placed.{map_short, map-fits, not-placed, is-placed}

-- the tests by which 26 is had
module _ (c : Settings) where
  pub not-settled : (is_setting c.share && is_setting c.window) ≡ false → settled c ≡ refused 26 0
  unfolding settled
  not-settled e = rw e

  pub is-settled : (is_setting c.share && is_setting c.window) ≡ true → settled c ≡ given c
  unfolding settled
  is-settled e = rw e

module _ (s : Set) (m : List ℕ) (c : Settings) (r : Record) (t : ℕ) where
  pub short : ltb (length m) (size (lengths_of s)) ≡ true → (g : ℕ) → g ≡ size (lengths_of s) → refused 13 g ≡ bid_answer s m c r t
  unfolding bid_answer ◌then◌
  short e g is = rw (map_short s m e, is)

  module _ (room : ltb (length m) (size (lengths_of s)) ≡ false) where
    pub bad_setting : (is_setting c.share && is_setting c.window) ≡ false → refused 26 0 ≡ bid_answer s m c r t
    unfolding bid_answer ◌then◌
    bad_setting e = rw (map-fits s m room, not-settled c e)

    module _ (allowed : (is_setting c.share && is_setting c.window) ≡ true) where
      pub bad_record : unfit s r ≡ true → refused 16 0 ≡ bid_answer s m c r t
      unfolding bid_answer ◌then◌
      bad_record e = rw (map-fits s m room, is-settled c allowed, not-placed s r e)

  module _ (allowed : (is_setting c.share && is_setting c.window) ≡ true) (k : ℕ) (f : Ranked s m r k) where
    pub not-open : (at m k ≡ 0 → ⊥) → refused 16 0 ≡ bid_answer s m c r t
    unfolding bid_answer ◌then◌
    not-open h = rw (map-fits s m f.room, is-settled c allowed, is-placed s r f.fits, ← f.ranked, ne_eqb _ _ h)

    module _ (opens : at m k ≡ 0) where
      pub all-used : c.window ≤ sum r.counts → refused 16 0 ≡ bid_answer s m c r t
      unfolding bid_answer ◌then◌
      all-used h = rw (map-fits s m f.room, is-settled c allowed, is-placed s r f.fits, ← f.ranked, eq-eqb _ _ opens, le-leb _ _ h)

      pub shared : sum r.counts < c.window → shared_answer s m c r (state_in s r) t ≡ bid_answer s m c r t
      unfolding bid_answer ◌then◌
      shared h = rw (map-fits s m f.room, is-settled c allowed, is-placed s r f.fits, ← f.ranked, eq-eqb _ _ opens, lt-leb _ _ h)

-- a task that would be granted is one of the set's, with an action left
pub would-left : (s : Set) → WellFormed s → (m : List ℕ) (r : Record) (t : ℕ) → would_be_granted s m (state_in s r) t ≡ true
    → (t < 8) × (at r.positions t < 255)
would-left s w m r t e =
    let u = moves-unfinished (lengths_of s) m (state_in s r) t (sym (would-move s m (state_in s r) t) ∙ e) in
    let l : t < length s.tasks = omega (arith, length-map s.tasks length, unfinished-task (lengths_of s) (state_in s r) t u) in
    let p = get_or-take (length s.tasks) r.positions t 0 l in
    let h = ltb-true (at (state_in s r) t) (at (lengths_of s) t) u in
    (omega (arith, w.tasks), omega (arith, get_or-map length s.tasks t [], (w.each_task t l).actions))

-- and one that is granted has a count that can rise
pub granted-rises : (s : Set) → WellFormed s → (m : List ℕ) (c : Settings) (r : Record) (t : ℕ) → is_granted (bid_answer s m c r t) ≡ true
    → (t < 8) × (at r.positions t < 255) × (at r.counts t < 255)
granted-rises s w m c r t g =
    let tells = granted-tells s m c r t g in
    let l = would-left s w m r t tells.would in
    (l.0, l.1, omega (arith, at_sum r.counts t, leb-false c.window (sum r.counts) tells.within, (window-bounds c tells.settings).1))

-- on the words lent
pub granted-left : (words m : List ℕ) (c : Settings) (r : Record) (t : ℕ) → (read words then λ s. bid_answer s m c r t) ≡ given granted
    → (t < 8) × (at r.positions t < 255) × (at r.counts t < 255)
unfolding is_granted
granted-left words m c r t g =
    let q = (then-given (λ s. bid_answer s m c r t) (read words) granted).0 g in
    granted-rises q.0 (read-sound words q.0 q.1).1 m c r t (ap is_granted q.2)
