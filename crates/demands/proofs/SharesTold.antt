-- Shares, as SCOPE.md, "Fair shares", says them and as the broker tests them: who would be granted, whose share is spent, and what a grant does to the counts.
use Prim.Native.Nat.{ℕ, ◌+◌, ◌<◌, ◌≤◌}
use native.Mathlib.Omega.{arith}
use native.Mathlib.Numerals.{add-one}
use mathlib.Core.Path.{◌≡◌, ◌∙◌}
use mathlib.Core.Logic.{◌⊎◌, inl, inr}
use mathlib.Core.Bool.{true, false, not, ◌&&◌}
use mathlib.Core.List.{List}
use lib.ListN.{length, set, replicate, length-map}
use lib.Dec.{eqb}
use borrow.Author.Tests.{ltb-true, lt-ltb, le-ltb, lt-leb, le-leb, eqb-true, eqb-false, ne_eqb}
use Rattle.model.specs.Answer.{given}
use Rattle.model.specs.Set.{device_of, Set, lengths_of, task_at, action_at, at}
use Rattle.model.specs.State.{State, next, unfinished, sum, rank}
use Rattle.model.specs.Record.{Record, state_in}
use Rattle.model.specs.Broker.{Settings, granted, bid_byte, map_answer, is_granted, would_be_granted, share_left, other_goes, in_window}
use Rattle.model.proofs.Bools.{by_bool, and-true, any-intro}
use Rattle.model.proofs.States.{unfinished-task}
use Rattle.model.proofs.Sums.{sum-next}
use Rattle.model.proofs.BidAnswers.{would-move, spent, other-tells}
use Rattle.demands.specs.Calls.{byte_of, WouldGo, OtherGoes}
use Rattle.demands.proofs.Placed.{length_at}

module _ (s : Set) (m : List ℕ) (r : Record) where
  abbrev ls : List ℕ
  ls = lengths_of s

  abbrev x : State
  x = state_in s r

  module _ (t : ℕ) where
    left-task : at x t < length (task_at s t) → unfinished ls x t ≡ true
    left-task l = lt-ltb (at x t) (at ls t) (omega (arith, length_at s t))

    pub is-task : at x t < length (task_at s t) → t < length s.tasks
    is-task l = omega (arith, length-map s.tasks length, unfinished-task ls x t (left-task l))

    -- a task with an action left is answered by its next state's byte
    pub by_byte : at x t < length (task_at s t) → map_answer s m x t ≡ bid_byte (byte_of s m (next x t)) (rank ls (next x t)) (device_of (action_at s t (at x t)))
    unfolding map_answer
    by_byte l = rw (lt-leb (length s.tasks) t (is-task l), left-task l)

    -- a task that would be granted
    pub would-go : WouldGo s r m t → map_answer s m x t ≡ given granted
    unfolding bid_byte
    would-go g = by_byte g.0 ∙ rw g.1

    pub goes-told : would_be_granted s m x t ≡ true → WouldGo s r m t
    goes-told e =
        let b = and-true (unfinished ls x t) (eqb (byte_of s m (next x t)) 0) (rw (would-move s m x t) at e) in
        (omega (arith, ltb-true (at x t) (at ls t) b.0, length_at s t), eqb-true (byte_of s m (next x t)) 0 b.1)

  -- another task with share left that would be granted
  module _ (c : Settings) (t : ℕ) where
    other_goes_lem : OtherGoes s r m c t → other_goes s m c r x t ≡ true
    unfolding other_goes is_granted
    other_goes_lem o =
        let u = o.0 in
        any-intro (length s.tasks) (λ u. not (eqb u t) && (share_left c r u && would_be_granted s m x u)) u (is-task u o.3.0)
        (rw (ne_eqb u t o.1, lt-ltb (at r.counts u) c.share o.2, would-go u o.3))

    pub other-told : other_goes s m c r x t ≡ true → OtherGoes s r m c t
    other-told e =
        let o = other-tells s m c r x t e in
        let u = o.0 in
        (u, eqb-false u t o.2, ltb-true (at r.counts u) c.share o.3, goes-told u o.4)

    -- its share is spent, or not
    pub is_spent : c.share ≤ at r.counts t → OtherGoes s r m c t → spent s m c r x t ≡ true
    is_spent l o = rw (le-ltb (at r.counts t) c.share l, other_goes_lem o)

    pub not-spent : (at r.counts t < c.share) ⊎ (OtherGoes s r m c t → ⊥) → spent s m c r x t ≡ false
    not-spent (inl l) = rw (lt-ltb (at r.counts t) c.share l)
    not-spent (inr n) =
        by_bool (spent s m c r x t)
        (λ e. absurd (n (other-told (and-true (not (share_left c r t)) (other_goes s m c r x t) e).1)))
        (λ e. e)

-- the counts with a grant more, in a window that has room for it, and in one that it uses up
module _ (counts : List ℕ) (window t : ℕ) (h : t < length counts) where
  abbrev more : List ℕ
  more = set counts t (at counts t + 1)

  one_more : sum more ≡ sum counts + 1
  one_more = rw (add-one (at counts t)) (omega (arith, sum-next counts t h))

  pub has_room : sum counts + 1 < window → in_window window more ≡ more
  unfolding in_window
  has_room l = rw (lt-leb window (sum more) (omega (arith, one_more)))

  pub closes : sum counts + 1 ≡ window → in_window window more ≡ replicate 8 0
  unfolding in_window
  closes e = rw (le-leb window (sum more) (omega (arith, one_more)))
