-- Bids in service, with settings that are allowed and a window with grants left: what each answers, and that a release is never Busy or Held.
use Prim.Native.Nat.{ℕ, ◌<◌, ◌≤◌}
use native.Mathlib.Omega.{arith}
use mathlib.Core.Path.{◌≡◌, refl, ap}
use mathlib.Core.Logic.{◌⊎◌, inl, inr}
use mathlib.Core.Bool.{true, false, not}
use mathlib.Core.List.{List}
use lib.ListN.{length}
use lib.Dec.{eqb, ltb}
use borrow.Author.Tests.{ltb-true, ltb-false, lt-ltb, lt-leb, eqb-true, eqb-false, not-true}
use Rattle.model.specs.Answer.{Answer, given, refused, ◌then◌}
use Rattle.model.specs.Set.{release, Set, lengths_of, task_at, action_at, at}
use Rattle.model.specs.Layout.{Rules, WellFormedBy, WellFormed}
use Rattle.model.specs.State.{State, InGrid, next, sum, rank}
use Rattle.model.specs.Read.{read}
use Rattle.model.specs.Record.{Record, state_in, unfit}
use Rattle.model.specs.Broker.{
  Settings,
  Bid,
  granted,
  finished,
  share-spent,
  busy,
  held,
  Served,
  is_granted,
  share_left,
  other_goes,
  used_up,
  bid_answer,
  bid,
}
use Rattle.model.proofs.Bools.{by_bool, true-not-false, and-true}
use Rattle.model.proofs.States.{next-grid}
use Rattle.model.proofs.DeadRanks.{map_length}
use Rattle.model.proofs.Records.{Carries, InService, is-fit, own-byte}
use Rattle.model.proofs.BidAnswers.{spent, some-granted}
use Rattle.model.proofs.BrokerRecord.{bid-refused}
use Rattle.model.proofs.ReleaseOpen.{release_open}
use Rattle.model.proofs.ReadExact.{read-sound}
use Rattle.demands.specs.Terms.{Claims}
use Rattle.demands.specs.MapDemand.{IsOpen, Bytes}
use Rattle.demands.specs.Calls.{Allowed, byte_of, Ready, ReadyFor, WouldGo, OtherGoes, OfBid}
use Rattle.demands.specs.Service.{Goes, Spent, OfBidding}
use Rattle.demands.proofs.StatesHold.{before-end}
use Rattle.demands.proofs.LayoutHolds.{by-action}
use Rattle.demands.proofs.Placed.{length_at, told-unfit}
use Rattle.demands.proofs.AllowedSettings.{allowed}
use Rattle.demands.proofs.MapDemandHolds.{open-both, bytes-right, unsafe-byte}
use Rattle.demands.proofs.SharesTold.{other-told, is_spent, not-spent}
use Rattle.demands.proofs.BidsHold.{granted-told, spends, goes, of-bid}

pub release-opens : {rules : Rules} (s : Set) → WellFormedBy rules s → (x : State) → InGrid (lengths_of s) x → IsOpen s x
    → (t d : ℕ) → at x t < length (task_at s t) → action_at s t (at x t) ≡ release d → IsOpen s (next x t)
release-opens s w x g o t d l a =
    let u = lt-ltb (at x t) (at (lengths_of s) t) (omega (arith, length_at s t)) in
    let n = next-grid (lengths_of s) x g t u in
    (open-both s (next x t) n).0 (release_open s w t d x g u a ((open-both s x g).1 o))

module _ (words m : List ℕ) (s : Set) (is_read : read words ≡ given s) (lent : Carries s m) (r : Record) (i : InService s r) where
  abbrev ls : List ℕ
  ls = lengths_of s

  abbrev x : State
  x = state_in s r

  well_formed : WellFormed s
  well_formed = (read-sound words s is_read).1

  pub ready : Ready s r m
  ready = (
    omega (arith, lent.room, map_length s),
    (λ b. true-not-false (unfit s r) (told-unfit s well_formed r b) (is-fit s r i)),
    own-byte s r i m lent,
  )

  says : Bytes s m
  says = bytes-right s m lent

  grid-next : (t : ℕ) → at x t < length (task_at s t) → InGrid ls (next x t)
  grid-next t l = next-grid ls x i.good.grid t (lt-ltb (at x t) (at ls t) (omega (arith, length_at s t)))

  -- a task whose next state is open would be granted, so one whose next action is a release
  would-go : (t : ℕ) → at x t < length (task_at s t) → IsOpen s (next x t) → WouldGo s r m t
  would-go t l o = (l, (says.open_state (next x t) (grid-next t l)).1 o)

  release-would : (t d : ℕ) → at x t < length (task_at s t) → action_at s t (at x t) ≡ release d → WouldGo s r m t
  release-would t d l a =
      would-go t l (release-opens s well_formed x i.good.grid ((open-both s x i.good.grid).0 i.good.is_open) t d l a)

  pub cases : (c : Settings) (t : ℕ) → OfBid words s r m c t
  cases c t = of-bid words s is_read r m c t i.eight-counts

  -- settings that are allowed, and a window with grants left
  module _ (c : Settings) (a : Allowed c) (below : sum r.counts < c.window) where
    ready_for : ReadyFor s r m c
    ready_for = (ready, a, below)

    unused : used_up c.window r.counts ≡ false
    unused = lt-leb c.window (sum r.counts) below

    with_share : (t : ℕ) → WouldGo s r m t → at r.counts t < c.share → Goes words m s r c t
    with_share t g l = goes words s is_read r m c t ready_for g (not-spent s m r c t (inl l))

    goes_or_spent : (t : ℕ) → WouldGo s r m t → Goes words m s r c t ⊎ Spent words m s r c t
    goes_or_spent t g =
        by_bool (spent s m c r x t) (λ k. inr (spends words s is_read r m c t ready_for g k)) (λ k. inl (goes words s is_read r m c t ready_for g k))

    -- whose share is spent, another task with share left is granted
    abbrev OtherGranted : ℕ → Type 0
    OtherGranted t = (u : ℕ) × (u ≡ t → ⊥) × (at r.counts u < c.share) × Goes words m s r c u

    other-granted : (t : ℕ) → spent s m c r x t ≡ true → (c.share ≤ at r.counts t) × OtherGranted t
    other-granted t k =
        let b = and-true (not (share_left c r t)) (other_goes s m c r x t) k in
        let o = other-told s m r c t b.1 in
        (ltb-false (at r.counts t) c.share (not-true (share_left c r t) b.0), (o.0, o.1, o.2, with_share o.0 o.3 o.2))

    module _ (t : ℕ) where
      -- what an answer to a task means
      Means : Answer Bid → Type 0
      Means (given granted) = c.share ≤ at r.counts t → OtherGoes s r m c t → ⊥
      Means (given finished) = Unit {0}
      Means (given share-spent) = (c.share ≤ at r.counts t) × OtherGranted t
      Means (given (busy d)) = (at x t < length (task_at s t)) × Claims (action_at s t (at x t)) d
      Means (given (held p)) = (at x t < length (task_at s t)) × (p ≡ rank ls (next x t)) × ((d : ℕ) × Claims (action_at s t (at x t)) d)
      Means (refused n p) = Unit {0}

      by-served : {v : Served Bid} → bid words m c r t ≡ v → Means v.answer → Means (bid words m c r t).answer
      by-served e p = rw (ap (λ (v : Served Bid). v.answer) e) p

      would-mean : WouldGo s r m t → Means (bid words m c r t).answer
      unfolding Means
      would-mean g =
          by_bool (spent s m c r x t)
          (λ k. by-served (spends words s is_read r m c t ready_for g k) (other-granted t k))
          (λ k. by-served (goes words s is_read r m c t ready_for g k) (λ l o. true-not-false (spent s m c r x t) (is_spent s m r c t l o) k))

      claim-means : (d : ℕ) → at x t < length (task_at s t) → Claims (action_at s t (at x t)) d → Means (bid words m c r t).answer
      unfolding Means
      claim-means d l e =
          let b = byte_of s m (next x t) in
          by_bool (eqb b 0) (λ n₀. would-mean (l, eqb-true b 0 n₀)) λ n₀.
          by_bool (eqb b 1) (λ n₁. by-served ((cases c t).is_busy ready_for l (eqb-true b 1 n₁) d (inl e)) (l, e)) λ n₁.
          by-served ((cases c t).is_held ready_for l
          (by_bool (eqb b 2) (λ n₂. inl (eqb-true b 2 n₂)) λ n₂.
          inr (omega (arith, says.no_other (next x t) (grid-next t l), eqb-false b 0 n₀, eqb-false b 1 n₁, eqb-false b 2 n₂))))
          (l, refl, (d, e))

      means : Means (bid words m c r t).answer
      unfolding Means
      means =
          by_bool (ltb t (length s.tasks))
          (λ h. by_bool (ltb (at x t) (length (task_at s t)))
          (λ k.
          let l = ltb-true (at x t) (length (task_at s t)) k in
          by-action (action_at s t (at x t)) (λ d u e. claim-means d l (u, e)) (λ d e. would-mean (release-would t d l e)))
          (λ k. by-served ((cases c t).is-finished ready_for (ltb-true t (length s.tasks) h) (ltb-false (at x t) (length (task_at s t)) k)) tt))
          (λ h. by-served ((cases c t).no_task ready_for (ltb-false t (length s.tasks) h)) tt)

    some_goes : (x ≡ ls → ⊥) → (t : ℕ) × Goes words m s r c t
    unfolding ◌then◌ is_granted
    some_goes n =
        let q = some-granted s m lent r i c (allowed c a) unused (before-end ls x i.good.grid n) in
        (q.0, rw (is_read, granted-told (bid_answer s m c r q.0) q.2))

    pub of-bidding : OfBidding words m s r c
    unfolding Means
    of-bidding = record {
      only_17 = bid-refused words m s well_formed is_read lent r i c (record { allowed = allowed c a; unused = unused });
      is-finished = λ t. (cases c t).is-finished ready_for;
      with_share = λ t l o. with_share t (would-go t l o);
      goes_or_spent = λ t l o. goes_or_spent t (would-go t l o);
      is_held = λ t l u. (cases c t).is_held ready_for l (unsafe-byte s m says (next x t) (grid-next t l) u);
      is_busy = λ t l f. (cases c t).is_busy ready_for l ((says.forbidden (next x t) (grid-next t l)).1 f);
      release_goes = λ t d l e. goes_or_spent t (release-would t d l e);
      busy_claim = λ t d e. rw e at (means t);
      held_claim = λ t p e. rw e at (means t);
      spent_other = λ t e. rw e at (means t);
      beyond_share = λ t e l u n h k o. (rw e at (means t)) l (u, n, h, would-go u k o);
      some_goes = some_goes;
    }
