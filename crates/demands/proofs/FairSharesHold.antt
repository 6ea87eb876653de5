-- Fair shares: what settings that are kept throughout bring, and that shares at or above the window change no answer.
use Prim.Native.Nat.{ℕ, ◌<◌, ◌≤◌}
use native.Mathlib.Omega.{arith}
use mathlib.Core.Path.{◌≡◌, refl, sym, ap, ◌∙◌}
use mathlib.Core.Bool.{true}
use mathlib.Core.List.{List}
use lib.ListN.{length, replicate}
use lib.Seq.{get_or-set_other}
use borrow.Author.Tests.{leb-false, lt-ltb}
use Rattle.model.specs.Answer.{Answer, given, refused, ◌then◌, if_given}
use Rattle.model.specs.Set.{Set, at}
use Rattle.model.specs.State.{State, sum}
use Rattle.model.specs.Read.{read}
use Rattle.model.specs.Analysis.{analyse}
use Rattle.model.specs.Record.{Record, fresh, misplaced, map_fits, placed}
use Rattle.model.specs.Broker.{
  Settings,
  map_answer,
  is_granted,
  would_be_granted,
  settled,
  shared_answer,
  bid_answer,
  grant,
  bid,
  Again,
  again_answer,
  restart,
  again,
  Call,
  bids,
  agains,
  Keeps,
  after_call,
  after_calls,
}
use Rattle.model.proofs.Bools.{by_bool}
use Rattle.model.proofs.Answers.{then_same}
use Rattle.model.proofs.Lists.{at-zeros}
use Rattle.model.proofs.Sums.{at_sum}
use Rattle.model.proofs.Records.{window-zero, not-miscounted}
use Rattle.model.proofs.BidAnswers.{granted-tells}
use Rattle.model.proofs.Service.{list-keeps}
use Rattle.model.proofs.BrokerRecord.{Within, start-within, grant-within, calls-within}
use Rattle.demands.specs.Calls.{Allowed}
use Rattle.demands.specs.FairShares.{plain_answer, plain_grant, plain_bid, after_plain, plainly, Alike, FairShares}
use Rattle.demands.proofs.AllowedSettings.{allowed}
use Rattle.demands.proofs.SharesTold.{is-task, goes-told}
use Rattle.demands.proofs.ServiceHolds.{service-holds}

-- a record within settings has fewer grants counted than the window, together and so for each task
module _ (c : Settings) (r : Record) (w : Within c r) where
  all-below : sum r.counts < c.window
  all-below = leb-false c.window (sum r.counts) w.unused

  each_below : (t : ℕ) → at r.counts t < c.window
  each_below t = omega (arith, all-below, at_sum r.counts t)

module _ (words m : List ℕ) (c : Settings) (off : c.window ≤ c.share) where
  -- a record of this broker and one of that without shares, which counts nothing: what they have in common is the same, and both fit or neither does
  record Same (r f : Record) : Type 0 where
    positions : r.positions ≡ f.positions
    grants : r.grants ≡ f.grants
    within : Within c r
    absent : (s : Set) → read words ≡ given s → (t : ℕ) → length s.tasks ≤ t → at r.counts t ≡ 0
    uncounted : f.counts ≡ replicate 8 0

  -- records that are all 0 but for the grant number, as they are at the start and after an again
  start-same : settled c ≡ given c → (g h : ℕ) → g ≡ h
      → Same (record { positions = replicate 8 0; grants = g; counts = replicate 8 0 }) (record { positions = replicate 8 0; grants = h; counts = replicate 8 0 })
  start-same ok g h e = record {
    positions = refl;
    grants = e;
    within = start-within c ok g;
    absent = λ s k t l. at-zeros 8 t;
    uncounted = refl;
  }

  module _ (r f : Record) (q : Same r f) where
    placed_same : (s : Set) → read words ≡ given s → placed s r ≡ placed s f
    unfolding placed misplaced
    placed_same s e =
        rw (not-miscounted s r (q.absent s e), not-miscounted s f (λ t l. rw q.uncounted (at-zeros 8 t)), q.positions)

    -- every task has share left
    never-spent : (s : Set) (x : State) (t : ℕ) → shared_answer s m c r x t ≡ map_answer s m x t
    unfolding shared_answer
    never-spent s x t =
        let left = lt-ltb (at r.counts t) c.share (omega (arith, each_below c r q.within t)) in
        by_bool (would_be_granted s m x t) (λ g. rw (g, left)) (λ g. rw g)

    answers-same : (t : ℕ) → (bid words m c r t).answer ≡ (plain_bid words m f t).answer
    unfolding bid_answer plain_answer ◌then◌
    answers-same t =
        then_same _ _ (read words) λ s e.
        then_same _ _ (map_fits s m) λ grid g.
        rw (q.within.allowed, placed_same s e)
        (then_same _ _ (placed s f) λ x p. rw (q.within.unused, never-spent s x t))

    agains-same : (again words r).answer ≡ (again words f).answer
    unfolding again_answer
    agains-same = then_same _ _ (read words) λ s e. rw (placed_same s e)

    -- a grant of both: the task is one of the set's, so that no absent one gets a count
    grant-same : (t : ℕ) → is_granted (bid words m c r t).answer ≡ true → Same (grant c.window r t) (plain_grant f t)
    unfolding ◌then◌
    grant-same t g = record {
      positions = rw q.positions;
      grants = rw q.grants;
      within = grant-within words m c r q.within t;
      absent = λ s e u l.
          let task = is-task s m r t (goes-told s m r t (granted-tells s m c r t (rw e at g)).would).0 in
          window-zero c.window _ u (get_or-set_other r.counts t u _ 0 (λ z. omega arith) ∙ q.absent s e u l);
      uncounted = q.uncounted;
    }

    bid-same : (t : ℕ) → Same (after_call words m r (bids c t)) (after_plain words m f (bids c t))
    unfolding after_call after_plain
    bid-same t =
        let a = (bid words m c r t).answer in
        let same : is_granted (plain_bid words m f t).answer ≡ is_granted a = ap is_granted (sym (answers-same t)) in
        by_bool (is_granted a) (λ g. rw (same, g) (grant-same t g)) (λ g. rw (same, g) q)

    again-same : Same (after_call words m r agains) (after_plain words m f agains)
    unfolding after_call after_plain if_given
    again-same = rw agains-same (by_answer (again words f).answer)
      where
        by_answer : (a : Answer Again) → Same (if_given a (λ v. restart r) r) (if_given a (λ v. restart f) f)
        by_answer (given v) = start-same q.within.allowed r.grants f.grants q.grants
        by_answer (refused n p) = q

  shares_off : Allowed c → (cs : List Call) → Keeps c cs → Alike words m c (after_calls words m fresh cs) (plainly words m cs)
  shares_off a cs kept =
      let q = list-keeps (after_call words m) (after_plain words m) c Same (λ t r f q. bid-same r f q t) again-same cs kept fresh fresh (start-same (allowed c a) 0 0 refl) in
      record {
        positions = q.positions;
        grants = q.grants;
        bids_alike = answers-same (after_calls words m fresh cs) (plainly words m cs) q;
        agains_alike = agains-same (after_calls words m fresh cs) (plainly words m cs) q;
      }

pub fair-shares : FairShares
fair-shares = record {
  shares_off = λ words m c a off. shares_off words m c off a;
  below_window = λ words m c a cs kept.
      let w = calls-within words m c (allowed c a) cs kept in
      (all-below c _ w, each_below c _ w);
  only_17 = λ words map plan s e h c a cs kept.
      let below = all-below c _ (calls-within words (analyse words map plan).map c (allowed c a) cs kept) in
      ((service-holds.service words map plan s e h cs).bidding c a below).only_17;
}
