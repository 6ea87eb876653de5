-- A bid on any map, record and settings: its definition gone through, case by case.
use Prim.Native.Nat.{ℕ, ◌<◌, ◌≤◌}
use native.Mathlib.Omega.{arith}
use mathlib.Core.Path.{◌≡◌, refl, ◌∙◌}
use mathlib.Core.Logic.{◌⊎◌, inl, inr}
use mathlib.Core.Bool.{true, false}
use mathlib.Core.List.{List}
use lib.ListN.{length}
use lib.Dec.{eqb}
use borrow.Author.Tests.{lt-ltb, le-ltb, lt-leb, le-leb, eqb-true}
use Rattle.model.specs.Answer.{Answer, given, refused, ◌then◌}
use Rattle.model.specs.Set.{Action, device_of, Set, lengths_of, task_at, action_at, at, size}
use Rattle.model.specs.Layout.{WellFormed}
use Rattle.model.specs.State.{State, next, sum, rank}
use Rattle.model.specs.Read.{read}
use Rattle.model.specs.Record.{Record, state_in, unfit, map_fits, placed}
use Rattle.model.specs.Broker.{
  Settings,
  Bid,
  granted,
  finished,
  share-spent,
  busy,
  held,
  bid_byte,
  map_answer,
  is_granted,
  shared_answer,
  used_up,
  bid_answer,
  grant,
  answered,
  bid,
}
use Rattle.model.proofs.Bools.{by_bool, by_cases, true-not-false}
use Rattle.model.proofs.ReadExact.{read-sound}
use Rattle.model.proofs.BidAnswers.{spent}
use Rattle.demands.specs.Calls.{byte_of, Allowed, ReadyFor, WouldGo, Unfit, OfBid, Names, unchanged}
use Rattle.demands.proofs.AllowedSettings.{allowed, not_allowed}
use Rattle.demands.proofs.Placed.{length_at, told-unfit, is-fit}
use Rattle.demands.proofs.SharesTold.{is-task, by_byte, would-go, is_spent, not-spent, has_room, closes}

-- what is granted is told by the answer
pub granted-told : (a : Answer Bid) → is_granted a ≡ true → a ≡ given granted
unfolding is_granted
granted-told (given granted) e = refl
granted-told (given finished) e = true-not-false false e refl
granted-told (given share-spent) e = true-not-false false e refl
granted-told (given (busy d)) e = true-not-false false e refl
granted-told (given (held k)) e = true-not-false false e refl
granted-told (refused k p) e = true-not-false false e refl

named : (a : Action) (d : ℕ) → Names a d → device_of a ≡ d
unfolding device_of
named a d (inl e) = rw e.1
named a d (inr e) = rw e

module _ (words : List ℕ) (s : Set) (is_read : read words ≡ given s) (r : Record) (m : List ℕ) (c : Settings) (t : ℕ) where
  abbrev ls : List ℕ
  ls = lengths_of s

  abbrev x : State
  x = state_in s r

  well_formed : WellFormed s
  well_formed = (read-sound words s is_read).1

  -- the first tests of a bid do not apply
  module _ (q : ReadyFor s r m c) where
    by-shares : bid words m c r t ≡ answered c.window r t (shared_answer s m c r x t)
    unfolding ◌then◌ map_fits placed bid_answer
    by-shares =
        rw (
          is_read,
          le-ltb (length m) (size ls) q.0.0,
          allowed c q.1,
          is-fit s well_formed r q.0.1,
          q.0.2,
          lt-leb c.window (sum r.counts) q.2,
        )

    -- an answer that is not Granted is given by set and map alone, and changes nothing
    by_map : (a : Answer Bid) → is_granted a ≡ false → map_answer s m x t ≡ a → bid words m c r t ≡ unchanged a r
    unfolding shared_answer
    by_map a n e = by-shares ∙ rw (e, n, n)

    -- one that would be Granted is, unless its share is spent
    module _ (g : WouldGo s r m t) where
      pub spends : spent s m c r x t ≡ true → bid words m c r t ≡ unchanged (given share-spent) r
      unfolding shared_answer is_granted
      spends k = by-shares ∙ rw (would-go s m r t g, k)

      pub goes : spent s m c r x t ≡ false → bid words m c r t ≡ record { answer = given granted; after = grant c.window r t }
      unfolding shared_answer is_granted
      goes k = by-shares ∙ rw (would-go s m r t g, k)

    held_next : at x t < length (task_at s t) → (byte_of s m (next x t) ≡ 2) ⊎ (byte_of s m (next x t) ≡ 3)
        → bid words m c r t ≡ unchanged (given (held (rank ls (next x t)))) r
    unfolding bid_byte is_granted
    held_next l b = by_map (given (held (rank ls (next x t)))) refl (by_byte s m r t l ∙ by_cases b (λ e. rw e) (λ e. rw e))

  bad_record : size ls ≤ length m → Allowed c → Unfit s r ⊎ ((byte_of s m x ≡ 0 → ⊥) ⊎ (c.window ≤ sum r.counts))
      → bid words m c r t ≡ unchanged (refused 16 0) r
  unfolding ◌then◌ map_fits placed bid_answer is_granted
  bad_record h a w =
      by_bool (unfit s r)
      (λ e. rw (is_read, le-ltb (length m) (size ls) h, allowed c a, e))
      (λ e. by_bool (eqb (byte_of s m x) 0)
      (λ b. rw (is_read, le-ltb (length m) (size ls) h, allowed c a, e, b, full w e b))
      (λ b. rw (is_read, le-ltb (length m) (size ls) h, allowed c a, e, b)))
    where
      -- where nothing else is wrong the counts are
      full : Unfit s r ⊎ ((byte_of s m x ≡ 0 → ⊥) ⊎ (c.window ≤ sum r.counts)) → unfit s r ≡ false → eqb (byte_of s m x) 0 ≡ true
          → used_up c.window r.counts ≡ true
      full (inl u) e b = true-not-false (unfit s r) (told-unfit s well_formed r u) e
      full (inr (inl n)) e b = absurd (n (eqb-true (byte_of s m x) 0 b))
      full (inr (inr l)) e b = le-leb c.window (sum r.counts) l

  pub of-bid : length r.counts ≡ 8 → OfBid words s r m c t
  unfolding ◌then◌ map_fits bid_answer map_answer bid_byte is_granted
  of-bid eight =
      let in-counts : at x t < length (task_at s t) → t < length r.counts = λ l. omega (arith, eight, well_formed.tasks, is-task s m r t l) in
      record {
        map_short = λ h. rw (is_read, lt-ltb (length m) (size ls) h);
        bad_setting = λ h n. rw (is_read, le-ltb (length m) (size ls) h, not_allowed c n);
        bad_record = bad_record;
        no_task = λ q l. by_map q (refused 17 t) refl (rw (le-leb (length s.tasks) t l));
        is-finished = λ q l h. by_map q (given finished) refl
            (rw (lt-leb (length s.tasks) t l, le-ltb (at x t) (at ls t) (omega (arith, length_at s t))));
        bad_byte = λ q l b. by_map q (refused 18 _) refl (by_byte s m r t l ∙ rw (lt-ltb 3 (byte_of s m (next x t)) b));
        is_busy = λ q l b d a. by_map q (given (busy d)) refl (by_byte s m r t l ∙ rw (b, named (action_at s t (at x t)) d a));
        is_held = held_next;
        is_spent = λ q g l o. spends q g (is_spent s m r c t l o);
        is-granted = λ q g k l. goes q g (not-spent s m r c t k) ∙ rw (has_room r.counts c.window t (in-counts g.0) l);
        last_granted = λ q g k e. goes q g (not-spent s m r c t k) ∙ rw (closes r.counts c.window t (in-counts g.0) e);
      }
