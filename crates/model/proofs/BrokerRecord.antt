-- The present broker has the three facts, on the words of an accepted set and a slice that carries its map: so after every list of calls from the fresh record
-- its state is open and in no box, and with settings kept enough rounds of bids finish every task. The grants are counted on all words and maps, refused ones too.
use Prim.Native.Nat.{ℕ, ◌+◌, ◌%◌, ◌<◌, ◌≤◌}
use native.Mathlib.Omega.{arith}
use native.Mathlib.Nat.{mod-eq_of_lt}
use mathlib.Core.Path.{◌≡◌, sym, ap, ◌∙◌}
use mathlib.Core.Bool.{true, false, not, cond, ◌&&◌}
use mathlib.Core.List.{List, map, Memᴰ}
use lib.ListN.{length, replicate, length-map}
use lib.Dec.{leb}
use borrow.Author.Tests.{leb-true, lt-leb}
use Rattle.model.specs.Answer.{Answer, given, refused, ◌then◌, if_given}
use Rattle.model.specs.Set.{Set, lengths_of}
use Rattle.model.specs.Layout.{WellFormed}
use Rattle.model.specs.Read.{read}
use Rattle.model.specs.State.{State, next, unfinished, is_end, sum}
use Rattle.model.specs.Hold.{permitted}
use Rattle.model.specs.Box.{covered}
use Rattle.model.specs.Forbidden.{forbidden_boxes}
use Rattle.model.specs.Map.{map_of}
use Rattle.model.specs.Plan.{unsafe_of}
use Rattle.model.specs.Record.{Record, fresh, state_in}
use Rattle.model.specs.Broker.{
  Settings,
  Again,
  bid,
  bid_answer,
  is_granted,
  is_setting,
  settled,
  used_up,
  in_window,
  grant,
  restart,
  again_answer,
  Call,
  bids,
  agains,
  Keeps,
  after_call,
  is_grant,
  after_calls,
  grant_count,
  IsRound,
  round_calls,
}
use Rattle.model.proofs.Bools.{by_bool, and-true}
use Rattle.model.proofs.Answers.{refused-given}
use Rattle.model.proofs.ForbiddenExact.{forbidden-permitted}
use Rattle.model.proofs.UnsafeComplete.{unsafe-exact}
use Rattle.model.proofs.Moves.{moves-unfinished, Good}
use Rattle.model.proofs.Service.{Facts, named-granted, list_counts, list-keeps, list-serves, rounds-end}
use Rattle.model.proofs.Records.{Carries, InService, start-serves, grant-state, moves-task, grant-serves, is-placed}
use Rattle.model.proofs.BidAnswers.{granted-tells, serves-move, some-granted, answer-refused}

-- an open state lies in no forbidden box
pub no-forbidden-box : (s : Set) (x : State) → Good (lengths_of s) (permitted s) x → covered (forbidden_boxes s) x ≡ false
no-forbidden-box s x g = forbidden-permitted s x g.grid ∙ ap not g.is_open.0

-- and in no unsafe box
pub no-unsafe-box : (s : Set) (x : State) → Good (lengths_of s) (permitted s) x → covered (unsafe_of s) x ≡ false
no-unsafe-box s x g =
    by_bool (covered (unsafe_of s) x)
    (λ e. absurd ((unsafe-exact (lengths_of s) (permitted s) (forbidden_boxes s) (forbidden-permitted s) x g.grid g.is_open.0).0 e g.is_open.1))
    (λ e. e)

module _ (words m : List ℕ) where
  -- a grant, and that without one nothing changes
  bid-grants : (r : Record) (c : Settings) (t : ℕ) → is_grant words m r (bids c t) ≡ true → after_call words m r (bids c t) ≡ grant c.window r t
  unfolding after_call is_grant
  bid-grants r c t e = rw e

  bid-stays : (r : Record) (c : Settings) (t : ℕ) → is_grant words m r (bids c t) ≡ false → after_call words m r (bids c t) ≡ r
  unfolding after_call is_grant
  bid-stays r c t e = rw e

  -- each call counts: a grant by 1, and every other one, an again too, by nothing
  module _ (r : Record) (fits : r.grants < 0x100000000) where
    same_number : r.grants ≡ (r.grants + 0) % 0x100000000
    same_number = let z : r.grants + 0 ≡ r.grants = omega arith in rw z (sym (mod-eq_of_lt fits))

    again-number : (a : Answer Again) → (if_given a (λ v. restart r) r).grants ≡ (r.grants + 0) % 0x100000000
    unfolding if_given
    again-number (given v) = same_number
    again-number (refused n p) = same_number

    counts : (k : Call) → (after_call words m r k).grants ≡ (r.grants + cond (is_grant words m r k) 1 0) % 0x100000000
    counts (bids c t) =
        by_bool (is_grant words m r (bids c t))
        (λ e. rw (bid-grants r c t e, e))
        (λ e. rw (bid-stays r c t e, e) same_number)
    counts agains = unfold after_call in unfold is_grant in again-number (read words then λ s. again_answer s r)

  -- from the fresh record the grant number is the number of bids answered Granted
  pub grant-number : (cs : List Call) → (after_calls words m fresh cs).grants ≡ grant_count words m fresh cs % 0x100000000
  grant-number cs =
      let n = grant_count words m fresh cs in
      let z : 0 + n ≡ n = omega arith in
      list_counts (after_call words m) (is_grant words m) (λ r. r.grants) (λ r k h. counts r h k) fresh cs (omega arith) ∙ ap (λ a. a % 0x100000000) z

-- settings that are allowed, and a record whose counts leave the window grants
pub record Within (c : Settings) (r : Record) : Type 0 where
  pub allowed : settled c ≡ given c
  pub unused : used_up c.window r.counts ≡ false

-- a setting that passes the test
pub setting-bounds : (n : ℕ) → is_setting n ≡ true → (1 ≤ n) × (n ≤ 255)
setting-bounds n e = let b = and-true (leb 1 n) (leb n 255) e in (leb-true 1 n b.0, leb-true n 255 b.1)

-- a window that is allowed has at least one grant, and at most 255
module _ (c : Settings) where
  pub setting-tests : settled c ≡ given c → (is_setting c.share && is_setting c.window) ≡ true
  unfolding settled
  setting-tests e = by_bool (is_setting c.share && is_setting c.window) (λ b. b) (λ b. refused-given (rw b at e))

  pub window-bounds : (is_setting c.share && is_setting c.window) ≡ true → (1 ≤ c.window) × (c.window ≤ 255)
  window-bounds e = setting-bounds c.window (and-true (is_setting c.share) (is_setting c.window) e).1

  -- with no grants made it is not used up, and as it keeps its counts it never is
  module _ (allowed : settled c ≡ given c) where
    fresh-unused : used_up c.window (replicate 8 0) ≡ false
    unfolding sum
    fresh-unused = lt-leb c.window 0 (window-bounds (setting-tests allowed)).0

    kept-unused : (counts : List ℕ) → used_up c.window (in_window c.window counts) ≡ false
    unfolding in_window
    kept-unused counts = by_bool (used_up c.window counts) (λ u. rw u fresh-unused) (λ u. rw u u)

    pub start-within : (g : ℕ) → Within c (record { positions = replicate 8 0; grants = g; counts = replicate 8 0 })
    start-within g = record { allowed = allowed; unused = fresh-unused }

-- on any words and map a bid and an again keep the record within the settings
module _ (words m : List ℕ) (c : Settings) where
  module _ (r : Record) (w : Within c r) where
    pub grant-within : (t : ℕ) → Within c (grant c.window r t)
    grant-within t = record { allowed = w.allowed; unused = kept-unused c w.allowed _ }

    bid-within : (t : ℕ) → Within c (after_call words m r (bids c t))
    bid-within t =
        by_bool (is_grant words m r (bids c t))
        (λ e. rw (bid-grants words m r c t e) (grant-within t))
        (λ e. rw (bid-stays words m r c t e) w)

    again-within : Within c (after_call words m r agains)
    unfolding after_call if_given
    again-within = by_answer (read words then λ s. again_answer s r)
      where
        by_answer : (a : Answer Again) → Within c (if_given a (λ v. restart r) r)
        by_answer (given v) = start-within c w.allowed r.grants
        by_answer (refused n p) = w

  -- so does every list of calls that keeps them
  pub calls-within : settled c ≡ given c → (cs : List Call) → Keeps c cs → Within c (after_calls words m fresh cs)
  calls-within allowed cs kept =
      list-keeps (after_call words m) (after_call words m) c (λ r f. Within c r) (λ t r f w. bid-within r w t) (λ r f w. again-within r w) cs kept fresh fresh
      (start-within c allowed 0)

module _ (words m : List ℕ) (s : Set) (well_formed : WellFormed s) (accepted : read words ≡ given s) (lent : Carries s m) where
  module _ (r : Record) (i : InService s r) where
    abbrev x : State
    x = state_in s r

    -- a bid is granted by its answer on the set
    on-set : (c : Settings) (t : ℕ) → is_grant words m r (bids c t) ≡ is_granted (bid_answer s m c r t)
    unfolding is_grant ◌then◌
    on-set c t = rw accepted

    -- a bid in service, within its settings, is refused only where it names no task, with 17
    pub bid-refused : (c : Settings) → Within c r → (t n p : ℕ) → (bid words m c r t).answer ≡ refused n p → (length s.tasks ≤ t) × (n ≡ 17) × (p ≡ t)
    unfolding ◌then◌
    bid-refused c w t n p e = answer-refused s m lent r i c w.allowed w.unused t n p (rw accepted at e)

    -- again leaves the record in service: with all positions and counts 0, or as it was
    again-serves : InService s (after_call words m r agains)
    unfolding after_call ◌then◌ again_answer if_given
    again-serves =
        rw (accepted, is-placed s r i)
        (by_bool (is_end (lengths_of s) x) (λ e. rw e (start-serves s well_formed _)) (λ e. rw e i))

    -- a grant is one step
    grant-steps : (c : Settings) (t : ℕ) → is_grant words m r (bids c t) ≡ true
        → (unfinished (lengths_of s) x t ≡ true) × (state_in s (after_call words m r (bids c t)) ≡ next x t) × InService s (after_call words m r (bids c t))
    grant-steps c t e =
        let go = sym (serves-move s m lent r i t) ∙ (granted-tells s m c r t (sym (on-set c t) ∙ e)).would in
        rw (bid-grants words m r c t e)
        (moves-unfinished (lengths_of s) (map_of s) x t go, grant-state s c.window r t (moves-task s x t go), grant-serves s r i c.window t go)

    -- before the end a round holds a grant
    round-grants : (c : Settings) → Within c r → is_end (lengths_of s) x ≡ false → (ts : List ℕ) → IsRound (length (lengths_of s)) ts
        → 0 < grant_count words m r (map (bids c) ts)
    round-grants c w e ts names =
        let some = some-granted s m lent r i c w.allowed w.unused e in
        let t = some.0 in
        named-granted (after_call words m) (is_grant words m) c (λ q. bid-stays words m q c) r t (on-set c t ∙ some.2) ts
        (names t (omega (arith, some.1, length-map s.tasks length)))

  -- the three facts, and what in service and within settings mean
  pub facts : Facts (lengths_of s) (permitted s) (state_in s) (InService s) Within (after_call words m) (is_grant words m)
  facts = record {
    good = λ r i. i.good;
    restarts = again-serves;
    steps = grant-steps;
    stays = bid-stays words m;
    keeps-within = λ c r t w. bid-within words m c r w t;
    restarts-within = again-within words m;
    round-grants = λ c r i w. round-grants r i c w;
  }

  -- after every list of calls from the fresh record it is in service
  pub calls-serve : (cs : List Call) → InService s (after_calls words m fresh cs)
  calls-serve cs = list-serves (lengths_of s) (permitted s) (state_in s) (InService s) Within (after_call words m) (is_grant words m) facts fresh cs (start-serves s well_formed 0)

  module _ (c : Settings) (allowed : settled c ≡ given c) where
    -- after at least as many rounds as the set has actions, every task is finished
    pub rounds-finish : (rs : List (List ℕ)) → ((ts : List ℕ) → Memᴰ ts rs → IsRound (length s.tasks) ts) → sum (lengths_of s) ≤ length rs
        → is_end (lengths_of s) (state_in s (after_calls words m fresh (round_calls c rs))) ≡ true
    rounds-finish rs named h =
        rounds-end (lengths_of s) (permitted s) (state_in s) (InService s) Within (after_call words m) (is_grant words m) facts c rs
        (λ ts q. rw (length-map s.tasks length) (named ts q)) fresh (start-serves s well_formed 0) (start-within c allowed 0) (omega arith)
