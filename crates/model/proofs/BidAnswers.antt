-- What a bid answers. On any input: what a granted one tells. In service, on an accepted set and its map, with settings that are allowed and a window with
-- grants left: Granted exactly if the state moves and the share is not spent, before the end to some task, and of the refusals only 17.
use Prim.Native.Nat.{ℕ, zero, suc, ◌<◌, ◌≤◌}
use native.Mathlib.Omega.{arith}
use mathlib.Core.Path.{◌≡◌, refl, sym, ◌∙◌}
use mathlib.Core.Bool.{Bool, true, false, not, ◌&&◌}
use mathlib.Core.List.{List}
use lib.ListN.{length, length-map}
use lib.Dec.{eqb, ltb, leb}
use borrow.Author.Tests.{lt-ltb, leb-true, lt-leb, ne_eqb, not-true}
use Rattle.model.specs.Answer.{given, refused, ◌then◌}
use Rattle.model.specs.Set.{Set, device_of, lengths_of, action_at, at, size}
use Rattle.model.specs.State.{State, next, unfinished, is_end, rank}
use Rattle.model.specs.Hold.{permitted}
use Rattle.model.specs.Map.{map_of}
use Rattle.model.specs.Record.{Record, state_in, unfit, map_fits, placed}
use Rattle.model.specs.Broker.{
  Settings,
  bid_byte,
  map_answer,
  is_granted,
  would_be_granted,
  is_setting,
  settled,
  share_left,
  other_goes,
  shared_answer,
  used_up,
  bid_answer,
}
use Rattle.model.proofs.Bools.{by_bool, true-not-false, and-true, any-true}
use Rattle.model.proofs.States.{unfinished-task, next-grid}
use Rattle.model.proofs.Ranks.{rank_lt}
use Rattle.model.proofs.MapExact.{map-right}
use Rattle.model.proofs.Answers.{given-refused, refused-number, refused-place}
use Rattle.model.proofs.Moves.{moves, some-moves}
use Rattle.model.proofs.Records.{Carries, carries-fits, InService, is-placed, own-byte}

-- a bid is granted on byte 0 alone
byte-granted : (b r d : ℕ) → is_granted (bid_byte b r d) ≡ eqb b 0
unfolding bid_byte is_granted
byte-granted zero r d = refl
byte-granted (suc zero) r d = refl
byte-granted (suc (suc zero)) r d = refl
byte-granted (suc (suc (suc zero))) r d = refl
byte-granted (suc (suc (suc (suc b)))) r d = rw (lt-ltb 3 (suc (suc (suc (suc b)))) (omega arith), ne_eqb (suc (suc (suc (suc b)))) 0 (λ e. omega arith))

-- and of the bytes that a map has refused on none
byte-serves : (b r d : ℕ) → b ≤ 3 → (n p : ℕ) → bid_byte b r d ≡ refused n p → ⊥
unfolding bid_byte
byte-serves zero r d h n p e = given-refused e
byte-serves (suc zero) r d h n p e = given-refused e
byte-serves (suc (suc zero)) r d h n p e = given-refused e
byte-serves (suc (suc (suc zero))) r d h n p e = given-refused e
byte-serves (suc (suc (suc (suc b)))) r d h n p e = omega arith

module _ (s : Set) (m : List ℕ) where
  -- a task would be granted exactly if it moves
  pub would-move : (x : State) (t : ℕ) → would_be_granted s m x t ≡ moves (lengths_of s) m x t
  unfolding map_answer is_granted
  would-move x t =
      by_bool (unfinished (lengths_of s) x t)
      (λ u.
      let l : t < length s.tasks = omega (arith, length-map s.tasks length, unfinished-task (lengths_of s) x t u) in
      rw (lt-leb (length s.tasks) t l, u)
      (byte-granted (at m (rank (lengths_of s) (next x t))) (rank (lengths_of s) (next x t)) (device_of (action_at s t (at x t)))))
      (λ u. by_bool (leb (length s.tasks) t) (λ l. rw (l, u)) (λ l. rw (l, u)))

  module _ (c : Settings) (r : Record) where
    -- the share of task t is spent in state x
    abbrev pub spent : State → ℕ → Bool
    spent x t = not (share_left c r t) && other_goes s m c r x t

    -- it is granted exactly if it would be and its share is not spent
    pub shared-granted : (x : State) (t : ℕ) → is_granted (shared_answer s m c r x t) ≡ (would_be_granted s m x t && not (spent x t))
    unfolding shared_answer is_granted
    shared-granted x t =
        by_bool (would_be_granted s m x t)
        (λ w. by_bool (spent x t) (λ k. rw (w, k)) (λ k. rw (w, k) w))
        (λ w. rw w w)

    -- another task that goes, by what is tested
    pub other-tells : (x : State) (t : ℕ) → other_goes s m c r x t ≡ true
        → (u : ℕ) × (u < length s.tasks) × (eqb u t ≡ false) × (share_left c r u ≡ true) × (would_be_granted s m x u ≡ true)
    unfolding other_goes
    other-tells x t e =
        let q = any-true (length s.tasks) _ e in
        let u = q.0 in
        let a = and-true (not (eqb u t)) _ q.2 in
        let b = and-true (share_left c r u) (would_be_granted s m x u) a.1 in
        (u, q.1, not-true (eqb u t) a.0, b.0, b.1)

    -- whose share is spent, some other task is granted
    other-granted : (x : State) (t : ℕ) → spent x t ≡ true → (u : ℕ) × (u < length s.tasks) × (is_granted (shared_answer s m c r x u) ≡ true)
    other-granted x t e =
        let o = other-tells x t (and-true (not (share_left c r t)) (other_goes s m c r x t) e).1 in
        (o.0, o.1, shared-granted x o.0 ∙ rw (o.3, o.4))

    -- what a granted bid tells, on any input
    pub record Tells (t : ℕ) : Type 0 where
      pub settings : (is_setting c.share && is_setting c.window) ≡ true
      pub within : used_up c.window r.counts ≡ false
      pub would : would_be_granted s m (state_in s r) t ≡ true

    pub granted-tells : (t : ℕ) → is_granted (bid_answer s m c r t) ≡ true → Tells t
    unfolding bid_answer map_fits settled placed ◌then◌ is_granted
    granted-tells t g =
        by_bool (ltb (length m) (size (lengths_of s))) (λ e. no (rw e at g)) λ e₁.
        by_bool (is_setting c.share && is_setting c.window)
        (λ e₂.
        by_bool (unfit s r) (λ e. no (rw (e₁, e₂, e) at g)) λ e₃.
        by_bool (eqb (at m (rank (lengths_of s) (state_in s r))) 0)
        (λ e₄.
        by_bool (used_up c.window r.counts) (λ e. no (rw (e₁, e₂, e₃, e₄, e) at g)) λ e₅.
        let q = rw (e₁, e₂, e₃, e₄, e₅) at g in
        record {
          settings = e₂;
          within = e₅;
          would = (and-true (would_be_granted s m (state_in s r) t) (not (spent (state_in s r) t)) (sym (shared-granted (state_in s r) t) ∙ q)).0;
        })
        (λ e. no (rw (e₁, e₂, e₃, e) at g)))
        (λ e. no (rw (e₁, e) at g))
      where
        no : {G : Type 0} → ◌≡◌ {A = Bool} false true → G
        no e = true-not-false false e refl

module _ (s : Set) (m : List ℕ) (lent : Carries s m) (r : Record) (i : InService s r) where
  -- the record's state
  abbrev x : State
  x = state_in s r

  module _ (t : ℕ) where
    -- the next state of task t
    abbrev y : State
    y = next (state_in s r) t

    -- the next state's byte is the map's
    next-byte : unfinished (lengths_of s) x t ≡ true → at m (rank (lengths_of s) y) ≡ at (map_of s) (rank (lengths_of s) y)
    next-byte u = lent.same (rank (lengths_of s) y) (rank_lt (lengths_of s) y (next-grid (lengths_of s) x i.good.grid t u))

    -- and at most 3
    next_small : unfinished (lengths_of s) x t ≡ true → at m (rank (lengths_of s) y) ≤ 3
    next_small u = rw (next-byte u) (map-right (lengths_of s) (permitted s) y (next-grid (lengths_of s) x i.good.grid t u)).small

    -- what would be granted by the slice moves by the set's own map
    pub serves-move : would_be_granted s m (state_in s r) t ≡ moves (lengths_of s) (map_of s) (state_in s r) t
    serves-move =
        would-move s m x t
        ∙ by_bool (unfinished (lengths_of s) x t) (λ u. rw (u, next-byte u)) (λ u. rw u)

  module _ (c : Settings) (allowed : settled c ≡ given c) (within : used_up c.window r.counts ≡ false) where
    -- 13, 26 and 16 do not apply
    pub bid-answer : (t : ℕ) → bid_answer s m c r t ≡ shared_answer s m c r (state_in s r) t
    unfolding bid_answer ◌then◌
    bid-answer t = rw (carries-fits s m lent, allowed, is-placed s r i, own-byte s r i m lent, within)

    -- before the end some task is granted
    pub some-granted : is_end (lengths_of s) (state_in s r) ≡ false → (t : ℕ) × (t < length s.tasks) × (is_granted (bid_answer s m c r t) ≡ true)
    some-granted n =
        let some = some-moves (lengths_of s) (permitted s) x i.good.grid n i.good.is_open.1 in
        let t = some.0 in
        let would = serves-move t ∙ some.1 in
        by_bool (spent s m c r x t)
        (λ k. let o = other-granted s m c r x t k in (o.0, o.1, rw (bid-answer o.0) o.2))
        (λ k. (t, task t some.1, rw (bid-answer t) (shared-granted s m c r x t ∙ rw (would, k))))
      where
        task : (t : ℕ) → moves (lengths_of s) (map_of s) x t ≡ true → t < length s.tasks
        task t e =
            let u = (and-true (unfinished (lengths_of s) x t) (eqb (at (map_of s) (rank (lengths_of s) (next x t))) 0) e).0 in
            omega (arith, length-map s.tasks length, unfinished-task (lengths_of s) x t u)

    -- of the refusals only 17 is left
    pub answer-refused : (t n p : ℕ) → bid_answer s m c r t ≡ refused n p → (length s.tasks ≤ t) × (n ≡ 17) × (p ≡ t)
    unfolding shared_answer map_answer
    answer-refused t n p e =
        let f = sym (bid-answer t) ∙ e in
        by_bool (would_be_granted s m x t && spent s m c r x t)
        (λ k. given-refused (rw k at f))
        (λ k.
        let g = rw k at f in
        by_bool (leb (length s.tasks) t)
        (λ l. let q = rw l at g in (leb-true _ _ l, sym (refused-number q), sym (refused-place q)))
        (λ l. by_bool (unfinished (lengths_of s) x t)
        (λ u. absurd (byte-serves _ _ _ (next_small t u) n p (rw (l, u) at g)))
        (λ u. given-refused (rw (l, u) at g))))
