-- The broker's laws from three facts: a grant is a step to an open state, without a grant nothing changes, and before the end a round of bids with settings
-- kept holds a grant. They hold of every broker that has these, whatever its record and settings and however it decides.
use Prim.Native.Nat.{ℕ, ◌+◌, ◌%◌, ◌<◌, ◌≤◌}
use native.Mathlib.Omega.{arith}
use native.Mathlib.Nat.{mod-lt, mod-eq_of_lt, mod-add-mod, add_assoc}
use mathlib.Core.Path.{◌≡◌, refl, sym, ap, ◌∙◌}
use mathlib.Core.Bool.{Bool, true, false, cond}
use mathlib.Core.List.Memᴰ
use mathlib.Core.List.{List, [], ◌∷◌, ◌++◌, map, Memᴰ}
use lib.ListN.{length}
use borrow.Author.Tests.{ltb-true, ltb-false}
use Rattle.model.specs.State.{State, InGrid, next, unfinished, is_end, sum}
use Rattle.model.specs.Broker.{Settings, Call, bids, agains, after_list, granted_in, IsRound, round_calls, Keeps}
use Rattle.model.proofs.Bools.{by_bool, by_cases, true-not-false}
use Rattle.model.proofs.States.{unfinished-task, end-intro, end-finished}
use Rattle.model.proofs.Sums.{sum-next, sum-le, sum_lt}
use Rattle.model.proofs.Moves.{Good}

-- bids with the same settings keep them
pub bids-keep : (c : Settings) (ts : List ℕ) → Keeps c (map (bids c) ts)
bids-keep c [] d t j = absurd (Memᴰ.not-nil j)
bids-keep c (u ∷ ts) d t j = by_cases (Memᴰ.cases_cons j) (λ e. cc) (λ k. bids-keep c ts d t k)

-- at the end every action is done
end-sum : (ls : List ℕ) (x : State) → InGrid ls x → is_end ls x ≡ true → sum ls ≤ sum x
end-sum ls x g e =
    sum-le x ls
    (record {
      count = sym g.count;
      fits = λ t. by_bool (unfinished ls x t) (λ u. absurd (end-finished ls x e t u)) (ltb-false _ _);
    })

module _ {R : Type 0} (after_call : R → Call → R) where
  -- the first call of a list, and one list after another
  after_first : (r : R) (c : Call) (cs : List Call) → after_list after_call r (c ∷ cs) ≡ after_list after_call (after_call r c) cs
  unfolding after_list
  after_first r c cs = refl

  after-append : (r : R) (cs ds : List Call) → after_list after_call r (cs ++ ds) ≡ after_list after_call (after_list after_call r cs) ds
  unfolding after_list
  after-append r [] ds = refl
  after-append r (c ∷ cs) ds = after-append (after_call r c) cs ds

  module _ (is_grant : R → Call → Bool) where
    -- a list that starts with a grant, or with another bid that changes nothing
    first-granted : (r : R) (c : Call) (cs : List Call) → is_grant r c ≡ true → granted_in after_call is_grant r (c ∷ cs) ≡ 1 + granted_in after_call is_grant (after_call r c) cs
    unfolding granted_in
    first-granted r c cs e = ap (λ b. cond b 1 0 + granted_in after_call is_grant (after_call r c) cs) e

    first-other : (r : R) (c : Call) (cs : List Call) → is_grant r c ≡ false → granted_in after_call is_grant r (c ∷ cs) ≡ granted_in after_call is_grant (after_call r c) cs
    unfolding granted_in
    first-other r c cs e = ap (λ b. cond b 1 0 + granted_in after_call is_grant (after_call r c) cs) e ∙ omega arith

    -- where a bid is granted now, a list of bids with the same settings that names its task holds a grant
    pub named-granted : (c : Settings) → ((r : R) (t : ℕ) → is_grant r (bids c t) ≡ false → after_call r (bids c t) ≡ r)
        → (r : R) (t : ℕ) → is_grant r (bids c t) ≡ true → (ts : List ℕ) → Memᴰ t ts → 0 < granted_in after_call is_grant r (map (bids c) ts)
    named-granted c stays r t e [] i = absurd (Memᴰ.not-nil i)
    named-granted c stays r t e (u ∷ ts) i =
        by_bool (is_grant r (bids c u))
        (λ f. rw (first-granted r (bids c u) (map (bids c) ts) f) (omega arith))
        (λ f.
        by_cases (Memᴰ.cases_cons i)
        (λ q. true-not-false (is_grant r (bids c t)) e (rw q f))
        (λ j. rw (first-other r (bids c u) (map (bids c) ts) f, stays r u f) (named-granted c stays r t e ts j)))

    -- a number in the record that counts the grants modulo 4,294,967,296
    module _ (number : R → ℕ) (counts : (r : R) (c : Call) → number r < 0x100000000 → number (after_call r c) ≡ (number r + cond (is_grant r c) 1 0) % 0x100000000) where
      -- after a list of calls it is what it was and the grants of the list
      pub list_counts : (r : R) (cs : List Call) → number r < 0x100000000 → number (after_list after_call r cs) ≡ (number r + granted_in after_call is_grant r cs) % 0x100000000
      unfolding after_list granted_in
      list_counts r [] h = let z : number r + 0 ≡ number r = omega arith in rw z (sym (mod-eq_of_lt h))
      list_counts r (c ∷ cs) h =
          let k = cond {A = ℕ} (is_grant r c) 1 0 in
          let n = granted_in after_call is_grant (after_call r c) cs in
          let counted = counts r c h in
          let below : number (after_call r c) < 0x100000000 = rw counted (mod-lt (number r + k) (omega arith)) in
          list_counts (after_call r c) cs below ∙ ap (λ a. (a + n) % 0x100000000) counted
          ∙ mod-add-mod (number r + k) 0x100000000 n ∙ ap (λ a. a % 0x100000000) (add_assoc (number r) k n)

-- what a bid with settings c and an again keep, every list of calls with these settings keeps: of one record, or of the records of two brokers side by side
module _ {R F : Type 0} (after_r : R → Call → R) (after_f : F → Call → F) (c : Settings) (Kept : R → F → Type 0)
    (of-bid : (t : ℕ) (r : R) (f : F) → Kept r f → Kept (after_r r (bids c t)) (after_f f (bids c t)))
    (of-again : (r : R) (f : F) → Kept r f → Kept (after_r r agains) (after_f f agains)) where
  call-keeps : (k : Call) → ((d : Settings) (t : ℕ) → k ≡ bids d t → d ≡ c) → (r : R) (f : F) → Kept r f → Kept (after_r r k) (after_f f k)
  call-keeps (bids d t) same r f q = let e : d ≡ c = same d t refl in rw e (of-bid t r f q)
  call-keeps agains same r f q = of-again r f q

  pub list-keeps : (cs : List Call) → Keeps c cs → (r : R) (f : F) → Kept r f → Kept (after_list after_r r cs) (after_list after_f f cs)
  unfolding after_list
  list-keeps [] kept r f q = q
  list-keeps (k ∷ cs) kept r f q =
      list-keeps cs (λ d t j. kept d t (Memᴰ.tail j)) (after_r r k) (after_f f k) (call-keeps k (λ d t e. kept d t (Memᴰ.head (sym e))) r f q)

module _ (ls : List ℕ) (permitted : State → Bool) {R : Type 0} (state : R → State) (InService : R → Type 0) (Within : Settings → R → Type 0)
    (after_call : R → Call → R) (is_grant : R → Call → Bool) where
  -- what a broker needs: a record in service has an open state, and keeps in service at every call, whatever its settings
  pub record Facts : Type 0 where
    pub good : (r : R) → InService r → Good ls permitted (state r)
    pub restarts : (r : R) → InService r → InService (after_call r agains)
    -- a grant is one step of its task
    pub steps : (r : R) → InService r → (c : Settings) (t : ℕ) → is_grant r (bids c t) ≡ true
        → (unfinished ls (state r) t ≡ true) × (state (after_call r (bids c t)) ≡ next (state r) t) × InService (after_call r (bids c t))
    -- without a grant nothing changes
    pub stays : (r : R) (c : Settings) (t : ℕ) → is_grant r (bids c t) ≡ false → after_call r (bids c t) ≡ r
    -- a record within settings that are kept stays within them
    pub keeps-within : (c : Settings) (r : R) (t : ℕ) → Within c r → Within c (after_call r (bids c t))
    pub restarts-within : (c : Settings) (r : R) → Within c r → Within c (after_call r agains)
    -- and there, before the end, a round of bids holds a grant
    pub round-grants : (c : Settings) (r : R) → InService r → Within c r → is_end ls (state r) ≡ false → (ts : List ℕ) → IsRound (length ls) ts
        → 0 < granted_in after_call is_grant r (map (bids c) ts)

  module _ (facts : Facts) where
    call-serves : (r : R) (k : Call) → InService r → InService (after_call r k)
    call-serves r (bids c t) i = by_bool (is_grant r (bids c t)) (λ e. (facts.steps r i c t e).2) (λ e. rw (facts.stays r c t e) i)
    call-serves r agains i = facts.restarts r i

    -- after every list of calls the record is in service, so that its state is open
    pub list-serves : (r : R) (cs : List Call) → InService r → InService (after_list after_call r cs)
    unfolding after_list
    list-serves r [] i = i
    list-serves r (k ∷ cs) i = list-serves (after_call r k) cs (call-serves r k i)

    module _ (c : Settings) where
      -- after every list of calls with settings kept throughout it is within them
      list-within : (r : R) (cs : List Call) → Keeps c cs → Within c r → Within c (after_list after_call r cs)
      list-within r cs kept w =
          list-keeps after_call after_call c (λ q f. Within c q) (λ t q f v. facts.keeps-within c q t v) (λ q f v. facts.restarts-within c q v) cs kept r r w

      -- each grant of a list of bids does one action
      pub bids-sum : (r : R) (ts : List ℕ) → InService r
          → sum (state (after_list after_call r (map (bids c) ts))) ≡ sum (state r) + granted_in after_call is_grant r (map (bids c) ts)
      bids-sum r [] i = unfold after_list in unfold granted_in in omega arith
      bids-sum r (t ∷ ts) i =
          by_bool (is_grant r (bids c t))
          (λ e.
          let s = facts.steps r i c t e in
          let l = unfinished-task ls (state r) t s.0 in
          let one : sum (state (after_call r (bids c t))) ≡ 1 + sum (state r) = rw s.1 (omega (arith, sum-next (state r) t (omega (arith, (facts.good r i).grid.count)))) in
          rw (after_first after_call r (bids c t) (map (bids c) ts))
          (omega (arith, first-granted after_call is_grant r (bids c t) (map (bids c) ts) e, bids-sum (after_call r (bids c t)) ts s.2)))
          (λ e.
          rw (after_first after_call r (bids c t) (map (bids c) ts), first-other after_call is_grant r (bids c t) (map (bids c) ts) e, facts.stays r c t e) (bids-sum r ts i))

      -- as many rounds as actions are left finish every task
      pub rounds-end : (rs : List (List ℕ)) → ((ts : List ℕ) → Memᴰ ts rs → IsRound (length ls) ts) → (r : R) → InService r → Within c r
          → sum ls ≤ sum (state r) + length rs → is_end ls (state (after_list after_call r (round_calls c rs))) ≡ true
      unfolding round_calls
      rounds-end [] named r i w h =
          unfold after_list in end-intro ls (state r) λ t u. let l = sum_lt ls (state r) (facts.good r i).grid t (ltb-true _ _ u) in omega arith
      rounds-end (ts ∷ rs) named r i w h =
          let after = after_list after_call r (map (bids c) ts) in
          let rest = rounds-end rs (λ us j. named us (Memᴰ.tail j)) after (list-serves r (map (bids c) ts) i) (list-within r (map (bids c) ts) (bids-keep c ts) w) in
          let done = bids-sum r ts i in
          rw (after-append after_call r (map (bids c) ts) (round_calls c rs))
          (by_bool (is_end ls (state r))
          (λ e. rest (omega (arith, end-sum ls (state r) (facts.good r i).grid e)))
          (λ e. rest (omega (arith, facts.round-grants c r i w e ts (named ts (Memᴰ.head refl))))))
