-- Each call refuses with its listed numbers only: refusals first, so each check keeps to the list by itself.
use Prim.Native.Nat.{ℕ, suc, ◌<◌, ◌≤◌}
use native.Mathlib.Omega.{arith}
use native.Mathlib.Nat.{eq-or-lt_of_le}
use mathlib.Core.Path.{◌≡◌, refl, sym}
use mathlib.Core.Logic.{inl, inr, ⊎_elim}
use mathlib.Core.Bool.{Bool, true, false, not, cond, ◌&&◌, ◌||◌}
use mathlib.Core.List.{List, [], ◌∷◌, ◌++◌, Memᴰ}
use lib.ListN.{length}
use lib.Dec.{eqb, ltb, leb}
use borrow.Author.Tests.{eqb-true, leb-true}
use Rattle.model.specs.Answer.{Answer, given, refused, ◌then◌}
use Rattle.model.specs.Set.{Set, lengths_of, at, size}
use Rattle.model.specs.State.{State, unfinished, is_end, next, rank}
use Rattle.model.specs.Layout.{encode, present, former}
use Rattle.model.specs.Read.{read_by, read}
use Rattle.model.specs.Clean.{cleaned, clean_fits, clean}
use Rattle.model.specs.Plan.{plan_of, plan_words}
use Rattle.model.specs.Record.{Record, fresh, state_in, unfit, map_fits, placed}
use Rattle.model.specs.Analysis.{plan_fits, with_room, analyse}
use Rattle.model.specs.Broker.{Settings, bid_byte, map_answer, would_be_granted, is_setting, settled, share_left, other_goes, shared_answer, used_up, bid_answer, bid, again_answer, again}
use Rattle.model.specs.Trial.{Tried, untried, counted, rounds_of, try_from, trial_on, trial}
use Rattle.model.specs.Route.{steps_from, walked, route_from, route_steps, route_fits, route}
use Rattle.model.specs.StoredPlan.{locate}
use Rattle.model.proofs.Bools.{by_bool, by_cases, true-not-false, or-true}
use Rattle.model.proofs.Answers.{then-refused}
use Rattle.model.proofs.ReadNumbers.{OfWords, read_number}
use Rattle.demands.specs.Refusals.{of_former_set, of_set, of_analysis, of_bid, of_trial, of_again, of_route, of_question, of_cleaner, Only, Refusals}
use Rattle.demands.proofs.TrialOrders.{faulty-order, right-order, right_or_faulty, rounds-tasks}
use Rattle.demands.proofs.PlanFaultsHold.{plan-faults-hold}

-- a number that a list has
abbrev has : ℕ → List ℕ → Bool
has n [] = false
has n (a ∷ l) = eqb n a || has n l

listed : (n : ℕ) (l : List ℕ) → has n l ≡ true → Memᴰ n l
listed n [] e = true-not-false false e refl
listed n (a ∷ l) e = by_cases (or-true (eqb n a) (has n l) e) (λ h. Memᴰ.head (eqb-true n a h)) (λ h. Memᴰ.tail (listed n l h))

module _ {A : Type 0} (numbers : List ℕ) where
  -- an answer keeps to the list exactly if each of its refusals is listed
  only-intro : (a : Answer A) → ((n p : ℕ) → a ≡ refused n p → Memᴰ n numbers) → Only numbers a
  unfolding Only
  only-intro (given x) h = tt
  only-intro (refused n p) h = h n p refl

  only-listed : (a : Answer A) → Only numbers a → (n p : ℕ) → a ≡ refused n p → Memᴰ n numbers
  unfolding Only
  only-listed a h n p e = rw e at h

  only-cond : (b : Bool) (x y : Answer A) → Only numbers x → Only numbers y → Only numbers (cond b x y)
  only-cond true x y h k = h
  only-cond false x y h k = k

-- refusals first: what is first keeps to the list, and then what comes next
only_then : {A B : Type 0} (numbers : List ℕ) (a : Answer A) (f : A → Answer B) → Only numbers a → ((x : A) → Only numbers (f x)) → Only numbers (a then f)
only_then numbers a f h k =
    only-intro numbers (a then f) λ n p e.
    by_cases ((then-refused f a n p).0 e) (only-listed numbers a h n p) (λ r. only-listed numbers (f r.0) (k r.0) n p r.2)

-- a reading's numbers are 1 to 12 and 28, which every list begins with
first-listed : (more : List ℕ) (n : ℕ) → OfWords n → Memᴰ n (of_former_set ++ more)
first-listed more n (inr e) = rw e (listed 28 (of_former_set ++ more) refl)
first-listed more n (inl h) =
    from 1 n _ h.0 λ n₂. from 2 n _ n₂ λ n₃. from 3 n _ n₃ λ n₄. from 4 n _ n₄ λ n₅. from 5 n _ n₅ λ n₆. from 6 n _ n₆ λ n₇.
    from 7 n _ n₇ λ n₈. Memᴰ.tail (from 8 n _ n₈ λ n₉. from 9 n _ n₉ λ n₁₀. from 10 n _ n₁₀ λ n₁₁. from 11 n _ n₁₁ λ n₁₂. from 12 n _ n₁₂ λ n₁₃.
    absurd (omega (arith, h.1)))
  where
    -- a number from a on is a or a later one
    from : (a n : ℕ) (l : List ℕ) → a ≤ n → (a < n → Memᴰ n l) → Memᴰ n (a ∷ l)
    from a n l h k = by_cases (eq-or-lt_of_le h) (λ e. Memᴰ.head (sym e)) (λ q. Memᴰ.tail (k q))

-- and 24 by the present rules
read_only : (more words : List ℕ) → Only (of_set ++ more) (read words)
read_only more words =
    only-intro (of_set ++ more) (read words) λ n p e.
    by_cases (read_number present words n p e) (first-listed ((24 ∷ []) ++ more) n) (λ r. rw r.1 (listed 24 (of_set ++ more) refl))

former-only : (more words : List ℕ) → Only (of_former_set ++ more) (read_by former words)
former-only more words =
    only-intro (of_former_set ++ more) (read_by former words) λ n p e.
    by_cases (read_number former words n p e) (first-listed more n) (λ r. true-not-false former r.0 refl)

clean-only : (words slice : List ℕ) → Only of_cleaner (clean words slice).answer
unfolding clean_fits Only
clean-only words slice =
    only_then of_cleaner (read_by former words then clean_fits slice) _
    (only_then of_cleaner (read_by former words) _ (former-only (25 ∷ []) words) λ s.
    only-cond of_cleaner (ltb (length slice) (length (encode (cleaned s)))) _ _ (listed 25 of_cleaner refl) tt) λ ws. tt

-- the checks of several calls, by the lists that have their numbers
module _ (numbers : List ℕ) where
  fits-only : Memᴰ 13 numbers → (s : Set) (m : List ℕ) → Only numbers (map_fits s m)
  unfolding map_fits Only
  fits-only h s m = only-cond numbers (ltb (length m) (size (lengths_of s))) _ _ h tt

  placed-only : Memᴰ 16 numbers → (s : Set) (r : Record) → Only numbers (placed s r)
  unfolding placed Only
  placed-only h s r = only-cond numbers (unfit s r) _ _ h tt

analysis-only : (words map plan : List ℕ) → Only of_analysis (analyse words map plan).answer
unfolding plan_fits Only
analysis-only words map plan =
    only_then of_analysis (with_room words map) _
    (only_then of_analysis (read words) _ (read_only _ words) λ s.
    only_then of_analysis (map_fits s map) _ (fits-only of_analysis (listed 13 of_analysis refl) s map) λ grid. tt) λ s.
    only_then of_analysis (plan_fits s plan) _
    (only-cond of_analysis (ltb (length plan) (length (plan_words (plan_of s)))) _ _ (listed 14 of_analysis refl) tt) λ ws. tt

-- a bid, by a list that has 13, 16, 18 and 26, and 17 where it names no task
module _ (numbers : List ℕ) (has-13 : Memᴰ 13 numbers) (has-16 : Memᴰ 16 numbers) (has-18 : Memᴰ 18 numbers) (has-26 : Memᴰ 26 numbers) where
  byte-only : (b r d : ℕ) → Only numbers (bid_byte b r d)
  unfolding bid_byte Only
  byte-only b r d =
      let by = only-cond numbers in
      by (ltb 3 b) _ _ has-18 (by (eqb b 1) _ _ tt (by (eqb b 2 || eqb b 3) _ _ tt tt))

  settled_only : (c : Settings) → Only numbers (settled c)
  unfolding settled Only
  settled_only c = only-cond numbers (is_setting c.share && is_setting c.window) _ _ tt has-26

  module _ (s : Set) (t : ℕ) (no_task : length s.tasks ≤ t → Memᴰ 17 numbers) where
    -- by set and map alone, and with a share that may be spent, which is no refusal
    map-only : (m : List ℕ) (x : State) → Only numbers (map_answer s m x t)
    unfolding map_answer Only
    map-only m x =
        by_bool (leb (length s.tasks) t)
        (λ e. rw e (no_task (leb-true (length s.tasks) t e)))
        (λ e. rw e (only-cond numbers (not (unfinished (lengths_of s) x t)) _ _ tt (byte-only _ (rank (lengths_of s) (next x t)) _)))

    answer-only : (m : List ℕ) (c : Settings) (r : Record) → Only numbers (bid_answer s m c r t)
    unfolding bid_answer shared_answer Only
    answer-only m c r =
        let by = only-cond numbers in
        only_then numbers (map_fits s m) _ (fits-only numbers has-13 s m) λ grid.
        only_then numbers (settled c) _ (settled_only c) λ settings.
        only_then numbers (placed s r) _ (placed-only numbers has-16 s r) λ x.
        by (not (eqb (at m (rank (lengths_of s) x)) 0)) _ _ has-16
        (by (used_up c.window r.counts) _ _ has-16
        (by (would_be_granted s m x t && (not (share_left c r t) && other_goes s m c r x t)) _ _ tt (map-only m x)))

bid-only : (words map : List ℕ) (c : Settings) (r : Record) (t : ℕ) → Only of_bid (bid words map c r t).answer
bid-only words map c r t = only_then of_bid (read words) _ (read_only _ words) λ s. answer-only of_bid (listed 13 of_bid refl) (listed 16 of_bid refl) (listed 18 of_bid refl) (listed 26 of_bid refl) s t (λ h. listed 17 of_bid refl) map c r

-- the bids of a trial name tasks of the set
module _ (words : List ℕ) (s : Set) (is_read : read words ≡ given s) (m : List ℕ) (c : Settings) where
  tried-only : (ts : List ℕ) → ((i : ℕ) → i < length ts → at ts i < length s.tasks) → (k : Tried) (r : Record) → Only of_trial (try_from words m c s k r ts)
  unfolding try_from Only ◌then◌
  tried-only [] tasks k r = tt
  tried-only (t ∷ ts) tasks k r =
      let one : Only of_trial (bid words m c r t).answer = rw is_read (answer-only of_trial (listed 13 of_trial refl) (listed 16 of_trial refl) (listed 18 of_trial refl) (listed 26 of_trial refl) s t (λ h. absurd (omega (arith, tasks 0 (omega arith)))) m c r) in
      only-cond of_trial (is_end (lengths_of s) (state_in s r)) _ _ tt
      (only_then of_trial (bid words m c r t).answer _ one λ b. tried-only ts (λ i h. tasks (suc i) (omega arith)) (counted k t b) (bid words m c r t).after)

  on-set-only : (order : List ℕ) (rounds : ℕ) → Only of_trial (trial_on words m order rounds c s)
  unfolding trial_on Only ◌then◌
  on-set-only order rounds =
      only_then of_trial (map_fits s m) _ (fits-only of_trial (listed 13 of_trial refl) s m) λ grid.
      only_then of_trial (settled c) _ (settled_only of_trial (listed 13 of_trial refl) (listed 16 of_trial refl) (listed 18 of_trial refl) (listed 26 of_trial refl) c) λ settings.
      ⊎_elim
      (λ r. rw (right-order s order r) (tried-only (rounds_of order rounds) (rounds-tasks s order r rounds) untried fresh))
      (λ f. rw (faulty-order s order f.0 f.1) (listed 27 of_trial refl))
      (right_or_faulty s order)

trial-only : (words map order : List ℕ) (rounds : ℕ) (c : Settings) → Only of_trial (trial words map order rounds c)
trial-only words map order rounds c =
    only-intro of_trial (trial words map order rounds c) λ n p e.
    by_cases ((then-refused (trial_on words map order rounds c) (read words) n p).0 e)
    (only-listed of_trial (read words) (read_only _ words) n p)
    (λ q. only-listed of_trial (trial_on words map order rounds c q.0) (on-set-only words q.0 q.1 map c order rounds) n p q.2)

again-only : (words : List ℕ) (r : Record) → Only of_again (again words r).answer
unfolding again_answer Only
again-only words r =
    only_then of_again (read words) _ (read_only _ words) λ s.
    only_then of_again (placed s r) _ (placed-only of_again (listed 16 of_again refl) s r) λ x.
    only-cond of_again (not (is_end (lengths_of s) x)) _ _ (listed 19 of_again refl) tt

route-only : (words map : List ℕ) (r : Record) (slice : List ℕ) → Only of_route (route words map r slice).answer
unfolding route_steps route_from route_fits Only
route-only words map r slice =
    let by = only-cond of_route in
    let is : (n : ℕ) → has n of_route ≡ true → Memᴰ n of_route = λ n. listed n of_route in
    only_then of_route (read words then λ s. route_steps s map r then λ ts. route_fits slice ts) _
    (only_then of_route (read words) _ (read_only _ words) λ s.
    only_then of_route (route_steps s map r) _
    (only_then of_route (map_fits s map) _ (fits-only of_route (is 13 refl) s map) λ grid.
    only_then of_route (placed s r) _ (placed-only of_route (is 16 refl) s r) λ x.
    let b = at map (rank (lengths_of s) x) in
    by (eqb b 1) _ _ (is 16 refl)
    (by (ltb 3 b) _ _ (is 18 refl)
    (by (not (eqb b 0)) _ _ (is 20 refl)
    (by (not (is_end (lengths_of s) (walked x (steps_from (lengths_of s) map x)))) _ _ (is 18 refl) tt)))) λ ts.
    by (ltb (length slice) (length ts)) _ _ (is 21 refl) tt) λ ts. tt

question-only : (x : State) (plan : List ℕ) (tasks : ℕ) → Only of_question (locate x plan tasks)
question-only x plan tasks =
    only-intro of_question (locate x plan tasks) λ n p e.
    by_cases (plan-faults-hold.no_others x plan tasks n p e) Memᴰ.head (λ q. Memᴰ.tail (Memᴰ.head q))

pub refusals : Refusals
refusals = record {
  reads = read_only [];
  analyses = analysis-only;
  bids = bid-only;
  trials = trial-only;
  agains = again-only;
  routes = route-only;
  reads_formerly = former-only [];
  cleans = clean-only;
  questions = question-only;
}
