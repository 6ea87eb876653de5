-- The sets of k among n tasks: each is listed, by its ascending task list; and those of all sizes, smaller ones first.
use Prim.Native.Nat.{ℕ, zero, suc, ◌<◌, ◌≤◌}
use native.Mathlib.Omega.{arith}
use mathlib.Core.Path.{◌≡◌, refl, sym, ap, ◌∙◌}
use mathlib.Core.Logic.{inl, inr}
use mathlib.Core.Bool.{true, false}
use mathlib.Core.List.Memᴰ
use mathlib.Core.List.{List, [], ◌∷◌, map, Memᴰ}
use lib.ListN.{length}
use Rattle.model.specs.Forbidden.{TaskSet, choose, sets_from}
use Rattle.model.proofs.Bools.{by_cases}
use Rattle.demands.specs.Terms.{before, Ordered}
use Rattle.demands.specs.ForbiddenRule.{ListBefore}
use Rattle.demands.proofs.Orders.{ordered-append, ordered-map, ordered-weaken, before-lower, before_same}

-- the ascending task list of a task set, from task t on
unfoldable pub members : ℕ → TaskSet → List ℕ
members t [] = []
members t (true ∷ c) = t ∷ members (suc t) c
members t (false ∷ c) = members (suc t) c

-- n tasks are told of, k of them chosen
pub record Sized (t k n : ℕ) (c : TaskSet) : Type 0 where
  pub told : length c ≡ n
  pub chosen : length (members t c) ≡ k

take-sized : (t k n : ℕ) (c : TaskSet) → Sized (suc t) k n c → Sized t (suc k) (suc n) (true ∷ c)
unfolding members
take-sized t k n c s = record { told = ap suc s.told; chosen = ap suc s.chosen }

leave-sized : (t k n : ℕ) (c : TaskSet) → Sized (suc t) k n c → Sized t k (suc n) (false ∷ c)
unfolding members
leave-sized t k n c s = record { told = ap suc s.told; chosen = s.chosen }

-- the sets that take the first of the tasks
abbrev taking : List TaskSet → List TaskSet
taking = map (λ c. true ∷ c)

-- and those that leave it
abbrev leaving : List TaskSet → List TaskSet
leaving = map (λ c. false ∷ c)

pub choose-sized : (t k n : ℕ) (c : TaskSet) → Memᴰ c (choose k n) → Sized t k n c
unfolding choose members
choose-sized t zero zero c m = rw (Memᴰ.eq_of_singleton m) (record { told = refl; chosen = refl })
choose-sized t zero (suc n) c m =
    let r = Memᴰ.of_map (λ c. false ∷ c) (choose zero n) m in
    rw (← r.2) (leave-sized t zero n r.0 (choose-sized (suc t) zero n r.0 r.1))
choose-sized t (suc k) zero c m = absurd (Memᴰ.not-nil m)
choose-sized t (suc k) (suc n) c m =
    by_cases (Memᴰ.append_cases (taking (choose k n)) m)
    (λ m.
    let r = Memᴰ.of_map (λ c. true ∷ c) (choose k n) m in
    rw (← r.2) (take-sized t k n r.0 (choose-sized (suc t) k n r.0 r.1)))
    (λ m.
    let r = Memᴰ.of_map (λ c. false ∷ c) (choose (suc k) n) m in
    rw (← r.2) (leave-sized t (suc k) n r.0 (choose-sized (suc t) (suc k) n r.0 r.1)))

leaves : (k n : ℕ) (c : TaskSet) → Memᴰ c (choose k n) → Memᴰ (false ∷ c) (choose k (suc n))
unfolding choose
leaves zero n c m = Memᴰ.map (λ c. false ∷ c) m
leaves (suc k) n c m = Memᴰ.append_right (taking (choose k n)) (Memᴰ.map (λ c. false ∷ c) m)

pub chosen-listed : (t : ℕ) (c : TaskSet) → Memᴰ c (choose (length (members t c)) (length c))
unfolding choose members
chosen-listed t [] = Memᴰ.head refl
chosen-listed t (true ∷ c) = Memᴰ.append_left (leaving (choose (suc (length (members (suc t) c))) (length c))) (Memᴰ.map (λ c. true ∷ c) (chosen-listed (suc t) c))
chosen-listed t (false ∷ c) = leaves (length (members (suc t) c)) (length c) c (chosen-listed (suc t) c)

-- a task list that starts below u stands before one of tasks from u on
before-later : (t u : ℕ) (x : List ℕ) (c : TaskSet) → t < u → 0 < length (members u c) → before (t ∷ x) (members u c) ≡ true
unfolding members
before-later t u x [] h l = absurd (omega arith)
before-later t u x (true ∷ c) h l = before-lower t u x (members (suc u) c) h
before-later t u x (false ∷ c) h l = before-later t (suc u) x c (omega arith) l

abbrev pub ByMembers : ℕ → TaskSet → TaskSet → Type 0
ByMembers t c e = before (members t c) (members t e) ≡ true

pub choose-ordered : (t k n : ℕ) → Ordered (ByMembers t) (choose k n)
unfolding choose members
choose-ordered t zero zero = ((λ b m. absurd (Memᴰ.not-nil m)), tt)
choose-ordered t zero (suc n) =
    ordered-map (ByMembers (suc t)) (ByMembers t) (λ c. false ∷ c) (choose zero n) (λ a b h. h) (choose-ordered (suc t) zero n)
choose-ordered t (suc k) zero = tt
choose-ordered t (suc k) (suc n) =
    ordered-append (ByMembers t) (taking (choose k n)) (leaving (choose (suc k) n))
    (ordered-map (ByMembers (suc t)) (ByMembers t) (λ c. true ∷ c) (choose k n)
    (λ a b h. before_same t (members (suc t) a) (members (suc t) b) h) (choose-ordered (suc t) k n))
    (ordered-map (ByMembers (suc t)) (ByMembers t) (λ c. false ∷ c) (choose (suc k) n) (λ a b h. h) (choose-ordered (suc t) (suc k) n))
    (λ a b m q.
    let r = Memᴰ.of_map (λ c. true ∷ c) (choose k n) m in
    let s = Memᴰ.of_map (λ c. false ∷ c) (choose (suc k) n) q in
    let z = choose-sized (suc t) (suc k) n s.0 s.1 in
    rw (← r.2, ← s.2) (before-later t (suc t) (members (suc t) r.0) s.0 (omega arith) (omega arith)))

-- ---- sets of all sizes
-- smaller sets first, equal sizes by their task lists
abbrev pub BySize : TaskSet → TaskSet → Type 0
BySize c e = ListBefore (members 0 c) (members 0 e)

-- a set of those of k tasks and more
pub sets-sized : (k j n : ℕ) (c : TaskSet) → Memᴰ c (sets_from k j n) → (length c ≡ n) × (k ≤ length (members 0 c))
unfolding sets_from
sets-sized k zero n c m = absurd (Memᴰ.not-nil m)
sets-sized k (suc j) n c m =
    by_cases (Memᴰ.append_cases (choose k n) m)
    (λ i. let r = choose-sized 0 k n c i in (r.told, omega (arith, r.chosen)))
    (λ i. let r = sets-sized (suc k) j n c i in (r.0, omega (arith, r.1)))

pub sets-ordered : (k j n : ℕ) → Ordered BySize (sets_from k j n)
unfolding sets_from
sets-ordered k zero n = tt
sets-ordered k (suc j) n =
    ordered-append BySize (choose k n) (sets_from (suc k) j n)
    (ordered-weaken (ByMembers 0) BySize (choose k n)
    (λ a b m i h. inr ((choose-sized 0 k n a m).chosen ∙ sym (choose-sized 0 k n b i).chosen, h)) (choose-ordered 0 k n))
    (sets-ordered (suc k) j n)
    (λ a b m i. inl (omega (arith, (choose-sized 0 k n a m).chosen, (sets-sized (suc k) j n b i).1)))
