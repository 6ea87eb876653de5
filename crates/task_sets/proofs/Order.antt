-- The table's rule, proved once over the whole table by tests that are computed: each non-empty mask stands in it exactly once, and each set stands before
-- every later one.
use Prim.Native.Nat.{ℕ, zero, suc, ◌<◌}
use native.Mathlib.Nat.{le_of_suc-le-suc}
use native.Mathlib.Omega.{arith}
use mathlib.Core.Path.{◌≡◌, refl, ◌∙◌}
use mathlib.Core.Bool.{Bool, true, false, not, ◌&&◌, ◌||◌}
use mathlib.Core.List.{List, [], ◌∷◌}
use lib.ListN.{length}
use lib.Dec.{eqb, ltb}
use borrow.Author.Tests.{ltb-true, eqb-true, lt-ltb, eq-eqb, not-false}
use Rattle.model.specs.Below.{any}
use Rattle.model.specs.Set.{at}
use Rattle.model.specs.Forbidden.{choose, sets_from}
use Rattle.model.specs.TaskTable.{mask_of, table}
use Rattle.model.proofs.Bools.{by_cases, true-not-false, and-true, or-true, or_right, any_false}
use Rattle.model.proofs.TableOrder.{table-length}
use Rattle.task_sets.specs.Order.{tasks_from, tasks_of, list_before, set_before, occurs}

-- each mask from 1 to 255
all_once : any 255 (λ k. not (eqb (occurs (suc k) table) 1)) ≡ false
unfolding any occurs table mask_of sets_from choose
all_once = refl

pub each-once : (m : ℕ) → 0 < m → m < 256 → occurs m table ≡ 1
each-once zero p h = absurd (omega arith)
each-once (suc k) p h =
    let e : not (eqb (occurs (suc k) table) 1) ≡ false = any_false 255 (λ k. not (eqb (occurs (suc k) table) 1)) all_once k (omega arith) in
    eqb-true (occurs (suc k) table) 1 (not-false (eqb (occurs (suc k) table) 1) e)

-- a number decides, and what comes after breaks a tie: such a test is transitive where what breaks the tie is
chain : (x y z : ℕ) (p q r : Bool) → (p ≡ true → q ≡ true → r ≡ true) → (ltb x y || (eqb x y && p)) ≡ true → (ltb y z || (eqb y z && q)) ≡ true
    → (ltb x z || (eqb x z && r)) ≡ true
chain x y z p q r f s t =
    by_cases (or-true (ltb x y) (eqb x y && p) s)
    (λ a.
    let l : x < y = ltb-true x y a in
    by_cases (or-true (ltb y z) (eqb y z && q) t)
    (λ b. less (omega (arith, ltb-true y z b)))
    (λ b. less (omega (arith, eqb-true y z (and-true (eqb y z) q b).0))))
    (λ a.
    let u = and-true (eqb x y) p a in
    let e : x ≡ y = eqb-true x y u.0 in
    by_cases (or-true (ltb y z) (eqb y z && q) t)
    (λ b. less (omega (arith, ltb-true y z b)))
    (λ b.
    let v = and-true (eqb y z) q b in
    or_right (ltb x z) (eqb x z && r) (rw (eq-eqb x z (e ∙ eqb-true y z v.0)) (f u.1 v.1))))
  where
    less : x < z → (ltb x z || (eqb x z && r)) ≡ true
    less h = rw (lt-ltb x z h)

list-chain : (k l m : List ℕ) → list_before k l ≡ true → list_before l m ≡ true → list_before k m ≡ true
unfolding list_before
list-chain [] l m s t = true-not-false false s refl
list-chain (x ∷ k) [] m s t = true-not-false false s refl
list-chain (x ∷ k) (y ∷ l) [] s t = true-not-false false t refl
list-chain (x ∷ k) (y ∷ l) (z ∷ m) s t = chain x y z (list_before k l) (list_before l m) (list_before k m) (list-chain k l m) s t

set-chain : (a b c : ℕ) → set_before a b ≡ true → set_before b c ≡ true → set_before a c ≡ true
unfolding set_before
set-chain a b c s t =
    chain (length (tasks_of a)) (length (tasks_of b)) (length (tasks_of c)) (list_before (tasks_of a) (tasks_of b)) (list_before (tasks_of b) (tasks_of c))
    (list_before (tasks_of a) (tasks_of c)) (list-chain (tasks_of a) (tasks_of b) (tasks_of c)) s t

-- each set stands before its neighbour
rising : ℕ → List ℕ → Bool
rising a [] = true
rising a (b ∷ l) = set_before a b && rising b l

-- so it stands before every later one
before-later : (a : ℕ) (l : List ℕ) → rising a l ≡ true → (j : ℕ) → j < length l → set_before a (at l j) ≡ true
unfolding rising
before-later a [] r j h = absurd (omega arith)
before-later a (b ∷ l) r zero h = (and-true (set_before a b) (rising b l) r).0
before-later a (b ∷ l) r (suc j) h =
    let s = and-true (set_before a b) (rising b l) r in
    set-chain a b (at l j) s.0 (before-later b l s.1 j (le_of_suc-le-suc h))

ordered : (a : ℕ) (l : List ℕ) → rising a l ≡ true → (i j : ℕ) → i < j → j < length (a ∷ l) → set_before (at (a ∷ l) i) (at (a ∷ l) j) ≡ true
unfolding rising
ordered a l r i zero h k = absurd (omega arith)
ordered a l r zero (suc j) h k = before-later a l r j (le_of_suc-le-suc k)
ordered a [] r (suc i) (suc j) h k = absurd (omega (arith, le_of_suc-le-suc k))
ordered a (b ∷ l) r (suc i) (suc j) h k = ordered b l (and-true (set_before a b) (rising b l) r).1 i j (le_of_suc-le-suc h) (le_of_suc-le-suc k)

neighbours : List ℕ → Bool
neighbours [] = true
neighbours (a ∷ l) = rising a l

in_order : (l : List ℕ) → neighbours l ≡ true → (i j : ℕ) → i < j → j < length l → set_before (at l i) (at l j) ≡ true
unfolding neighbours
in_order [] r i j h k = absurd (omega arith)
in_order (a ∷ l) r i j h k = ordered a l r i j h k

table-rises : neighbours table ≡ true
unfolding neighbours rising set_before list_before tasks_from table mask_of sets_from choose
table-rises = refl

pub table-in-order : (i j : ℕ) → i < j → j < 255 → set_before (at table i) (at table j) ≡ true
table-in-order i j h k = in_order table table-rises i j h (omega (arith, table-length))
