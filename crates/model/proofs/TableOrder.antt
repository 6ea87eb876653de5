-- The table of task sets: it has 255 bytes, and the sets of the first tasks stand in it as `task_sets` lists them.
use Prim.Native.Nat.{ℕ, ◌<◌}
use mathlib.Core.Path.{◌≡◌, refl, ap₂}
use mathlib.Core.Bool.{Bool, true, false, not, ◌&&◌, beq}
use mathlib.Core.List.{List, [], ◌∷◌}
use lib.ListN.{length}
use borrow.Author.Tests.{not-false}
use Rattle.model.specs.Below.{any}
use Rattle.model.specs.Forbidden.{choose, sets_from, task_sets}
use Rattle.model.specs.TaskTable.{mask_of, table, set_of_mask, sets_in}
use Rattle.model.proofs.Bools.{true-not-false, and-true, any_false}

pub table-length : length table ≡ 255
unfolding table mask_of sets_from choose
table-length = refl

-- an equality test for lists, from one for their elements
same : {A : Type 0} → (A → A → Bool) → List A → List A → Bool
same eq [] [] = true
same eq [] (b ∷ bs) = false
same eq (a ∷ l) [] = false
same eq (a ∷ l) (b ∷ bs) = eq a b && same eq l bs

same-equal : {A : Type 0} (eq : A → A → Bool) → ((a b : A) → eq a b ≡ true → a ≡ b) → (l m : List A) → same eq l m ≡ true → l ≡ m
unfolding same
same-equal eq f [] [] e = refl
same-equal eq f [] (b ∷ bs) e = true-not-false false e refl
same-equal eq f (a ∷ l) [] e = true-not-false false e refl
same-equal eq f (a ∷ l) (b ∷ bs) e =
    let r = and-true (eq a b) (same eq l bs) e in
    ap₂ ◌∷◌ (f a b r.0) (same-equal eq f l bs r.1)

beq-equal : (a b : Bool) → beq a b ≡ true → a ≡ b
beq-equal true true e = refl
beq-equal true false e = cc
beq-equal false true e = cc
beq-equal false false e = refl

agrees : ℕ → Bool
agrees n = same (same beq) (sets_in n table) (task_sets n)

-- tried for every number of tasks to 8
all-agree : any 9 (λ n. not (agrees n)) ≡ false
unfolding any agrees same sets_in set_of_mask table mask_of sets_from choose
all-agree = refl

pub table-sets : (n : ℕ) → n < 9 → sets_in n table ≡ task_sets n
unfolding agrees
table-sets n h =
    same-equal (same beq) (same-equal beq beq-equal) (sets_in n table) (task_sets n) (not-false (agrees n) (any_false 9 (λ n. not (agrees n)) all-agree n h))
