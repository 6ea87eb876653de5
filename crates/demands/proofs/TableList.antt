-- The table's bytes: each has the task list of its set, and they stand by size, then by task list.
use Prim.Native.Nat.{ℕ, suc, ◌+◌, ◌*◌, ◌/◌, ◌%◌, ◌≤◌}
use native.Mathlib.Omega.{arith}
use mathlib.Core.Path.{◌≡◌, refl, ap}
use mathlib.Core.Bool.{Bool, true, false, ◌&&◌}
use mathlib.Core.List.Memᴰ
use mathlib.Core.List.{List, [], ◌∷◌, Memᴰ}
use lib.ListN.{length}
use lib.Dec.{leb}
use borrow.Author.Tests.{leb-true}
use Rattle.model.specs.Forbidden.{TaskSet, choose, sets_from, task_sets}
use Rattle.model.specs.TaskTable.{mask_of, table}
use Rattle.model.proofs.Bools.{by_cases, and-true}
use Rattle.demands.specs.Terms.{Ordered}
use Rattle.demands.specs.ForbiddenRule.{bits_from, tasks_of, Smaller}
use Rattle.demands.proofs.Orders.{ordered-map, ordered-weaken}
use Rattle.demands.proofs.TaskSetList.{members, BySize, sets-sized, sets-ordered}

-- the bits of a set's byte are its tasks
bits-members : (t : ℕ) (c : TaskSet) → bits_from (length c) t (mask_of c) ≡ members t c
unfolding bits_from mask_of members
bits-members t [] = refl
bits-members t (true ∷ c) =
    let low : (1 + 2 * mask_of c) % 2 ≡ 1 = omega arith in
    let high : (1 + 2 * mask_of c) / 2 ≡ mask_of c = omega arith in
    rw (low, high) (ap (λ l. t ∷ l) (bits-members (suc t) c))
bits-members t (false ∷ c) =
    let low : (0 + 2 * mask_of c) % 2 ≡ 0 = omega arith in
    let high : (0 + 2 * mask_of c) / 2 ≡ mask_of c = omega arith in
    rw (low, high) (bits-members (suc t) c)

tasks-members : (c : TaskSet) → length c ≡ 8 → tasks_of (mask_of c) ≡ members 0 c
tasks-members c e = rw e at (bits-members 0 c)

pub table-ordered : Ordered Smaller table
unfolding table
table-ordered =
    ordered-map ByMask Smaller mask_of (task_sets 8) (λ a b h. h)
    (ordered-weaken BySize ByMask (task_sets 8)
    (λ a b m n h. rw (tasks-members a (sets-sized 1 8 8 a m).0, tasks-members b (sets-sized 1 8 8 b n).0) h) (sets-ordered 1 8 8))
  where
    ByMask : TaskSet → TaskSet → Type 0
    ByMask a b = Smaller (mask_of a) (mask_of b)

-- every byte of a list is 1 to 255
each-byte : List ℕ → Bool
each-byte [] = true
each-byte (m ∷ l) = (leb 1 m && leb m 255) && each-byte l

byte-told : (l : List ℕ) → each-byte l ≡ true → (m : ℕ) → Memᴰ m l → (1 ≤ m) × (m ≤ 255)
unfolding each-byte
byte-told [] e m h = absurd (Memᴰ.not-nil h)
byte-told (b ∷ l) e m h =
    let r = and-true (leb 1 b && leb b 255) (each-byte l) e in
    let s = and-true (leb 1 b) (leb b 255) r.0 in
    by_cases (Memᴰ.cases_cons h) (λ q. rw q (leb-true 1 b s.0, leb-true b 255 s.1)) (byte-told l r.1 m)

table-test : each-byte table ≡ true
unfolding each-byte table mask_of sets_from choose
table-test = refl

pub table-bytes : (m : ℕ) → Memᴰ m table → (1 ≤ m) × (m ≤ 255)
table-bytes = byte-told table table-test
