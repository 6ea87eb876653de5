-- With one unit a claim only the sets of one task more than the capacity have boxes, and each of their choices has one.
use Prim.Native.Nat.{ℕ, zero, suc, ◌+◌, ◌<◌}
use native.Mathlib.Omega.{arith}
use mathlib.Core.Path.{◌≡◌, refl, sym, ap, ◌∙◌}
use mathlib.Core.Bool.{cond, ◌&&◌}
use mathlib.Core.List.{List, [], ◌∷◌, map, map-append, append-nil}
use lib.ListN.{length}
use lib.Dec.{eqb, ltb, leb}
use borrow.Author.Tests.{ltb-true, ltb-false, lt-ltb, le-ltb, leb-true, leb-false, le-leb, lt-leb, eqb-true, eqb-false}
use Rattle.model.specs.Set.{Task}
use Rattle.model.specs.Forbidden.{TaskSet, choose, sets_from, choices_of, choices_of_all, box_of, boxes_of, device_boxes}
use Rattle.model.proofs.Bools.{by_bool}
use Rattle.model.proofs.Each.{Each}
use Rattle.model.proofs.Choices.{choices-append, taken, boxes-append}
use Rattle.model.proofs.FirstSet.{choose-sized}
use Rattle.model.proofs.SetSizes.{AtMost, too_few, too_many, one_more}
use Rattle.demands.specs.Units.{plain_device}

-- there are no sets of more tasks than there are
choose-none : (k n : ℕ) → n < k → choose k n ≡ []
unfolding choose
choose-none zero n l = absurd (omega arith)
choose-none (suc k) zero l = refl
choose-none (suc k) (suc n) l = rw (choose-none k n (omega arith), choose-none (suc k) n (omega arith))

module _ (d c : ℕ) (tasks : List Task) (a : Each (AtMost d 1) tasks) where
  -- over a list of sets that take k tasks
  abbrev Taking : ℕ → TaskSet → Type 0
  Taking k m = (length m ≡ length tasks) × (taken m ≡ k)

  none_of : (k : ℕ) → (k ≡ suc c → ⊥) → (ms : List TaskSet) → Each (Taking k) ms → boxes_of c (choices_of_all d ms tasks) ≡ []
  unfolding choices_of_all boxes_of
  none_of k n [] e = refl
  none_of k n (m ∷ ms) e =
      let own : boxes_of c (choices_of d m tasks) ≡ [] =
      by_bool (ltb c k)
      (λ l. too_many d 1 c m tasks a (omega (arith, e.0.1, ltb-true c k l, n)))
      (λ l. too_few d 1 c m tasks a (omega (arith, e.0.1, ltb-false c k l))) in
      boxes-append c (choices_of d m tasks) (choices_of_all d ms tasks) ∙ rw (own, none_of k n ms e.1)

  all_of : (ms : List TaskSet) → Each (Taking (suc c)) ms → boxes_of c (choices_of_all d ms tasks) ≡ map box_of (choices_of_all d ms tasks)
  unfolding choices_of_all boxes_of
  all_of [] e = refl
  all_of (m ∷ ms) e =
      boxes-append c (choices_of d m tasks) (choices_of_all d ms tasks)
      ∙ rw (one_more d 1 c m tasks a refl e.0.1, all_of ms e.1) (sym (map-append box_of (choices_of d m tasks) (choices_of_all d ms tasks)))

  -- over the sizes k to k + j - 1
  one_size : (k j : ℕ) → boxes_of c (choices_of_all d (sets_from k j (length tasks)) tasks)
      ≡ cond (leb k (suc c) && ltb (suc c) (k + j)) (plain_device d c tasks) []
  unfolding sets_from choices_of_all boxes_of
  one_size k zero =
      by_bool (leb k (suc c))
      (λ l. rw (l, le-ltb (suc c) (k + 0) (omega (arith, leb-true k (suc c) l))))
      (λ l. rw l)
  one_size k (suc j) =
      let n = length tasks in
      let parts = ap (boxes_of c) (choices-append d (choose k n) (sets_from (suc k) j n) tasks)
      ∙ boxes-append c (choices_of_all d (choose k n) tasks) (choices_of_all d (sets_from (suc k) j n) tasks) in
      let later = one_size (suc k) j in
      by_bool (eqb k (suc c))
      (λ e.
      let same = eqb-true k (suc c) e in
      let own : boxes_of c (choices_of_all d (choose k n) tasks) ≡ plain_device d c tasks = rw same (all_of (choose (suc c) n) (choose-sized (suc c) n)) in
      parts ∙ rw (own, later, lt-leb (suc k) (suc c) (omega arith), le-leb k (suc c) (omega arith), lt-ltb (suc c) (k + suc j) (omega arith)) (append-nil (plain_device d c tasks)))
      (λ e.
      let other = eqb-false k (suc c) e in
      let bound : k + suc j ≡ suc k + j = omega arith in
      parts ∙ rw (none_of k other (choose k n) (choose-sized k n), later, bound)
      (by_bool (leb (suc k) (suc c))
      (λ l. rw (l, le-leb k (suc c) (omega (arith, leb-true (suc k) (suc c) l))))
      (λ l. rw (l, lt-leb k (suc c) (omega (arith, other, leb-false (suc k) (suc c) l))))))

  pub one-unit-device : device_boxes d c tasks ≡ plain_device d c tasks
  unfolding device_boxes choices_of_all
  one-unit-device =
      let n = length tasks in
      one_size 1 n
      ∙ by_bool (ltb (suc c) (1 + n))
      (λ l. rw (le-leb 1 (suc c) (omega arith), l))
      (λ l. rw (le-leb 1 (suc c) (omega arith), l) (sym (too_large (omega (arith, ltb-false (suc c) (1 + n) l)))))
    where
      too_large : length tasks < suc c → plain_device d c tasks ≡ []
      too_large l = rw (choose-none (suc c) (length tasks) l)
