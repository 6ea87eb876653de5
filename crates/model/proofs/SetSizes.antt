-- Which sizes of task sets can have boxes: as many tasks as it takes to exceed the capacity, at most one more than the capacity. With one unit a claim it is just
-- one more, and then each choice has its box.
use Prim.Native.Nat.{ℕ, suc, ◌+◌, ◌*◌, ◌<◌, ◌≤◌}
use native.Mathlib.Omega.{arith}
use mathlib.Core.Path.{◌≡◌, refl, ap}
use mathlib.Core.Bool.{Bool, true, false}
use mathlib.Core.List.Memᴰ
use mathlib.Core.List.{List, [], ◌∷◌, map, Memᴰ}
use Rattle.model.specs.Set.{Task}
use Rattle.model.specs.Hold.{Hold, holds}
use Rattle.model.specs.Box.{Box}
use Rattle.model.specs.Forbidden.{TaskSet, Choice, sides_of, choices_of, total, just_exceeds, box_of, boxes_of}
use Rattle.model.proofs.Bools.{by_bool, by_cases}
use Rattle.model.proofs.Each.{Each, each_both, each-mono}
use Rattle.model.proofs.ForbiddenEach.{choices-each}
use Rattle.model.proofs.Choices.{taken, exceeds-intro, exceeds-total, exceeds-needed}
use Rattle.model.proofs.OneHold.{holds-some}

-- a list of choices none of which just exceeds has no box, and one all of which do has each one's
none-exceed : (s : ℕ) (cs : List Choice) → Each (λ c. just_exceeds s c ≡ false) cs → boxes_of s cs ≡ []
unfolding boxes_of
none-exceed s [] e = refl
none-exceed s (c ∷ cs) e = rw e.0 (none-exceed s cs e.1)

all-exceed : (s : ℕ) (cs : List Choice) → Each (λ c. just_exceeds s c ≡ true) cs → boxes_of s cs ≡ map box_of cs
unfolding boxes_of
all-exceed s [] e = refl
all-exceed s (c ∷ cs) e = rw e.0 (ap (λ (l : List Box). box_of c ∷ l) (all-exceed s cs e.1))

module _ (d m : ℕ) where
  -- no hold of the task has more than m units
  abbrev pub AtMost : Task → Type 0
  AtMost task = Each (λ h. h.units ≤ m) (holds d task)

  -- a task that is taken stands with some units, m at most; one that isn't with none
  abbrev Side : Bool → Task → Hold → Type 0
  Side true task h = (0 < h.units) × (h.units ≤ m)
  Side false task h = h.units ≡ 0

  sides-counted : (c : Bool) (task : Task) → AtMost task → Each (Side c task) (sides_of d c task)
  unfolding sides_of
  sides-counted true task a = each_both (λ h. 0 < h.units) (λ h. h.units ≤ m) (λ h. (0 < h.units) × (h.units ≤ m)) (λ h p q. (p, q)) (holds d task) (holds-some d 0 task) a
  sides-counted false task a = (refl, tt)

  -- the units of a choice against the number of its tasks
  record Counted (cs : TaskSet) (c : Choice) : Type 0 where
    least : taken cs ≤ total c
    most : total c ≤ taken cs * m
    rest : (h : Hold) → Memᴰ h c → 0 < h.units → h.units + taken cs ≤ suc (total c)
    some : 0 < taken cs → (h : Hold) × Memᴰ h c × (0 < h.units)

  counted-more : (b : Bool) (cs : TaskSet) (task : Task) (tasks : List Task) (h : Hold) (c : Choice) → Side b task h → Counted cs c → Counted (b ∷ cs) (h ∷ c)
  unfolding taken total
  counted-more true cs task tasks h c e q = record {
    least = omega (arith, e.0, q.least);
    most = omega (arith, e.1, q.most);
    rest = λ k i u. by_cases (Memᴰ.cases_cons i) (λ z. let same = ap (λ (i : Hold). i.units) z in omega (arith, same, q.least)) (λ j. omega (arith, e.0, q.rest k j u));
    some = λ p. (h, Memᴰ.head refl, e.0);
  }
  counted-more false cs task tasks h c e q = record {
    least = omega (arith, q.least);
    most = omega (arith, e, q.most);
    rest = λ k i u. by_cases (Memᴰ.cases_cons i) (λ z. let same = ap (λ (i : Hold). i.units) z in absurd (omega (arith, same, e, u))) (λ j. omega (arith, q.rest k j u));
    some = λ p. let r = q.some (omega arith) in (r.0, Memᴰ.tail r.1, r.2);
  }

  counted_none : Counted [] []
  unfolding taken total
  counted_none = record {
    least = omega arith;
    most = omega arith;
    rest = λ h i u. absurd (Memᴰ.not-nil i);
    some = λ p. absurd (omega arith);
  }

  choices-counted : (cs : TaskSet) (tasks : List Task) → Each AtMost tasks → Each (Counted cs) (choices_of d cs tasks)
  choices-counted = choices-each d AtMost Side (λ cs tasks. Counted cs) sides-counted counted_none counted-more

  module _ (s : ℕ) (cs : TaskSet) (tasks : List Task) (a : Each AtMost tasks) where
    -- too few tasks to exceed the capacity
    pub too_few : taken cs * m ≤ s → boxes_of s (choices_of d cs tasks) ≡ []
    too_few l =
        none-exceed s (choices_of d cs tasks)
        (each-mono (Counted cs) (λ c. just_exceeds s c ≡ false)
        (λ c q. by_bool (just_exceeds s c) (λ k. absurd (omega (arith, l, q.most, exceeds-total s c k))) (λ k. k)) (choices_of d cs tasks) (choices-counted cs tasks a))

    -- so many that one can be left out
    pub too_many : suc s < taken cs → boxes_of s (choices_of d cs tasks) ≡ []
    too_many l =
        none-exceed s (choices_of d cs tasks)
        (each-mono (Counted cs) (λ c. just_exceeds s c ≡ false)
        (λ c q.
        by_bool (just_exceeds s c)
        (λ k.
        let h = q.some (omega arith) in
        absurd (omega (arith, l, q.rest h.0 h.1 h.2, exceeds-needed s c k h.0 h.1 h.2)))
        (λ k. k)) (choices_of d cs tasks) (choices-counted cs tasks a))

    -- with one unit a claim, one task more than the capacity: each choice has its box
    pub one_more : m ≡ 1 → taken cs ≡ suc s → boxes_of s (choices_of d cs tasks) ≡ map box_of (choices_of d cs tasks)
    one_more e n =
        all-exceed s (choices_of d cs tasks)
        (each-mono (Counted cs) (λ c. just_exceeds s c ≡ true)
        (λ c q.
        let all : total c ≤ taken cs * 1 = rw e at q.most in
        exceeds-intro s c (omega (arith, n, q.least)) (λ h i u. omega (arith, n, all, u))) (choices_of d cs tasks) (choices-counted cs tasks a))
