-- Choices gone through hold by hold, with the units so far and the fewest of one hold: they just exceed a capacity exactly where the whole choice does.
use Prim.Native.Nat.{ℕ, min, ◌+◌, ◌-◌, ◌<◌, ◌≤◌}
use native.Mathlib.Omega.{arith}
use mathlib.Core.Path.{◌≡◌, refl, ap, ◌∙◌}
use mathlib.Core.Bool.{Bool, true, false, cond, ◌&&◌, ◌||◌}
use mathlib.Core.List.{List, [], ◌∷◌, ◌++◌, map}
use lib.Dec.{eqb, ltb, leb}
use borrow.Author.Tests.{le-leb, leb-true, lt-ltb, ltb-true, eqb-true}
use Rattle.model.specs.Set.{Task}
use Rattle.model.specs.Hold.{Hold, holds}
use Rattle.model.specs.Box.{Box}
use Rattle.model.specs.Forbidden.{TaskSet, Choice, sides_of, choices_of, total, each_needed, just_exceeds, box_of, boxes_of}
use Rattle.model.proofs.Bools.{by_bool, by_cases, and-true, or-true, both_ways}
use Rattle.model.proofs.Each.{Each, each-mono}
use Rattle.model.proofs.ForbiddenEach.{choices-each}
use Rattle.model.proofs.SetSizes.{AtMost}
use Rattle.forbidden_boxes.specs.Choices.{just_over}

-- the fewest units of one hold, with a side of u units more; a side without units is none
unfoldable pub fewest : ℕ → ℕ → ℕ
fewest least u = cond (eqb u 0) least (min least u)

-- and with those of a choice
unfoldable pub fewest_of : ℕ → Choice → ℕ
fewest_of least [] = least
fewest_of least (h ∷ c) = fewest_of (fewest least h.units) c

-- the boxes of those choices that, after holds of so many units, just exceed capacity s
unfoldable pub boxes_after : ℕ → ℕ → ℕ → List Choice → List Box
boxes_after s sum least [] = []
boxes_after s sum least (c ∷ cs) =
    let rest = boxes_after s sum least cs in
    cond (just_over s (sum + total c) (fewest_of least c)) (box_of c ∷ rest) rest

module _ (s sum least : ℕ) where
  pub after-append : (cs ds : List Choice) → boxes_after s sum least (cs ++ ds) ≡ boxes_after s sum least cs ++ boxes_after s sum least ds
  unfolding boxes_after
  after-append [] ds = refl
  after-append (c ∷ cs) ds =
      by_bool (just_over s (sum + total c) (fewest_of least c))
      (λ k. rw k (ap (λ (l : List Box). box_of c ∷ l) (after-append cs ds)))
      (λ k. rw k (after-append cs ds))

  -- a hold put before each
  pub after-hold : (h : Hold) (cs : List Choice)
      → boxes_after s sum least (map (λ c. h ∷ c) cs) ≡ map (λ b. h.over ∷ b) (boxes_after s (sum + h.units) (fewest least h.units) cs)
  unfolding boxes_after total fewest_of
  after-hold h [] = refl
  after-hold h (c ∷ cs) =
      let e : sum + (h.units + total c) ≡ sum + h.units + total c = omega arith in
      rw e
      (by_bool (just_over s (sum + h.units + total c) (fewest_of (fewest least h.units) c))
      (λ k. rw k (ap (λ (l : List Box). (h.over ∷ box_of c) ∷ l) (after-hold h cs)))
      (λ k. rw k (after-hold h cs)))

-- n units without the fewest, and without one hold more
one-needed : (s n least u : ℕ) → leb n (s + fewest least u) ≡ ((eqb u 0 || leb (n - u) s) && leb n (s + least))
unfolding fewest
one-needed s n least u =
    by_bool (eqb u 0) (λ e. rw e) λ e.
    rw e
    (both_ways (leb n (s + min least u)) (leb (n - u) s && leb n (s + least))
    (λ k.
    let b = leb-true n (s + min least u) k in
    rw (le-leb (n - u) s (omega arith), le-leb n (s + least) (omega arith)))
    (λ k.
    let q = and-true (leb (n - u) s) (leb n (s + least)) k in
    le-leb n (s + min least u) (omega (arith, leb-true (n - u) s q.0, leb-true n (s + least) q.1))))

swapped : (a b c : Bool) → (a && (b && c)) ≡ ((b && a) && c)
swapped true true c = refl
swapped true false c = refl
swapped false true c = refl
swapped false false c = refl

all-needed : (s n least : ℕ) (c : Choice) → leb n (s + fewest_of least c) ≡ (each_needed s n c && leb n (s + least))
unfolding fewest_of each_needed
all-needed s n least [] = refl
all-needed s n least (h ∷ c) =
    all-needed s n (fewest least h.units) c
    ∙ ap (λ (b : Bool). each_needed s n c && b) (one-needed s n least h.units)
    ∙ swapped (each_needed s n c) (eqb h.units 0 || leb (n - h.units) s) (leb n (s + least))

-- what a last hold of u units must have, where the others exceed the capacity already, and where they don't
pub none-missing : (s sum least u : ℕ) → s < sum → (leb 0 u && ltb u 0) ≡ just_over s (sum + u) (min least u)
unfolding just_over
none-missing s sum least u h =
    both_ways (leb 0 u && ltb u 0) (ltb s (sum + u) && leb (sum + u) (s + min least u))
    (λ k. absurd (omega (arith, ltb-true u 0 (and-true (leb 0 u) (ltb u 0) k).1)))
    (λ k. absurd (omega (arith, leb-true (sum + u) (s + min least u) (and-true (ltb s (sum + u)) (leb (sum + u) (s + min least u)) k).1)))

pub some-missing : (s sum least u : ℕ) → sum ≤ s → (leb (s - sum + 1) u && ltb u (s - sum + 1 + least)) ≡ just_over s (sum + u) (min least u)
unfolding just_over
some-missing s sum least u h =
    both_ways (leb (s - sum + 1) u && ltb u (s - sum + 1 + least)) (ltb s (sum + u) && leb (sum + u) (s + min least u))
    (λ k.
    let q = and-true (leb (s - sum + 1) u) (ltb u (s - sum + 1 + least)) k in
    let b = leb-true (s - sum + 1) u q.0 in
    let c = ltb-true u (s - sum + 1 + least) q.1 in
    rw (lt-ltb s (sum + u) (omega arith), le-leb (sum + u) (s + min least u) (omega arith)))
    (λ k.
    let q = and-true (ltb s (sum + u)) (leb (sum + u) (s + min least u)) k in
    let b = ltb-true s (sum + u) q.0 in
    let c = leb-true (sum + u) (s + min least u) q.1 in
    rw (le-leb (s - sum + 1) u (omega arith), lt-ltb u (s - sum + 1 + least) (omega arith)))

-- holds of a byte's units
abbrev Bytes : Choice → Type 0
Bytes c = Each (λ h. h.units ≤ 255) c

-- a hold that is needed takes no more than a byte's units
some-needed : (s n : ℕ) (c : Choice) → each_needed s n c ≡ true → 0 < total c → Bytes c → n ≤ s + 255
unfolding each_needed total
some-needed s n [] e p b = absurd (omega arith)
some-needed s n (h ∷ c) e p b =
    let r = and-true (eqb h.units 0 || leb (n - h.units) s) (each_needed s n c) e in
    by_cases (or-true (eqb h.units 0) (leb (n - h.units) s) r.0)
    (λ z. some-needed s n c r.1 (omega (arith, eqb-true h.units 0 z)) b.1)
    (λ l. omega (arith, leb-true (n - h.units) s l, b.0))

-- from no hold on
exceeds-same : (s : ℕ) (c : Choice) → Bytes c → just_over s (0 + total c) (fewest_of 255 c) ≡ just_exceeds s c
unfolding just_over just_exceeds
exceeds-same s c b =
    let n : ℕ = total c in
    let z : 0 + total c ≡ total c = omega arith in
    rw (z, all-needed s n 255 c)
    (both_ways (ltb s n && (each_needed s n c && leb n (s + 255))) (ltb s n && each_needed s n c)
    (λ k.
    let r = and-true (ltb s n) (each_needed s n c && leb n (s + 255)) k in
    rw r.0 (and-true (each_needed s n c) (leb n (s + 255)) r.1).0)
    (λ k.
    let r = and-true (ltb s n) (each_needed s n c) k in
    rw (r.0, r.1) (le-leb n (s + 255) (some-needed s n c r.1 (omega (arith, ltb-true s n r.0)) b))))

after_none : (s : ℕ) (cs : List Choice) → Each Bytes cs → boxes_after s 0 255 cs ≡ boxes_of s cs
unfolding boxes_after boxes_of
after_none s [] e = refl
after_none s (c ∷ cs) e = rw (exceeds-same s c e.0, after_none s cs e.1)

-- what a task can stand with
sides-bytes : (d m : ℕ) → m ≤ 255 → (c : Bool) (task : Task) → AtMost d m task → Bytes (sides_of d c task)
unfolding sides_of
sides-bytes d m small true task a = each-mono (λ h. h.units ≤ m) (λ h. h.units ≤ 255) (λ h l. omega arith) (holds d task) a
sides-bytes d m small false task a = (omega arith, tt)

-- where no hold of the tasks takes more than a byte's units, the boxes of a task set are those that just exceed, hold by hold
pub boxes-after : (d s m : ℕ) (cs : TaskSet) (tasks : List Task) → Each (AtMost d m) tasks → m ≤ 255
    → boxes_after s 0 255 (choices_of d cs tasks) ≡ boxes_of s (choices_of d cs tasks)
boxes-after d s m cs tasks a small =
    after_none s (choices_of d cs tasks)
    (choices-each d (AtMost d m) (λ c task h. h.units ≤ 255) (λ cs tasks c. Bytes c) (sides-bytes d m small) tt (λ c cs task tasks h b l k. (l, k)) cs tasks a)
