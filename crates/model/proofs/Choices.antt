-- The choices of a device: which there are, and what it is for one to just exceed a capacity.
use Prim.Native.Nat.{ℕ, zero, suc, ◌+◌, ◌-◌, ◌<◌, ◌≤◌}
use native.Mathlib.Omega.{arith}
use native.Mathlib.Nat.{eq-or-lt_of_le}
use mathlib.Core.Path.{◌≡◌, refl, sym, ap}
use mathlib.Core.Bool.{true, false, cond, ◌||◌}
use mathlib.Core.List.Memᴰ
use mathlib.Core.List.{List, [], ◌∷◌, ◌++◌, map, append_assoc, Memᴰ}
use lib.ListN.{length}
use lib.Dec.{eqb, ltb, leb}
use borrow.Author.Tests.{le-leb, leb-true, lt-ltb, ltb-true, eqb-true, eqb-false}
use Rattle.model.specs.Set.{Task}
use Rattle.model.specs.Hold.{Hold}
use Rattle.model.specs.State.{State}
use Rattle.model.specs.Box.{Box, inside, covered}
use Rattle.model.specs.Forbidden.{TaskSet, choose, sets_from, task_sets, Choice, prefixed, choices_of, choices_of_all, total, each_needed, just_exceeds, box_of, boxes_of}
use Rattle.model.proofs.Bools.{by_bool, by_cases, true-not-false, and-true, or-true, or_right}

-- ---- membership
-- a choice that begins with one of the holds
pub record Prefixed (hs : List Hold) (cs : List Choice) (c : Choice) : Type 0 where
  pub first : Hold
  pub rest : Choice
  pub is : c ≡ first ∷ rest
  pub first-in : Memᴰ first hs
  pub rest_in : Memᴰ rest cs

pub prefixed-mem : (hs : List Hold) (cs : List Choice) {c : Choice} → Memᴰ c (prefixed hs cs) → Prefixed hs cs c
unfolding prefixed
prefixed-mem [] cs m = absurd (Memᴰ.not-nil m)
prefixed-mem (h ∷ hs) cs m =
    by_cases (Memᴰ.append_cases (map (λ c. h ∷ c) cs) m)
    (λ n.
    let r = Memᴰ.of_map (λ c. h ∷ c) cs n in
    record { first = h; rest = r.0; is = sym r.2; first-in = Memᴰ.head refl; rest_in = r.1 })
    (λ n.
    let r = prefixed-mem hs cs n in
    record { first = r.first; rest = r.rest; is = r.is; first-in = Memᴰ.tail r.first-in; rest_in = r.rest_in })

pub mem-prefixed : {h : Hold} {hs : List Hold} {cs : List Choice} {c : Choice} → Memᴰ h hs → Memᴰ c cs → Memᴰ (h ∷ c) (prefixed hs cs)
unfolding prefixed
mem-prefixed {cs} {c} (Memᴰ.head {x} {xs} e) n = Memᴰ.append_left (prefixed xs cs) (Memᴰ.cast (ap (λ h. h ∷ c) e) (Memᴰ.map (λ c. x ∷ c) n))
mem-prefixed {cs} (Memᴰ.tail {x} {xs} m) n = Memᴰ.append_right (map (λ c. x ∷ c) cs) (mem-prefixed m n)

module _ (d : ℕ) where
  pub all-mem : (cs : List TaskSet) (tasks : List Task) {c : Choice} → Memᴰ c (choices_of_all d cs tasks)
      → (m : TaskSet) × Memᴰ m cs × Memᴰ c (choices_of d m tasks)
  unfolding choices_of_all
  all-mem [] tasks i = absurd (Memᴰ.not-nil i)
  all-mem (m ∷ cs) tasks i =
      by_cases (Memᴰ.append_cases (choices_of d m tasks) i) (λ j. (m, Memᴰ.head refl, j)) λ j.
      let r = all-mem cs tasks j in (r.0, Memᴰ.tail r.1, r.2)

  pub mem-all : (tasks : List Task) {m : TaskSet} {cs : List TaskSet} {c : Choice} → Memᴰ m cs → Memᴰ c (choices_of d m tasks)
      → Memᴰ c (choices_of_all d cs tasks)
  unfolding choices_of_all
  mem-all tasks (Memᴰ.head {x} {xs} e) j = Memᴰ.append_left (choices_of_all d xs tasks) (rw e at j)
  mem-all tasks (Memᴰ.tail {x} {xs} i) j = Memᴰ.append_right (choices_of d x tasks) (mem-all tasks i j)

  pub choices-append : (cs ds : List TaskSet) (tasks : List Task) → choices_of_all d (cs ++ ds) tasks ≡ choices_of_all d cs tasks ++ choices_of_all d ds tasks
  unfolding choices_of_all
  choices-append [] ds tasks = refl
  choices-append (c ∷ cs) ds tasks =
      rw (choices-append cs ds tasks) (sym (append_assoc (choices_of d c tasks) (choices_of_all d cs tasks) (choices_of_all d ds tasks)))

-- ---- task sets
-- how many tasks a set takes
unfoldable pub taken : TaskSet → ℕ
taken [] = 0
taken (c ∷ cs) = cond c 1 0 + taken cs

pub taken-le : (m : TaskSet) → taken m ≤ length m
unfolding taken
taken-le [] = omega arith
taken-le (true ∷ m) = omega (arith, taken-le m)
taken-le (false ∷ m) = omega (arith, taken-le m)

pub mem-choose : (m : TaskSet) (k : ℕ) → k ≡ taken m → Memᴰ m (choose k (length m))
unfolding taken choose
mem-choose [] zero e = Memᴰ.head refl
mem-choose [] (suc k) e = absurd (omega arith)
mem-choose (true ∷ m) zero e = absurd (omega arith)
mem-choose (true ∷ m) (suc k) e = Memᴰ.append_left _ (Memᴰ.map (λ c. true ∷ c) (mem-choose m k (omega arith)))
mem-choose (false ∷ m) zero e = Memᴰ.map (λ c. false ∷ c) (mem-choose m zero (omega arith))
mem-choose (false ∷ m) (suc k) e = Memᴰ.append_right (map (λ c. true ∷ c) (choose k (length m))) (Memᴰ.map (λ c. false ∷ c) (mem-choose m (suc k) (omega arith)))

-- a set of i tasks, where i is one of the sizes gone through
pub mem-sets-from : (i k j n : ℕ) (m : TaskSet) → k ≤ i → i < k + j → Memᴰ m (choose i n) → Memᴰ m (sets_from k j n)
unfolding sets_from
mem-sets-from i k zero n m l h e = absurd (omega arith)
mem-sets-from i k (suc j) n m l h e =
    by_cases (eq-or-lt_of_le l)
    (λ q. Memᴰ.append_left (sets_from (suc k) j n) (rw (sym q) at e))
    (λ q. Memᴰ.append_right (choose k n) (mem-sets-from i (suc k) j n m q (omega arith) e))

pub mem-sets : (m : TaskSet) → 0 < taken m → Memᴰ m (task_sets (length m))
mem-sets m h = mem-sets-from (taken m) 1 (length m) (length m) m (omega arith) (omega (arith, taken-le m)) (mem-choose m (taken m) refl)

-- ---- choices that just exceed a capacity
-- each hold of a choice of n units is needed
abbrev pub Needed : ℕ → ℕ → Choice → Type 0
Needed s n c = (h : Hold) → Memᴰ h c → 0 < h.units → n - h.units ≤ s

needed-intro : (s n : ℕ) (c : Choice) → Needed s n c → each_needed s n c ≡ true
unfolding each_needed
needed-intro s n [] f = refl
needed-intro s n (h ∷ c) f =
    by_bool (eqb h.units 0)
    (λ z. rw (z, needed-intro s n c (λ k i. f k (Memᴰ.tail i))))
    (λ z.
    let u = eqb-false h.units 0 z in
    rw (z, le-leb (n - h.units) s (f h (Memᴰ.head refl) (omega arith)), needed-intro s n c (λ k i. f k (Memᴰ.tail i))))

needed-elim : (s n : ℕ) (c : Choice) → each_needed s n c ≡ true → Needed s n c
unfolding each_needed
needed-elim s n [] e h i u = absurd (Memᴰ.not-nil i)
needed-elim s n (k ∷ c) e h (Memᴰ.head q) u =
    let r = and-true (eqb k.units 0 || leb (n - k.units) s) (each_needed s n c) e in
    by_cases (or-true (eqb k.units 0) (leb (n - k.units) s) r.0)
    (λ z. absurd (omega (arith, eqb-true k.units 0 z, rw q at u)))
    (λ l. rw q (leb-true (n - k.units) s l))
needed-elim s n (k ∷ c) e h (Memᴰ.tail i) u =
    needed-elim s n c (and-true (eqb k.units 0 || leb (n - k.units) s) (each_needed s n c) e).1 h i u

pub exceeds-intro : (s : ℕ) (c : Choice) → s < total c → Needed s (total c) c → just_exceeds s c ≡ true
unfolding just_exceeds
exceeds-intro s c h f = rw (lt-ltb s (total c) h, needed-intro s (total c) c f)

pub exceeds-total : (s : ℕ) (c : Choice) → just_exceeds s c ≡ true → s < total c
unfolding just_exceeds
exceeds-total s c e = ltb-true s (total c) (and-true (ltb s (total c)) (each_needed s (total c) c) e).0

pub exceeds-needed : (s : ℕ) (c : Choice) → just_exceeds s c ≡ true → Needed s (total c) c
unfolding just_exceeds
exceeds-needed s c e = needed-elim s (total c) c (and-true (ltb s (total c)) (each_needed s (total c) c) e).1

-- ---- their boxes
-- a box that holds x comes from such a choice, and every such choice has its box
pub boxes-choice : (s : ℕ) (cs : List Choice) (x : State) → covered (boxes_of s cs) x ≡ true
    → (c : Choice) × Memᴰ c cs × (just_exceeds s c ≡ true) × (inside (box_of c) x ≡ true)
unfolding boxes_of covered
boxes-choice s [] x e = true-not-false false e refl
boxes-choice s (c ∷ cs) x e =
    by_bool (just_exceeds s c)
    (λ k. by_cases (or-true (inside (box_of c) x) (covered (boxes_of s cs) x) (rw k at e)) (λ i. (c, Memᴰ.head refl, k, i)) λ i.
    let r = boxes-choice s cs x i in (r.0, Memᴰ.tail r.1, r.2, r.3))
    (λ k. let r = boxes-choice s cs x (rw k at e) in (r.0, Memᴰ.tail r.1, r.2, r.3))

pub choice-boxes : (s : ℕ) (x : State) {c : Choice} {cs : List Choice} → Memᴰ c cs → just_exceeds s c ≡ true → inside (box_of c) x ≡ true
    → covered (boxes_of s cs) x ≡ true
unfolding boxes_of covered
choice-boxes s x {c} (Memᴰ.head {x = b} {xs} q) e i =
    let e' : just_exceeds s b ≡ true = rw q at e in
    let i' : inside (box_of b) x ≡ true = rw q at i in
    rw (e', i')
choice-boxes s x {c} (Memᴰ.tail {x = b} {xs} m) e i =
    let later = choice-boxes s x m e i in
    by_bool (just_exceeds s b) (λ k. rw k (or_right (inside (box_of b) x) (covered (boxes_of s xs) x) later)) (λ k. rw k later)

-- task set by task set
pub boxes-append : (s : ℕ) (cs ds : List Choice) → boxes_of s (cs ++ ds) ≡ boxes_of s cs ++ boxes_of s ds
unfolding boxes_of
boxes-append s [] ds = refl
boxes-append s (c ∷ cs) ds =
    by_bool (just_exceeds s c) (λ k. rw k (ap (λ (l : List Box). box_of c ∷ l) (boxes-append s cs ds))) (λ k. rw k (boxes-append s cs ds))
