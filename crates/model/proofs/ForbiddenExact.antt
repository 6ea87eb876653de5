-- A state of the grid lies in a forbidden box exactly if some device has more units held than its capacity.
use Prim.Native.Nat.{ℕ, zero, suc, ◌+◌, ◌<◌, ◌≤◌}
use native.Mathlib.Omega.{arith}
use mathlib.Core.Path.{◌≡◌, refl, sym, ap, ◌∙◌}
use mathlib.Core.Logic.{◌↔◌}
use mathlib.Core.Bool.{Bool, true, false, not, ◌||◌}
use mathlib.Core.List.Memᴰ
use mathlib.Core.List.{List, [], ◌∷◌, ◌++◌, map, Memᴰ}
use lib.ListN.{length}
use lib.Dec.{leb, ltb}
use borrow.Author.Tests.{leb-true, leb-false, ltb-true, ltb-false, lt-ltb}
use Rattle.model.specs.Set.{Task, Set, lengths, at}
use Rattle.model.specs.State.{State, InGrid}
use Rattle.model.specs.Hold.{Hold, within, holds, units_at, held, permitted, Overfull}
use Rattle.model.specs.Box.{inside, Box, covered}
use Rattle.model.specs.Forbidden.{TaskSet, task_sets, Choice, sides_of, choices_of, total, box_of, device_boxes, Forbidden, forbidden_from, forbidden, boxes, forbidden_boxes}
use Rattle.model.proofs.Bools.{by_bool, by_cases, true-not-false, and-true, or-true, or_right}
use Rattle.model.proofs.Ranks.{tail-grid}
use Rattle.model.proofs.Boxes.{covered-append, within-intro}
use Rattle.model.proofs.Choices.{prefixed-mem, mem-prefixed, all-mem, mem-all, taken, mem-sets, Needed, exceeds-intro, exceeds-total, boxes-choice, choice-boxes}
use Rattle.model.proofs.Permitted.{not-permitted}

-- a hold over p takes at most the units held at p
units-le : (p : ℕ) {h : Hold} {hs : List Hold} → Memᴰ h hs → within h.over p ≡ true → h.units ≤ units_at hs p
unfolding units_at
units-le p {h} (Memᴰ.head {x = k} {xs} e) w =
    let u : h.units ≡ k.units = ap (λ (i : Hold). i.units) e in
    let w' : within k.over p ≡ true = rw e at w in
    rw w' (omega arith)
units-le p (Memᴰ.tail {x = k} {xs} m) w = omega (arith, units-le p m w)

-- and where units are held, there is a hold that takes them
pub units-hold : (hs : List Hold) (p : ℕ) → 0 < units_at hs p → (h : Hold) × Memᴰ h hs × (within h.over p ≡ true) × (h.units ≡ units_at hs p)
unfolding units_at
units-hold [] p l = absurd (omega arith)
units-hold (h ∷ hs) p l =
    by_bool (within h.over p)
    (λ w. by_bool (leb (units_at hs p) h.units)
    (λ k. let k' = leb-true (units_at hs p) h.units k in (h, Memᴰ.head refl, w, rw w (omega arith)))
    (λ k. let k' = leb-false (units_at hs p) h.units k in later (rw w (omega arith)) (units-hold hs p)))
    (λ w. later (rw w (omega arith)) (units-hold hs p))
  where
    later : units_at hs p ≡ units_at (h ∷ hs) p
        → (0 < units_at hs p → (k : Hold) × Memᴰ k hs × (within k.over p ≡ true) × (k.units ≡ units_at hs p))
        → (k : Hold) × Memᴰ k (h ∷ hs) × (within k.over p ≡ true) × (k.units ≡ units_at (h ∷ hs) p)
    later e f = let r = f (omega arith) in (r.0, Memᴰ.tail r.1, r.2, r.3 ∙ e)

module _ (d : ℕ) where
  side-units : (b : Bool) (task : Task) (p : ℕ) {h : Hold} → Memᴰ h (sides_of d b task) → within h.over p ≡ true → h.units ≤ units_at (holds d task) p
  unfolding sides_of
  side-units true task p m w = units-le p m w
  side-units false task p m w = let e = ap (λ (i : Hold). i.units) (Memᴰ.eq_of_singleton m) in omega arith

  -- a choice that holds x takes at most the units held at x
  choice-held : (m : TaskSet) (tasks : List Task) (x : State) (c : Choice) → Memᴰ c (choices_of d m tasks) → inside (box_of c) x ≡ true
      → total c ≤ held d tasks x
  unfolding choices_of held total inside
  choice-held [] [] x c i e = let q = Memᴰ.eq_of_singleton i in rw q (omega arith)
  choice-held [] (task ∷ tasks) x c i e = absurd (Memᴰ.not-nil i)
  choice-held (b ∷ m) [] x c i e = absurd (Memᴰ.not-nil i)
  choice-held (b ∷ m) (task ∷ tasks) [] c i e =
      let q = prefixed-mem (sides_of d b task) (choices_of d m tasks) i in
      true-not-false false (rw q.is at e) refl
  choice-held (b ∷ m) (task ∷ tasks) (p ∷ x) c i e =
      let q = prefixed-mem (sides_of d b task) (choices_of d m tasks) i in
      let w = and-true (within q.first.over p) (inside (box_of q.rest) x) (rw q.is at e) in
      rw q.is (omega (arith, side-units b task p q.first-in w.0, choice-held m tasks x q.rest q.rest_in w.1))

  -- a choice that takes units is one of a non-empty task set
  pub choice-taken : (m : TaskSet) (tasks : List Task) (c : Choice) → Memᴰ c (choices_of d m tasks) → 0 < total c → 0 < taken m
  unfolding choices_of total taken sides_of
  choice-taken [] [] c i l = let q = Memᴰ.eq_of_singleton i in absurd (omega (arith, rw q at l))
  choice-taken [] (task ∷ tasks) c i l = absurd (Memᴰ.not-nil i)
  choice-taken (b ∷ m) [] c i l = absurd (Memᴰ.not-nil i)
  choice-taken (true ∷ m) (task ∷ tasks) c i l = omega arith
  choice-taken (false ∷ m) (task ∷ tasks) c i l =
      let q = prefixed-mem (sides_of d false task) (choices_of d m tasks) i in
      let z = ap (λ (h : Hold). h.units) (Memᴰ.eq_of_singleton q.first-in) in
      omega (arith, choice-taken m tasks q.rest q.rest_in (omega (arith, rw q.is at l)))

  -- a choice that holds x and, beside n units, exceeds capacity s with none of its holds to spare
  record Pick (s n : ℕ) (tasks : List Task) (x : State) : Type 0 where
    set : TaskSet
    sized : length set ≡ length tasks
    choice : Choice
    chosen : Memᴰ choice (choices_of d set tasks)
    holds-x : inside (box_of choice) x ≡ true
    more : s < n + total choice
    none_spare : Needed s (n + total choice) choice

  -- task by task, a hold is left out if what is held by the later tasks is enough without it
  pick : (s n : ℕ) (tasks : List Task) (x : State) → InGrid (lengths tasks) x → s < n + held d tasks x → Pick s n tasks x
  unfolding choices_of held total inside sides_of
  pick s n [] [] g l = record {
    set = [];
    sized = refl;
    choice = [];
    chosen = Memᴰ.head refl;
    holds-x = refl;
    more = omega arith;
    none_spare = λ h i u. absurd (Memᴰ.not-nil i);
  }
  pick s n [] (p ∷ x) g l = absurd (omega (arith, g.count))
  pick s n (task ∷ tasks) [] g l = absurd (omega (arith, g.count))
  pick s n (task ∷ tasks) (p ∷ x) g l =
      by_bool (ltb s (n + held d tasks x))
      (λ k.
      let q = pick s n tasks x (tail-grid g) (ltb-true _ _ k) in
      let free : Hold = record { over = record { low = 0; high = length task }; units = 0 } in
      record {
        set = false ∷ q.set;
        sized = ap suc q.sized;
        choice = free ∷ q.choice;
        chosen = mem-prefixed (Memᴰ.head refl) q.chosen;
        holds-x = rw (within-intro free.over p (omega (arith, g.fits 0))) q.holds-x;
        more = omega (arith, q.more);
        none_spare = λ h i u. by_cases (Memᴰ.cases_cons i) (λ e. let z : h.units ≡ 0 = ap (λ (i : Hold). i.units) e in omega arith) (λ j. omega (arith, q.none_spare h j u));
      })
      (λ k.
      let k' = ltb-false s (n + held d tasks x) k in
      let h = units-hold (holds d task) p (omega arith) in
      let q = pick s (n + h.0.units) tasks x (tail-grid g) (omega (arith, h.3)) in
      let t = choice-held q.set tasks x q.choice q.chosen q.holds-x in
      record {
        set = true ∷ q.set;
        sized = ap suc q.sized;
        choice = h.0 ∷ q.choice;
        chosen = mem-prefixed h.1 q.chosen;
        holds-x = rw h.2 q.holds-x;
        more = omega (arith, q.more);
        none_spare = λ j i u. by_cases (Memᴰ.cases_cons i) (λ e. let z = ap (λ (i : Hold). i.units) e in omega arith) (λ m. omega (arith, q.none_spare j m u));
      })

  -- the boxes of a device hold exactly the states at which more units of it are held than its capacity
  device-exact : (s : ℕ) (tasks : List Task) (x : State) → InGrid (lengths tasks) x → (covered (device_boxes d s tasks) x ≡ true) ↔ (s < held d tasks x)
  unfolding device_boxes
  device-exact s tasks x g = (
    (λ e.
        let r = boxes-choice s _ x e in
        let m = all-mem d (task_sets (length tasks)) tasks r.1 in
        omega (arith, exceeds-total s r.0 r.2, choice-held m.0 tasks x r.0 m.2 r.3)),
    (λ l.
        let q = pick s 0 tasks x g (omega arith) in
        let z : 0 + total q.choice ≡ total q.choice = omega arith in
        let n = choice-taken q.set tasks q.choice q.chosen (omega (arith, q.more)) in
        choice-boxes s x (mem-all d tasks (rw q.sized at (mem-sets q.set n)) q.chosen)
        (exceeds-intro s q.choice (omega (arith, q.more)) (λ h i u. rw z at (q.none_spare h i u))) q.holds-x),
  )

  pub device-covered : (s : ℕ) (tasks : List Task) (x : State) → InGrid (lengths tasks) x → covered (device_boxes d s tasks) x ≡ ltb s (held d tasks x)
  device-covered s tasks x g =
      by_bool (ltb s (held d tasks x))
      (λ k. rw (k, (device-exact s tasks x g).1 (ltb-true s (held d tasks x) k)))
      (λ k. by_bool (covered (device_boxes d s tasks) x)
      (λ c. absurd (omega (arith, ltb-false s (held d tasks x) k, (device-exact s tasks x g).0 c)))
      (λ c. rw (k, c)))

-- the boxes of one device, and those of the others
pub boxes-tagged : (d : ℕ) (bs : List Box) (fs : List Forbidden) → boxes (map (λ b. record { device = d; box = b }) bs ++ fs) ≡ bs ++ boxes fs
boxes-tagged d [] fs = refl
boxes-tagged d (b ∷ bs) fs = ap (b ∷◌) (boxes-tagged d bs fs)

module _ (tasks : List Task) (x : State) (g : InGrid (lengths tasks) x) where
  covered-device : (d s : ℕ) (ss : List ℕ)
      → covered (boxes (forbidden_from d (s ∷ ss) tasks)) x ≡ (ltb s (held d tasks x) || covered (boxes (forbidden_from (suc d) ss tasks)) x)
  unfolding forbidden_from
  covered-device d s ss =
      ap (λ bs. covered bs x) (boxes-tagged d (device_boxes d s tasks) (forbidden_from (suc d) ss tasks))
      ∙ rw (covered-append, device-covered d s tasks x g)

  -- a forbidden box that holds x names a device with too many units held, and the other way round
  overfull : (d : ℕ) (ss : List ℕ) → covered (boxes (forbidden_from d ss tasks)) x ≡ true → (i : ℕ) × (i < length ss) × (at ss i < held (d + i) tasks x)
  unfolding forbidden_from covered
  overfull d [] e = true-not-false false e refl
  overfull d (s ∷ ss) e =
      by_cases (or-true (ltb s (held d tasks x)) (covered (boxes (forbidden_from (suc d) ss tasks)) x) (sym (covered-device d s ss) ∙ e))
      (λ h. let z : d + 0 ≡ d = omega arith in (0, omega arith, rw z (ltb-true s (held d tasks x) h)))
      (λ h.
      let r = overfull (suc d) ss h in
      let z : d + suc r.0 ≡ suc d + r.0 = omega arith in
      (suc r.0, omega arith, rw z r.2))

  boxed : (d : ℕ) (ss : List ℕ) (i : ℕ) → i < length ss → at ss i < held (d + i) tasks x → covered (boxes (forbidden_from d ss tasks)) x ≡ true
  boxed d [] i h l = absurd (omega arith)
  boxed d (s ∷ ss) zero h l =
      let z : d + 0 ≡ d = omega arith in
      rw (covered-device d s ss, lt-ltb s (held d tasks x) (rw z at l))
  boxed d (s ∷ ss) (suc i) h l =
      let z : d + suc i ≡ suc d + i = omega arith in
      covered-device d s ss ∙ or_right (ltb s (held d tasks x)) _ (boxed (suc d) ss i (omega arith) (rw z at l))

-- the forbidden boxes hold exactly the states with an overfull device
pub forbidden-exact : (s : Set) (x : State) → InGrid (lengths s.tasks) x → (covered (forbidden_boxes s) x ≡ true) ↔ Overfull s x
unfolding forbidden
forbidden-exact s x g = (
  (λ e.
      let r = overfull s.tasks x g 0 s.capacities e in
      let z : 0 + r.0 ≡ r.0 = omega arith in
      (r.0, r.1, rw z at r.2)),
  (λ r.
      let z : 0 + r.0 ≡ r.0 = omega arith in
      boxed s.tasks x g 0 s.capacities r.0 r.1 (rw z r.2)),
)

-- so they hold the states that are not permitted
pub forbidden-permitted : (s : Set) (x : State) → InGrid (lengths s.tasks) x → covered (forbidden_boxes s) x ≡ not (permitted s x)
forbidden-permitted s x g =
    by_bool (permitted s x)
    (λ p. by_bool (covered (forbidden_boxes s) x)
    (λ c. true-not-false (permitted s x) p ((not-permitted s x).1 ((forbidden-exact s x g).0 c)))
    (λ c. rw (p, c)))
    (λ p. rw (p, (forbidden-exact s x g).1 ((not-permitted s x).0 p)))
