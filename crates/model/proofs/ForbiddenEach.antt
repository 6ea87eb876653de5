-- A fact of each forbidden box, from a fact of each hold that it can stand over.
use Prim.Native.Nat.{ℕ, suc, ◌+◌, ◌<◌, suc-le-suc}
use native.Mathlib.Omega.{arith}
use mathlib.Core.Path.{◌≡◌}
use mathlib.Core.Bool.{Bool, true}
use mathlib.Core.List.{List, [], ◌∷◌, map}
use lib.ListN.{length}
use Rattle.model.specs.Set.{Task, Set, at}
use Rattle.model.specs.Hold.{Hold}
use Rattle.model.specs.Box.{Box}
use Rattle.model.specs.Forbidden.{TaskSet, Choice, prefixed, sides_of, choices_of, choices_of_all, just_exceeds, box_of, boxes_of, device_boxes, Forbidden, forbidden_from, forbidden}
use Rattle.model.proofs.Bools.{by_bool}
use Rattle.model.proofs.Each.{Each, each_append, each_map}

prefixed-each : (S : Hold → Type 0) (P Q : Choice → Type 0) → ((h : Hold) (c : Choice) → S h → P c → Q (h ∷ c)) → (hs : List Hold) (cs : List Choice)
    → Each S hs → Each P cs → Each Q (prefixed hs cs)
unfolding prefixed
prefixed-each S P Q h [] cs e f = tt
prefixed-each S P Q h (i ∷ is) cs e f =
    each_append Q (map (λ c. i ∷ c) cs) (prefixed is cs) (each_map P Q (λ c. i ∷ c) (λ c p. h i c e.0 p) cs f) (prefixed-each S P Q h is cs e.1 f)

-- the boxes of the choices that just exceed the capacity
pub exceeding-each : (s : ℕ) (P : Choice → Type 0) (Q : Box → Type 0) → ((c : Choice) → P c → just_exceeds s c ≡ true → Q (box_of c))
    → (cs : List Choice) → Each P cs → Each Q (boxes_of s cs)
unfolding boxes_of
exceeding-each s P Q h [] e = tt
exceeding-each s P Q h (c ∷ cs) e =
    let more = exceeding-each s P Q h cs e.1 in
    by_bool (just_exceeds s c) (λ k. rw k (h c e.0 k, more)) (λ k. rw k more)

module _ (d : ℕ) where
  -- what each task can stand with, put before the choices of the tasks behind it
  pub choices-each : (T : Task → Type 0) (S : Bool → Task → Hold → Type 0) (P : TaskSet → List Task → Choice → Type 0)
      → ((c : Bool) (task : Task) → T task → Each (S c task) (sides_of d c task)) → P [] [] []
      → ((c : Bool) (cs : TaskSet) (task : Task) (tasks : List Task) (h : Hold) (b : Choice) → S c task h → P cs tasks b → P (c ∷ cs) (task ∷ tasks) (h ∷ b))
      → (cs : TaskSet) (tasks : List Task) → Each T tasks → Each (P cs tasks) (choices_of d cs tasks)
  unfolding choices_of
  choices-each T S P sides none more [] [] h = (none, tt)
  choices-each T S P sides none more [] (task ∷ tasks) h = tt
  choices-each T S P sides none more (c ∷ cs) [] h = tt
  choices-each T S P sides none more (c ∷ cs) (task ∷ tasks) h =
      prefixed-each (S c task) (P cs tasks) (P (c ∷ cs) (task ∷ tasks)) (more c cs task tasks) (sides_of d c task) (choices_of d cs tasks)
      (sides c task h.0) (choices-each T S P sides none more cs tasks h.1)

  -- over a list of task sets
  pub sets-each : (P : Choice → Type 0) (tasks : List Task) → ((c : TaskSet) → Each P (choices_of d c tasks)) → (cs : List TaskSet) → Each P (choices_of_all d cs tasks)
  unfolding choices_of_all
  sets-each P tasks h [] = tt
  sets-each P tasks h (c ∷ cs) = each_append P (choices_of d c tasks) (choices_of_all d cs tasks) (h c) (sets-each P tasks h cs)

module _ (tasks : List Task) (P : ℕ → Box → Type 0) where
  abbrev OfDevice : Forbidden → Type 0
  OfDevice f = P f.device f.box

  from_each : (d : ℕ) (ss : List ℕ) → ((i : ℕ) → i < length ss → Each (P (d + i)) (device_boxes (d + i) (at ss i) tasks))
      → Each OfDevice (forbidden_from d ss tasks)
  unfolding forbidden_from
  from_each d [] h = tt
  from_each d (s ∷ ss) h =
      let z : d + 0 ≡ d = omega arith in
      let tagged : Box → Forbidden = λ b. record { device = d; box = b } in
      each_append OfDevice (map tagged (device_boxes d s tasks)) (forbidden_from (suc d) ss tasks)
      (each_map (P d) OfDevice tagged (λ b p. p) (device_boxes d s tasks) (rw z at (h 0 (omega arith))))
      (from_each (suc d) ss (λ i l. let m : d + suc i ≡ suc d + i = omega arith in rw m at (h (suc i) (suc-le-suc l))))

-- over the devices of a set: of each device and its boxes
pub forbidden-each : (s : Set) (P : ℕ → Box → Type 0)
    → ((d : ℕ) → d < length s.capacities → Each (P d) (device_boxes d (at s.capacities d) s.tasks))
    → Each (λ f. P f.device f.box) (forbidden s)
unfolding forbidden
forbidden-each s P h = from_each s.tasks P 0 s.capacities (λ i l. let z : 0 + i ≡ i = omega arith in rw z (h i l))
