-- Where a state lies by accepted words: in the first forbidden box that holds it, else in the first unsafe one, else in none.
use Prim.Native.Nat.{ℕ, suc, ◌+◌, ◌<◌}
use native.Mathlib.Omega.{arith}
use mathlib.Core.Path.{◌≡◌, refl, sym, ap, ◌∙◌}
use mathlib.Core.Logic.{◌⊎◌, inl, inr}
use mathlib.Core.Option.{none, some}
use mathlib.Core.List.{List}
use lib.ListN.{length, take, drop, length-map, get_or-map}
use lib.Seq.{get_or-take, get_or-drop, length-take-le}
use Rattle.model.specs.Answer.{given}
use Rattle.model.specs.Set.{at}
use Rattle.model.specs.State.{State}
use Rattle.model.specs.Box.{side}
use Rattle.model.specs.Plan.{side_of}
use Rattle.model.specs.StoredPlan.{nothing_scanned, box_of, first_of, Location, in-forbidden, in-unsafe, in_neither, location_of, locate}
use Rattle.model.proofs.Bools.{by_cases}
use Rattle.model.proofs.Answers.{given-value}
use Rattle.model.proofs.Lists.{tabulate-take}
use Rattle.model.proofs.Boxes.{inside-bounds, inside-intro}
use Rattle.model.proofs.FirstBoxes.{BoxKind, forbidden-kind, unsafe-kind, Begins, first-of}
use Rattle.model.proofs.Located.{Accepted, by_count, counted, uncounted, answered, box-room}
use Rattle.demands.specs.StoredPlans.{HoldsAt, FirstHolds, NoneHolds, Lies}

module _ (x : State) (ws : List ℕ) (n : ℕ) where
  -- what is said of a state that lies there
  abbrev Says : Location → Type 0
  Says (in-forbidden i) = FirstHolds 6 x ws n i
  Says (in-unsafe i) = NoneHolds 6 x ws n × FirstHolds 7 x ws n i
  Says in_neither = NoneHolds 6 x ws n × NoneHolds 7 x ws n

  -- there is one first box
  first-once : (kind i j : ℕ) → FirstHolds kind x ws n i → FirstHolds kind x ws n j → i ≡ j
  first-once kind i j f g =
      let not-before : i < j → ⊥ = λ l. g.1 i l f.0 in
      let not_after : j < i → ⊥ = λ l. f.1 j l g.0 in
      omega arith

  -- so it is said of one place
  says-once : (l m : Location) → Says l → Says m → l ≡ m
  says-once (in-forbidden i) (in-forbidden j) h k = ap in-forbidden (first-once 6 i j h k)
  says-once (in-forbidden i) (in-unsafe j) h k = absurd (k.0 i h.0)
  says-once (in-forbidden i) in_neither h k = absurd (k.0 i h.0)
  says-once (in-unsafe i) (in-forbidden j) h k = absurd (h.0 j k.0)
  says-once (in-unsafe i) (in-unsafe j) h k = ap in-unsafe (first-once 7 i j h.1 k.1)
  says-once (in-unsafe i) in_neither h k = absurd (k.1 i h.1.0)
  says-once in_neither (in-forbidden j) h k = absurd (h.0 j k.0)
  says-once in_neither (in-unsafe j) h k = absurd (h.1 j k.1.0)
  says-once in_neither in_neither h k = refl

module _ (x : State) (ws : List ℕ) (n : ℕ) (full : length x ≡ 8) (a : Accepted ws n) where
  -- a position for each task
  positions : length (take n x) ≡ n
  positions = length-take-le n x (omega (arith, full, a.tasks))

  -- the interval of task t, in the box whose first word stands at i, is that of the word t + 1 behind
  side-is : (i t : ℕ) → t < n → side (box_of n (drop (suc i) ws)) t ≡ side_of (at ws (i + 1 + t))
  side-is i t h =
      let e : suc i + t ≡ i + 1 + t = omega arith in
      get_or-map side_of (take n (drop (suc i) ws)) t 0
      ∙ ap side_of (get_or-take n (drop (suc i) ws) t 0 h ∙ get_or-drop (suc i) ws t 0 ∙ ap (at ws) e)

  module _ (kind : ℕ) (of-box : BoxKind kind) where
    -- a word that begins a box which holds the state, by the box and by the words of its sides
    begins-holds : (i : ℕ) → Begins n kind (take n x) ws i → HoldsAt kind x ws n i
    begins-holds i b = record {
      there = b.there;
      of_kind = b.of_kind;
      between = λ t h.
          rw (side-is i t h, get_or-take n x t 0 h) at (inside-bounds (box_of n (drop (suc i) ws)) (take n x) b.holds t (omega (arith, positions)));
    }

    holds-begins : (i : ℕ) → HoldsAt kind x ws n i → Begins n kind (take n x) ws i
    holds-begins i w =
        let b = box_of n (drop (suc i) ws) in
        let room = box-room n kind of-box a.tasks (nothing_scanned n) 0 ws a.scanned i w.there w.of_kind in
        let count : length b ≡ n = length-map (take n (drop (suc i) ws)) side_of ∙ length-take-le n (drop (suc i) ws) room in
        record {
          there = w.there;
          of_kind = w.of_kind;
          holds = inside-intro b (take n x) (count ∙ sym positions) λ t h.
              let k : t < n = omega (arith, positions) in
              rw (side-is i t k, get_or-take n x t 0 k) (w.between t k);
        }

    -- what is found of the kind: nothing where no box holds the state, else the first that does
    looked : ((first_of n kind (take n x) 0 ws ≡ none) × NoneHolds kind x ws n) ⊎ ((j : ℕ) × (first_of n kind (take n x) 0 ws ≡ some j) × FirstHolds kind x ws n j)
    looked =
        by_cases (first-of n kind (take n x) 0 ws)
        (λ r. inl (r.0, λ j w. r.1 j (holds-begins j w)))
        (λ r.
        let z : 0 + r.0 ≡ r.0 = omega arith in
        inr (r.0, r.1 ∙ ap some z, (begins-holds r.0 r.2.0, λ j l w. r.2.1 j l (holds-begins j w))))

  -- where the state is said to lie, it lies
  found-says : (l : Location) → locate x ws n ≡ given l → Says x ws n l
  unfolding location_of
  found-says l e =
      let is = given-value (sym (answered x ws n a) ∙ e) in
      by_cases (looked 6 forbidden-kind)
      (λ f. by_cases (looked 7 unsafe-kind)
      (λ u. rw (← is, f.0, u.0) (f.1, u.1))
      (λ u. rw (← is, f.0, u.1) (f.1, u.2)))
      (λ f. rw (← is, f.1) f.2)

  -- and where it lies, it is said to lie
  says-found : (l : Location) → Says x ws n l → locate x ws n ≡ given l
  says-found l h = let e = answered x ws n a in e ∙ ap given (says-once x ws n _ l (found-says _ e) h)

  pub lies-hold : Lies x ws n
  lies-hold = record {
    forbidden = λ i. (found-says (in-forbidden i), says-found (in-forbidden i));
    unsafe = λ i. (found-says (in-unsafe i), says-found (in-unsafe i));
    neither = (found-says in_neither, says-found in_neither);
  }

-- positions past the task count are unread
pub unread : (x y : State) (ws : List ℕ) (n : ℕ) → length x ≡ 8 → length y ≡ 8 → ((t : ℕ) → t < n → at x t ≡ at y t) → locate x ws n ≡ locate y ws n
unread x y ws n e f same =
    by_count n
    (λ p q.
    let front : take n x ≡ take n y = tabulate-take n x (at y) (omega arith) same ∙ sym (tabulate-take n y (at y) (omega arith) (λ t l. refl)) in
    counted x ws n p q ∙ rw front (sym (counted y ws n p q)))
    (λ o. uncounted x ws n o ∙ sym (uncounted y ws n o))
