-- A trial on an accepted set, case by case, before its bids.
use Prim.Native.Nat.{ℕ, ◌<◌, ◌≤◌}
use native.Mathlib.Omega.{arith}
use mathlib.Core.Path.{◌≡◌}
use mathlib.Core.Bool.{true, false, cond, ◌&&◌}
use mathlib.Core.List.{List}
use lib.ListN.{length}
use lib.Dec.{ltb, leb}
use borrow.Author.Tests.{eq-eqb, ne_eqb, lt-ltb, le-ltb, ltb-true, ltb-false, leb-false}
use Rattle.std.specs.Prelude.{Option, Some, None}
use Rattle.model.specs.Answer.{refused, ◌then◌}
use Rattle.model.specs.Below.{lowest}
use Rattle.model.specs.Set.{Set, lengths_of, at, size}
use Rattle.model.specs.Record.{fresh}
use Rattle.model.specs.Broker.{Settings, is_setting}
use Rattle.model.specs.Trial.{untried, faulty, ordered, rounds_of, try_from, trial_on}
use Rattle.model.proofs.Bools.{by_bool, or-false}
use Rattle.model.proofs.Counts.{below-lowest}
use Rattle.records.proofs.Placed.{map_short, map-fits}
use Rattle.broker.proofs.BidCases.{not-settled, is-settled}

-- the first faulty place, where there is one
abbrev pub fault_in : List ℕ → ℕ → Option ℕ
fault_in order n =
    let place = lowest (length order) (faulty n order) in
    cond (ltb place (length order)) (Some place) None

module _ (order : List ℕ) (n : ℕ) where
  abbrev lowest_in : ℕ
  lowest_in = lowest (length order) (faulty n order)

  pub some_fault : (place : ℕ) → Some place ≡ fault_in order n → (place ≡ lowest_in) × (place < length order)
  some_fault place e =
      by_bool (ltb lowest_in (length order))
      (λ h. let q : Some place ≡ Some lowest_in = rw h at e in let p : place ≡ lowest_in = cc in (p, omega (arith, p, ltb-true _ _ h)))
      (λ h. absurd (let q : Some place ≡ None = rw h at e in cc))

  pub no_fault : None ≡ fault_in order n → length order ≤ lowest_in
  no_fault e =
      by_bool (ltb lowest_in (length order))
      (λ h. absurd (let q : None ≡ Some lowest_in = rw h at e in cc))
      (λ h. ltb-false _ _ h)

module _ (words m order : List ℕ) (rounds : ℕ) (c : Settings) (s : Set) where
  pub short : ltb (length m) (size (lengths_of s)) ≡ true → (g : ℕ) → g ≡ size (lengths_of s) → refused 13 g ≡ trial_on words m order rounds c s
  unfolding trial_on ◌then◌
  short e g is = rw (map_short s m e, is)

  module _ (room : ltb (length m) (size (lengths_of s)) ≡ false) where
    pub bad_setting : (is_setting c.share && is_setting c.window) ≡ false → refused 26 0 ≡ trial_on words m order rounds c s
    unfolding trial_on ◌then◌
    bad_setting e = rw (map-fits s m room, not-settled c e)

    module _ (allowed : (is_setting c.share && is_setting c.window) ≡ true) where
      pub empty-order : length order ≡ 0 → refused 27 0 ≡ trial_on words m order rounds c s
      unfolding trial_on ordered lowest ◌then◌
      empty-order e = rw (map-fits s m room, is-settled c allowed, eq-eqb (length order) 0 e, e)

    module _ (allowed : (is_setting c.share && is_setting c.window) ≡ true) (place : ℕ) (first : place ≡ lowest (length order) (faulty (length s.tasks) order)) where
      module _ (some : length order ≡ 0 → ⊥) where
        pub bad_order : place < length order → refused 27 place ≡ trial_on words m order rounds c s
        unfolding trial_on ordered ◌then◌
        bad_order h = rw (map-fits s m room, is-settled c allowed, ne_eqb (length order) 0 some, ← first, lt-ltb place (length order) h)

        module _ (faultless : length order ≤ place) where
          pub right-order : try_from words m c s untried fresh (rounds_of order rounds) ≡ trial_on words m order rounds c s
          unfolding trial_on ordered ◌then◌
          right-order = rw (map-fits s m room, is-settled c allowed, ne_eqb (length order) 0 some, ← first, le-ltb place (length order) faultless)

          -- each place of such an order names a task, and it has at most 255 of them
          pub names-task : (i : ℕ) → i < length order → at order i < length s.tasks
          names-task i h =
              leb-false (length s.tasks) (at order i) (or-false (leb 255 i) (leb (length s.tasks) (at order i)) (below-lowest (length order) (faulty (length s.tasks) order) i (omega (arith, first)))).1

          pub few-places : (i : ℕ) → i < length order → i < 255
          few-places i h = leb-false 255 i (or-false (leb 255 i) (leb (length s.tasks) (at order i)) (below-lowest (length order) (faulty (length s.tasks) order) i (omega (arith, first)))).0
