-- The numbers of an accepted analysis say how much of the grid is unsafe.
use Prim.Native.Nat.{ℕ, ◌+◌, ◌*◌, ◌<◌}
use native.Mathlib.Omega.{arith}
use native.Mathlib.Nat.{mod-lt, div-add-mod', div-lt_iff_lt-mul, zero-div, zero-mod, le_of_suc-le-suc}
use mathlib.Core.Path.{◌≡◌, refl, sym, ap, ◌∙◌}
use mathlib.Core.Logic.{◌↔◌, ◌⊎◌, inl, inr}
use mathlib.Core.Bool.{Bool, true, not, ◌||◌}
use mathlib.Core.List.Memᴰ
use mathlib.Core.List.{List, [], ◌∷◌, Memᴰ}
use lib.ListN.{length}
use lib.Dec.{eqb}
use borrow.Author.Tests.{eqb-true}
use Rattle.model.specs.Below as below
use Rattle.model.specs.Set.{Set, lengths_of, at, size}
use Rattle.model.specs.Read.{set_in}
use Rattle.model.specs.State.{State, InGrid, state_at}
use Rattle.model.specs.Hold.{permitted}
use Rattle.model.specs.Map.{map_of}
use Rattle.model.specs.PerThousand.{permitted_states_of, unsafe_states_of}
use Rattle.model.specs.Analysis.{Planned, planned, analyse}
use Rattle.model.specs.Layout.{WellFormed}
use Rattle.model.proofs.Bools.{by_cases, or-true}
use Rattle.model.proofs.Counts.{many-same}
use Rattle.model.proofs.States.{start_grid}
use Rattle.model.proofs.Ranks.{rank-state_at, state_at-grid}
use Rattle.model.proofs.StartOpen.{start_open}
use Rattle.model.proofs.StatesCounted.{permitted-ranks, permitted-by-rank, unsafe-ranks, permitted-some, unsafe-fewer}
use Rattle.model.proofs.Records.{Carries, over-carries}
use Rattle.model.proofs.ReadExact.{read-sound}
use Rattle.model.proofs.Outcome.{accepted-made}
use Rattle.demands.specs.Terms.{how_many}
use Rattle.demands.specs.MapDemand.{IsUnsafe, Bytes}
use Rattle.demands.specs.PerThousand.{NumberOf, OfGrid, PerThousand}
use Rattle.demands.proofs.HowMany.{same_count}
use Rattle.demands.proofs.MapDemandHolds.{open-both, map-demand, unsafe-byte, byte-unsafe}
use Rattle.demands.proofs.AnalysesHold.{of-analysis}
use Rattle.demands.proofs.NumberedStates.{numbered, one_number}

-- what 0 and 0 come from
from-0 : (u p q r : ℕ) → 1000 * u ≡ q * p + r → q ≡ 0 → r ≡ 0 → u ≡ 0
from-0 u p q r e zq zr = let z : 1000 * u ≡ 0 * p + 0 = rw (zq, zr) at e in omega (arith, z)

-- ---- a set
module _ (s : Set) where
  abbrev ls : List ℕ
  ls = lengths_of s

  abbrev own : ℕ → ℕ
  own r = at (map_of s) r

  bytes : Bytes s (map_of s)
  bytes = map-demand.map_bytes s

  -- a state's byte by its rank
  module _ (r : ℕ) (h : r < size ls) where
    abbrev x : State
    x = state_at ls r

    grid : InGrid ls x
    grid = state_at-grid ls r h

    unsafe-tells : ((eqb (own r) 2 || eqb (own r) 3) ≡ true) ↔ IsUnsafe s x
    unsafe-tells = (
      (λ e.
          let b : (own r ≡ 2) ⊎ (own r ≡ 3) = by_cases (or-true (eqb (own r) 2) (eqb (own r) 3) e) (λ q. inl (eqb-true (own r) 2 q)) (λ q. inr (eqb-true (own r) 3 q)) in
          byte-unsafe s (map_of s) bytes x grid (rw (rank-state_at ls r h) b)),
      (λ u.
          let b : (own r ≡ 2) ⊎ (own r ≡ 3) = rw (rank-state_at ls r h) at (unsafe-byte s (map_of s) bytes x grid u) in
          by_cases b (λ e. rw e refl) (λ e. rw e refl)),
    )

  permitted-number : NumberOf ls (λ x. permitted s x ≡ true) (permitted_states_of s)
  permitted-number =
      rw (permitted-by-rank s ∙ same_count (size ls) (λ r. permitted s (state_at ls r)))
      (numbered ls (λ x. permitted s x ≡ true) (λ r. permitted s (state_at ls r)) (λ r h. (λ e. e, λ e. e)))

  unsafe-number : NumberOf ls (IsUnsafe s) (unsafe_states_of s)
  unsafe-number =
      rw (unsafe-ranks s ∙ same_count (size ls) (λ r. eqb (own r) 2 || eqb (own r) 3))
      (numbered ls (IsUnsafe s) (λ r. eqb (own r) 2 || eqb (own r) 3) unsafe-tells)

  -- a number of states is 0 exactly if there is none
  none_number : (P : State → Type 0) (n : ℕ) → NumberOf ls P n → (n ≡ 0) ↔ ((x : State) → InGrid ls x → P x → ⊥)
  none_number P n c = (
    (λ z x g h. nothing c.states (c.as_many ∙ z) x ((c.each x).1 (g, h))),
    (λ none. sym c.as_many ∙ is-nothing c.states (λ x m. let g = (c.each x).0 m in none x g.0 g.1)),
  )
    where
      nothing : (xs : List State) → length xs ≡ 0 → (x : State) → Memᴰ x xs → ⊥
      nothing [] e x m = Memᴰ.not-nil m
      nothing (y ∷ xs) e x m = absurd (omega (arith, e))

      is-nothing : (xs : List State) → ((x : State) → Memᴰ x xs → ⊥) → length xs ≡ 0
      is-nothing [] h = refl
      is-nothing (y ∷ xs) h = absurd (h y (Memᴰ.head refl))

  module _ (w : WellFormed s) (m : List ℕ) (lent : Carries s m) (p : Planned) (is : p ≡ planned s p.words) where
    -- a test of the slice's bytes below the grid is one of the map's
    counted : (f : ℕ → Bool) → below.how_many (size ls) (λ r. f (own r)) ≡ how_many (size ls) (λ r. f (at m r))
    counted f = many-same (size ls) (λ r. f (own r)) (λ r. f (at m r)) (λ r h. ap f (sym (lent.same r h))) ∙ same_count (size ls) (λ r. f (at m r))

    division : 1000 * unsafe_states_of s ≡ p.quotient * permitted_states_of s + p.remainder
    division = rw is (sym (div-add-mod' (1000 * unsafe_states_of s) (permitted_states_of s)))

    of-grid : OfGrid s m p
    of-grid = record {
      permitted_count = permitted_states_of s;
      unsafe_count = unsafe_states_of s;
      permitted_states = permitted-number;
      unsafe-states = unsafe-number;
      dead_included = λ x g d. (unsafe-number.each x).1 (g, map-demand.dead_unsafe s x g d);
      permitted_bytes = permitted-ranks s ∙ counted (λ b. not (eqb b 1));
      unsafe_bytes = unsafe-ranks s ∙ counted (λ b. eqb b 2 || eqb b 3);
      divided = division;
      below = rw is (mod-lt (1000 * unsafe_states_of s) (permitted-some s));
      never_0 = permitted-some s;
      start_open = (open-both s _ (start_grid ls)).0 (start_open s w);
      fewer = unsafe-fewer s w;
      at_most = rw is (le_of_suc-le-suc ((div-lt_iff_lt-mul (permitted-some s)).1 (omega (arith, unsafe-fewer s w))));
      all_safe =
          let none = none_number (IsUnsafe s) (unsafe_states_of s) unsafe-number in (
            (λ z. none.0 (from-0 (unsafe_states_of s) (permitted_states_of s) p.quotient p.remainder division z.0 z.1)),
            (λ h. let z = none.1 h in rw (is, z) (zero-div (permitted_states_of s), zero-mod (permitted_states_of s))),
          );
    }

pub per-thousand-holds : PerThousand
per-thousand-holds = record {
  one_number = one_number;
  answers = of-analysis;
  accepted = λ words map plan p e.
      let r = accepted-made words map plan p e in
      let s = set_in words in
      let lent : Carries s (analyse words map plan).map = rw r.0.is_made (over-carries s map) in
      of-grid s (read-sound words s r.0.is_read).1 (analyse words map plan).map lent p (r.3 ∙ ap (planned s) (sym (ap (λ (a : Planned). a.words) r.3)));
  same = λ words map plan map₂ plan₂ p p₂ e e₂. (accepted-made words map plan p e).3 ∙ sym (accepted-made words map₂ plan₂ p₂ e₂).3;
}
