-- What an analysis leaves where it makes the map: accepted, or refused with 14.
use Prim.Native.Nat.{ℕ, ◌≤◌}
use native.Mathlib.Omega.{arith}
use mathlib.Core.Path.{◌≡◌, refl, sym, ap, ◌∙◌}
use mathlib.Core.List.{List}
use lib.ListN.{length}
use lib.Dec.{ltb}
use borrow.Author.Tests.{ltb-false}
use Rattle.model.specs.Answer.{given, refused, if_given}
use Rattle.model.specs.Set.{Set, lengths_of, size}
use Rattle.model.specs.Layout.{present}
use Rattle.model.specs.Read.{Reading, read, set_of}
use Rattle.model.specs.Map.{map_of}
use Rattle.model.specs.Plan.{plan_of, plan_words}
use Rattle.model.specs.Record.{map_fits}
use Rattle.model.specs.Slice.{over}
use Rattle.model.specs.Analysis.{Planned, plan_fits, planned, with_room, analyse}
use Rattle.model.proofs.Bools.{by_bool, by_cases}
use Rattle.model.proofs.Answers.{given-refused, refused-given, refused-number, given-value, then-refused, then-given}
use Rattle.model.proofs.ReadNumbers.{read_number}

-- the set is read, its map has room in the slice, and stands at the slice's front afterwards
pub record Mapped (r : Reading) (map : List ℕ) (made : List ℕ) : Type 0 where
  pub is_read : r ≡ given (set_of r)
  pub room : size (lengths_of (set_of r)) ≤ length map
  pub is_made : made ≡ over (map_of (set_of r)) map

module _ (s : Set) (slice : List ℕ) where
  -- a map that fits has room
  pub fits-room : (g : ℕ) → map_fits s slice ≡ given g → size (lengths_of s) ≤ length slice
  unfolding map_fits
  fits-room g e = by_bool (ltb (length slice) (size (lengths_of s))) (λ b. refused-given (rw b at e)) (λ b. ltb-false _ _ b)

  -- one that does not is refused with 13
  pub fits-number : (n p : ℕ) → map_fits s slice ≡ refused n p → n ≡ 13
  unfolding map_fits
  fits-number n p e =
      by_bool (ltb (length slice) (size (lengths_of s))) (λ b. sym (refused-number (rw b at e))) (λ b. given-refused (rw b at e))

  -- a plan that fits is the set's
  pub plan-given : (ws : List ℕ) → plan_fits s slice ≡ given ws → (ws ≡ plan_words (plan_of s)) × (length ws ≤ length slice)
  unfolding plan_fits
  plan-given ws e =
      by_bool (ltb (length slice) (length (plan_words (plan_of s))))
      (λ b. refused-given (rw b at e))
      (λ b. let q = given-value (rw b at e) in (sym q, rw (sym q) (ltb-false (length slice) (length (plan_words (plan_of s))) b)))

module _ (words map : List ℕ) where
  pub room-given : (s : Set) → with_room words map ≡ given s → (read words ≡ given s) × (size (lengths_of s) ≤ length map)
  room-given s e =
      let r = (then-given _ (read words) s).0 e in
      let q = (then-given _ (map_fits r.0 map) s).0 r.2 in
      let same = given-value q.2 in
      (rw same at r.1, rw same at (fits-room r.0 map q.0 q.1))

  -- neither the set nor its map's room brings 14
  room-number : (p : ℕ) → with_room words map ≡ refused 14 p → ⊥
  room-number p e =
      by_cases ((then-refused _ (read words) 14 p).0 e)
      (λ q. by_cases (read_number present words 14 p q) (λ l. by_cases l (λ n. omega arith) (λ n. omega arith)) (λ n. omega arith))
      (λ r. by_cases ((then-refused _ (map_fits r.0 map) 14 p).0 r.2) (λ q. omega (arith, fits-number r.0 map 14 p q)) (λ q. given-refused q.2))

  room-made : (s : Set) → with_room words map ≡ given s → Mapped (read words) map (over (map_of s) map)
  unfolding set_of
  room-made s e = let r = room-given s e in rw r.0 (record { is_read = refl; room = r.1; is_made = refl })

  module _ (plan : List ℕ) where
    plan-made : (s : Set) (ws : List ℕ) → with_room words map ≡ given s → plan_fits s plan ≡ given ws → read words ≡ given s → ws ≡ plan_words (plan_of s)
        → (analyse words map plan).plan ≡ over (plan_words (plan_of (set_of (read words)))) plan
    unfolding if_given set_of
    plan-made s ws e q d h = rw (e, q, d, h)

    -- accepted: the plan's words stand at the front of the plan slice too, which is long enough for them, and what is answered is the set's, with their number
    pub accepted-made : (a : Planned) → (analyse words map plan).answer ≡ given a
        → Mapped (read words) map (analyse words map plan).map
        × ((analyse words map plan).plan ≡ over (plan_words (plan_of (set_of (read words)))) plan)
        × (a.words ≤ length plan)
        × (a ≡ planned (set_of (read words)) (length (plan_words (plan_of (set_of (read words))))))
    unfolding if_given set_of
    accepted-made a e =
        let r = (then-given _ (with_room words map) a).0 e in
        let q = (then-given _ (plan_fits r.0 plan) a).0 r.2 in
        let p = plan-given r.0 plan q.0 q.1 in
        let d = (room-given r.0 r.1).0 in
        let answered : planned r.0 (length q.0) ≡ a = given-value q.2 in (
          rw r.1 (room-made r.0 r.1),
          plan-made r.0 q.0 r.1 q.1 d p.0,
          rw (← answered) p.1,
          rw d (sym answered ∙ ap (λ ws. planned r.0 (length ws)) p.0),
        )

    -- 14: the map stands all the same
    pub short-made : (place : ℕ) → (analyse words map plan).answer ≡ refused 14 place → Mapped (read words) map (analyse words map plan).map
    unfolding if_given
    short-made place e =
        by_cases ((then-refused _ (with_room words map) 14 place).0 e)
        (λ q. absurd (room-number place q))
        (λ r. rw r.1 (room-made r.0 r.1))
