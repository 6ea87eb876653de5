-- The devices that are kept, written one after the other: what is written and what is left to write make together what was to write.
use Prim.Native.Nat.{ℕ, ◌+◌, ◌<◌, ◌≤◌}
use native.Mathlib.Numerals.{add-one}
use native.Mathlib.Omega.{arith}
use mathlib.Core.Path.{◌≡◌, refl, sym, ap, ◌∙◌}
use mathlib.Core.Bool.{Bool, true, false, cond}
use mathlib.Core.List.{List, [], ◌∷◌, map}
use lib.ListN.{length, set, drop, length-set, length-map, length-drop, drop_of_length-le}
use lib.Seq.{drop-cons}
use Rattle.model.specs.Below.{how_many}
use Rattle.model.specs.Slice.{write}
use Rattle.model.specs.Set.{at}
use Rattle.model.specs.Layout.{word, DEVICE}
use Rattle.model.specs.Clean.{kept_from}
use Rattle.model.proofs.Bools.{by_bool}
use Rattle.model.proofs.Slices.{write-none, write-one, write_then}
use Rattle.model.proofs.Kept.{many-passed, many-failed, many_below, length-kept}

module _ (f : ℕ → Bool) (cs out₀ : List ℕ) (to : ℕ) where
  -- what is left to write from device d on
  abbrev pub rest : ℕ → List ℕ
  rest d = map (word DEVICE) (kept_from f d (drop d cs))

  -- before device d, `here` is the place for the next one
  pub record Turn (out : List ℕ) (here d : ℕ) : Type 0 where
    pub within : d ≤ length cs
    pub same : length out ≡ length out₀
    pub place : here ≡ to + how_many d f
    pub words : write out here (rest d) ≡ write out₀ to (rest 0)

  pub begins : Turn out₀ to 0
  unfolding how_many
  begins = record { within = omega arith; same = refl; place = omega arith; words = refl }

  module _ (room : to + how_many (length cs) f ≤ length out₀) {out : List ℕ} {here d : ℕ} (now : Turn out here d) where
    -- as many words are left as devices are to be kept
    left : here + length (rest d) ≡ to + how_many (length cs) f
    left =
        let n : length (rest d) ≡ length (kept_from f d (drop d cs)) = length-map (kept_from f d (drop d cs)) (word DEVICE) in
        let all : d + length (drop d cs) ≡ length cs = omega (arith, length-drop d cs, now.within) in
        let k = rw all at (length-kept f d (drop d cs)) in
        omega (arith, n, k, now.place)

    module _ (h : d < length cs) where
      -- a device that is kept has its word at its place
      pub place-free : f d ≡ true → here < length out
      place-free e = omega (arith, now.place, now.same, many_below f d (length cs) e h, room)

      next-kept : f d ≡ true → rest d ≡ word DEVICE (at cs d) ∷ rest (d + 1)
      unfolding kept_from
      next-kept e = rw (add-one d, drop-cons cs d 0, e)

      stored : f d ≡ true → Turn (set out here (word DEVICE (at cs d))) (here + 1) (d + 1)
      stored e =
          let v = word DEVICE (at cs d) in
          let fits : here + 1 + length (rest (d + 1)) ≤ length out = omega (arith, left, ap length (next-kept e), now.same, room) in
          record {
            within = omega arith;
            same = length-set out here v ∙ now.same;
            place = omega (arith, now.place, many-passed f d e, ap (λ (n : ℕ). how_many n f) (add-one d));
            words =
                ap (λ (l : List ℕ). write l (here + 1) (rest (d + 1))) (write-one out here v (place-free e))
                ∙ write_then out here (v ∷ []) (rest (d + 1)) fits
                ∙ ap (write out here) (sym (next-kept e))
                ∙ now.words;
          }

      -- another is passed over
      next-passed : f d ≡ false → rest d ≡ rest (d + 1)
      unfolding kept_from
      next-passed e = rw (add-one d, drop-cons cs d 0, e)

      passed : f d ≡ false → Turn out here (d + 1)
      passed e =
          record {
            within = omega arith;
            same = now.same;
            place = omega (arith, now.place, many-failed f d e, ap (λ (n : ℕ). how_many n f) (add-one d));
            words = ap (write out here) (sym (next-passed e)) ∙ now.words;
          }

      -- the two by what a call makes of slice and place
      pub taken : {out' : List ℕ} {r : ℕ} → r ≡ here + cond (f d) 1 0 → out' ≡ cond (f d) (set out here (word DEVICE (at cs d))) out → Turn out' r (d + 1)
      taken {out'} {r} e q =
          by_bool (f d)
          (λ k. let p : r ≡ here + 1 = rw k at e in rw (p, rw k at q) (stored k))
          (λ k. let p : r ≡ here + 0 = rw k at e in let z : r ≡ here = omega arith in rw (z, rw k at q) (passed k))

    -- after the last device all is written
    pub ends : length cs ≤ d → out ≡ write out₀ to (rest 0)
    unfolding kept_from
    ends h =
        let none : rest d ≡ [] = rw (drop_of_length-le cs h) in
        sym (write-none out here (omega (arith, left, ap length none, now.same, room))) ∙ ap (write out here) (sym none) ∙ now.words
