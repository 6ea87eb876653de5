-- A loop that writes what f gives for each number below count, one after the other: one law for every such loop.
use Rattle.std.specs.Prelude.{Option, Some, None}
use mathlib.Core.Path.{◌≡◌, refl, sym, ap, subst, ◌∙◌}
use mathlib.Core.List.{List, [], ◌∷◌, ◌++◌}
use Prim.Native.Nat.{ℕ, suc, ◌+◌, ◌-◌, ◌≤◌, ◌<◌}
use native.Mathlib.Nat.{sub-zero}
use native.Mathlib.Omega.{arith}
use lib.ListN.{length, set, length-append}
use Rattle.model.specs.Slice.{write}
use Rattle.model.proofs.Slices.{length-write, write-none, write_then}
use Rattle.plan_words.specs.Words.{Wrote, up_to}
use Rattle.plan_words.proofs.Write.{Fits, wrote-next, wrote-full, read_next, read-full}
use Rattle.plan_words.proofs.After.{wrote_one}
use Rattle.plan_words.proofs.UpTo.{no_words}

module _ (f : ℕ → List ℕ) (p₀ : List ℕ) (at count : ℕ) where
  -- what is to write at the i-th number
  abbrev pub rest : ℕ → List ℕ
  rest i = up_to (count - i) i f

  -- before the i-th number: what is written and what is left to write make together what was to write
  pub record Turn (p : List ℕ) (to i : ℕ) : Type 0 where
    pub within : i ≤ count
    pub same : length p ≡ length p₀
    pub room : to ≤ length p₀
    pub sum : to + length (rest i) ≡ at + length (rest 0)
    pub words : at + length (rest 0) ≤ length p₀ → write p to (rest i) ≡ write p₀ at (rest 0)

  pub begins : at ≤ length p₀ → Turn p₀ at 0
  begins h = record { within = omega arith; same = refl; room = h; sum = refl; words = λ _. refl }

  -- what is left, one number further
  next : (i : ℕ) → i < count → rest i ≡ f i ++ rest (i + 1)
  unfolding up_to
  next i h = let s : count - i ≡ suc (count - (i + 1)) = omega arith in ap (λ (k : ℕ). up_to k i f) s

  none : (i : ℕ) → count ≤ i → rest i ≡ []
  unfolding up_to
  none i h = let s : count - i ≡ 0 = omega arith in ap (λ (k : ℕ). up_to k i f) s

  module _ {p : List ℕ} {to i : ℕ} (now : Turn p to i) (h : i < count) where
    split : length (rest i) ≡ length (f i) + length (rest (i + 1))
    split = ap length (next i h) ∙ length-append (f i) (rest (i + 1))

    -- what the i-th number gives is written
    pub stored : {r : ℕ} {q : List ℕ} → Fits p to (f i) r q → Turn q r (i + 1)
    stored {r} {q} w =
        let l : length (rest i) ≡ length (f i) + length (rest (i + 1)) = split in
        let k : length q ≡ length p = ap length w.words ∙ length-write p to (f i) w.fit in
        record {
          within = omega arith;
          same = k ∙ now.same;
          room = omega arith;
          sum = omega arith;
          words = λ g.
              ap (λ (x : List ℕ). write x r (rest (i + 1))) w.words
              ∙ ap (λ (x : ℕ). write (write p to (f i)) x (rest (i + 1))) w.next
              ∙ write_then p to (f i) (rest (i + 1)) (omega arith)
              ∙ ap (write p to) (sym (next i h)) ∙ now.words g;
        }

    -- one word, in its place
    pub stored_one : {v : ℕ} → f i ≡ v ∷ [] → to < length p → Turn (set p to v) (to + 1) (i + 1)
    stored_one {v} e g = stored (rw e (read_next (wrote_one {v = v} g)))

    -- what it gives doesn't fit
    pub overflows : {q : List ℕ} → length p < to + length (f i) → Wrote p₀ at (rest 0) None q
    overflows w = wrote-full (omega (arith, split))

    -- the two by the answer of a call that was to write it
    pub placed : {x : Option ℕ} {r : ℕ} {q : List ℕ} → Wrote p to (f i) x q → x ≡ Some r → Turn q r (i + 1)
    placed {x} {r} {q} w e = stored (read_next (subst (λ (y : Option ℕ). Wrote p to (f i) y q) e w))

    pub full : {x : Option ℕ} {q q' : List ℕ} → Wrote p to (f i) x q → x ≡ None → Wrote p₀ at (up_to count 0 f) None q'
    full {x} {q} {q'} w e =
        subst (λ (k : ℕ). Wrote p₀ at (up_to k 0 f) None q') (sub-zero count)
        (overflows (read-full (subst (λ (y : Option ℕ). Wrote p to (f i) y q) e w)))

  -- the numbers from i on give nothing: they are passed over
  pub passed : {p : List ℕ} {to i : ℕ} → Turn p to i → ((j : ℕ) → i ≤ j → j < count → f j ≡ []) → Turn p to count
  passed {p} {to} {i} now none_left =
      let e : rest i ≡ [] = no_words f (count - i) i (λ j h l. none_left j h (omega (arith, now.within))) in
      let s : rest count ≡ [] = none count (omega arith) in
      record {
        within = omega arith;
        same = now.same;
        room = now.room;
        sum = rw s (rw e at now.sum);
        words = λ g. rw s (rw e at (now.words g));
      }

  pub ends : {p : List ℕ} {to i : ℕ} → Turn p to i → count ≤ i → Wrote p₀ at (rest 0) (Some to) p
  ends {p} {to} {i} now h =
      let s : rest i ≡ [] = none i h in
      let k : length (rest i) ≡ 0 = ap length s in
      let g : at + length (rest 0) ≤ length p₀ = omega arith in
      wrote-next g (omega arith) (sym (write-none p to (omega arith)) ∙ ap (write p to) (sym s) ∙ now.words g)

  -- after the last number all is written
  pub finished : {p : List ℕ} {to i : ℕ} → Turn p to i → count ≤ i → Wrote p₀ at (up_to count 0 f) (Some to) p
  finished {p} {to} {i} now h = subst (λ (k : ℕ). Wrote p₀ at (up_to k 0 f) (Some to) p) (sub-zero count) (ends now h)
