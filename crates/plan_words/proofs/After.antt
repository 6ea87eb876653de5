-- Words written in runs, one after the other.
use Rattle.std.specs.Prelude.{Option, Some, None}
use Prim.Native.Nat.{ℕ, ◌+◌, ◌<◌, ◌≤◌}
use native.Mathlib.Omega.{arith}
use mathlib.Core.Path.{◌≡◌, sym, ◌∙◌}
use mathlib.Core.List.{List, [], ◌∷◌, ◌++◌}
use lib.ListN.{length, set, length-append}
use Rattle.model.proofs.Slices.{length-write, write-none, write-one, write_then}
use Rattle.plan_words.specs.Words.{Wrote}
use Rattle.plan_words.proofs.Write.{wrote-next, wrote-full, read_next, read-full}

pub wrote_none : {p : List ℕ} {a : ℕ} → a ≤ length p → Wrote p a [] (Some a) p
wrote_none {p} {a} h = wrote-next (omega arith) (omega arith) (sym (write-none p a h))

-- a run whose answer is known, and one that is the same words otherwise told
pub answered : {p q : List ℕ} {a : ℕ} {us : List ℕ} {r known : Option ℕ} → Wrote p a us r q → r ≡ known → Wrote p a us known q
answered w e = rw e at w

pub wrote-same : {p q : List ℕ} {a : ℕ} {us vs : List ℕ} {r : Option ℕ} → us ≡ vs → Wrote p a us r q → Wrote p a vs r q
wrote-same e w = rw e at w

-- one word, in its place
pub wrote_one : {p : List ℕ} {a v : ℕ} → a < length p → Wrote p a (v ∷ []) (Some (a + 1)) (set p a v)
wrote_one {p} {a} {v} h = wrote-next (omega arith) (omega arith) (write-one p a v h)

-- a run that does not fit, nor does what begins with it
pub wrote-short : {p : List ℕ} {a : ℕ} (us vs : List ℕ) {q : List ℕ} → length us ≤ length vs → Wrote p a us None q → Wrote p a vs None q
wrote-short us vs h w = wrote-full (omega (arith, read-full w))

module _ {p₀ : List ℕ} {a : ℕ} {us : List ℕ} {to : ℕ} {p : List ℕ} (done : Wrote p₀ a us (Some to) p) where
  pub wrote-length : length p ≡ length p₀
  wrote-length = let f = read_next done in rw f.words (length-write p₀ a us f.fit)

  pub wrote-to : to ≡ a + length us
  wrote-to = (read_next done).next

  pub wrote-room : to ≤ length p
  wrote-room = omega (arith, (read_next done).fit, wrote-to, wrote-length)

  pub wrote-more : {vs : List ℕ} {r : Option ℕ} {q : List ℕ} → Wrote p to vs r q → Wrote p₀ a (us ++ vs) r q
  wrote-more {vs} {r} {q} w =
      let f = read_next done in
      let l : length (us ++ vs) ≡ length us + length vs = length-append us vs in
      let e : a + length (us ++ vs) ≡ to + length vs = omega (arith, f.next) in
      record {
        answer = rw (e, ← wrote-length) w.answer;
        words = λ h.
            w.words (omega (arith, wrote-length))
            ∙ rw (f.words, f.next) (write_then p₀ a us vs (omega (arith, f.next)));
      }
