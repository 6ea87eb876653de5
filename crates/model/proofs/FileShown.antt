-- What a program shows of a file's bytes: by the words that they are, or the refusal; in a slice that is long enough or not; and how long it is.
use Prim.Native.Nat.{ℕ, ◌<◌, ◌≤◌}
use native.Mathlib.Omega.{arith}
use mathlib.Core.Path.{◌≡◌, refl, ap}
use mathlib.Core.Bool.{cond}
use mathlib.Core.List.{List, [], ◌∷◌, ◌++◌}
use lib.ListN.{length, length-append}
use lib.Dec.{ltb}
use borrow.Author.Tests.{lt-ltb, le-ltb}
use Rattle.model.specs.Answer.{Answer, given, refused, ◌then◌}
use Rattle.model.specs.Printed.{words_of, decimal, codes, refusal_line, Shown, shown}
use Rattle.model.proofs.Bools.{by_cases}
use Rattle.model.proofs.Answers.{then-refused, then-given}
use Rattle.model.proofs.FileWords.{placed}
use Rattle.model.proofs.Decimal.{decimal-length}

-- a text in a lent slice, where that has so many bytes
module _ (limit : ℕ) (t slice : List ℕ) where
  abbrev pub shown_in : Shown
  shown_in = cond (ltb (length slice) limit) (record { count = 0; slice = slice }) (shown t slice)

  pub in-long : limit ≤ length slice → shown t slice ≡ shown_in
  in-long h = rw (le-ltb (length slice) limit h)

  pub in-short : length slice < limit → record { count = 0; slice = slice } ≡ shown_in
  in-short h = rw (lt-ltb (length slice) limit h)

-- a text that can be shown: some bytes, and at most so many
abbrev pub Fits : ℕ → List ℕ → Type 0
Fits limit text = (0 < length text) × (length text ≤ limit)

-- a refusal of a small number and place
line-fits : (n p : ℕ) → n < 100 → p < 100000 → Fits 53 (refusal_line n p)
unfolding codes
line-fits n p h k =
    let a = codes "refused " in
    let b = codes " at " in
    let l₁ = length-append a (decimal n) in
    let l₂ = length-append (a ++ decimal n) b in
    let l₃ = length-append (a ++ decimal n ++ b) (decimal p) in
    let l₄ = length-append (a ++ decimal n ++ b ++ decimal p) (10 ∷ []) in
    let d = decimal-length 1 n (omega arith) in
    let e = decimal-length 4 p (omega arith) in
    (omega arith, omega arith)

-- what a program makes of words, and the text of its answer
module _ (f : List ℕ → Answer (List ℕ)) (text : Answer (List ℕ) → List ℕ) (bs : List ℕ) where
  pub by-words : (ws : List ℕ) → words_of bs ≡ given ws → text (words_of bs then f) ≡ text (f ws)
  unfolding ◌then◌
  by-words ws e = ap (λ (a : Answer (List ℕ)). text (a then f)) e

  pub by-none : (n p : ℕ) → words_of bs ≡ refused n p → text (words_of bs then f) ≡ text (refused n p)
  unfolding ◌then◌
  by-none n p e = ap (λ (a : Answer (List ℕ)). text (a then f)) e

  module _ (limit : ℕ) (room : 53 ≤ limit) (line : (n p : ℕ) → text (refused n p) ≡ refusal_line n p)
      (some : (ws vs : List ℕ) → f ws ≡ given vs → Fits limit (text (given vs)))
      (small : (ws : List ℕ) (n p : ℕ) → f ws ≡ refused n p → (n < 100) × (p < 100000)) where
    answer-fits : (x : Answer (List ℕ)) → (words_of bs then f) ≡ x → Fits limit (text x)
    answer-fits (given vs) e = let w = (then-given f (words_of bs) vs).0 e in some w.0 vs w.2
    answer-fits (refused n p) e =
        let s : (n < 100) × (p < 100000) = by_cases ((then-refused f (words_of bs) n p).0 e) (λ q. placed bs n p q) (λ w. small w.0 n p w.2) in
        let l = line-fits n p s.0 s.1 in
        rw (line n p) (l.0, omega arith)

    pub text-fits : Fits limit (text (words_of bs then f))
    text-fits = answer-fits (words_of bs then f) refl
