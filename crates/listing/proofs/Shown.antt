-- What stands in a lent slice, by what the calls below answer: the rows of words, a refusal's line, or what a program makes of a file's words.
use Prim.Native.Nat.{ℕ, ◌*◌, ◌≤◌}
use native.Mathlib.Omega.{arith}
use mathlib.Core.Path.{◌≡◌, refl, sym, ap, ap₂, ◌∙◌}
use mathlib.Core.List.{List}
use lib.ListN.{length, take, drop}
use lib.Seq.{take_all, take-take, take_at}
use Rattle.std.specs.Prelude.{Ok, Err}
use Rattle.model.specs.Answer.{Answer, given, refused, ◌then◌, if_given}
use Rattle.model.specs.Slice.{over}
use Rattle.model.specs.Printed.{words_in, words_of, refusal_line, Shown, shown}
use Rattle.model.proofs.Rows.{Rows, length-rows}
use Rattle.model.proofs.FileShown.{by-words, by-none}
use Rattle.refusals.specs.declared.Refusal.{Refusal}
use Rattle.refusals.specs.Answers.{number_of}
use Rattle.listing.proofs.Callers.{Decoded, as-refused, word_count}

-- so many bytes of a slice
abbrev bytes_of : ℕ → List ℕ → Shown
bytes_of n l = record { count = n; slice = l }

-- rows that all have room
pub all-rows : {n : ℕ} {row : ℕ → List ℕ} {rows : List ℕ → List ℕ} (r : Rows n row rows) (ws slice last : List ℕ) (k : ℕ) → k ≡ length ws
    → last ≡ over (rows (take k ws)) slice → record { count = k * n; slice = last } ≡ shown (rows ws) slice
all-rows {n} {rows = rows} r ws slice last k e l =
    let t : take k ws ≡ ws = take_all k ws (omega arith) in
    ap₂ bytes_of (ap (λ (j : ℕ). j * n) e ∙ sym (length-rows r ws)) (l ∙ ap (λ (m : List ℕ). over (rows m) slice) t)

-- the words of a file's bytes, at the front of the room lent for them
file-words : (bs room after : List ℕ) (k : ℕ) → words_of bs ≡ given (words_in bs) → k ≡ length (words_in bs) → k ≤ length room
    → after ≡ if_given (words_of bs) (λ ws. take (length room) (over ws room)) room → take k after ≡ words_in bs
unfolding if_given
file-words bs room after k e n h a =
    let ws = words_in bs in
    let left : after ≡ take (length room) (over ws room) = rw e at a in
    ap (take k) left ∙ take-take k (length room) (over ws room) h ∙ take_at ws (drop (length ws) room) k (sym n)

-- the text of an answer: of a refusal its line
module _ (text : Answer (List ℕ) → List ℕ) (line : (n p : ℕ) → text (refused n p) ≡ refusal_line n p) (slice : List ℕ) where
  pub line-shown : (x : Answer (List ℕ)) (n p k : ℕ) (last : List ℕ) → x ≡ refused n p → k ≡ length (refusal_line n p) → last ≡ over (refusal_line n p) slice
      → record { count = k; slice = last } ≡ shown (text x) slice
  line-shown x n p k last e l w = ap₂ bytes_of l w ∙ ap (λ (t : List ℕ). shown t slice) (sym (ap text e ∙ line n p))

  -- what a program makes of a file's words
  module _ (f : List ℕ → Answer (List ℕ)) (bs : List ℕ) where
    pub words-shown : (room after : List ℕ) (k : ℕ) (s : Shown) → Decoded (Ok k) (words_of bs) → 4096 ≤ length room
        → after ≡ if_given (words_of bs) (λ ws. take (length room) (over ws room)) room → s ≡ shown (text (f (take k after))) slice
        → s ≡ shown (text (words_of bs then f)) slice
    words-shown room after k s d most a e =
        let w = word_count bs k d in
        let ws = file-words bs room after k w.0 w.1 (omega (arith, w.2)) a in
        e ∙ ap (λ (l : List ℕ). shown (text (f l)) slice) ws ∙ ap (λ (t : List ℕ). shown t slice) (sym (by-words f text bs (words_in bs) w.0))

    pub none-shown : (r : Refusal) (k : ℕ) (last : List ℕ) → Decoded (Err r) (words_of bs) → k ≡ length (refusal_line (number_of r.reason) r.place)
        → last ≡ over (refusal_line (number_of r.reason) r.place) slice → record { count = k; slice = last } ≡ shown (text (words_of bs then f)) slice
    none-shown r k last d l w =
        let n = number_of r.reason in
        line-shown (refused n r.place) n r.place k last refl l w
        ∙ ap (λ (t : List ℕ). shown t slice) (sym (by-none f text bs n r.place (as-refused (words_of bs) r d)))
