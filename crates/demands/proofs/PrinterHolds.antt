-- What is printed, case by case, and the characters of it.
use Prim.Native.Nat.{ℕ, suc, ◌+◌, ◌*◌, ◌/◌, ◌%◌, ◌<◌, ◌≤◌}
use native.Mathlib.Omega.{arith}
use mathlib.Core.Path.{◌≡◌, refl, sym, ap, ◌∙◌}
use mathlib.Core.List.{List, [], ◌∷◌, ◌++◌, map, flatten}
use lib.ListN.{length}
use borrow.Author.Tests.{lt-ltb, le-ltb}
use Rattle.model.specs.Below.{any, lowest, tabulate, maximum}
use Rattle.model.specs.Answer.{Answer, given, refused, ◌then◌}
use Rattle.model.specs.Set.{device_of, Set, claims, claimed, size}
use Rattle.model.specs.Read.{last_task, add_action, held_after, note, out_of_order, field_allowed, too_many, too_many_units, fault, read_from, read_words, close, read_by, read}
use Rattle.model.specs.State.{is_end, sum, weight, rank, state_at}
use Rattle.model.specs.Hold.{held_to, holds_from, units_at, held as units_held, permitted}
use Rattle.model.specs.Box.{inside, covered, first_box}
use Rattle.model.specs.Forbidden.{choose, sets_from, sides_of, prefixed, choices_of, choices_of_all, total, each_needed, just_exceeds, boxes_of, device_boxes, forbidden_from, forbidden}
use Rattle.model.specs.Map.{steps_onto, byte, last_bytes, bytes}
use Rattle.model.specs.Reach.{stepped_onto, mark, first_marks}
use Rattle.model.specs.UnsafeBoxes.{gets_box, blocker_low, unsafe_box, last_unsafe, unsafe_boxes}
use Rattle.model.specs.Layout.{with_end}
use Rattle.model.specs.Plan.{plan_of, ranks_from, keep, side_words, forbidden_words, unsafe_words, plan_words}
use Rattle.model.specs.Printed.{word_at, words_in, words_of, to_print, hex_line, lines_of, digits, codes, text_of, printed}
use Rattle.model.proofs.FileWords.{too_many_lem, not-whole, whole}
use Rattle.model.proofs.Lists.{tabulate-cong}
use Rattle.model.proofs.ToPrint.{of_words, of_none, long-enough, too_short}
use Rattle.model.proofs.PrintedLength.{printed-fits}
use Rattle.model.proofs.ReadExact.{read-sound}
use Rattle.demands.specs.Analyses.{plan_length}
use Rattle.demands.specs.Printer.{fours, Whole, refusal, lines, Printing}
use Rattle.demands.proofs.PrintedNumbers.{is-decimal, is-line}
use Rattle.demands.proofs.PlanWordsFit.{plan-words-fit}

-- the words of bytes, four by four
module _ (p q r s : ℕ) (bs : List ℕ) where
  abbrev more : List ℕ
  more = p ∷ q ∷ r ∷ s ∷ bs

  -- a word further on is one of the rest
  later : (k : ℕ) → word_at more (suc k) ≡ word_at bs k
  unfolding word_at
  later k =
      let e : suc k * 4 ≡ suc (suc (suc (suc (k * 4)))) = omega arith in
      let e₁ : suc k * 4 + 1 ≡ suc (suc (suc (suc (k * 4 + 1)))) = omega arith in
      let e₂ : suc k * 4 + 2 ≡ suc (suc (suc (suc (k * 4 + 2)))) = omega arith in
      let e₃ : suc k * 4 + 3 ≡ suc (suc (suc (suc (k * 4 + 3)))) = omega arith in
      rw (e₁, e₂, e₃, e)

  next : words_in more ≡ (p + q * 0x100 + r * 0x10000 + s * 0x1000000) ∷ words_in bs
  unfolding word_at tabulate
  next =
      let e : length more / 4 ≡ suc (length bs / 4) = omega arith in
      ap (λ (n : ℕ). tabulate n (word_at more)) e
      ∙ ap (λ (ws : List ℕ). (p + q * 0x100 + r * 0x10000 + s * 0x1000000) ∷ ws)
      (tabulate-cong (length bs / 4) (λ k. word_at more (suc k)) (word_at bs) (λ k h. later k))

pub by-fours : (bs : List ℕ) → length bs % 4 ≡ 0 → words_in bs ≡ fours bs
unfolding fours tabulate
by-fours [] e = refl
by-fours (p ∷ []) e = absurd (let f : ⊥ = omega arith in f)
by-fours (p ∷ q ∷ []) e = absurd (let f : ⊥ = omega arith in f)
by-fours (p ∷ q ∷ r ∷ []) e = absurd (let f : ⊥ = omega arith in f)
by-fours (p ∷ q ∷ r ∷ s ∷ bs) e = next p q r s bs ∙ ap (λ (ws : List ℕ). (p + q * 0x100 + r * 0x10000 + s * 0x1000000) ∷ ws) (by-fours bs (omega arith))

-- the lines of words are those of each, one after the other
each_line : (ws : List ℕ) → lines_of ws ≡ flatten (map hex_line ws)
unfolding lines_of flatten
each_line [] = refl
each_line (w ∷ ws) = ap (λ (l : List ℕ). hex_line w ++ l) (each_line ws)

-- bytes that are words
module _ (bs : List ℕ) (w : Whole bs) where
  -- are printed as what there is to print of those
  of-fours : (x : Answer (List ℕ)) → (read (fours bs) then to_print) ≡ x → printed bs ≡ text_of x
  of-fours x e = of_words bs (fours bs) (whole bs w.0 w.1 ∙ ap given (by-fours bs w.1)) ∙ ap text_of e

  refused-set : (n p : ℕ) → read (fours bs) ≡ refused n p → printed bs ≡ refusal n p
  unfolding ◌then◌ text_of
  refused-set n p e = of-fours (refused n p) (rw e)

  module _ (s : Set) (e : read (fours bs) ≡ given s) where
    long-plan : 16384 < plan_length s → printed bs ≡ refusal 14 16384
    unfolding ◌then◌ to_print text_of
    long-plan h = of-fours (refused 14 16384) (rw (e, lt-ltb 16384 (plan_length s) h))

    short-plan : plan_length s ≤ 16384 → printed bs ≡ flatten (map hex_line (plan_words (plan_of s)))
    unfolding ◌then◌ to_print text_of
    short-plan h = of-fours (given (plan_words (plan_of s))) (rw (e, le-ltb 16384 (plan_length s) h)) ∙ each_line (plan_words (plan_of s))

pub printing : Printing
unfolding any tabulate maximum device_of size last_task add_action held_after note out_of_order field_allowed too_many too_many_units fault read_from read_words close read_by claims claimed lowest is_end sum weight rank state_at held_to holds_from units_at units_held permitted inside covered first_box choose sets_from sides_of prefixed choices_of choices_of_all total each_needed just_exceeds boxes_of device_boxes forbidden_from forbidden steps_onto byte last_bytes bytes stepped_onto mark first_marks gets_box blocker_low unsafe_box last_unsafe unsafe_boxes with_end ranks_from keep side_words forbidden_words unsafe_words plan_words ◌then◌ word_at words_of to_print lines_of digits codes text_of lines flatten
printing = record {
  too_many = λ bs h. of_none bs 2 4096 (too_many_lem bs h);
  not_words = λ bs h f. of_none bs 15 (length bs / 4) (not-whole bs h f);
  no_set = refused-set;
  too_long = long-plan;
  plan = short-plan;
  words_on_lines = is-line;
  plan-words = λ words s e. plan-words-fit s (read-sound words s e).1;
  numbers = is-decimal;
  refused_text = refl;
  at_text = refl;
  text_length = printed-fits;
  in-slice = λ bs slice h. sym (long-enough bs slice h);
  short_slice = λ bs slice h. sym (too_short bs slice h);
  a_prints = refl;
  j_prints = refl;
  nothing_prints = refl;
  three_bytes_print = refl;
}
