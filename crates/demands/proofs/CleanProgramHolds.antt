-- What is said of the program `clean` holds.
use Prim.Native.Nat.{ℕ, ◌+◌, ◌*◌, ◌/◌, ◌%◌, ◌<◌, ◌≤◌}
use native.Mathlib.Nat.{div-add-mod'}
use native.Mathlib.Omega.{arith}
use mathlib.Core.Path.{◌≡◌, refl, sym, ap, ◌∙◌}
use mathlib.Core.List.{List, [], ◌∷◌, map, flatten}
use lib.ListN.{length, length-append}
use Rattle.model.specs.Below.{any, lowest, how_many, tabulate}
use Rattle.model.specs.Answer.{Answer, given, refused, ◌then◌}
use Rattle.model.specs.Set.{Action, claim, release, device_of, units_taken, Task, Set, claims, claimed, size}
use Rattle.model.specs.Layout.{word, DEVICE, TASK, END, action_word, task_words, body, with_end, encode, former, Rules, WellFormedBy}
use Rattle.model.specs.Read.{last_task, add_action, held_after, note, out_of_order, field_allowed, too_many, too_many_units, fault, read_from, read_words, close, read_by}
use Rattle.model.specs.Clean.{kept_from, renamed, cleaned}
use Rattle.model.specs.Printed.{word_at, words_of, digits, codes}
use Rattle.model.specs.CleanFile.{bytes_of_all, to_write, output_of as written, cleaned_file}
use Rattle.model.proofs.Each.{Each, each_append, each_map, each-place}
use Rattle.model.proofs.Words.{FitsWord, all_fit}
use Rattle.model.proofs.FileWords.{whole, not-whole, too_many_lem}
use Rattle.model.proofs.Rows.{length-rows, fours as rows}
use Rattle.model.proofs.ReadExact.{read-sound}
use Rattle.model.proofs.Cleaned.{cleaned-formed}
use Rattle.model.proofs.CleanedFile.{of_words, of_none, long-enough, too_short, cleaned-file-fits}
use Rattle.demands.specs.Printer.{fours, Whole, refusal, lines, file_of}
use Rattle.demands.specs.CleanProgram.{CleanProgram}
use Rattle.demands.proofs.PrinterHolds.{by-fours}

-- ---- every word of a set has 32 bits
abbrev Short : ℕ → Type 0
Short w = w < 0x100000000

short-action : (a : Action) → FitsWord a → Short (action_word a)
unfolding action_word device_of units_taken
short-action (claim d e) h = omega arith
short-action (release d) h = omega arith

short-tasks : (tasks : List Task) → Each (Each FitsWord) tasks → Each Short (task_words tasks)
unfolding task_words
short-tasks [] h = tt
short-tasks (task ∷ tasks) h =
    each_append Short (word TASK 0 ∷ map action_word task) (task_words tasks)
    (omega arith, each_map FitsWord Short action_word short-action task h.0) (short-tasks tasks h.1)

short-set : {rules : Rules} (s : Set) → WellFormedBy rules s → Each Short (encode s)
unfolding with_end body
short-set s w =
    let low = each-place (λ c. (1 ≤ c) × (c ≤ 8)) 0 s.capacities w.capacities in
    each_append Short (body s) (word END (length (body s)) ∷ [])
    (each_append Short (map (word DEVICE) s.capacities) (task_words s.tasks)
    (each_map (λ c. (1 ≤ c) × (c ≤ 8)) Short (word DEVICE) (λ c h. omega arith) s.capacities low) (short-tasks s.tasks (all_fit s w)))
    (omega (arith, w.words, length-append (body s) (word END (length (body s)) ∷ [])), tt)

-- ---- their bytes, and the words again
bytes-are : (ws : List ℕ) → Each Short ws → bytes_of_all ws ≡ file_of ws
unfolding bytes_of_all flatten
bytes-are [] h = refl
bytes-are (w ∷ ws) h =
    let short = h.0 in
    let top : w / 0x1000000 ≡ w / 0x1000000 % 256 = omega arith in
    rw (← top, bytes-are ws h.1)

-- a number by its four bytes, of which each is the remainder of a quotient
by_bytes : (w a b c : ℕ) → a ≡ w / 0x100 → b ≡ a / 0x100 → c ≡ b / 0x100 → c < 0x100
    → w % 0x100 + a % 0x100 * 0x100 + b % 0x100 * 0x10000 + c % 0x100 * 0x1000000 ≡ w
by_bytes w a b c e f g h =
    let first = div-add-mod' w 0x100 in
    let second = div-add-mod' a 0x100 in
    let third = div-add-mod' b 0x100 in
    let last : c % 0x100 ≡ c = omega arith in
    omega (arith, first, second, third, last, e, f, g)

words_back : (ws : List ℕ) → Each Short ws → fours (file_of ws) ≡ ws
unfolding fours flatten
words_back [] h = refl
words_back (w ∷ ws) h =
    let short = h.0 in
    let sum = by_bytes w (w / 0x100) (w / 0x10000) (w / 0x1000000) refl (omega arith) (omega arith) (omega arith) in
    rw (sum, words_back ws h.1)

-- bytes that are words
module _ (bs : List ℕ) (w : Whole bs) where
  of-fours : (x : Answer (List ℕ)) → (read_by former (fours bs) then to_write) ≡ x → cleaned_file bs ≡ written x
  of-fours x e = of_words bs (fours bs) (whole bs w.0 w.1 ∙ ap given (by-fours bs w.1)) ∙ ap written e

  refused-set : (n p : ℕ) → read_by former (fours bs) ≡ refused n p → cleaned_file bs ≡ refusal n p
  unfolding ◌then◌ written
  refused-set n p e = of-fours (refused n p) (rw e)

  module _ (s : Set) (e : read_by former (fours bs) ≡ given s) where
    short : Each Short (encode (cleaned s))
    short = short-set (cleaned s) (cleaned-formed s (read-sound {rules = former} (fours bs) s e).1)

    cleans : cleaned_file bs ≡ file_of (encode (cleaned s))
    unfolding ◌then◌ written
    cleans = of-fours (given (encode (cleaned s))) (rw e) ∙ bytes-are (encode (cleaned s)) short

    back : Whole (cleaned_file bs) × (fours (cleaned_file bs) ≡ encode (cleaned s))
    unfolding ◌then◌ written
    back =
        let four = ap length (of-fours (given (encode (cleaned s))) (rw e)) ∙ length-rows rows (encode (cleaned s)) in
        (((cleaned-file-fits bs).1, omega arith), ap fours cleans ∙ words_back (encode (cleaned s)) short)

pub clean-program-holds : CleanProgram
unfolding any lowest how_many tabulate claims claimed size last_task add_action held_after note out_of_order field_allowed too_many too_many_units fault read_from read_words close read_by ◌then◌ action_word task_words body with_end kept_from renamed word_at words_of bytes_of_all written digits codes lines flatten
clean-program-holds = record {
  too_many = λ bs h. of_none bs 2 4096 (too_many_lem bs h);
  not_words = λ bs h f. of_none bs 15 (length bs / 4) (not-whole bs h f);
  no_set = refused-set;
  cleans = cleans;
  reads_back = back;
  file_length = cleaned-file-fits;
  in-slice = λ bs slice h. sym (long-enough bs slice h);
  short_slice = λ bs slice h. sym (too_short bs slice h);
  g_written = refl;
  units_written = refl;
  j_written = refl;
  too_many_written = refl;
  nothing_written = refl;
  three_bytes_written = refl;
}
