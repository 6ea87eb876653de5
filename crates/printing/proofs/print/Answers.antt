-- `printing::print` meets its contract: by what the bytes are, what `print_plan` shows of their words, or the refusal.
use Prim.Native.Nat.{ℕ, ◌≤◌}
use native.Mathlib.Omega.{arith}
use mathlib.Core.Path.{refl, sym, ◌∙◌}
use mathlib.Core.List.{List}
use lib.ListN.{length, replicate, length-replicate}
use lib.Seq.{length-take-le}
use Rattle.std.specs.Prelude.{Ok}
use Rattle.model.specs.Answer.{Answer, ◌then◌}
use Rattle.model.specs.Read.{read}
use Rattle.model.specs.Printed.{words_of, to_print, text_of}
use Rattle.model.proofs.ToPrint.{long-enough, too_short}
use Rattle.listing.proofs.Callers.{Decoded, word_count}
use Rattle.listing.proofs.Shown.{words-shown, none-shown}
use Rattle.printing.proofs.print.Goals.{In-Ok}
use Rattle.printing.proofs.print.Goals as goal

-- what there is to print of a set's words
abbrev to_show : List ℕ → Answer (List ℕ)
to_show ws = read ws then to_print

-- so many words
decoded : (c : In-Ok) → Decoded (Ok c.in-Ok.count) (words_of c.args.bytes.now)
decoded c = c.in-Ok.ensures.value

within : (c : In-Ok) → c.in-Ok.count ≤ length c.decode.new.words
within c = omega (arith, (word_count _ _ (decoded c)).2, c.decode.auto.words, length-replicate {A = ℕ} 4096 0)

pub returns-then-text-lt-TEXT : goal.returns-then-text-lt-TEXT
returns-then-text-lt-TEXT c = let a = c.args in record { text_after = too_short a.bytes.now a.text.now c.if-text-lt-TEXT.true; upper_bound = omega arith }

pub slice_bounds-words-end : goal.slice_bounds-words-end
slice_bounds-words-end c = within (goal.at.slice_bounds-words-end c).In-Ok

pub slice_bounds-print_plan-end : goal.slice_bounds-print_plan-end
slice_bounds-print_plan-end c = sym (length-take-le _ _ (within (goal.at.slice_bounds-print_plan-end c).In-Ok))

pub returns-in-Ok : goal.returns-in-Ok
unfolding text_of
returns-in-Ok c =
    let e = c.print_plan.ensures in
    let a = c.args in
    let room = length-replicate {A = ℕ} 4096 0 in
    let s = words-shown text_of (λ n p. refl) a.text.now to_show a.bytes.now (replicate 4096 0) _ _ _ (decoded (goal.at.returns-in-Ok c).In-Ok) (omega arith) c.in-Ok.ensures.words_after e.text_after in
    record { text_after = s ∙ long-enough a.bytes.now a.text.now (omega arith); upper_bound = e.upper_bound }

pub returns-in-Err : goal.returns-in-Err
unfolding text_of
returns-in-Err c =
    let e = c.put_refusal.ensures in
    let value = rw c.number.ensures at e.value in
    let after = rw c.number.ensures at e.out_after in
    let a = c.args in
    let s = none-shown text_of (λ n p. refl) a.text.now to_show a.bytes.now _ _ _ c.in-Err.ensures.value value after in
    record { text_after = s ∙ long-enough a.bytes.now a.text.now (omega arith); upper_bound = omega (arith, e.upper_bound) }
