-- `cleaning::clean_file` meets its contract: by what the bytes are, what `clean_words` writes for their words, or the refusal.
use Prim.Native.Nat.{ℕ, ◌≤◌}
use native.Mathlib.Omega.{arith}
use mathlib.Core.Path.{refl, sym, ◌∙◌}
use mathlib.Core.List.{List}
use lib.ListN.{length, replicate, length-replicate}
use lib.Seq.{length-take-le}
use Rattle.model.specs.Answer.{Answer, ◌then◌}
use Rattle.model.specs.Layout.{former}
use Rattle.model.specs.Read.{read_by}
use Rattle.model.specs.CleanFile.{to_write, output_of}
use Rattle.model.proofs.CleanedFile.{long-enough, too_short}
use Rattle.listing.proofs.Callers.{word_count}
use Rattle.listing.proofs.Shown.{words-shown, none-shown}
use Rattle.cleaning.proofs.clean_file.Goals.{In-Ok}
use Rattle.cleaning.proofs.clean_file.Goals as goal

-- what there is to write for a set's words
abbrev to_file : List ℕ → Answer (List ℕ)
to_file ws = read_by former ws then to_write

within : (c : In-Ok) → c.in-Ok.count ≤ length c.decode.new.words
within c = omega (arith, (word_count _ _ c.in-Ok.ensures.value).2, c.decode.auto.words, length-replicate {A = ℕ} 4096 0)

pub returns-then-file-lt-FILE : goal.returns-then-file-lt-FILE
returns-then-file-lt-FILE c = let a = c.args in record { file_after = too_short a.bytes.now a.file.now c.if-file-lt-FILE.true; upper_bound = omega arith }

pub slice_bounds-words-end : goal.slice_bounds-words-end
slice_bounds-words-end c =
    let o = (goal.at.slice_bounds-words-end c).In-Ok in
    within o

pub slice_bounds-clean_words-end : goal.slice_bounds-clean_words-end
slice_bounds-clean_words-end c =
    let o = (goal.at.slice_bounds-clean_words-end c).In-Ok in
    sym (length-take-le _ _ (within o))

pub returns-in-Ok : goal.returns-in-Ok
unfolding output_of
returns-in-Ok c =
    let o = (goal.at.returns-in-Ok c).In-Ok in
    let e = c.clean_words.ensures in
    let a = c.args in
    let room = length-replicate {A = ℕ} 4096 0 in
    let s = words-shown output_of (λ n p. refl) a.file.now to_file a.bytes.now (replicate 4096 0) _ _ _ c.in-Ok.ensures.value (omega arith) c.in-Ok.ensures.words_after e.file_after in
    record { file_after = s ∙ long-enough a.bytes.now a.file.now (omega arith); upper_bound = e.upper_bound }

pub returns-in-Err : goal.returns-in-Err
unfolding output_of
returns-in-Err c =
    let e = c.put_refusal.ensures in
    let value = rw c.number.ensures at e.value in
    let after = rw c.number.ensures at e.out_after in
    let a = c.args in
    let s = none-shown output_of (λ n p. refl) a.file.now to_file a.bytes.now _ _ _ c.in-Err.ensures.value value after in
    record { file_after = s ∙ long-enough a.bytes.now a.file.now (omega arith); upper_bound = omega (arith, e.upper_bound) }
