-- `cleaning::clean_words` meets its contract: by what the cleaner answers, the bytes of the cleaned words, which all have room, or the refusal's line.
use Prim.Native.Nat.{ℕ, ◌≤◌}
use native.Mathlib.Omega.{arith}
use mathlib.Core.Path.{◌≡◌, refl, sym, ap, ◌∙◌}
use mathlib.Core.List.{List}
use lib.ListN.{length, take, length-replicate}
use lib.Seq.{length-take-le}
use Rattle.model.specs.Answer.{given, ◌then◌}
use Rattle.model.specs.Layout.{former}
use Rattle.model.specs.Read.{read_by}
use Rattle.model.specs.Printed.{shown}
use Rattle.model.specs.CleanFile.{to_write, output_of}
use Rattle.model.proofs.Rows.{fours}
use Rattle.listing.proofs.Shown.{all-rows, line-shown}
use Rattle.cleaning.proofs.Made.{has_words, has-none}
use Rattle.cleaning.proofs.clean_words.Goals.{In-Ok}
use Rattle.cleaning.proofs.clean_words.Goals as goal

-- the words of the cleaned set are what there is to write
whole : (c : In-Ok) →
    ((read_by former c.args.words.now then to_write) ≡ given (take c.in-Ok.count c.clean.new.slice))
    × (c.in-Ok.count ≤ 4096)
whole c = has_words _ _ _ (length-replicate {A = ℕ} 4096 0) _ c.in-Ok.ensures

within : (c : In-Ok) → c.in-Ok.count ≤ length c.clean.new.slice
within c = omega (arith, (whole c).1, c.clean.auto.slice, length-replicate {A = ℕ} 4096 0)

pub slice_bounds-clean-end-in-Ok : goal.slice_bounds-clean-end-in-Ok
slice_bounds-clean-end-in-Ok c =
    let o = (goal.at.slice_bounds-clean-end-in-Ok c).In-Ok in
    within o

pub slice_bounds-fill_bytes-end : goal.slice_bounds-fill_bytes-end
slice_bounds-fill_bytes-end c =
    let o = (goal.at.slice_bounds-fill_bytes-end c).In-Ok in
    sym (length-take-le _ _ (within o))

pub returns-in-Ok : goal.returns-in-Ok
unfolding output_of
returns-in-Ok c =
    let o = (goal.at.returns-in-Ok c).In-Ok in
    let f = c.fill_bytes.ensures in
    let file = c.args.file.now in
    let ws : List ℕ = take c.in-Ok.count c.clean.new.slice in
    let n : length ws ≡ c.in-Ok.count = length-take-le _ _ (within o) in
    let few = (whole o).1 in
    record { file_after = all-rows fours ws file _ _ (omega (arith, f.value)) f.out_after ∙ ap (λ x. shown (output_of x) file) (sym (whole o).0); upper_bound = omega (arith, f.value) }

pub returns-in-Err : goal.returns-in-Err
unfolding output_of
returns-in-Err c =
    let e = c.put_refusal.ensures in
    let value = rw c.number.ensures at e.value in
    let after = rw c.number.ensures at e.out_after in
    let file = c.args.file.now in
    let none = has-none _ _ _ (length-replicate {A = ℕ} 4096 0) _ c.in-Err.ensures in
    record { file_after = line-shown output_of (λ n p. refl) file _ _ _ _ _ none value after; upper_bound = omega (arith, e.upper_bound) }
