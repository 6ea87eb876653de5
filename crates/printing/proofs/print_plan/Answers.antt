-- `printing::print_plan` meets its contract: by what the analysis answers, the lines of its plan, which all have room, or the refusal's.
use Prim.Native.Nat.{ℕ, ◌≤◌}
use native.Mathlib.Omega.{arith}
use mathlib.Core.Path.{◌≡◌, refl, sym, ap, ◌∙◌}
use mathlib.Core.List.{List}
use lib.ListN.{length, take, length-replicate}
use lib.Seq.{length-take-le}
use Rattle.model.specs.Answer.{given, ◌then◌}
use Rattle.model.specs.Read.{read}
use Rattle.model.specs.Printed.{to_print, text_of, shown}
use Rattle.model.proofs.Rows.{lines}
use Rattle.listing.proofs.Shown.{all-rows, line-shown}
use Rattle.printing.proofs.Shown.{has-plan, has-none}
use Rattle.printing.proofs.print_plan.Goals.{In-Ok}
use Rattle.printing.proofs.print_plan.Goals as goal

-- the words of the plan are what there is to print
whole : (c : In-Ok) →
    ((read c.args.words.now then to_print) ≡ given (take c.in-Ok.planned.words c.analyse.new.plan))
    × (c.in-Ok.planned.words ≤ 16384)
whole c = has-plan _ _ _ _ _ (omega (arith, length-replicate {A = ℕ} 65536 255)) (length-replicate {A = ℕ} 16384 0) _ c.in-Ok.ensures

within : (c : In-Ok) → c.in-Ok.planned.words ≤ length c.analyse.new.plan
within c = omega (arith, (whole c).1, c.analyse.auto.plan, length-replicate {A = ℕ} 16384 0)

pub slice_bounds-plan-end : goal.slice_bounds-plan-end
slice_bounds-plan-end c = within (goal.at.slice_bounds-plan-end c).In-Ok

pub slice_bounds-fill_lines-end : goal.slice_bounds-fill_lines-end
slice_bounds-fill_lines-end c = sym (length-take-le _ _ (within (goal.at.slice_bounds-fill_lines-end c).In-Ok))

pub returns-in-Ok : goal.returns-in-Ok
unfolding text_of
returns-in-Ok c =
    let f = c.fill_lines.ensures in
    let text = c.args.text.now in
    let ws : List ℕ = take c.in-Ok.planned.words c.analyse.new.plan in
    let n : length ws ≡ c.in-Ok.planned.words = length-take-le _ _ (within (goal.at.returns-in-Ok c).In-Ok) in
    let few = (whole (goal.at.returns-in-Ok c).In-Ok).1 in
    record { text_after = all-rows lines ws text _ _ (omega (arith, f.value)) f.out_after ∙ ap (λ x. shown (text_of x) text) (sym (whole (goal.at.returns-in-Ok c).In-Ok).0); upper_bound = omega (arith, f.value) }

pub returns-in-Err : goal.returns-in-Err
unfolding text_of
returns-in-Err c =
    let e = c.put_refusal.ensures in
    let value = rw c.number.ensures at e.value in
    let after = rw c.number.ensures at e.out_after in
    let text = c.args.text.now in
    let none = has-none _ _ _ _ _ (omega (arith, length-replicate {A = ℕ} 65536 255)) (length-replicate {A = ℕ} 16384 0) _ c.in-Err.ensures in
    record { text_after = line-shown text_of (λ n p. refl) text _ _ _ _ _ none value after; upper_bound = omega (arith, e.upper_bound) }
