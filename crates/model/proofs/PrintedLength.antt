-- How long what is printed is: nine bytes for each word of a plan, and never nothing nor more than the longest text.
use Prim.Native.Nat.{ℕ, ◌<◌, ◌≤◌}
use native.Mathlib.Omega.{arith}
use mathlib.Core.Path.{◌≡◌, refl, ap}
use mathlib.Core.List.{List, [], ◌∷◌}
use lib.ListN.{length, length-append}
use lib.Dec.{ltb}
use borrow.Author.Tests.{ltb-false}
use Rattle.model.specs.Answer.{given, refused, ◌then◌}
use Rattle.model.specs.Set.{Set}
use Rattle.model.specs.Layout.{word, END, with_end, present}
use Rattle.model.specs.Read.{read}
use Rattle.model.specs.Plan.{plan_of, plan_body, plan_words}
use Rattle.model.specs.Printed.{to_print, text_of, printed, TEXT}
use Rattle.model.proofs.Bools.{by_bool, by_cases}
use Rattle.model.proofs.Answers.{given-refused, refused-given, refused-number, refused-place, given-value, then-refused, then-given}
use Rattle.model.proofs.ReadNumbers.{read_small}
use Rattle.model.proofs.Rows.{lines, length-rows}
use Rattle.model.proofs.FileShown.{text-fits}

-- the numbers and places that there are
plan-placed : (s : Set) (n p : ℕ) → to_print s ≡ refused n p → (n < 100) × (p < 100000)
unfolding to_print
plan-placed s n p e =
    by_bool (ltb 16384 (length (plan_words (plan_of s))))
    (λ b. let q = rw b at e in (omega (arith, refused-number q), omega (arith, refused-place q)))
    (λ b. given-refused (rw b at e))

-- the words that there are
plan-words : (s : Set) (ws : List ℕ) → to_print s ≡ given ws → (0 < length ws) × (length ws ≤ 16384)
unfolding to_print plan_words with_end
plan-words s ws e =
    by_bool (ltb 16384 (length (plan_words (plan_of s))))
    (λ b. refused-given (rw b at e))
    (λ b. let body = plan_body (plan_of s) in
    let l = length-append body (word END (length body) ∷ []) in
    let q = ap length (given-value (rw b at e)) in
    let m = ltb-false 16384 (length (plan_words (plan_of s))) b in
    (omega arith, omega arith))

pub printed-fits : (bs : List ℕ) → (0 < length (printed bs)) × (length (printed bs) ≤ TEXT)
unfolding text_of
printed-fits bs =
    text-fits (λ ws. read ws then to_print) text_of bs TEXT (omega arith) (λ n p. refl)
    (λ ws vs e.
    let r = (then-given to_print (read ws) vs).0 e in
    let c = plan-words r.0 vs r.2 in
    (omega (arith, length-rows lines vs, c.0), omega (arith, length-rows lines vs, c.1)))
    (λ ws n p e. by_cases ((then-refused to_print (read ws) n p).0 e) (λ q. read_small present ws n p q) (λ r. plan-placed r.0 n p r.2))
