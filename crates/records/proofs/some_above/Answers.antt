-- `records::some_above` meets its contract: a pair passes where its number is over its limit.
use Rattle.std.proofs.Common.{◌≡◌, ℕ, ◌<◌, ◌≤◌, Bool, true, false, List, length, sym, arith, rules, lt-ltb, le-ltb}
use borrow.Author.Tests.{tests}
use Rattle.std.specs.Bool.{MatchBool}
use Rattle.std.specs.List.{zip, HoldsAt, AllWithin}
use Rattle.std.proofs.lemmas.Iterator.{YieldsList-from_slice, YieldsList-from_zip, cases_from_any}
use Rattle.std.proofs.lemmas.Slice.Zip.{length-zip, get_or-zip}
use Rattle.model.specs.Below.{any}
use Rattle.model.proofs.Bools.{any-intro, any_none}
use Rattle.records.proofs.Placed.{above}
use Rattle.records.proofs.some_above.Goals as goal

-- some pair of two lists of eight passes exactly if some place does
same : (numbers limits : List ℕ) (r : Bool) → length numbers ≡ 8 → length limits ≡ 8
    → MatchBool r ((k : ℕ) × (k < length (zip numbers limits)) × HoldsAt (λ p. p.1 < p.0) (zip numbers limits) k) (AllWithin (λ p. p.0 ≤ p.1) (zip numbers limits) 0 (length (zip numbers limits)))
    → r ≡ any 8 (above limits numbers)
same numbers limits true n m h =
    let k = h.0 in
    let short = length-zip numbers limits in
    let high = h.2 (0, 0) in
    let pair = rw (get_or-zip numbers limits k (0, 0) (omega arith) (omega arith)) at high in
    sym (any-intro 8 (above limits numbers) k (omega arith) (lt-ltb _ _ pair))
same numbers limits false n m h =
    let short = length-zip numbers limits in
    sym (any_none 8 (above limits numbers) λ k l.
    let low = h k (0, 0) (omega arith) (omega arith) in
    let pair = rw (get_or-zip numbers limits k (0, 0) (omega arith) (omega arith)) at low in
    le-ltb _ _ pair)

pub returns : goal.returns
returns c =
    same c.args.numbers c.args.limits c.any.result (search rules) (search rules)
    (cases_from_any c.any.new.self _ c.any.result (λ p. p.1 < p.0) (λ p. p.0 ≤ p.1) c.any.ensures.ran (YieldsList-from_zip (YieldsList-from_slice c.args.numbers cc) (YieldsList-from_slice c.args.limits cc)) (λ x q k. search (rules, tests)) (λ x q k. search (rules, tests)))
