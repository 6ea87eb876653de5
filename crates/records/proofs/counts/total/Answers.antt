-- `records::counts::total` meets its contract: eight counts of at most 255 have a sum that fits.
use Rattle.std.proofs.Common.{◌≡◌, ℕ, List, [], ◌∷◌, length, ◌∙◌, arith, rules, Fits, w8, refl}
use borrow.Author.Tests.{tests}
use Rattle.std.specs.List.{sum}
use Rattle.std.proofs.lemmas.Iterator.{YieldsList-from_slice, YieldsList-from_map}
use Rattle.std.proofs.lemmas.Iterator.Consumers.{sum_from_yields_List, fits_from_yields_list}
use Rattle.std.proofs.lemmas.List.Sums.{sum_by-le, sum_by-cons, sum-map}
use Rattle.std.proofs.lemmas.Grind.{get_or_default_zero}
use Rattle.model.specs.Set.{at}
use Rattle.model.specs.State as model
use Rattle.records.proofs.counts.total.Goals as goal

-- the sums of the library and of the model
same : (counts : List ℕ) → sum counts ≡ model.sum counts
unfolding model.sum
same [] = refl
same (n ∷ counts) = rw (sum_by-cons (λ x. x) n counts, same counts)

pub sum-requires-clause-fits : goal.sum-requires-clause-fits
sum-requires-clause-fits c =
    let counts = c.args.counts in
    let eight : length counts ≡ 8 = search rules in
    let low = sum_by-le (λ x. x) 255 counts (λ k d h. let b : Fits w8 (at counts k) = search rules in omega (arith, b.fits, get_or_default_zero counts k d h)) in
    fits_from_yields_list c.map.result _ (YieldsList-from_map _ (λ x. x) (YieldsList-from_slice counts cc) c.map.ensures.closure (λ x r q k. search (rules, tests))) (rw (sum-map (λ x. x) counts) (omega arith))

pub returns : goal.returns
returns c =
    sum_from_yields_List c.map.result c.sum.result c.sum.ensures.ran (YieldsList-from_map _ (λ x. x) (YieldsList-from_slice c.args.counts cc) c.map.ensures.closure (λ x r q k. search (rules, tests)))
    ∙ sum-map (λ x. x) c.args.counts ∙ same c.args.counts
