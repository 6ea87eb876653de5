-- `route::refuse` meets its contract: the slice is filled with 255.
use borrow.Author.Rules.{rules}
use mathlib.Core.Path.{◌≡◌}
use lib.ListN.{length, replicate}
use Rattle.model.specs.Answer.{◌then◌, if_given}
use Rattle.refusals.specs.Answers.{answer_of}
use Rattle.route.proofs.refuse.Goals as goal

pub returns : goal.returns
unfolding answer_of ◌then◌ if_given
returns c =
    let filled : c.fill.new.self ≡ replicate (length c.args.slice.now) 255 = search rules in
    rw filled
