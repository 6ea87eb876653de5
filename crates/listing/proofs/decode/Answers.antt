-- `listing::decode` meets its contract: by cases, as the definition goes.
-- Assumes nothing.
use Rattle.model.specs.Answer.{◌then◌, if_given}
use Rattle.model.proofs.FileWords.{count-words, too_many_lem, not-whole, whole}
use Rattle.refusals.specs.Answers.{number_of, answer_of}
use Rattle.listing.proofs.decode.Goals as goal

pub returns-then-bytes-gt-MAX_BYTES : goal.returns-then-bytes-gt-MAX_BYTES
unfolding number_of answer_of ◌then◌ if_given
returns-then-bytes-gt-MAX_BYTES c = let e = too_many_lem c.args.bytes.now c.if-bytes-gt-MAX_BYTES.true in record { value = rw (e, c.at.ensures); words_after = rw e }

pub returns-then-bytes-ne0 : goal.returns-then-bytes-ne0
unfolding number_of answer_of ◌then◌ if_given
returns-then-bytes-ne0 c = let e = not-whole c.args.bytes.now c.if-bytes-gt-MAX_BYTES.false c.if-bytes-ne0.true in record { value = rw (e, c.at-then-bytes-ne0.ensures); words_after = rw e }

pub returns : goal.returns
unfolding number_of answer_of ◌then◌ if_given
returns c =
    let bs = c.args.bytes.now in
    let e = whole bs c.if-bytes-gt-MAX_BYTES.false c.if-bytes-ne0.false in
    record { value = rw (e, count-words bs); words_after = rw e c.fill_words.ensures }
