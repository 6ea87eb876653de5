-- Reading: its examples by computing the definitions.
use mathlib.Core.Path.{refl}
use mathlib.Core.List.{flatten}
use Rattle.model.specs.Below.{any, lowest, tabulate}
use Rattle.model.specs.Answer.{◌then◌}
use Rattle.model.specs.Set.{claims, claimed, size}
use Rattle.model.specs.Read.{last_task, add_action, held_after, note, out_of_order, field_allowed, too_many, too_many_units, fault, read_from, read_words, close, read_by}
use Rattle.model.proofs.Parity.{length-even, grid-odd}
use Rattle.demands.specs.Terms.{times}
use Rattle.demands.specs.Reading.{ReadingRight}
use Rattle.demands.proofs.LayoutWords.{set_words}
use Rattle.demands.proofs.LayoutHolds.{layout-exact}

pub reading-right : ReadingRight
unfolding any lowest tabulate claims claimed size last_task add_action held_after note out_of_order field_allowed too_many too_many_units fault read_from read_words close read_by ◌then◌ times flatten
reading-right = record {
  words = set_words;
  layout = layout-exact;
  even = λ rules. length-even;
  odd = λ rules. grid-odd;
  accepted = (refl, refl);
  accepted_units = refl;
  refusal_1 = refl;
  refusal_2 = (refl, refl);
  refusal_3 = (refl, refl, refl, refl, refl, refl, refl);
  refusal_4 = (refl, refl, refl);
  refusal_5 = (refl, refl, refl, refl, refl, refl, refl);
  refusal_6 = (refl, refl, refl, refl, refl, refl, refl, refl, refl, refl, refl, refl, refl);
  with_units_6 = (refl, refl, refl, refl, refl, refl);
  before_7 = (refl, refl, refl, refl, refl);
  refusal_7 = (refl, refl, refl, refl, refl, refl);
  within_7 = (refl, refl, refl, refl, refl);
  refusal_28 = (refl, refl, refl, refl, refl);
  within_28 = (refl, refl, refl, refl);
  between_28 = (refl, refl, refl, refl, refl, refl, refl);
  formerly_28 = (refl, refl);
  refusal_8 = (refl, refl);
  refusal_9 = (refl, refl, refl, refl);
  refusal_10 = (refl, refl, refl);
  refusal_11 = (refl, refl, refl);
  refusal_12 = (refl, refl, refl);
  within_12 = (refl, refl);
  refusal_24 = (refl, refl, refl, refl, refl);
  within_24 = refl;
  between_24 = (refl, refl);
  formerly = (refl, refl);
  first-fault = (refl, refl);
}
