-- The six plans and the one answer hold, by computing the definitions.
use mathlib.Core.Path.{refl}
use Rattle.model.specs.Below.{any, lowest, tabulate, maximum}
use Rattle.model.specs.Set.{device_of, claims, claimed, size}
use Rattle.model.specs.Read.{last_task, add_action, held_after, note, out_of_order, field_allowed, too_many, too_many_units, fault, read_from, read_words, close, read_by}
use Rattle.model.specs.State.{is_end, weight, state_at}
use Rattle.model.specs.Hold.{held_to, holds_from, units_at, held as units_held, permitted}
use Rattle.model.specs.Box.{inside, covered, first_box}
use Rattle.model.specs.Forbidden.{choose, sets_from, sides_of, prefixed, choices_of, choices_of_all, total, each_needed, just_exceeds, boxes_of, device_boxes, forbidden_from, forbidden}
use Rattle.model.specs.Map.{steps_onto, byte, last_bytes, bytes}
use Rattle.model.specs.Reach.{stepped_onto, mark, first_marks}
use Rattle.model.specs.UnsafeBoxes.{gets_box, blocker_low, unsafe_box, last_unsafe, unsafe_boxes}
use Rattle.model.specs.Layout.{action_word, task_words, body, with_end}
use Rattle.model.specs.Plan.{ranks_from, keep, side_words, forbidden_words, unsafe_words, plan_words}
use Rattle.model.specs.PerThousand.{permitted_states_of, unsafe_states_of}
use Rattle.model.specs.Answer.{◌then◌, if_given}
use Rattle.model.specs.Record.{map_fits}
use Rattle.model.specs.Analysis.{plan_fits}
use Rattle.demands.specs.Terms.{times}
use Rattle.demands.specs.Plans.{Plans}

pub plans-hold : Plans
unfolding any tabulate maximum device_of size last_task add_action held_after note out_of_order field_allowed too_many too_many_units fault read_from read_words close read_by claims claimed lowest is_end weight state_at held_to holds_from units_at units_held permitted inside covered first_box choose sets_from sides_of prefixed choices_of choices_of_all total each_needed just_exceeds boxes_of device_boxes forbidden_from forbidden steps_onto byte last_bytes bytes stepped_onto mark first_marks gets_box blocker_low unsafe_box last_unsafe unsafe_boxes action_word task_words body with_end ranks_from keep permitted_states_of unsafe_states_of side_words forbidden_words unsafe_words plan_words ◌then◌ if_given map_fits plan_fits times
plans-hold = record { m_plan = refl; n_plan = refl; o_plan = refl; p_plan = refl; q_plan = refl; u_plan = refl; v_answer = refl }
