-- The examples hold: each by computing the definitions.
use mathlib.Core.Path.{refl}
use mathlib.Core.List.{flatten}
use Rattle.model.specs.Below.{any, lowest, how_many, tabulate, maximum}
use Rattle.model.specs.Set.{device_of, claims, claimed, size}
use Rattle.model.specs.Read.{last_task, add_action, held_after, note, out_of_order, field_allowed, too_many, too_many_units, fault, read_from, read_words, close, read_by, set_of}
use Rattle.model.specs.State.{is_end, sum, weight, rank, state_at}
use Rattle.model.specs.Hold.{held_to, holds_from, units_at, held as units_held, permitted}
use Rattle.model.specs.Box.{inside, covered, first_box}
use Rattle.model.specs.Forbidden.{choose, sets_from, sides_of, prefixed, choices_of, choices_of_all, total, each_needed, just_exceeds, boxes_of, device_boxes, forbidden_from, forbidden}
use Rattle.model.specs.Map.{steps_onto, byte, last_bytes, bytes}
use Rattle.model.specs.Reach.{stepped_onto, mark, first_marks}
use Rattle.model.specs.UnsafeBoxes.{gets_box, blocker_low, unsafe_box, last_unsafe, unsafe_boxes}
use Rattle.model.specs.Layout.{action_word, task_words, body, with_end}
use Rattle.model.specs.Clean.{kept_from, renamed, clean_fits}
use Rattle.model.specs.Plan.{ranks_from, keep, side_words, forbidden_words, unsafe_words, plan_words}
use Rattle.model.specs.Answer.{◌then◌, if_given}
use Rattle.model.specs.Record.{misplaced, miscounted, map_fits, placed}
use Rattle.model.specs.PerThousand.{permitted_states_of, unsafe_states_of}
use Rattle.model.specs.Analysis.{plan_fits}
use Rattle.model.specs.Broker.{bid_byte, map_answer, is_granted, settled, other_goes, shared_answer, bid_answer, in_window, after_call, after_list}
use Rattle.model.specs.Trial.{row_with, is_finished, ordered, try_from, trial_on}
use Rattle.model.specs.Route.{step_from, walk, walked, route_from, route_steps, route_fits}
use Rattle.demands.specs.Examples.{answers, Examples}

pub examples-hold : Examples
unfolding any tabulate maximum device_of size last_task add_action held_after note out_of_order field_allowed too_many too_many_units fault read_from read_words close read_by set_of claims claimed lowest is_end sum weight rank state_at held_to holds_from units_at units_held permitted inside covered first_box choose sets_from sides_of prefixed choices_of choices_of_all total each_needed just_exceeds boxes_of device_boxes forbidden_from forbidden steps_onto byte last_bytes bytes stepped_onto mark first_marks gets_box blocker_low unsafe_box last_unsafe unsafe_boxes with_end ranks_from keep permitted_states_of unsafe_states_of side_words forbidden_words unsafe_words plan_words ◌then◌ if_given map_fits plan_fits misplaced miscounted placed bid_byte map_answer is_granted settled other_goes shared_answer bid_answer in_window after_call after_list step_from walk walked route_from route_steps route_fits clean_fits kept_from how_many renamed task_words body action_word answers flatten row_with is_finished ordered try_from trial_on
examples-hold = record {
  a_states = (refl, refl);
  a_answer = refl;
  a_plan = refl;
  b_answers = refl;
  b_number = refl;
  c_answer = refl;
  c_route = refl;
  d_unsafe = refl;
  d_dead = refl;
  d_plan = refl;
  d_counts = refl;
  d_states = (refl, refl);
  d_answer = refl;
  d_longer = refl;
  d_shorter = refl;
  e_counts = refl;
  e_unsafe = refl;
  e_states = (refl, refl);
  e_answer = refl;
  f_plan = refl;
  g_plan = refl;
  g_refused = refl;
  g_unclaimed = refl;
  g_cleaned = refl;
  h_refused = refl;
  i_refused = refl;
  j_refused = refl;
  k_refused = refl;
  l_answer = refl;
  l_number = refl;
  r_plan = refl;
  r_states = (refl, refl);
  r_answer = refl;
  t_answers = refl;
  t_closed = refl;
  t_record = refl;
  t_longer = refl;
  t_together = refl;
  u_free = refl;
  u_shared = refl;
  u_middle = refl;
  u_turns = refl;
  u_early = refl;
  u_none = refl;
  u_16 = refl;
  u_18 = refl;
  u_18_later = refl;
  u_empty = refl;
  u_absent = refl;
  u_long = refl;
  u_settings = refl;
  u_short = refl;
  u_order = refl;
  u_behind = refl;
}
