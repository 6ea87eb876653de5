-- What is said of stored plans holds.
use mathlib.Core.Path.{refl}
use Rattle.model.specs.Answer.{◌then◌}
use Rattle.model.specs.Box.{inside}
use Rattle.model.specs.StoredPlan.{is_side, is_rank, may_follow, in_layout, scan_word, scan_from, first_of, location_of, locate}
use Rattle.model.proofs.Located.{accepted}
use Rattle.demands.specs.StoredPlans.{Questions, StoredPlans}
use Rattle.demands.proofs.ExamplesHold.{examples-hold}
use Rattle.demands.proofs.PlanLayoutHolds.{plan-layout-holds}
use Rattle.demands.proofs.PlanFaultsHold.{plan-faults-hold}
use Rattle.demands.proofs.LiesHold.{lies-hold, unread}
use Rattle.demands.proofs.AgreesHolds.{agrees-holds}

-- each question by computing the definitions, on the words of a's plan
questions-hold : Questions
unfolding ◌then◌ inside is_side is_rank may_follow in_layout scan_word scan_from first_of location_of locate
questions-hold =
    let plan = examples-hold.a_plan in
    record {
      both_boxes = rw plan;
      second_box = rw plan;
      unsafe-box = rw plan;
      none_holds = rw plan;
      three_tasks = rw plan;
      one_task = rw plan;
      no_task = refl;
      nine_tasks = refl;
      empty = refl;
      cut_short = rw plan;
      no_end = rw plan;
      after_end = rw plan;
      same_rank = refl;
      falling_rank = refl;
      counts_itself = refl;
      both_kinds = refl;
      task_twice = refl;
      late_box = refl;
      exchanged = refl;
      unused_bit = refl;
      high_device = refl;
      unsafe_field = refl;
      after_rank = refl;
      lower_rank = refl;
      equal_rank = refl;
      only_unreached = refl;
      same_unreached = refl;
      falling_unreached = refl;
      late_rank = refl;
      after_unreached = refl;
      unknown_kind = refl;
    }

pub stored-plans-hold : StoredPlans
stored-plans-hold = record {
  layout = plan-layout-holds;
  faults = plan-faults-hold;
  lies = λ x ws n full (l, e). lies-hold x ws n full (accepted x ws n l e);
  unread = unread;
  agrees = agrees-holds;
  questions = questions-hold;
}
