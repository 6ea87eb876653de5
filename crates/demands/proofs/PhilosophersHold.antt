-- The facts of the five philosophers hold, by computing the definitions.
use mathlib.Core.Path.{refl}
use Rattle.model.specs.Below.{any, tabulate, maximum}
use Rattle.model.specs.Set.{size}
use Rattle.model.specs.State.{is_end, weight, state_at}
use Rattle.model.specs.Hold.{held_to, holds_from, units_at, held, permitted}
use Rattle.model.specs.Box.{inside, covered, first_box}
use Rattle.model.specs.Forbidden.{choose, sets_from, sides_of, prefixed, choices_of, choices_of_all, total, each_needed, just_exceeds, boxes_of, device_boxes, forbidden_from, forbidden}
use Rattle.model.specs.Map.{steps_onto, byte, last_bytes, bytes}
use Rattle.model.specs.Reach.{stepped_onto, mark, first_marks}
use Rattle.model.specs.UnsafeBoxes.{gets_box, blocker_low, unsafe_box, last_unsafe, unsafe_boxes}
use Rattle.model.specs.Plan.{ranks_from, keep}
use Rattle.demands.specs.Philosophers.{Philosophers}

pub philosophers-hold : Philosophers
unfolding any tabulate maximum size is_end weight state_at held_to holds_from units_at held permitted inside covered first_box choose sets_from sides_of prefixed choices_of choices_of_all total each_needed just_exceeds boxes_of device_boxes forbidden_from forbidden steps_onto byte last_bytes bytes stepped_onto mark first_marks gets_box blocker_low unsafe_box last_unsafe unsafe_boxes ranks_from keep
philosophers-hold = record { states = refl; dead = refl; reached = refl; unreached = refl; unsafe = refl }
