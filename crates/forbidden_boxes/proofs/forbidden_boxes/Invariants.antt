-- `forbidden_boxes::forbidden_boxes` meets its contract. The invariant: the boxes of the devices before d are written.
use Rattle.shape.specs.SetOf.{set_of}
use Rattle.plan_words.proofs.Run.{Turn}
use Rattle.forbidden_boxes.specs.Choices.{device_words}
use Rattle.forbidden_boxes.proofs.forbidden_boxes.Given as goal

abbrev pub invariant-loop-d : goal.invariant-loop-d
invariant-loop-d l = Turn (device_words (set_of l.set)) l.initial.plan 0 l.set.shape.devices l.plan l.to l.d
