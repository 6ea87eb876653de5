-- What the reader's code answers (SCOPE.md, "Sets", and "Refusals", 1 to 12, 24 and 28): the model's reading of the words, as the code's types hold it.
use Rattle.model.specs.Below.{tabulate}
use Rattle.model.specs.Answer.{Answer, given, ◌then◌}
use Rattle.model.specs.Set.{Set, claimed}
use Rattle.model.specs.Layout.{present, former}
use Rattle.model.specs.Layout as layout
use Rattle.model.specs.Read as model
use Rattle.shape.specs.ShapeOf.{shape_of}
use Rattle.reader.specs.declared.Reading.{Reading}
use Rattle.reader.specs.declared.rules.Rules.{Rules}
use Rattle.reader.specs.declared.rules.Rules.TheVariants.{Present, Former}

-- the rules that the code's name stands for
abbrev pub rules_of : Rules → layout.Rules
rules_of Present = present
rules_of Former = former

-- what the reader tells of a set: its shape, and which devices its tasks claim
abbrev pub reading_of : Set → Reading
reading_of s = record { shape = shape_of s; claimed = tabulate 16 (claimed s.tasks) }

-- that of the set that was read, and a refusal stays as it is
abbrev pub answer : model.Reading → Answer Reading
answer r = r then λ s. given (reading_of s)
