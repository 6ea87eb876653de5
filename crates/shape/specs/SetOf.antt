-- The set that an accepted set's words declare.
use Rattle.model.specs.Set.{Set}
use Rattle.model.specs.Read.{set_in}
use Rattle.shape.specs.declared.accepted.AcceptedSet.{AcceptedSet}

abbrev pub set_of : AcceptedSet → Set
set_of a = set_in a.words.now
