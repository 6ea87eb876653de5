-- What the code's answer says in the terms of SCOPE.md, "Stored plans".
use Rattle.model.specs.StoredPlan as model
use Rattle.model.specs.StoredPlan.{in-forbidden, in-unsafe, in_neither}
use Rattle.plan_reader.specs.declared.Location.{Location}
use Rattle.plan_reader.specs.declared.Location.TheVariants.{Forbidden, Unsafe, Neither}

-- each case, with the index of the box's first word
unfoldable pub location_of : Location → model.Location
location_of (Forbidden index) = in-forbidden index
location_of (Unsafe index) = in-unsafe index
location_of Neither = in_neither
