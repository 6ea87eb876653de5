-- `arbiter::arbiter_read` meets its contract: what is read has the set's grid, and a refusal stays as it is.
use mathlib.Core.Path.{◌≡◌, refl, ap}
use Rattle.model.specs.Answer.{given, refused, ◌then◌}
use Rattle.model.specs.Read.{Reading, read}
use Rattle.model.specs.Told.{tell, tell_reading}
use Rattle.reader.specs.Answer.{answer}
use Rattle.arbiter.specs.Told.{struct_of}
use Rattle.arbiter.proofs.arbiter_read.Goals as goal

-- the grid is told of what the reader's code has of a set as of the set itself
grid_told : (r : Reading) → tell (λ a. record { kind = 1; refusal = 0; value = a.shape.grid }) (answer r) ≡ tell_reading r
unfolding tell ◌then◌
grid_told (given s) = refl
grid_told (refused n p) = refl

pub returns : goal.returns
returns c = rw (c.of_reading.ensures, c.read.ensures) (ap struct_of (grid_told (read c.args.set.now)))
