-- Entries stand where the statements look for them.
use mathlib.Core.Path.{refl, ap}
use Rattle.model.specs.Read.{set_of}
use Rattle.demands.specs.Places.{Places}

pub places-hold : Places
unfolding set_of
places-hold = record {
  number = λ l t. refl;
  task = λ s t. refl;
  action = λ s t p. refl;
  a_side = λ b t. refl;
  counts = λ s. refl;
  set_read = λ words s e. ap set_of e;
}
