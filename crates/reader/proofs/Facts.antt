-- What an answer of the reader tells every caller: accepted words declare the set that was read, and refused ones bring the refusal.
use Prim.Native.Nat.{ℕ}
use mathlib.Core.Path.{◌≡◌, refl, sym}
use mathlib.Core.List.{List}
use Rattle.model.specs.Answer.{given, refused, ◌then◌}
use Rattle.model.specs.Read.{read, set_of, set_in}
use Rattle.model.specs.Read as model
use Rattle.shape.specs.Declares.{Declares}
use Rattle.shape.proofs.Read.{read-declares}
use Rattle.reader.specs.declared.Reading.{Reading}
use Rattle.reader.specs.Answer.{reading_of, answer}

pub of_accepted : (x : model.Reading) (a : Reading) → given a ≡ answer x → (x ≡ given (set_of x)) × (a ≡ reading_of (set_of x))
unfolding ◌then◌ set_of
of_accepted (given s) a e = (refl, cc)
of_accepted (refused n p) a e = absurd cc

pub of_refused : (x : model.Reading) (n p : ℕ) → refused n p ≡ answer x → x ≡ refused n p
unfolding ◌then◌
of_refused (given s) n p e = absurd cc
of_refused (refused m q) n p e = sym cc

module _ (ws : List ℕ) (a : Reading) (e : given a ≡ answer (read ws)) where
  pub accepted : read ws ≡ given (set_in ws)
  accepted = (of_accepted (read ws) a e).0

  pub declared : Declares ws a.shape (set_in ws)
  declared = rw (of_accepted (read ws) a e).1 (read-declares ws (set_in ws) accepted)
