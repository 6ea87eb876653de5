-- `broker::by_map::byte_answer` meets its contract, byte by byte.
use borrow.Author.Tests.{lt-ltb, le-ltb, eq-eqb, ne_eqb, eqb-false}
use Prim.Native.Nat.{ℕ, ◌<◌, ◌≤◌}
use native.Mathlib.Omega.{arith}
use mathlib.Core.Path.{◌≡◌}
use lib.Dec.{eqb}
use Rattle.model.specs.Answer.{given, refused}
use Rattle.model.specs.Broker.{granted, busy, held, bid_byte}
use Rattle.model.proofs.Bools.{by_bool}
use Rattle.broker.specs.Says.{named}
use Rattle.refusals.specs.Answers.{number_of, answer_of}
use Rattle.broker.proofs.by_map.byte_answer.Goals as goal

module _ (b r d : ℕ) where
  open-byte : b ≡ 0 → given granted ≡ bid_byte b r d
  unfolding bid_byte
  open-byte e = rw e

  forbidden-byte : b ≡ 1 → given (busy d) ≡ bid_byte b r d
  unfolding bid_byte
  forbidden-byte e = rw e

  unsafe-byte : 1 < b → b ≤ 3 → given (held r) ≡ bid_byte b r d
  unfolding bid_byte
  unsafe-byte l h =
      by_bool (eqb b 2)
      (λ e. rw (le-ltb 3 b h, ne_eqb b 1 (omega arith), e))
      (λ e. rw (le-ltb 3 b h, ne_eqb b 1 (omega arith), e, eq-eqb b 3 (omega (arith, eqb-false b 2 e))))

  no_byte : 3 < b → refused 18 r ≡ bid_byte b r d
  unfolding bid_byte
  no_byte h = rw (lt-ltb 3 b h)

pub returns-in-0 : goal.returns-in-0
unfolding answer_of named
returns-in-0 c = open-byte _ _ _ c.in-0.is

pub returns-in-1 : goal.returns-in-1
unfolding answer_of named
returns-in-1 c = forbidden-byte _ _ _ c.in-1.is

pub returns-in-2 : goal.returns-in-2
unfolding answer_of named
returns-in-2 c = unsafe-byte _ _ _ (omega arith) (omega arith)

pub returns-in_default : goal.returns-in_default
unfolding answer_of number_of
returns-in_default c = rw c.at.ensures (no_byte _ _ _ (omega arith))
