-- What the code finds, if it finds something: a fault, or the lowest number.
use Prim.Native.Nat.{ℕ, ◌≤◌, ◌<◌}
use mathlib.Core.Path.{◌≡◌, sym}
use mathlib.Core.Bool.{true, false, cond}
use native.Mathlib.Omega.{arith}
use borrow.Author.Tests.{ltb-true, ltb-false}
use lib.Dec.{ltb}
use Rattle.std.proofs.Common.{Option, Some, None}
use Rattle.std.specs.Option.{is_some}
use Rattle.model.proofs.Bools.{by_bool}
use Rattle.refusals.specs.declared.Reason.{Reason}
use Rattle.refusals.specs.declared.Reason.TheVariants.{NoWords, TooManyWords, WordAfterEnd, UnknownKind, OutOfOrder, FieldNotAllowed, TooMany, ClaimOfHeld, ReleaseOfNotHeld, StillHeld, NoEnd, GridTooLarge, MapTooShort, PlanTooShort, BytesNotWords, BadRecord, NoSuchTask, BadMapByte, NotAtEnd, NoRoute, RouteTooShort, BadTaskCount, OutsideLayout, UnclaimedDevice, CleanTooShort, BadSetting, BadOrder, TooManyUnits, TooManyShared, UnequalCapacities, MergeTooShort}
use Rattle.refusals.specs.Answers.{number_of}
use Rattle.reader.specs.Faults.{fault_number}

-- a fault has a number
pub numbered : (r : Reason) → 0 < number_of r
unfolding number_of
numbered NoWords = omega arith
numbered TooManyWords = omega arith
numbered WordAfterEnd = omega arith
numbered UnknownKind = omega arith
numbered OutOfOrder = omega arith
numbered FieldNotAllowed = omega arith
numbered TooMany = omega arith
numbered ClaimOfHeld = omega arith
numbered ReleaseOfNotHeld = omega arith
numbered StillHeld = omega arith
numbered NoEnd = omega arith
numbered GridTooLarge = omega arith
numbered MapTooShort = omega arith
numbered PlanTooShort = omega arith
numbered BytesNotWords = omega arith
numbered BadRecord = omega arith
numbered NoSuchTask = omega arith
numbered BadMapByte = omega arith
numbered NotAtEnd = omega arith
numbered NoRoute = omega arith
numbered RouteTooShort = omega arith
numbered BadTaskCount = omega arith
numbered OutsideLayout = omega arith
numbered UnclaimedDevice = omega arith
numbered CleanTooShort = omega arith
numbered BadSetting = omega arith
numbered BadOrder = omega arith
numbered TooManyUnits = omega arith
numbered TooManyShared = omega arith
numbered UnequalCapacities = omega arith
numbered MergeTooShort = omega arith

-- whether the code found one, by the number n that it has
module _ (x : Option Reason) (n : ℕ) (e : fault_number x ≡ n) where
  pub broken : is_some x ≡ true → 0 < n
  unfolding fault_number
  broken s = by_case x e s
    where
      by_case : (y : Option Reason) → fault_number y ≡ n → is_some y ≡ true → 0 < n
      by_case None q t = absurd cc
      by_case (Some r) q t = rw q at (numbered r)

  pub free : is_some x ≡ false → n ≡ 0
  unfolding fault_number
  free s = by_case x e s
    where
      by_case : (y : Option Reason) → fault_number y ≡ n → is_some y ≡ false → n ≡ 0
      by_case None q t = sym q
      by_case (Some r) q t = absurd cc

-- the number k, if it is below n
module _ (n k : ℕ) where
  abbrev below : Option ℕ
  below = cond (ltb k n) (Some k) None

  pub some-below : (d : ℕ) → below ≡ Some d → (k ≡ d) × (k < n)
  some-below d e =
      by_bool (ltb k n)
      (λ h. let same : ◌≡◌ {A = Option ℕ} (Some k) (Some d) = rw h at e in (cc, ltb-true k n h))
      λ h. let none : ◌≡◌ {A = Option ℕ} None (Some d) = rw h at e in absurd cc

  pub none-below : below ≡ None → n ≤ k
  none-below e =
      by_bool (ltb k n)
      (λ h. let some : ◌≡◌ {A = Option ℕ} (Some k) None = rw h at e in absurd cc)
      (ltb-false k n)
