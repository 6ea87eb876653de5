-- A refusal by its number, and a call's Result as an answer (SCOPE.md, "Refusals").
use Rattle.std.specs.Prelude.{ℕ, Result, Ok, Err}
use Rattle.model.specs.Answer.{Answer, given, refused}
use Rattle.refusals.specs.declared.Reason.{Reason}
use Rattle.refusals.specs.declared.Reason.TheVariants.{NoWords, TooManyWords, WordAfterEnd, UnknownKind, OutOfOrder, FieldNotAllowed, TooMany, ClaimOfHeld, ReleaseOfNotHeld, StillHeld, NoEnd, GridTooLarge, MapTooShort, PlanTooShort, BytesNotWords, BadRecord, NoSuchTask, BadMapByte, NotAtEnd, NoRoute, RouteTooShort, BadTaskCount, OutsideLayout, UnclaimedDevice, CleanTooShort, BadSetting, BadOrder, TooManyUnits, TooManyShared, UnequalCapacities, MergeTooShort}
use Rattle.refusals.specs.declared.Refusal.{Refusal}

-- the number of each reason
unfoldable pub number_of : Reason → ℕ
number_of NoWords = 1
number_of TooManyWords = 2
number_of WordAfterEnd = 3
number_of UnknownKind = 4
number_of OutOfOrder = 5
number_of FieldNotAllowed = 6
number_of TooMany = 7
number_of ClaimOfHeld = 8
number_of ReleaseOfNotHeld = 9
number_of StillHeld = 10
number_of NoEnd = 11
number_of GridTooLarge = 12
number_of MapTooShort = 13
number_of PlanTooShort = 14
number_of BytesNotWords = 15
number_of BadRecord = 16
number_of NoSuchTask = 17
number_of BadMapByte = 18
number_of NotAtEnd = 19
number_of NoRoute = 20
number_of RouteTooShort = 21
number_of BadTaskCount = 22
number_of OutsideLayout = 23
number_of UnclaimedDevice = 24
number_of CleanTooShort = 25
number_of BadSetting = 26
number_of BadOrder = 27
number_of TooManyUnits = 28
number_of TooManyShared = 29
number_of UnequalCapacities = 30
number_of MergeTooShort = 31

-- a call's result as an answer: Ok is a value, as `value` has it, and Err a refusal, by its number and its place
unfoldable pub answer_of : {A B : Type 0} → (A → B) → Result A Refusal → Answer B
answer_of value (Ok a) = given (value a)
answer_of value (Err r) = refused (number_of r.reason) r.place
