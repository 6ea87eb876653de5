-- The numbers are the variants' own: each by itself.
use Rattle.std.proofs.Common.{refl, ◌≡◌, ◌+◌}
use Rattle.refusals.specs.declared.Reason.TheVariants.{NoWords, TooManyWords, WordAfterEnd, UnknownKind, OutOfOrder, FieldNotAllowed, TooMany, ClaimOfHeld, ReleaseOfNotHeld, StillHeld, NoEnd, GridTooLarge, MapTooShort, PlanTooShort, BytesNotWords, BadRecord, NoSuchTask, BadMapByte, NotAtEnd, NoRoute, RouteTooShort, BadTaskCount, OutsideLayout, UnclaimedDevice, CleanTooShort, BadSetting, BadOrder, TooManyUnits, TooManyShared, UnequalCapacities, MergeTooShort}
use Rattle.refusals.specs.Answers.{number_of}
use Rattle.refusals.proofs.Reason.number.Goals as goal

pub returns : goal.returns
unfolding number_of
returns c = elim c.args.self as (λ r. denote.Enum.Declared.tag_of Rattle.refusals.specs.contracts.Reason.the_type r + 1 ≡ number_of r) [
  | NoWords ↦ refl
  | TooManyWords ↦ refl
  | WordAfterEnd ↦ refl
  | UnknownKind ↦ refl
  | OutOfOrder ↦ refl
  | FieldNotAllowed ↦ refl
  | TooMany ↦ refl
  | ClaimOfHeld ↦ refl
  | ReleaseOfNotHeld ↦ refl
  | StillHeld ↦ refl
  | NoEnd ↦ refl
  | GridTooLarge ↦ refl
  | MapTooShort ↦ refl
  | PlanTooShort ↦ refl
  | BytesNotWords ↦ refl
  | BadRecord ↦ refl
  | NoSuchTask ↦ refl
  | BadMapByte ↦ refl
  | NotAtEnd ↦ refl
  | NoRoute ↦ refl
  | RouteTooShort ↦ refl
  | BadTaskCount ↦ refl
  | OutsideLayout ↦ refl
  | UnclaimedDevice ↦ refl
  | CleanTooShort ↦ refl
  | BadSetting ↦ refl
  | BadOrder ↦ refl
  | TooManyUnits ↦ refl
  | TooManyShared ↦ refl
  | UnequalCapacities ↦ refl
  | MergeTooShort ↦ refl
]
