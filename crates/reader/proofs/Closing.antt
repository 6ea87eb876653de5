-- A whole set by the rules: a device that no task claims is refused by the present ones, and what comes after that is one for both.
use Prim.Native.Nat.{ℕ, ◌<◌, ◌≤◌}
use mathlib.Core.Path.{◌≡◌, sym, ap, ◌∙◌}
use mathlib.Core.List.{List}
use mathlib.Core.Bool.{Bool, true, false, not, cond}
use native.Mathlib.Omega.{arith}
use borrow.Author.Tests.{lt-ltb, le-ltb}
use lib.ListN.{length, get_or}
use Rattle.std.proofs.Common.{Option, Some, None}
use Rattle.model.specs.Below.{lowest, tabulate}
use Rattle.model.specs.Answer.{refused, ◌then◌}
use Rattle.model.specs.Set.{Set, claimed}
use Rattle.model.specs.Layout.{Rules, former}
use Rattle.model.specs.Read.{read_words, first_unclaimed, close, read_by}
use Rattle.model.proofs.Counts.{lowest-same}
use Rattle.model.proofs.Lists.{get_d_tabulate}
use Rattle.reader.specs.declared.scan.Scan.{Scan}
use Rattle.reader.specs.Follow.{Ended, lowest_found}
use Rattle.reader.proofs.Found.{some-below, none-below}

-- the lowest of so many devices that isn't marked as claimed
abbrev pub unmarked : ℕ → List Bool → ℕ
unmarked devices marks = lowest devices (λ d. not (get_or marks d false))

-- a faulty word is refused by all rules
pub stopped : (rules : Rules) (ws : List ℕ) (n p : ℕ) → read_words ws ≡ refused n p → read_by rules ws ≡ refused n p
unfolding read_by ◌then◌
stopped rules ws n p e = rw e

module _ (ws : List ℕ) (s : Scan) (e : Ended ws s) where
  abbrev declared : Set
  declared = e.scan.set

  closed : (rules : Rules) → read_by rules ws ≡ close rules (length ws) declared
  unfolding read_by ◌then◌
  closed rules = rw e.read

  -- the marks are those of the claimed devices
  same-device : unmarked s.devices s.claimed ≡ first_unclaimed declared
  same-device =
      let n = length declared.capacities in
      let marks = tabulate 16 (claimed declared.tasks) in
      ap (λ (x : Scan). unmarked x.devices x.claimed) e.same
      ∙ lowest-same n (λ d. not (get_or marks d false)) (λ d. not (claimed declared.tasks d))
      (λ d h. ap not (get_d_tabulate 16 (claimed declared.tasks) d false (omega (arith, e.devices))))

  same_count : s.devices ≡ length declared.capacities
  same_count = ap (λ (x : Scan). x.devices) e.same

  -- the device that the rules object to, as the code looks for it
  abbrev found : Rules → Option ℕ
  found rules = cond rules (lowest_found s.devices (λ d. not (get_or s.claimed d false))) None

  -- 24
  pub unclaimed : (rules : Rules) (d : ℕ) → found rules ≡ Some d → read_by rules ws ≡ refused 24 d
  unfolding close
  unclaimed true d e =
      let some = some-below s.devices (unmarked s.devices s.claimed) d e in
      let less : first_unclaimed declared < length declared.capacities = omega (arith, same-device, same_count, some.1) in
      closed true ∙ rw (lt-ltb (first_unclaimed declared) (length declared.capacities) less) (ap (λ (d : ℕ). refused 24 d) (sym same-device ∙ some.0))
  unclaimed false d e = absurd cc

  -- no device is objected to: what comes next is one for all rules
  pub no-objection : (rules : Rules) → found rules ≡ None → read_by rules ws ≡ close former (length ws) declared
  unfolding close
  no-objection true e =
      let none : length declared.capacities ≤ first_unclaimed declared =
      omega (arith, same-device, same_count, none-below s.devices (unmarked s.devices s.claimed) e) in
      closed true ∙ rw (le-ltb (first_unclaimed declared) (length declared.capacities) none)
  no-objection false e = closed false
