-- What fits the words of a plan: fields, sides, boxes, and whole plans.
use Prim.Native.Nat.{ℕ, ◌<◌, ◌≤◌}
use mathlib.Core.Path.{◌≡◌}
use mathlib.Core.List.{List}
use lib.ListN.{length}
use Rattle.model.specs.Hold.{Interval}
use Rattle.model.specs.Box.{Box}
use Rattle.model.specs.Forbidden.{Forbidden}
use Rattle.model.specs.Plan.{AscendingFrom, Plan, plan_words}
use Rattle.model.proofs.Each.{Each}

-- a number that a word's field holds
abbrev pub FieldFits : ℕ → Type 0
FieldFits n = n < 0x10000000

-- a side: its lowest at most its highest position, which is a byte
abbrev pub SideFits : Interval → Type 0
SideFits i = (i.low ≤ i.high) × (i.high < 256)

-- a box of n such sides
pub record Sided (n : ℕ) (b : Box) : Type 0 where
  pub count : length b ≡ n
  pub sides : Each SideFits b

-- a forbidden box of n such sides, and its device
pub record DeviceSided (n : ℕ) (f : Forbidden) : Type 0 where
  pub device : f.device < 16
  pub box : Sided n f.box

-- ranks that fit a word's field, and rise
pub record RanksFit (ranks : List ℕ) : Type 0 where
  pub fit : Each FieldFits ranks
  pub rise : AscendingFrom 0 ranks

-- what a plan for n tasks lists, section by section
pub record ListsFit (n : ℕ) (p : Plan) : Type 0 where
  pub forbidden : Each (DeviceSided n) p.forbidden
  pub unsafe : Each (Sided n) p.unsafe
  pub reached : RanksFit p.reached
  pub unreached : RanksFit p.unreached

-- a plan for n tasks, each of which has a byte in a side's word, and few enough words for END's field
pub record PlanFits (n : ℕ) (p : Plan) : Type 0 where
  pub tasks : n ≤ 256
  pub lists : ListsFit n p
  pub words : length (plan_words p) ≤ 0x10000000
