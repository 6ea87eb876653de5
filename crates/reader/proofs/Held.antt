-- The array of devices held, of which only the declared ones can be.
use Prim.Native.Nat.{ℕ, ◌≤◌}
use mathlib.Core.Path.{◌≡◌, ◌∙◌}
use mathlib.Core.Bool.{Bool, false}
use borrow.Author.Tests.{ltb-true, ltb-false}
use lib.ListN.{get_or}
use lib.Dec.{ltb}
use Rattle.model.specs.Below.{any, tabulate}
use Rattle.model.proofs.Bools.{by_bool, any_false, any_same, any-past}
use Rattle.model.proofs.Lists.{get_d_tabulate}

-- from n on every test fails
module _ (f : ℕ → Bool) (n : ℕ) (past : (d : ℕ) → n ≤ d → f d ≡ false) where
  -- so the whole array tells what the first n do
  pub any_entry : (k : ℕ) → n ≤ k → any k (λ d. get_or (tabulate k f) d false) ≡ any n f
  any_entry k h = any_same k (λ d. get_or (tabulate k f) d false) f (λ t l. get_d_tabulate k f t false l) ∙ any-past f n past k h

  pub none_passes : any n f ≡ false → (d : ℕ) → f d ≡ false
  none_passes e d = by_bool (ltb d n) (λ h. any_false n f e d (ltb-true d n h)) λ h. past d (ltb-false d n h)
