-- Settings that a bid may bring, as SCOPE.md, "Fair shares", says it, and as the broker tests them.
use Prim.Native.Nat.{ℕ, ◌≤◌}
use mathlib.Core.Path.{◌≡◌}
use mathlib.Core.Bool.{true, ◌&&◌}
use borrow.Author.Tests.{le-leb}
use Rattle.model.specs.Answer.{given, refused}
use Rattle.model.specs.Broker.{Settings, is_setting, settled}
use Rattle.model.proofs.Bools.{by_bool, and-true}
use Rattle.model.proofs.BrokerRecord.{setting-bounds}
use Rattle.demands.specs.Calls.{Allowed}

is-setting : (n : ℕ) → (1 ≤ n) × (n ≤ 255) → is_setting n ≡ true
is-setting n b = rw (le-leb 1 n b.0, le-leb n 255 b.1)

module _ (c : Settings) where
  pub allowed : Allowed c → settled c ≡ given c
  unfolding settled
  allowed a = rw (is-setting c.share a.0, is-setting c.window a.1)

  pub not_allowed : (Allowed c → ⊥) → settled c ≡ refused 26 0
  unfolding settled
  not_allowed n =
      by_bool (is_setting c.share && is_setting c.window)
      (λ e.
      let b = and-true (is_setting c.share) (is_setting c.window) e in
      absurd (n (setting-bounds c.share b.0, setting-bounds c.window b.1)))
      (λ e. rw e)
