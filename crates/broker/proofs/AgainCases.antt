-- Again on an accepted set, case by case.
use Prim.Native.Nat.{ℕ}
use mathlib.Core.Path.{◌≡◌}
use mathlib.Core.Bool.{true, false}
use Rattle.model.specs.Answer.{given, refused, ◌then◌}
use Rattle.model.specs.Set.{Set, lengths_of}
use Rattle.model.specs.State.{is_end, rank}
use Rattle.model.specs.Record.{Record, state_in, unfit}
use Rattle.model.specs.Broker.{restarted, again_answer}
use Rattle.records.proofs.Placed.{not-placed, is-placed}

module _ (s : Set) (r : Record) where
  pub again-unfit : unfit s r ≡ true → refused 16 0 ≡ again_answer s r
  unfolding again_answer ◌then◌
  again-unfit e = rw (not-placed s r e)

  pub again-early : unfit s r ≡ false → is_end (lengths_of s) (state_in s r) ≡ false → (k : ℕ) → k ≡ rank (lengths_of s) (state_in s r)
      → refused 19 k ≡ again_answer s r
  unfolding again_answer ◌then◌
  again-early right e k ranked = rw (is-placed s r right, e, ranked)

  pub again-restarts : unfit s r ≡ false → is_end (lengths_of s) (state_in s r) ≡ true → given restarted ≡ again_answer s r
  unfolding again_answer ◌then◌
  again-restarts right e = rw (is-placed s r right, e)
