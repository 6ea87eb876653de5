-- What a call knows once the rank of its record's state is made: for the contracts of the calls' own functions.
use Rattle.std.specs.Prelude.{◌≡◌, ℕ, false, List, length, nat_lt}
use Rattle.model.specs.Set.{Set, lengths_of, size}
use Rattle.model.specs.State.{rank}
use Rattle.model.specs.Record.{Record, state_in, unfit}

-- the map m has room, and the record r, of eight positions, fits the set s; its state has rank k
pub record Ranked (s : Set) (m : List ℕ) (r : Record) (k : ℕ) : Type 0 where
  pub eight : length r.positions ≡ 8
  pub room : nat_lt (length m) (size (lengths_of s)) ≡ false
  pub fits : unfit s r ≡ false
  pub ranked : k ≡ rank (lengths_of s) (state_in s r)
