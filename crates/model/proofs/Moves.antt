-- How bids move the state, over the action counts `ls` and the map's bytes: a bid moves it exactly if its step leads to an open state, and at an open state
-- that is not the end some bid does.
use Prim.Native.Nat.{ℕ}
use mathlib.Core.Path.{◌≡◌}
use mathlib.Core.Bool.{Bool, true, false, ◌&&◌}
use mathlib.Core.List.{List}
use lib.Dec.{eqb}
use borrow.Author.Tests.{eqb-true, eq-eqb}
use Rattle.model.specs.Set.{at}
use Rattle.model.specs.State.{State, InGrid, next, unfinished, is_end, rank}
use Rattle.model.specs.Run.{is-end, CanEnd, step, Open}
use Rattle.model.specs.Map.{bytes}
use Rattle.model.proofs.Bools.{true-not-false, and-true}
use Rattle.model.proofs.States.{next-grid}
use Rattle.model.proofs.MapExact.{map-right}

module _ (ls m : List ℕ) where
  -- a bid moves the state if the task is unfinished and its next state's byte is 0
  abbrev pub moves : State → ℕ → Bool
  moves x t = unfinished ls x t && eqb (at m (rank ls (next x t))) 0

  pub moves-unfinished : (x : State) (t : ℕ) → moves x t ≡ true → unfinished ls x t ≡ true
  moves-unfinished x t e = (and-true (unfinished ls x t) (eqb (at m (rank ls (next x t))) 0) e).0

module _ (ls : List ℕ) (permitted : State → Bool) where
  abbrev m : List ℕ
  m = bytes ls permitted

  -- a state of the grid that is open
  pub record Good (x : State) : Type 0 where
    pub grid : InGrid ls x
    pub is_open : Open ls permitted x

  pub moves-good : (x : State) (t : ℕ) → InGrid ls x → moves ls m x t ≡ true → Good (next x t)
  moves-good x t g e =
      let q = and-true (unfinished ls x t) (eqb (at m (rank ls (next x t))) 0) e in
      let n = next-grid ls x g t q.0 in
      record { grid = n; is_open = (map-right ls permitted (next x t) n).open_state.0 (eqb-true _ _ q.1) }

  good-moves : (x : State) (t : ℕ) → InGrid ls x → unfinished ls x t ≡ true → Open ls permitted (next x t) → moves ls m x t ≡ true
  good-moves x t g u o = rw (u, eq-eqb _ _ ((map-right ls permitted (next x t) (next-grid ls x g t u)).open_state.1 o))

  -- an open state that is not the end has a task whose bid moves it
  pub some-moves : (x : State) → InGrid ls x → is_end ls x ≡ false → CanEnd ls permitted x → (t : ℕ) × (moves ls m x t ≡ true)
  some-moves x g n (is-end e) = true-not-false (is_end ls x) e n
  some-moves x g n (step t a c) =
      let q = and-true (unfinished ls x t) (permitted (next x t)) a in
      (t, good-moves x t g q.0 (q.1, c))
