-- Six more plans, word for word, and one more answer. Each fixes an order, a field or a size that the desk examples leave open, by a set whose plan or answer would be
-- another under another reading.
use Rattle.std.specs.Prelude.{ℕ, ◌≡◌, List, [], ◌∷◌}
use Rattle.model.specs.Answer.{given}
use Rattle.model.specs.Set.{Set, claim, release}
use Rattle.model.specs.Layout.{encode}
use Rattle.demands.specs.Terms.{times}
use Rattle.demands.specs.Examples.{analysed}

-- m: four tasks, each of one claim and release of a device of capacity 1: six task sets
abbrev pub m : List ℕ
m =
    0x10000001 ∷ 0x20000000 ∷ 0x30000000 ∷ 0x40000000 ∷ 0x20000000 ∷ 0x30000000 ∷ 0x40000000
    ∷ 0x20000000 ∷ 0x30000000 ∷ 0x40000000 ∷ 0x20000000 ∷ 0x30000000 ∷ 0x40000000 ∷ 0x5000000D ∷ []

-- n: two tasks that each claim the device twice: four choices of holds
abbrev pub n : List ℕ
n =
    0x10000001 ∷ 0x20000000 ∷ 0x30000000 ∷ 0x40000000 ∷ 0x30000000 ∷ 0x40000000 ∷ 0x20000000
    ∷ 0x30000000 ∷ 0x40000000 ∷ 0x30000000 ∷ 0x40000000 ∷ 0x5000000B ∷ []

-- o: three tasks over a device of capacity 2 and two of capacity 1
abbrev pub o : List ℕ
o =
    0x10000002 ∷ 0x10000001 ∷ 0x10000001 ∷ 0x20000000 ∷ 0x30000000 ∷ 0x30000001 ∷ 0x30000002 ∷ 0x40000002
    ∷ 0x40000000 ∷ 0x40000001 ∷ 0x20000000 ∷ 0x30000001 ∷ 0x30000002 ∷ 0x40000002 ∷ 0x30000000 ∷ 0x40000001
    ∷ 0x40000000 ∷ 0x20000000 ∷ 0x30000000 ∷ 0x30000002 ∷ 0x30000001 ∷ 0x40000001 ∷ 0x40000000 ∷ 0x40000002
    ∷ 0x50000018 ∷ []

-- p: a task of 254 actions that keeps device 0 from its first to its last, and two that want it
abbrev pub p : List ℕ
p =
    0x10000001 ∷ 0x10000001 ∷ 0x20000000 ∷ 0x30000000
    ∷ times 126 (0x30000001 ∷ 0x40000001 ∷ []) (
    0x40000000 ∷ 0x20000000 ∷ 0x30000000 ∷ 0x40000000 ∷ 0x20000000 ∷ 0x30000000 ∷ 0x40000000
    ∷ 0x50000107 ∷ []
    )

-- q: example a with a task without actions between its two
abbrev pub q : List ℕ
q =
    0x10000001 ∷ 0x10000001 ∷ 0x20000000 ∷ 0x30000000 ∷ 0x30000001 ∷ 0x40000001 ∷ 0x40000000
    ∷ 0x20000000 ∷ 0x20000000 ∷ 0x30000001 ∷ 0x30000000 ∷ 0x40000000 ∷ 0x40000001 ∷ 0x5000000D ∷ []

-- u: two tasks whose only dead state isn't reached
abbrev pub u : List ℕ
u =
    0x10000001 ∷ 0x10000001 ∷ 0x10000001 ∷ 0x20000000 ∷ 0x30000002 ∷ 0x30000001 ∷ 0x40000002 ∷ 0x30000000 ∷ 0x40000001 ∷ 0x40000000
    ∷ 0x20000000 ∷ 0x30000002 ∷ 0x30000001 ∷ 0x40000001 ∷ 0x30000000 ∷ 0x30000001 ∷ 0x40000002 ∷ 0x40000001 ∷ 0x40000000 ∷ 0x50000013 ∷ []

-- v: two tasks that claim two devices in opposite order, each with four claims and releases of a device of its own in between
abbrev pub v : Set
v = record {
  capacities = 1 ∷ 1 ∷ 1 ∷ 1 ∷ [];
  tasks =
      (claim 0 0 ∷ times 4 (claim 2 0 ∷ release 2 ∷ []) (claim 1 0 ∷ release 1 ∷ release 0 ∷ []))
      ∷ (claim 1 0 ∷ times 4 (claim 3 0 ∷ release 3 ∷ []) (claim 0 0 ∷ release 0 ∷ release 1 ∷ []))
      ∷ [];
}

pub record Plans : Type 0 where
  -- the task sets by their ascending lists: 01, 02, 03, 12, 13, 23; a task outside the set over 0 to its L
  pub m_plan : (analysed m 81 31).plan
      ≡ 0x60000000 ∷ 0x80000101 ∷ 0x80010101 ∷ 0x80020002 ∷ 0x80030002 ∷ 0x60000000 ∷ 0x80000101 ∷ 0x80010002 ∷ 0x80020101 ∷ 0x80030002
      ∷ 0x60000000 ∷ 0x80000101 ∷ 0x80010002 ∷ 0x80020002 ∷ 0x80030101 ∷ 0x60000000 ∷ 0x80000002 ∷ 0x80010101 ∷ 0x80020101 ∷ 0x80030002
      ∷ 0x60000000 ∷ 0x80000002 ∷ 0x80010101 ∷ 0x80020002 ∷ 0x80030101 ∷ 0x60000000 ∷ 0x80000002 ∷ 0x80010002 ∷ 0x80020101 ∷ 0x80030101
      ∷ 0x5000001E ∷ []
  -- the choices of holds, the first task's weighing most
  pub n_plan : (analysed n 25 13).plan
      ≡ 0x60000000 ∷ 0x80000101 ∷ 0x80010101 ∷ 0x60000000 ∷ 0x80000101 ∷ 0x80010303 ∷ 0x60000000 ∷ 0x80000303 ∷ 0x80010101
      ∷ 0x60000000 ∷ 0x80000303 ∷ 0x80010303 ∷ 0x5000000C ∷ []
  -- the unsafe boxes. By running, each of these gives others: the last blocker for the first, unsafe boxes before forbidden ones, states by rising rank, or with task 0 weighing least,
  -- a task's own blocker counted, the smallest lower bound for the largest, no box where a task is finished, a stop after the first box
  pub o_plan : (analysed o 343 46).plan
      ≡ 0x60000000 ∷ 0x80000104 ∷ 0x80010405 ∷ 0x80020104 ∷ 0x60000001 ∷ 0x80000205 ∷ 0x80010104 ∷ 0x80020006
      ∷ 0x60000001 ∷ 0x80000205 ∷ 0x80010006 ∷ 0x80020303 ∷ 0x60000001 ∷ 0x80000006 ∷ 0x80010104 ∷ 0x80020303
      ∷ 0x60000002 ∷ 0x80000303 ∷ 0x80010202 ∷ 0x80020006 ∷ 0x60000002 ∷ 0x80000303 ∷ 0x80010006 ∷ 0x80020205
      ∷ 0x60000002 ∷ 0x80000006 ∷ 0x80010202 ∷ 0x80020205 ∷ 0x70000000 ∷ 0x80000006 ∷ 0x80010101 ∷ 0x80020202
      ∷ 0x70000000 ∷ 0x80000202 ∷ 0x80010006 ∷ 0x80020202 ∷ 0x70000000 ∷ 0x80000101 ∷ 0x80010103 ∷ 0x80020102
      ∷ 0x9000003A ∷ 0x90000048 ∷ 0x90000064 ∷ 0x9000008E ∷ 0x9000012F ∷ 0x5000002D ∷ []
  -- positions of more than seven bits
  pub p_plan : (analysed p 2295 13).plan
      ≡ 0x60000000 ∷ 0x800001FD ∷ 0x80010101 ∷ 0x80020002 ∷ 0x60000000 ∷ 0x800001FD ∷ 0x80010002 ∷ 0x80020101
      ∷ 0x60000000 ∷ 0x800000FE ∷ 0x80010101 ∷ 0x80020101 ∷ 0x5000000C ∷ []
  -- a finished task has no step, and takes none from a dead state
  pub q_plan : (analysed q 25 14).plan
      ≡ 0x60000000 ∷ 0x80000103 ∷ 0x80010000 ∷ 0x80020202 ∷ 0x60000001 ∷ 0x80000202 ∷ 0x80010000 ∷ 0x80020103
      ∷ 0x70000000 ∷ 0x80000101 ∷ 0x80010000 ∷ 0x80020101 ∷ 0x90000006 ∷ 0x5000000D ∷ []
  -- the one dead state is (3, 4), and only (3, 3) steps onto it, which is permitted and not reached either
  pub u_plan : (analysed u 63 17).plan
      ≡ 0x60000000 ∷ 0x80000405 ∷ 0x80010407 ∷ 0x60000001 ∷ 0x80000204 ∷ 0x80010202 ∷ 0x60000001 ∷ 0x80000204 ∷ 0x80010506
      ∷ 0x60000002 ∷ 0x80000102 ∷ 0x80010105 ∷ 0x70000000 ∷ 0x80000203 ∷ 0x80010404 ∷ 0xA000001F ∷ 0x50000010 ∷ []
  -- 81 of 148 permitted states are unsafe, and 81,000 has more than 16 bits
  pub v_answer : (analysed (encode v) 169 11).answer ≡ given (record { words = 11; quotient = 547; remainder = 44 })
