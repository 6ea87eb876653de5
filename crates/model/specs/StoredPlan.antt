-- A stored plan, questioned without its set (SCOPE.md, "Stored plans"; refusals 22 and 23).
use Rattle.std.specs.Prelude.{ℕ, suc, Bool, true, false, not, cond, ◌&&◌, ◌||◌, List, [], ◌∷◌, map, take, eqb, ltb, leb}
use Rattle.std.proofs.Math.Option.{Option, none, some}
use Rattle.model.specs.Answer.{Answer, given, refused, ◌then◌}
use Rattle.model.specs.Layout.{kind_of, field_of, END}
use Rattle.model.specs.State.{State}
use Rattle.model.specs.Box.{Box, inside}
use Rattle.model.specs.Plan.{FORBIDDEN_BOX, UNSAFE_BOX, DEAD_STATE, UNREACHED_STATE, side_word, side_of}

-- where a scan of a plan's words stands
pub record PlanScan : Type 0 where
  -- the kind of the last box or rank, 6 before the first: no lower kind may follow, but END
  pub section : ℕ
  -- how many sides the last box has so far; the task count where none is missing
  pub sides : ℕ
  -- the lowest rank that may come next of the kind in `section`
  pub least : ℕ
  -- whether END came
  pub ended : Bool

-- the word of a side of task t, kind 8: its lowest at most its highest position, its unused bits 0
unfoldable pub is_side : ℕ → ℕ → Bool
is_side t w = eqb w (side_word t (side_of w)) && leb (side_of w).low (side_of w).high

-- the kinds of words that name states by their ranks
unfoldable pub is_rank : ℕ → Bool
is_rank k = eqb k DEAD_STATE || eqb k UNREACHED_STATE

-- a word that may stand at index i where no side is missing: END with its index; else of kind 6 with a device below 16, then 7 with field 0, then 9 and then A, both
-- with a rank above the last of their kind
unfoldable pub may_follow : PlanScan → ℕ → ℕ → Bool
may_follow s i w =
    let k = kind_of w in
    let f = field_of w in
    cond (eqb k END) (eqb f i)
    (leb s.section k
    && cond (eqb k FORBIDDEN_BOX) (ltb f 16)
    (cond (eqb k UNSAFE_BOX) (eqb f 0)
    (is_rank k && (ltb s.section k || leb s.least f))))

-- n is the task count
module _ (n : ℕ) where
  -- before the first word
  abbrev pub nothing_scanned : PlanScan
  nothing_scanned = record { section = FORBIDDEN_BOX; sides = n; least = 0; ended = false }

  -- a word of the layout at index i: none after END, each box with a side for every task, ascending
  unfoldable pub in_layout : PlanScan → ℕ → ℕ → Bool
  in_layout s i w = not s.ended && cond (ltb s.sides n) (is_side s.sides w) (may_follow s i w)

  -- after one more word: a side, END, a rank, or the first word of a box
  unfoldable pub scan_word : PlanScan → ℕ → PlanScan
  scan_word s w =
      let k = kind_of w in
      cond (ltb s.sides n) (record { section = s.section; sides = suc s.sides; least = s.least; ended = s.ended })
      (cond (eqb k END) (record { section = s.section; sides = n; least = s.least; ended = true })
      (cond (is_rank k) (record { section = k; sides = n; least = suc (field_of w); ended = false })
      (record { section = k; sides = 0; least = 0; ended = false })))

  -- the words from index i on: 23 at the first outside the layout, at the number of all words if END is missing
  unfoldable pub scan_from : PlanScan → ℕ → List ℕ → Answer (Unit {0})
  scan_from s i [] = cond s.ended (given tt) (refused 23 i)
  scan_from s i (w ∷ ws) = cond (in_layout s i w) (scan_from (scan_word s w) (suc i) ws) (refused 23 i)

  -- a box by the words behind its first: the intervals of its n sides
  abbrev pub box_of : List ℕ → Box
  box_of ws = map side_of (take n ws)

  -- of the words from index i on, the index of the first that begins a box of this kind which holds the state
  unfoldable pub first_of : ℕ → State → ℕ → List ℕ → Option ℕ
  first_of kind x i [] = none
  first_of kind x i (w ∷ ws) = cond (eqb (kind_of w) kind && inside (box_of ws) x) (some i) (first_of kind x (suc i) ws)

-- where a state lies: in a forbidden box, in an unsafe one, with the index of its first word, or in neither
pub data Location : Type 0 where
  in-forbidden in-unsafe : ℕ → Location
  in_neither : Location

-- forbidden boxes first
unfoldable pub location_of : Option ℕ → Option ℕ → Location
location_of (some i) u = in-forbidden i
location_of none (some i) = in-unsafe i
location_of none none = in_neither

-- 22: a task count outside 1 to 8; 23 over the whole plan; else where the state lies, of which the positions past the task count are unread
unfoldable pub locate : State → List ℕ → ℕ → Answer Location
locate x ws n =
    let y = take n x in
    cond (not (leb 1 n && leb n 8)) (refused 22 0)
    (scan_from n (nothing_scanned n) 0 ws then λ _. given (location_of (first_of n FORBIDDEN_BOX y 0 ws) (first_of n UNSAFE_BOX y 0 ws)))
