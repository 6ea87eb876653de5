-- How the code's walk follows the model's scan: for the contracts of the reader's own functions.
use Rattle.std.specs.Prelude.{ℕ, ◌+◌, Bool, true, false, cond, ◌&&◌, ◌||◌, List, length, Option, Some, None, Result, Ok, Err, eqb, ltb, leb}
use Rattle.model.specs.Set.{at}
use Rattle.model.specs.Layout.{field_of}
use Rattle.model.specs.Hold.{within}
use Rattle.model.specs.Plan.{FORBIDDEN_BOX, UNSAFE_BOX, side_of}
use Rattle.model.specs.StoredPlan.{PlanScan, is_side, is_rank}
use Rattle.refusals.specs.declared.Reason.TheVariants.{OutsideLayout}
use Rattle.refusals.specs.declared.Refusal.{Refusal}
use Rattle.set_words.specs.Kinds.{number_of}
use Rattle.set_words.specs.declared.kinds.Kind.{Kind}
use Rattle.set_words.specs.declared.kinds.Kind.TheVariants.{ForbiddenBox}
use Rattle.plan_reader.specs.declared.Location.{Location}
use Rattle.plan_reader.specs.declared.Location.TheVariants.{Forbidden, Unsafe, Neither}
use Rattle.plan_reader.specs.declared.seen.Seen.{Seen}

-- the scan that a walk has made, where END didn't come
abbrev pub scan_of : Seen → PlanScan
scan_of s = record { section = number_of s.section; sides = s.sides; least = s.least; ended = false }

-- the word at index i of a plan, none past the last one
abbrev pub word_at : List ℕ → ℕ → Option ℕ
word_at ws i = cond (leb (length ws) i) None (Some (at ws i))

-- before the first word, of n tasks
abbrev pub before : ℕ → Seen
before n = record { section = ForbiddenBox; sides = n; least = 0; start = 0; holds = false; found = Neither }

-- the answer where the last box is the first that holds the state
abbrev pub last_box : Seen → Location
last_box s = cond (eqb (number_of s.section) FORBIDDEN_BOX) (Forbidden s.start) (Unsafe s.start)

-- no box so far holds the state
abbrev pub nothing_found : Location → Bool
nothing_found (Forbidden index) = false
nothing_found (Unsafe index) = false
nothing_found Neither = true

-- 23 at index i
abbrev pub outside_at : {A : Type 0} → ℕ → Result A Refusal
outside_at i = Err (record { reason = OutsideLayout; place = i })

-- one more side, of the task that has position p; the last one tells whether the box holds the state
abbrev pub side_noted : ℕ → ℕ → Seen → ℕ → Seen
side_noted n p s w =
    let holds = s.holds && within (side_of w) p in
    record s { sides = s.sides + 1; holds = holds; found = cond (eqb (s.sides + 1) n && holds) (last_box s) s.found }

-- a rank, by its word's kind and field
abbrev pub rank_noted : ℕ → Seen → Kind → ℕ → Seen
rank_noted n s kind rank = record s { section = kind; sides = n; least = rank + 1 }

-- the first word of a box, of this kind and at index i; it can be the first that holds the state if none was found
abbrev pub box_noted : Seen → Kind → ℕ → Seen
box_noted s kind i = record s { section = kind; sides = 0; least = 0; start = i; holds = nothing_found s.found }

-- a word at index i where a side is missing, of the task that has position p
abbrev pub side_taken : ℕ → ℕ → Seen → ℕ → ℕ → Result Seen Refusal
side_taken n p s i w = cond (is_side s.sides w) (Ok (side_noted n p s w)) (outside_at i)

-- END at index i of so many words: it names that index, and a word after it is outside the layout
abbrev pub end_taken : ℕ → Location → ℕ → ℕ → Result Location Refusal
end_taken count found i w = cond (eqb (field_of w) i) (cond (ltb (i + 1) count) (outside_at (i + 1)) (Ok found)) (outside_at i)

-- the kinds and fields of words other than END that may stand where no side is missing
abbrev pub follows : Seen → ℕ → ℕ → Bool
follows s k f =
    leb (number_of s.section) k
    && cond (eqb k FORBIDDEN_BOX) (ltb f 16)
    (cond (eqb k UNSAFE_BOX) (eqb f 0)
    (is_rank k && (ltb (number_of s.section) k || leb s.least f)))

-- such a word at index i, by its kind and field
abbrev pub head_taken : ℕ → Seen → ℕ → Option Kind → ℕ → Result Seen Refusal
head_taken n s i None f = outside_at i
head_taken n s i (Some k) f =
    cond (follows s (number_of k) f)
    (Ok (cond (is_rank (number_of k)) (rank_noted n s k f)
    (box_noted s k i)))
    (outside_at i)
