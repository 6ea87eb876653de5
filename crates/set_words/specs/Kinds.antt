-- The kinds of words by their numbers (SCOPE.md, "Sets", "Plans").
use Rattle.std.specs.Prelude.{ℕ, Option, Some, None, cond, eqb}
use Rattle.set_words.specs.declared.kinds.Kind.{Kind}
use Rattle.set_words.specs.declared.kinds.Kind.TheVariants.{Device, Task, Claim, Release, End, ForbiddenBox, UnsafeBox, Side, DeadState, UnreachedState}

-- the number of each kind
abbrev pub number_of : Kind → ℕ
number_of Device = 1
number_of Task = 2
number_of Claim = 3
number_of Release = 4
number_of End = 5
number_of ForbiddenBox = 6
number_of UnsafeBox = 7
number_of Side = 8
number_of DeadState = 9
number_of UnreachedState = 10

-- the kind of each number, none for a number that stands for no kind
unfoldable pub kind_named : ℕ → Option Kind
kind_named n =
    cond (eqb n 1) (Some Device)
    (cond (eqb n 2) (Some Task)
    (cond (eqb n 3) (Some Claim)
    (cond (eqb n 4) (Some Release)
    (cond (eqb n 5) (Some End)
    (cond (eqb n 6) (Some ForbiddenBox)
    (cond (eqb n 7) (Some UnsafeBox)
    (cond (eqb n 8) (Some Side)
    (cond (eqb n 9) (Some DeadState)
    (cond (eqb n 10) (Some UnreachedState)
    None)))))))))
