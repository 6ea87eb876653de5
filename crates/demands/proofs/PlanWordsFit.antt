-- Each word of a plan fits 32 bits, so that eight hexadecimal digits stand for it.
use Prim.Native.Nat.{ℕ, suc, ◌+◌, ◌<◌, ◌≤◌}
use native.Mathlib.Omega.{arith}
use mathlib.Core.List.{List, [], ◌∷◌, ◌++◌}
use lib.ListN.{length, get_or, length-append}
use Rattle.model.specs.Set.{Set}
use Rattle.model.specs.Layout.{WellFormed, word, END, with_end}
use Rattle.model.specs.Box.{Box}
use Rattle.model.specs.Forbidden.{Forbidden}
use Rattle.model.specs.Plan.{plan_of, DEAD_STATE, UNREACHED_STATE, side_words, forbidden_words, unsafe_words, rank_words, plan_body, plan_words}
use Rattle.model.proofs.Each.{Each, each_at, each_append, each_map}
use Rattle.model.proofs.Fits.{FieldFits, SideFits, Sided, DeviceSided}
use Rattle.model.proofs.PlanFitting.{plan-fits, plan-length}

-- 32 bits
abbrev Fits : ℕ → Type 0
Fits w = w < 0x100000000

sides-fit : (t : ℕ) (b : Box) → Each SideFits b → t + length b ≤ 256 → Each Fits (side_words t b)
unfolding side_words
sides-fit t [] e h = tt
sides-fit t (i ∷ b) e h = (omega (arith, e.0.0, e.0.1), sides-fit (suc t) b e.1 (omega arith))

boxes-fit : (n : ℕ) → n ≤ 256 → (bs : List Box) → Each (Sided n) bs → Each Fits (unsafe_words bs)
unfolding unsafe_words
boxes-fit n h [] e = tt
boxes-fit n h (b ∷ bs) e =
    (omega arith, each_append Fits (side_words 0 b) (unsafe_words bs) (sides-fit 0 b e.0.sides (omega (arith, e.0.count))) (boxes-fit n h bs e.1))

forbidden-fit : (n : ℕ) → n ≤ 256 → (fs : List Forbidden) → Each (DeviceSided n) fs → Each Fits (forbidden_words fs)
unfolding forbidden_words
forbidden-fit n h [] e = tt
forbidden-fit n h (f ∷ fs) e = (
  omega (arith, e.0.device),
  each_append Fits (side_words 0 f.box) (forbidden_words fs) (sides-fit 0 f.box e.0.box.sides (omega (arith, e.0.box.count))) (forbidden-fit n h fs e.1),
)

ranks-fit : (kind : ℕ) → kind < 16 → (ranks : List ℕ) → Each FieldFits ranks → Each Fits (rank_words kind ranks)
ranks-fit kind h = each_map FieldFits Fits (word kind) (λ r k. omega arith)

-- all of them: the sections, and END
all_fit : (s : Set) → WellFormed s → Each Fits (plan_words (plan_of s))
unfolding plan_words with_end
all_fit s w =
    let p = plan_of s in
    let f = plan-fits s w in
    let forbiddens = forbidden_words p.forbidden in
    let unsafes = unsafe_words p.unsafe in
    let reached = rank_words DEAD_STATE p.reached in
    let others = rank_words UNREACHED_STATE p.unreached in
    each_append Fits (plan_body p) (word END (length (plan_body p)) ∷ [])
    (each_append Fits (forbiddens ++ unsafes) (reached ++ others)
    (each_append Fits forbiddens unsafes
    (forbidden-fit (length s.tasks) f.tasks p.forbidden f.lists.forbidden)
    (boxes-fit (length s.tasks) f.tasks p.unsafe f.lists.unsafe))
    (each_append Fits reached others
    (ranks-fit DEAD_STATE (omega arith) p.reached f.lists.reached.fit)
    (ranks-fit UNREACHED_STATE (omega arith) p.unreached f.lists.unreached.fit)))
    (omega (arith, plan-length s w, length-append (plan_body p) (word END (length (plan_body p)) ∷ [])), tt)

pub plan-words-fit : (s : Set) → WellFormed s → (i : ℕ) → i < length (plan_words (plan_of s)) → get_or (plan_words (plan_of s)) i 0 < 0x100000000
plan-words-fit s w = each_at Fits 0 (plan_words (plan_of s)) (all_fit s w)
