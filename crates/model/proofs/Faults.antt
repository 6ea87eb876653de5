-- What a word without a fault is, and how the reading goes on after it.
use Prim.Native.Nat.{ℕ, suc, ◌<◌}
use native.Mathlib.Omega.{arith}
use mathlib.Core.Path.{◌≡◌, refl}
use mathlib.Core.Bool.{Bool, true, false, not, cond, ◌&&◌, ◌||◌}
use mathlib.Core.List.{List, ◌∷◌}
use lib.Dec.{eqb, ltb, leb}
use borrow.Author.Tests.{ltb-false, leb-true, eqb-true, eqb-false, not-false}
use Rattle.model.specs.Set.{Task, Set}
use Rattle.model.specs.Layout.{word, kind_of, field_of, device_bits, DEVICE, TASK, CLAIM, RELEASE, END}
use Rattle.model.specs.Answer.{given, refused}
use Rattle.model.specs.Read.{Scan, note, holds_now, holds_some, out_of_order, field_allowed, too_many, too_many_units, fault, Reading, read_from}
use Rattle.model.proofs.Bools.{by_bool, and-true}
use Rattle.model.proofs.Answers.{refused-given}
use Rattle.model.proofs.Words.{set_with, kind-word, field-word, word-parts}

-- the words of a set were read, and no END
abbrev pub scan_of : List ℕ → List Task → Scan
scan_of cs ts = record { set = set_with cs ts; ended = false }

-- the word of kind k and field f at index i passes each test
pub record Passes (s : Scan) (i k f : ℕ) : Type 0 where
  pub before-end : s.ended ≡ false
  pub kind : (leb 1 k && leb k 5) ≡ true
  pub order : out_of_order s k ≡ false
  pub field : field_allowed s i k f ≡ true
  pub room : too_many s k ≡ false
  pub units : (eqb k CLAIM && too_many_units s f) ≡ false
  pub claimed : (eqb k CLAIM && holds_now s (device_bits f)) ≡ false
  pub released : (eqb k RELEASE && not (holds_now s f)) ≡ false
  pub closed : ((eqb k TASK || eqb k END) && holds_some s) ≡ false

module _ (s : Scan) (i k f : ℕ) where
  pub passes-fault : Passes s i k f → fault s i k f ≡ 0
  unfolding fault out_of_order field_allowed too_many too_many_units
  passes-fault p = rw (p.before-end, p.kind, p.order, p.field, p.room, p.units, p.claimed, p.released, p.closed)

  pub fault-passes : fault s i k f ≡ 0 → Passes s i k f
  unfolding fault
  fault-passes e =
      let p₃ = first s.ended 2 _ e in
      let p₄ = first (not (leb 1 k && leb k 5)) 3 _ p₃.1 in
      let p₅ = first (out_of_order s k) 4 _ p₄.1 in
      let p₆ = first (not (field_allowed s i k f)) 5 _ p₅.1 in
      let p₇ = first (too_many s k) 6 _ p₆.1 in
      let p₂₈ = first (eqb k CLAIM && too_many_units s f) 27 _ p₇.1 in
      let p₈ = first (eqb k CLAIM && holds_now s (device_bits f)) 7 _ p₂₈.1 in
      let p₉ = first (eqb k RELEASE && not (holds_now s f)) 8 _ p₈.1 in
      let p₁₀ = first ((eqb k TASK || eqb k END) && holds_some s) 9 _ p₉.1 in
      record {
        before-end = p₃.0;
        kind = not-false _ p₄.0;
        order = p₅.0;
        field = not-false _ p₆.0;
        room = p₇.0;
        units = p₂₈.0;
        claimed = p₈.0;
        released = p₉.0;
        closed = p₁₀.0;
      }
    where
      -- a test whose number doesn't come is not met
      first : (b : Bool) (n m : ℕ) → cond b (suc n) m ≡ 0 → (b ≡ false) × (m ≡ 0)
      first true n m z = absurd (omega arith)
      first false n m z = (refl, z)

-- a word without a fault is noted
pub read_word : (s : Scan) (i k f : ℕ) (ws : List ℕ) → f < 0x10000000 → Passes s i k f → read_from s i (word k f ∷ ws) ≡ read_from (note s k f) (suc i) ws
unfolding read_from
read_word s i k f ws h p = rw (kind-word k f h, field-word k f h, passes-fault s i k f p)

-- ---- words that are accepted
pub not-refused : (b : Bool) (n p : ℕ) (x : Reading) (r : Set) → cond b (refused n p) x ≡ given r → (b ≡ false) × (x ≡ given r)
not-refused true n p x r e = refused-given e
not-refused false n p x r e = (refl, e)

-- the word w at index i, of kind k and field f, passes, and the words after it are accepted with the set r
pub record WordRead (s : Scan) (i w : ℕ) (ws : List ℕ) (r : Set) (k f : ℕ) : Type 0 where
  pub made : w ≡ word k f
  pub passes : Passes s i k f
  pub after : read_from (note s k f) (suc i) ws ≡ given r

module _ (s : Scan) (i w : ℕ) (ws : List ℕ) (r : Set) (e : read_from s i (w ∷ ws) ≡ given r) where
  pub word-reads : WordRead s i w ws r (kind_of w) (field_of w)
  unfolding read_from
  word-reads =
      let k = kind_of w in
      let f = field_of w in
      let n = fault s i k f in
      let p = not-refused (ltb 0 n) n i (read_from (note s k f) (suc i) ws) r e in
      let none = ltb-false 0 n p.0 in
      record { made = word-parts w; passes = fault-passes s i k f (omega arith); after = p.1 }

  -- its kind is one of five
  pub by_kind : {G : Type 0} → ((f : ℕ) → WordRead s i w ws r DEVICE f → G) → ((f : ℕ) → WordRead s i w ws r TASK f → G) → ((f : ℕ) → WordRead s i w ws r CLAIM f → G)
      → ((f : ℕ) → WordRead s i w ws r RELEASE f → G) → ((f : ℕ) → WordRead s i w ws r END f → G) → G
  by_kind device task claim release end =
      let k = kind_of w in
      let f = field_of w in
      let x = word-reads in
      let range = and-true (leb 1 k) (leb k 5) x.passes.kind in
      let low = leb-true 1 k range.0 in
      let high = leb-true k 5 range.1 in
      by_bool (eqb k DEVICE) (λ t. device f (rw (eqb-true k DEVICE t) at x)) λ n₁.
      by_bool (eqb k TASK) (λ t. task f (rw (eqb-true k TASK t) at x)) λ n₂.
      by_bool (eqb k CLAIM) (λ t. claim f (rw (eqb-true k CLAIM t) at x)) λ n₃.
      by_bool (eqb k RELEASE) (λ t. release f (rw (eqb-true k RELEASE t) at x)) λ n₄.
      let last : k ≡ END = omega (arith, eqb-false k DEVICE n₁, eqb-false k TASK n₂, eqb-false k CLAIM n₃, eqb-false k RELEASE n₄) in
      end f (rw last at x)
