-- The reading accepts the words of each set that its rules take for well formed, and answers that set.
use Prim.Native.Nat.{ℕ, suc, ◌+◌, ◌<◌, ◌≤◌}
use native.Mathlib.Omega.{arith}
use native.Mathlib.Nat.{add-zero, zero-add}
use mathlib.Core.Path.{◌≡◌, refl, sym, ap, ap₂, ◌∙◌}
use mathlib.Core.Bool.{true, false, not}
use mathlib.Core.List.{List, [], ◌∷◌, ◌++◌, map, append-nil, append_assoc}
use lib.ListN.{length, length-append, length-map}
use borrow.Author.Tests.{lt-ltb, le-ltb, le-leb, lt-leb, eq-eqb, ne_eqb}
use Rattle.model.specs.Set.{Action, claim, release, device_of, units_taken, Task, Set, lengths_of, claimed, at, size, balanced, GoodTask}
use Rattle.model.specs.Layout.{word, claim_field, DEVICE, TASK, CLAIM, RELEASE, END, action_word, task_words, body, with_end, encode, Rules, WellFormedBy}
use Rattle.model.specs.Answer.{given, ◌then◌}
use Rattle.model.specs.Read.{last_task, add_action, held_after, note, out_of_order, field_allowed, too_many, too_many_units, read_from, read_words, first_unclaimed, close, read_by}
use Rattle.model.proofs.Bools.{any_none}
use Rattle.model.proofs.Counts.{none-lowest}
use Rattle.model.proofs.Held.{EachPlace, Declared, WithinUnits, count_add, last-added, action-added, held-append, releases, balanced-first, balanced-next, balanced-close}
use Rattle.model.proofs.Words.{set_with, device-field, extra-field}
use Rattle.model.proofs.Faults.{scan_of, Passes, read_word}

-- ---- each word's tests
pass-device : (cs : List ℕ) (c i : ℕ) → 1 ≤ c → c ≤ 8 → length cs < 16 → Passes (scan_of cs []) i DEVICE c
unfolding out_of_order field_allowed too_many
pass-device cs c i low high room =
    record {
      before-end = refl;
      kind = refl;
      order = refl;
      field = rw (le-leb 1 c low, le-leb c 8 high);
      room = lt-leb 16 (length cs) room;
      units = refl;
      claimed = refl;
      released = refl;
      closed = refl;
    }

-- the task opened last holds nothing
abbrev pub Closed : ℕ → List Task → Type 0
Closed n ts = (d : ℕ) → d < n → held_after d false (last_task ts) ≡ false

pass-task : (cs : List ℕ) (ts : List Task) (i : ℕ) → length ts < 8 → Closed (length cs) ts → Passes (scan_of cs ts) i TASK 0
unfolding out_of_order field_allowed too_many
pass-task cs ts i room none =
    record {
      before-end = refl;
      kind = refl;
      order = refl;
      field = refl;
      room = lt-leb 8 (length ts) room;
      units = refl;
      claimed = refl;
      released = refl;
      closed = any_none (length cs) _ none;
    }

pass-end : (cs : List ℕ) (ts : List Task) (i : ℕ) → 1 ≤ length ts → Closed (length cs) ts → Passes (scan_of cs ts) i END i
unfolding out_of_order field_allowed too_many
pass-end cs ts i some none =
    record {
      before-end = refl;
      kind = refl;
      order = ne_eqb (length ts) 0 (λ z. omega arith);
      field = eq-eqb i i refl;
      room = refl;
      units = refl;
      claimed = refl;
      released = refl;
      closed = any_none (length cs) _ none;
    }

module _ (cs : List ℕ) (ts : List Task) (t : Task) (d i : ℕ) (declared : d < length cs) (room : length t < 255) where
  pass-claim : (e : ℕ) → d < 0x10000 → e < 0x100 → suc e ≤ at cs d → held_after d false t ≡ false
      → Passes (scan_of cs (ts ++ (t ∷ []))) i CLAIM (claim_field d e)
  unfolding out_of_order field_allowed too_many too_many_units
  pass-claim e small few units free =
      let low = device-field d e small few in
      record {
        before-end = refl;
        kind = refl;
        order = ne_eqb (length (ts ++ (t ∷ []))) 0 (λ z. omega (arith, count_add ts t));
        field = rw (lt-ltb (claim_field d e) 0x1000000 (omega arith), low) (lt-ltb d (length cs) declared);
        room = rw (last-added ts t) (lt-leb 255 (length t) room);
        units = rw (low, extra-field d e small few) (le-ltb (at cs d) (suc e) units);
        claimed = rw (last-added ts t, low) free;
        released = refl;
        closed = refl;
      }

  pass-release : held_after d false t ≡ true → Passes (scan_of cs (ts ++ (t ∷ []))) i RELEASE d
  unfolding out_of_order field_allowed too_many
  pass-release held =
      record {
        before-end = refl;
        kind = refl;
        order = ne_eqb (length (ts ++ (t ∷ []))) 0 (λ z. omega (arith, count_add ts t));
        field = lt-ltb d (length cs) declared;
        room = rw (last-added ts t) (lt-leb 255 (length t) room);
        units = refl;
        claimed = refl;
        released = rw (last-added ts t, held);
        closed = refl;
      }

-- ---- device by device, action by action, task by task
pub devices : (cs ds : List ℕ) (i : ℕ) (rest : List ℕ) → EachPlace (λ c. (1 ≤ c) × (c ≤ 8)) ds 0 → length cs + length ds ≤ 16
    → read_from (scan_of cs []) i (map (word DEVICE) ds ++ rest) ≡ read_from (scan_of (cs ++ ds) []) (i + length ds) rest
unfolding note
devices cs [] i rest ok n = rw (append-nil cs, add-zero i)
devices cs (c ∷ ds) i rest ok n =
    let here = ok 0 (omega arith) in
    let more : length (cs ++ (c ∷ [])) + length ds ≤ 16 = rw (length-append cs (c ∷ [])) (omega arith) in
    read_word (scan_of cs []) i DEVICE c (map (word DEVICE) ds ++ rest) (omega arith) (pass-device cs c i here.0 here.1 (omega arith))
    ∙ devices (cs ++ (c ∷ [])) ds (suc i) rest (λ p k. ok (suc p) (omega arith)) more
    ∙ ap₂ (λ (l : List ℕ) (k : ℕ). read_from (scan_of l []) k rest) (append_assoc cs (c ∷ []) ds) (omega arith)

module _ (cs : List ℕ) (few : length cs ≤ 16) (capacities : EachPlace (λ c. (1 ≤ c) × (c ≤ 8)) cs 0) where
  -- an action that its task may do now is added to it
  action : (ts : List Task) (t : Task) (a : Action) (i : ℕ) (ws : List ℕ)
      → length t < 255 → device_of a < length cs → units_taken a ≤ at cs (device_of a) → held_after (device_of a) false t ≡ releases a
      → read_from (scan_of cs (ts ++ (t ∷ []))) i (action_word a ∷ ws) ≡ read_from (scan_of cs (ts ++ ((t ++ (a ∷ [])) ∷ []))) (suc i) ws
  unfolding note action_word device_of units_taken releases
  action ts t (claim d e) i ws room declared units free =
      let small : d < 0x10000 = omega arith in
      let extra : e < 0x100 = omega (arith, (capacities d declared).1) in
      read_word (scan_of cs (ts ++ (t ∷ []))) i CLAIM (claim_field d e) ws (omega arith) (pass-claim cs ts t d i declared room e small extra units free)
      ∙ ap₂ (λ (c u : ℕ). read_from (scan_of cs (add_action (ts ++ (t ∷ [])) (claim c u))) (suc i) ws) (device-field d e small extra) (extra-field d e small extra)
      ∙ ap (λ (l : List Task). read_from (scan_of cs l) (suc i) ws) (action-added ts t (claim d e))
  action ts t (release d) i ws room declared units held =
      read_word (scan_of cs (ts ++ (t ∷ []))) i RELEASE d ws (omega arith) (pass-release cs ts t d i declared room held)
      ∙ ap (λ (l : List Task). read_from (scan_of cs l) (suc i) ws) (action-added ts t (release d))

  actions : (ts : List Task) (t u : Task) (i : ℕ) (rest : List ℕ)
      → length t + length u ≤ 255 → Declared (length cs) u → WithinUnits cs u → ((d : ℕ) → balanced d (held_after d false t) u ≡ true)
      → read_from (scan_of cs (ts ++ (t ∷ []))) i (map action_word u ++ rest) ≡ read_from (scan_of cs (ts ++ ((t ++ u) ∷ []))) (i + length u) rest
  actions ts t [] i rest l ok within b = rw (append-nil t, add-zero i)
  actions ts t (a ∷ u) i rest l ok within b =
      let e = device_of a in
      let v = t ++ (a ∷ []) in
      let may = balanced-first e (held_after e false t) a u (b e) (eq-eqb e e refl) in
      let more : length v + length u ≤ 255 = rw (length-append t (a ∷ [])) (omega arith) in
      action ts t a i (map action_word u ++ rest) (omega arith) (ok 0 (omega arith)) (within 0 (omega arith)) may
      ∙ actions ts v u (suc i) rest more (λ p k. ok (suc p) (omega arith)) (λ p k. within (suc p) (omega arith)) (λ d. rw (held-append d false t (a ∷ [])) (balanced-next d _ a u (b d)))
      ∙ ap₂ (λ (w : Task) (k : ℕ). read_from (scan_of cs (ts ++ (w ∷ []))) k rest) (append_assoc t (a ∷ []) u) (omega arith)

  pub tasks : (ts us : List Task) (i : ℕ) (rest : List ℕ) → length ts + length us ≤ 8 → Closed (length cs) ts → EachPlace (GoodTask cs) us []
      → (read_from (scan_of cs ts) i (task_words us ++ rest) ≡ read_from (scan_of cs (ts ++ us)) (i + length (task_words us)) rest) × Closed (length cs) (ts ++ us)
  unfolding note task_words held_after
  tasks ts [] i rest m none ok = (rw (append-nil ts, add-zero i), rw (append-nil ts) none)
  tasks ts (t ∷ us) i rest m none ok =
      let good = ok 0 (omega arith) in
      let ws = task_words us ++ rest in
      let more : length (ts ++ (t ∷ [])) + length us ≤ 8 = rw (count_add ts t) (omega arith) in
      let closed : Closed (length cs) (ts ++ (t ∷ [])) = λ d h. rw (last-added ts t) (balanced-close d false t (good.balance d)) in
      let later = tasks (ts ++ (t ∷ [])) us (suc i + length t) rest more closed (λ p k. ok (suc p) (omega arith)) in (
        ap (λ (l : List ℕ). read_from (scan_of cs ts) i (word TASK 0 ∷ l)) (append_assoc (map action_word t) (task_words us) rest)
            ∙ read_word (scan_of cs ts) i TASK 0 (map action_word t ++ ws) (omega arith) (pass-task cs ts i (omega arith) none)
            ∙ actions ts [] t (suc i) ws (omega (arith, good.actions)) good.declared good.units good.balance
            ∙ later.0
            ∙ ap₂ (λ (l : List Task) (k : ℕ). read_from (scan_of cs l) k rest) (append_assoc ts (t ∷ []) us) (simp (length-append, length-map) (omega arith)),
        rw (append_assoc ts (t ∷ []) us) at later.1,
      )

  ends : (ts : List Task) (i : ℕ) → 1 ≤ length ts → i < 4096 → Closed (length cs) ts
      → read_from (scan_of cs ts) i (word END i ∷ []) ≡ given (set_with cs ts)
  unfolding note read_from
  ends ts i some l none = read_word (scan_of cs ts) i END i [] (omega arith) (pass-end cs ts i some none)

-- what the words of a set are held to: all that is asked of it but what is looked at after them, the claims of each device and the grid
pub record InWords (s : Set) : Type 0 where
  pub capacities : EachPlace (λ c. (1 ≤ c) × (c ≤ 8)) s.capacities 0
  pub devices : length s.capacities ≤ 16
  pub some_task : 1 ≤ length s.tasks
  pub tasks : length s.tasks ≤ 8
  pub each_task : EachPlace (GoodTask s.capacities) s.tasks []
  pub words : length (encode s) ≤ 4096

from_nothing : (s : Set) → InWords s → read_from (scan_of [] []) 0 (encode s) ≡ given s
unfolding body with_end held_after last_task
from_nothing s w =
    let cs = s.capacities in
    let ts = s.tasks in
    let n = length (body s) in
    let end = word END n ∷ [] in
    let size : length cs + length (task_words ts) ≡ n = simp (length-append, length-map) in
    let words : suc n ≤ 4096 = omega (arith, w.words, length-append (body s) end) in
    let read-tasks = tasks cs w.devices w.capacities [] ts (length cs) end (omega (arith, w.tasks)) (λ d h. refl) w.each_task in
    ap (read_from (scan_of [] []) 0) (append_assoc (map (word DEVICE) cs) (task_words ts) end)
    ∙ devices [] cs 0 (task_words ts ++ end) w.capacities (omega (arith, w.devices))
    ∙ ap (λ (k : ℕ). read_from (scan_of cs []) k (task_words ts ++ end)) (zero-add (length cs))
    ∙ read-tasks.0
    ∙ ap (λ (k : ℕ). read_from (scan_of cs ts) k end) size
    ∙ ends cs w.devices w.capacities ts n w.some_task words read-tasks.1

pub words-complete : (s : Set) → InWords s → read_words (encode s) ≡ given s
unfolding read_words with_end
words-complete s w =
    let some : length (encode s) ≡ 0 → ⊥ = λ z. omega (arith, length-append (body s) (word END (length (body s)) ∷ [])) in
    rw (ne_eqb (length (encode s)) 0 some, le-ltb 4096 (length (encode s)) w.words) (from_nothing s w)

-- a set whose devices are claimed if the rules ask for it, and whose grid is within its limit, is closed
close-complete : (rules : Rules) (n : ℕ) (s : Set) → WellFormedBy rules s → close rules n s ≡ given s
unfolding close
close-complete true n s w =
    let all = none-lowest (length s.capacities) (λ d. not (claimed s.tasks d)) (λ d h. rw (w.each_device refl d h)) in
    rw (le-ltb (first_unclaimed s) (length s.capacities) (omega (arith, all)), le-ltb 65536 (size (lengths_of s)) w.grid)
close-complete false n s w = rw (le-ltb 65536 (size (lengths_of s)) w.grid)

pub in_words : {rules : Rules} (s : Set) → WellFormedBy rules s → InWords s
in_words s w =
    record {
      capacities = w.capacities;
      devices = w.devices;
      some_task = w.some_task;
      tasks = w.tasks;
      each_task = w.each_task;
      words = w.words;
    }

pub read-complete : (rules : Rules) (s : Set) → WellFormedBy rules s → read_by rules (encode s) ≡ given s
unfolding read_by ◌then◌
read-complete rules s w = rw (words-complete s (in_words s w)) (close-complete rules (length (encode s)) s w)

-- two well-formed sets with the same words are the same
pub encode_injective : {rules : Rules} (s r : Set) → WellFormedBy rules s → WellFormedBy rules r → encode s ≡ encode r → s ≡ r
encode_injective s r w v e =
    let both : given s ≡ given r = sym (words-complete s (in_words s w)) ∙ ap read_words e ∙ words-complete r (in_words r v) in
    cc
