-- What each kind of word does to the code's scan, where the model finds no fault in it, and the limits that it keeps.
use Prim.Native.Nat.{ℕ, suc, ◌+◌, ◌-◌, ◌≤◌}
use mathlib.Core.Path.{◌≡◌, refl}
use mathlib.Core.List.{List, [], ◌∷◌, ◌++◌}
use mathlib.Core.Bool.{Bool, true, false, cond}
use native.Mathlib.Nat.{not-suc-le-zero}
use native.Mathlib.Omega.{arith}
use borrow.Author.Tests.{ltb-true, ltb-false, leb-true, leb-false, eq-eqb, ne_eqb, not-false}
use lib.ListN.{length, set, length-append}
use lib.Dec.{eqb, ltb, leb}
use Rattle.model.specs.Below.{any, tabulate}
use Rattle.model.specs.Set.{Task, lengths, claimed}
use Rattle.model.specs.Layout.{task_words}
use Rattle.model.specs.Read.{last_task, add_action, held_after, nothing_read, note, holds_now, out_of_order, field_allowed, too_many, fault}
use Rattle.model.specs.Read as model
use Rattle.model.proofs.Bools.{true-not-false, and-true}
use Rattle.model.proofs.Held.{place-added, count_add, last-added}
use Rattle.model.proofs.Faults.{fault-passes}
use Rattle.shape.specs.ShapeOf.{padded, starts_from}
use Rattle.reader.specs.Follow.{scanned, scan_of, Limits}
use Rattle.reader.proofs.Arrays.{padded-add}
use Rattle.model.proofs.Lists.{tabulate-cong, tabulate-set}
use Rattle.reader.proofs.Claims.{claimed-open, claimed-named}
use Rattle.reader.proofs.Held.{none_passes}
use Rattle.reader.proofs.LastTask.{act, named, counts-open, start_open, words_open, tasks-act, last-act, words-act, starts-act, count-act, held-act}

no_task : (ts : List Task) → length ts ≤ 0 → ts ≡ []
no_task [] h = refl
no_task (t ∷ ts) h = absurd (not-suc-le-zero h)

pub start-limits : Limits nothing_read 0
unfolding task_words last_task held_after
start-limits = record { running = refl; devices = omega arith; some_unit = λ d h. absurd (omega arith); tasks = omega arith; words = refl; declared = λ d h. refl }

module _ (m : model.Scan) (i f : ℕ) (ok : Limits m i) where
  abbrev cs : List ℕ
  cs = m.set.capacities

  abbrev ts : List Task
  ts = m.set.tasks

  -- ---- DEVICE of capacity f, before any task
  pub added : length ts ≤ 0
      → scanned (length cs + 1) (set (padded 16 cs) (length cs) f) (length ts) (padded 8 (lengths ts)) (padded 8 (starts_from (length cs) ts))
      (tabulate 16 (holds_now m)) (tabulate 16 (claimed ts)) ≡ scan_of (note m 1 f)
  unfolding note starts_from
  added h = rw (no_task ts h, padded-add 16 cs f, length-append cs (f ∷ []))

  pub added-limits : fault m i 1 f ≡ 0 → Limits (note m 1 f) (suc i)
  unfolding note out_of_order field_allowed too_many last_task held_after
  added-limits e =
      let p = fault-passes m i 1 f e in
      let none = no_task ts (ltb-false 0 (length ts) p.order) in
      record {
        running = refl;
        devices = rw (length-append cs (f ∷ [])) (omega (arith, leb-false 16 (length cs) p.room));
        some_unit = place-added (λ c. 1 ≤ c) cs f 0 ok.some_unit (leb-true 1 f (and-true (leb 1 f) (leb f 8) p.field).0);
        tasks = ok.tasks;
        words = rw (length-append cs (f ∷ [])) (omega (arith, ok.words));
        declared = λ d h. rw none;
      }

  -- ---- TASK at index i, where nothing is held
  pub opened : any (length cs) (holds_now m) ≡ false
      → scanned (length cs) (padded 16 cs) (length ts + 1) (padded 8 (lengths ts)) (set (padded 8 (starts_from (length cs) ts)) (length ts) (i + 1))
      (tabulate 16 (holds_now m)) (tabulate 16 (claimed ts)) ≡ scan_of (note m 2 f)
  unfolding note held_after tabulate
  opened none =
      rw (
        ok.words,
        start_open 8 (length cs) ts,
        counts-open 8 ts,
        count_add ts [],
        last-added ts [],
        tabulate-cong 16 (holds_now m) (λ d. false) (λ d _. none_passes (holds_now m) (length cs) ok.declared none d),
        tabulate-cong 16 (claimed (ts ++ ([] ∷ []))) (claimed ts) (λ d _. claimed-open d ts),
      )

  pub opened-limits : fault m i 2 f ≡ 0 → Limits (note m 2 f) (suc i)
  unfolding note too_many held_after
  opened-limits e =
      let p = fault-passes m i 2 f e in
      record {
        running = refl;
        devices = ok.devices;
        some_unit = ok.some_unit;
        tasks = rw (count_add ts []) (omega (arith, leb-false 8 (length ts) p.room));
        words = rw (words_open ts) (omega (arith, ok.words));
        declared = λ d h. rw (last-added ts []);
      }

  -- ---- CLAIM (b) or RELEASE of field f
  -- the model's scan after it
  abbrev acted_on : Bool → model.Scan
  acted_on b = record { set = record { capacities = cs; tasks = add_action ts (act b f) }; ended = false }

  is-acted : (b : Bool) → note m (cond b 3 4) f ≡ acted_on b
  unfolding note act
  is-acted true = refl
  is-acted false = refl

  -- a RELEASE without a fault is one of what is held
  released : (b : Bool) → fault m i (cond b 3 4) f ≡ 0 → b ≡ false → holds_now m (named b f) ≡ true
  released true e k = true-not-false true refl k
  released false e k = not-false _ (fault-passes m i 4 f e).released

  module _ (h : 1 ≤ length ts) where
    held-now : (b : Bool) → set (tabulate 16 (holds_now m)) (named b f) b ≡ tabulate 16 (λ d. held_after d false (last_task (add_action ts (act b f))))
    held-now b =
        let e = named b f in
        tabulate-set 16 e b (holds_now m) (λ d. held_after d false (last_task (add_action ts (act b f))))
        (rw (last-act ts (act b f) h, held-act e false (last_task ts) b f, eq-eqb e e refl))
        λ d n. rw (last-act ts (act b f) h, held-act d false (last_task ts) b f, ne_eqb e d n)

    pub acted : (b : Bool) → fault m i (cond b 3 4) f ≡ 0
        → scanned (length cs) (padded 16 cs) (length ts) (set (padded 8 (lengths ts)) (length ts - 1) (length (last_task ts) + 1))
        (padded 8 (starts_from (length cs) ts)) (set (tabulate 16 (holds_now m)) (named b f) b) (set (tabulate 16 (claimed ts)) (named b f) true) ≡ scan_of (note m (cond b 3 4) f)
    acted b e =
        rw (
          is-acted b,
          count-act 8 ts (act b f) h,
          held-now b,
          claimed-named ts b f h (released b e),
          tasks-act ts (act b f),
          starts-act (length cs) ts (act b f),
        )

    pub acted-limits : (b : Bool) → ltb (named b f) (length cs) ≡ true → Limits (note m (cond b 3 4) f) (suc i)
    acted-limits b declared =
        rw (is-acted b)
        (record {
          running = refl;
          devices = ok.devices;
          some_unit = ok.some_unit;
          tasks = rw (tasks-act ts (act b f)) ok.tasks;
          words = rw (words-act ts (act b f) h) (omega (arith, ok.words));
          declared = λ d past.
              let other : eqb (named b f) d ≡ false = ne_eqb (named b f) d (λ q. omega (arith, ltb-true (named b f) (length cs) declared)) in
              rw (last-act ts (act b f) h, held-act d false (last_task ts) b f, other) (ok.declared d past);
        })
