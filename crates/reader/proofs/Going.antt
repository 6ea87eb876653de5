-- From word to word: a word without a fault leads on, by its kind.
use Prim.Native.Nat.{ℕ, suc, ◌+◌, ◌-◌, ◌≤◌, ◌<◌}
use mathlib.Core.Path.{◌≡◌, sym, ap, ◌∙◌}
use mathlib.Core.List.{List}
use mathlib.Core.Bool.{Bool, true, cond}
use native.Mathlib.Numerals.{add-one}
use native.Mathlib.Omega.{arith}
use borrow.Author.Tests.{lt-ltb}
use lib.ListN.{length, set, length-map, length-set}
use lib.Seq.{drop-cons, get_or-set_same, set-get_or, set-set}
use Rattle.model.specs.Set.{lengths, at}
use Rattle.model.specs.Layout.{kind_of, field_of}
use Rattle.model.specs.Read.{note, fault, read_from}
use Rattle.model.specs.Read as model
use Rattle.model.proofs.Lists.{length-tabulate}
use Rattle.reader.specs.declared.scan.Scan.{Scan}
use Rattle.reader.specs.Faults.{device_fault, task_fault, action_fault}
use Rattle.reader.specs.Follow.{scanned, scan_of, Limits, Reached, counted, Opened}
use Rattle.reader.proofs.Arrays.{padded-past}
use Rattle.reader.proofs.LastTask.{named, count-last}
use Rattle.reader.proofs.FaultLaws.{task-kept, action-kept, some-held, device-fault, task-fault, action-fault}
use Rattle.reader.proofs.Steps.{added, added-limits, opened, opened-limits, acted, acted-limits}

-- with one device more, of capacity f
abbrev pub with_device : Scan → ℕ → Scan
with_device s f = scanned (s.devices + 1) (set s.capacities s.devices f) s.tasks s.lengths s.starts s.held s.claimed

-- with one task more, opened at index i
abbrev pub with_task : Scan → ℕ → Scan
with_task s i = scanned s.devices s.capacities (s.tasks + 1) s.lengths (set s.starts s.tasks (i + 1)) s.held s.claimed

-- with one action more in the last task, a CLAIM (b) or a RELEASE of field f
abbrev with_action : Scan → Bool → ℕ → Scan
with_action s b f =
    scanned s.devices s.capacities s.tasks (set s.lengths (s.tasks - 1) (at s.lengths (s.tasks - 1) + 1)) s.starts (set s.held (named b f) b) (set s.claimed (named b f) true)

module _ (ws : List ℕ) (s : Scan) (i : ℕ) (here : Reached ws s i) where
  pub few-devices : s.devices ≤ 16
  few-devices = rw here.same here.limits.devices

  pub few-tasks : s.tasks ≤ 8
  few-tasks = rw here.same here.limits.tasks

  pub length-counts : length s.lengths ≡ 8
  length-counts = rw here.same (length-tabulate 8 _)

  -- the word at i
  abbrev k : ℕ
  k = kind_of (at ws i)

  abbrev f : ℕ
  f = field_of (at ws i)

  abbrev m : model.Scan
  m = here.scan

  -- it has no fault
  goes_on : (next : Scan) → i < length ws → fault m i k f ≡ 0 → Limits (note m k f) (suc i) → next ≡ scan_of (note m k f) → Reached ws next (i + 1)
  unfolding read_from
  goes_on next h none limits e =
      record {
        scan = note m k f;
        limits = rw (add-one i) limits;
        same = e;
        rest = here.rest ∙ rw (add-one i, drop-cons ws i 0, none);
        within = omega arith;
      }

  pub adds : i < length ws → k ≡ 1 → s.tasks ≤ 0 → device_fault s.devices s.tasks f ≡ 0 → Reached ws (with_device s f) (i + 1)
  adds h kind none free =
      let faultless : fault m i 1 f ≡ 0 = sym (device-fault m i here.limits f) ∙ (rw here.same at free) in
      goes_on (with_device s f) h (rw kind faultless) (rw kind (added-limits m i f here.limits faultless))
      (ap (λ (x : Scan). with_device x f) here.same ∙ rw kind (added m i f here.limits (rw here.same at none)))

  -- no action is counted past the tasks
  none-past : at s.lengths s.tasks ≡ 0
  none-past =
      let ts = m.set.tasks in
      rw here.same (rw (length-map {B = ℕ} ts length) at (padded-past 8 (lengths ts)))

  pub opens : i < length ws → k ≡ 2 → task_fault s.tasks s.held f ≡ 0 → Opened ws (with_task s i) (i + 1)
  opens h kind free =
      let faultless : fault m i 2 f ≡ 0 = sym (task-fault m i here.limits f) ∙ (rw here.same at free) in
      let none = sym (some-held m i here.limits) ∙ (rw here.same at (task-kept s.tasks s.held f free).1) in
      let last : s.tasks + 1 - 1 ≡ s.tasks = omega arith in
      record {
        reached =
            goes_on (with_task s i) h (rw kind faultless) (rw kind (opened-limits m i f here.limits faultless))
            (ap (λ (x : Scan). with_task x i) here.same ∙ rw kind (opened m i f here.limits none));
        some = omega arith;
        none = rw last none-past;
      }

  acts : (b : Bool) → i < length ws → k ≡ cond b 3 4 → 1 ≤ s.tasks → action_fault s.devices s.capacities s.tasks (at s.lengths (s.tasks - 1)) s.held b f ≡ 0
      → Reached ws (with_action s b f) (i + 1)
  acts b h kind some free =
      let ts = m.set.tasks in
      let some-open : 1 ≤ length ts = rw here.same at some in
      let faultless : fault m i (cond b 3 4) f ≡ 0 = sym (action-fault m i here.limits b f) ∙ (rw here.same at free) in
      let declared : named b f < length m.set.capacities = rw here.same at (action-kept s.devices _ _ _ s.held b f few-devices free).0 in
      goes_on (with_action s b f) h (rw kind faultless)
      (rw kind (acted-limits m i f here.limits some-open b (lt-ltb (named b f) (length m.set.capacities) declared)))
      (ap (λ (x : Scan). with_action x b f) here.same ∙ rw (kind, count-last 8 ts some-open here.limits.tasks) (acted m i f here.limits some-open b faultless))

-- the task just opened has no action yet
pub no-action : (ws : List ℕ) (s : Scan) (from : ℕ) → Opened ws s from → Reached ws (counted s (from - from)) from
no-action ws s from o =
    let zero : from - from ≡ 0 = omega arith in
    let same : set s.lengths (s.tasks - 1) 0 ≡ s.lengths = rw o.none at (set-get_or s.lengths (s.tasks - 1) 0) in
    rw (zero, same) o.reached

-- and one more where it has an action for each word from its start
module _ (ws : List ℕ) (s : Scan) (from i : ℕ) (some : 1 ≤ s.tasks) (here : Reached ws (counted s (i - from)) i) where
  abbrev t : ℕ
  t = s.tasks - 1

  in_array : t < length s.lengths
  in_array =
      omega (arith, few-tasks ws (counted s (i - from)) i here, length-set s.lengths t (i - from), length-counts ws (counted s (i - from)) i here, some)

  -- the scan when it is noted what an action on a device does
  abbrev noted : Bool → ℕ → Scan
  noted b d = record s { held = set s.held d b; claimed = set s.claimed d true }

  pub one-action : from ≤ i → i < length ws → (b : Bool) → kind_of (at ws i) ≡ cond b 3 4
      → action_fault s.devices s.capacities s.tasks (i - from) s.held b (field_of (at ws i)) ≡ 0
      → Reached ws (counted (noted b (named b (field_of (at ws i)))) (i + 1 - from)) (i + 1)
  one-action later h b kind free =
      let now : at (set s.lengths t (i - from)) t ≡ i - from = get_or-set_same s.lengths t (i - from) 0 in_array in
      let more : i - from + 1 ≡ i + 1 - from = omega arith in
      let next = acts ws (counted s (i - from)) i here b h kind some (rw now free) in
      rw (now, set-set s.lengths t (i - from) (i - from + 1), more) at next
