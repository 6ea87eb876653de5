-- Where the words in a row stop: at the end of the words, at a fault, or at END, and what comes after END.
use Prim.Native.Nat.{ℕ, suc, ◌+◌, ◌-◌, ◌≤◌, ◌<◌}
use mathlib.Core.Path.{◌≡◌, ap, ◌∙◌}
use mathlib.Core.List.{List}
use mathlib.Core.Bool.{true, false}
use native.Mathlib.Nat.{le_antisymm}
use native.Mathlib.Numerals.{add-one}
use native.Mathlib.Omega.{arith}
use borrow.Author.Tests.{lt-ltb, eqb-true, eqb-false}
use lib.ListN.{length, drop, drop_of_length-le}
use lib.Dec.{eqb}
use lib.Seq.{drop-cons}
use Rattle.model.specs.Set.{at}
use Rattle.model.specs.Layout.{kind_of, field_of}
use Rattle.model.specs.Answer.{refused}
use Rattle.model.specs.Read.{note, fault, read_from, read_words}
use Rattle.model.specs.Read as model
use Rattle.model.proofs.Bools.{by_bool}
use Rattle.reader.specs.declared.scan.Scan.{Scan}
use Rattle.reader.specs.Faults.{device_fault, word_fault}
use Rattle.reader.specs.Follow.{Reached, NoDevice, NoTask, NoAction, Stops, Ended}
use Rattle.reader.proofs.FaultLaws.{word-fault}

-- the runs together stop for good: where there are tasks a DEVICE is out of order, and where there are none the devices stopped here
module _ (ws : List ℕ) (s : Scan) (i first : ℕ) (device : NoDevice ws s.devices 0 first) (none : s.tasks ≡ 0 → i ≡ first)
    (task : NoTask ws s.tasks s.held i) (action : NoAction ws s.devices s.capacities s.tasks (at s.lengths (s.tasks - 1)) s.held i) where
  device-stops : NoDevice ws s.devices s.tasks i
  unfolding device_fault
  device-stops h e =
      by_bool (eqb s.tasks 0)
      (λ z.
      let zero = eqb-true s.tasks 0 z in
      let here : NoDevice ws s.devices 0 i = rw (none zero) device in
      rw zero (here h e))
      λ z. rw (lt-ltb 0 s.tasks (omega (arith, eqb-false s.tasks 0 z))) (omega arith)

  pub stops : Stops ws s i
  unfolding word_fault
  stops h running =
      let k = kind_of (at ws i) in
      by_bool (eqb k 1) (λ e. rw e (device-stops h (eqb-true k 1 e))) λ a.
      by_bool (eqb k 2) (λ e. rw (a, e) (task h (eqb-true k 2 e))) λ b.
      by_bool (eqb k 3) (λ e. rw (a, b, e) (action h true (eqb-true k 3 e))) λ c.
      by_bool (eqb k 4) (λ e. rw (a, b, c, e) (action h false (eqb-true k 4 e))) λ d.
      by_bool (eqb k 5) (λ e. absurd (running (eqb-true k 5 e))) λ e.
      rw (a, b, c, d, e) (omega arith)

module _ (ws : List ℕ) (s : Scan) (i : ℕ) (here : Reached ws s i) where
  abbrev m : model.Scan
  m = here.scan

  -- the word at i
  abbrev k : ℕ
  k = kind_of (at ws i)

  abbrev f : ℕ
  f = field_of (at ws i)

  -- no word is left
  pub no_end : length ws ≤ i → read_words ws ≡ refused 11 (length ws)
  unfolding read_from
  no_end h = here.rest ∙ rw (drop_of_length-le ws h, here.limits.running, le_antisymm here.within h)

  same-fault : word_fault s i k f ≡ fault m i k f
  same-fault = ap (λ (x : Scan). word_fault x i k f) here.same ∙ word-fault m i here.limits k f

  module _ (h : i < length ws) where
    pub fault-here : 0 < word_fault s i k f → read_words ws ≡ refused (word_fault s i k f) i
    unfolding read_from
    fault-here z = here.rest ∙ rw (drop-cons ws i 0, ← same-fault, lt-ltb 0 (word_fault s i k f) z)

    module _ (stopped : Stops ws s i) (free : word_fault s i k f ≡ 0) where
      -- a word without a fault is END
      is-end : k ≡ 5
      is-end = by_bool (eqb k 5) (eqb-true k 5) λ e. absurd (omega (arith, stopped h (eqb-false k 5 e)))

      abbrev after : model.Scan
      after = record { set = m.set; ended = true }

      goes_on : read_words ws ≡ read_from after (suc i) (drop (suc i) ws)
      unfolding read_from note
      goes_on = here.rest ∙ rw (drop-cons ws i 0, ← same-fault, free, is-end)

      -- a word after it
      pub after_end : i + 1 < length ws → read_words ws ≡ refused 3 (i + 1)
      unfolding read_from fault
      after_end l = goes_on ∙ rw (← add-one i, drop-cons ws (i + 1) 0)

      -- none
      pub whole : length ws ≤ i + 1 → Ended ws s
      unfolding read_from
      whole l =
          let all : suc i ≡ length ws = omega arith in
          record {
            scan = after;
            devices = here.limits.devices;
            tasks = here.limits.tasks;
            same = here.same;
            read = goes_on ∙ rw (all, drop_of_length-le ws {i = length ws} (omega arith));
            some = omega arith;
          }
