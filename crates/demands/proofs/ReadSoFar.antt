-- What the reader has noted after words without a fault, said of the words alone, and how it grows by a word.
use Prim.Native.Nat.{ℕ, suc, ◌+◌, ◌%◌, ◌<◌}
use native.Mathlib.Omega.{arith}
use mathlib.Core.Path.{◌≡◌, refl, sym, ap, ◌∙◌}
use mathlib.Core.Logic.{◌⊎◌, inl, inr}
use mathlib.Core.Bool.{true, false, not}
use mathlib.Core.List.{List, [], ◌∷◌, ◌++◌}
use lib.ListN.{length, get_or, take, length-append, get_or-append}
use lib.Seq.{take-suc, length-take-le, get_or-append_seam}
use lib.Dec.{eqb, ltb}
use borrow.Author.Tests.{ltb-true, ltb-false, eqb-true, eqb-false, eq-eqb, ne_eqb, not-true}
use Rattle.model.specs.Set.{Action, claim, release, Task, Set, at}
use Rattle.model.specs.Layout.{word, device_bits, extra_bits, DEVICE, TASK, CLAIM, RELEASE, END, action_word, task_words, body, with_end, encode}
use Rattle.model.specs.Read.{last_task, add_action, held_after, Scan, note, out_of_order, field_allowed}
use Rattle.model.proofs.Bools.{by_cases, true-not-false, and-true, or-true, or_right}
use Rattle.model.proofs.Held.{count_add, last-added, held-append}
use Rattle.model.proofs.Words.{set_with, claim-parts, body-device, body-task}
use Rattle.model.proofs.Faults.{scan_of, Passes}
use Rattle.demands.specs.Terms.{how_many}
use Rattle.demands.specs.Turned.{kind, field, device, declared, Declares, Came, Holds}
use Rattle.demands.proofs.OpenTask.{last-acts, count-acts, body-acts}
use Rattle.demands.proofs.WordsBefore.{by-five, by_last, many_more, many-same, came-before, declares-told, declares-on, holds-claimed, holds_kept, holds-told}

module _ (ws : List ℕ) where
  -- the open task has l actions: the last TASK, and l words since
  abbrev pub Opened : ℕ → ℕ → Type 0
  Opened i l = (j : ℕ) × (suc (j + l) ≡ i) × (kind ws j ≡ 2) × ((q : ℕ) → j < q → q < i → kind ws q ≡ 2 → ⊥)

  -- the first i words declare these devices and tasks, and END is not among them
  pub record Going (i : ℕ) (cs : List ℕ) (ts : List Task) : Type 0 where
    pub no_end : Came ws i 5 → ⊥
    pub devices : length cs ≡ declared ws i
    pub capacities : (d : ℕ) → d < length cs → Declares ws i d (at cs d)
    pub declares : (d c : ℕ) → Declares ws i d c → (d < length cs) × (at cs d ≡ c)
    pub tasks : length ts ≡ how_many i (λ j. eqb (kind ws j) 2)
    pub held : (d : ℕ) → held_after d false (last_task ts) ≡ true → Holds ws i d
    pub holds : (d : ℕ) → Holds ws i d → held_after d false (last_task ts) ≡ true
    pub declared : (d : ℕ) → held_after d false (last_task ts) ≡ true → d < length cs
    pub opened : 0 < length ts → Opened i (length (last_task ts))
    pub words : take i ws ≡ body (set_with cs ts)

  -- the first i words were read: no END yet, or they are the words of the set
  pub data Tracks (i : ℕ) : Scan → Type 0 where
    going : (cs : List ℕ) (ts : List Task) → Going i cs ts → Tracks i (scan_of cs ts)
    done : (s : Set) → Came ws i 5 → take i ws ≡ encode s → Tracks i (record { set = s; ended = true })

  pub nothing : Going 0 [] []
  unfolding how_many held_after last_task body task_words
  nothing = record {
    no_end = λ c. omega arith;
    devices = refl;
    capacities = λ d h. absurd (omega arith);
    declares = λ d c h. absurd (omega arith);
    tasks = refl;
    held = λ d e. true-not-false false e refl;
    holds = λ d h. absurd (omega arith);
    declared = λ d e. true-not-false false e refl;
    opened = λ h. absurd (omega arith);
    words = refl;
  }

  -- the words so far and one more
  more-words : (i : ℕ) → i < length ws → (b : List ℕ) (k f : ℕ) → take i ws ≡ b → kind ws i ≡ k → field ws i ≡ f → take (suc i) ws ≡ b ++ (word k f ∷ [])
  more-words i here b k f e p q =
      let w : get_or ws i 0 ≡ word k f = omega arith in
      rw (take-suc ws i 0 here, e, w)

  -- ---- a word of each kind
  module _ (i : ℕ) (cs : List ℕ) (f : ℕ) (here : i < length ws) where
    goes-device : kind ws i ≡ 1 → field ws i ≡ f → (ts : List Task) → Going i cs ts → Passes (scan_of cs ts) i DEVICE f → Going (suc i) (cs ++ (f ∷ [])) ts
    unfolding out_of_order held_after last_task
    goes-device k e (t ∷ ts) g p = absurd (omega (arith, ltb-false 0 (length (t ∷ ts)) p.order))
    goes-device k e [] g p = record {
      no_end = λ c. g.no_end (came-before ws i 5 (λ z. omega arith) c);
      devices = rw (many_more (λ j. eqb (kind ws j) 1) i (eq-eqb (kind ws i) 1 k)) (omega (arith, length-append cs (f ∷ []), g.devices));
      capacities = λ d h.
          by_last d (length cs) (omega (arith, length-append cs (f ∷ []), h))
          (λ z. rw (z, get_or-append_seam cs f [] 0) (i, omega arith, k, sym g.devices, e))
          (λ l. rw (get_or-append cs (f ∷ []) 0 d l) (declares-on ws i d (at cs d) (g.capacities d l)));
      declares = λ d c h.
          by_cases (declares-told ws i d c h)
          (λ q.
          let last : d ≡ length cs = sym (g.devices ∙ q.1) in
          (omega (arith, length-append cs (f ∷ [])), rw (last, get_or-append_seam cs f [] 0) (sym e ∙ q.2)))
          (λ q. let r = g.declares d c q in (omega (arith, length-append cs (f ∷ []), r.0), get_or-append cs (f ∷ []) 0 d r.0 ∙ r.1));
      tasks = rw (many-same (λ j. eqb (kind ws j) 2) i (ne_eqb (kind ws i) 2 (λ z. omega arith))) g.tasks;
      held = λ d h. true-not-false false h refl;
      holds = λ d h. by_cases (holds-told ws i d h) (λ z. absurd (omega arith)) (λ z. g.holds d z.0);
      declared = λ d h. true-not-false false h refl;
      opened = λ h. absurd (omega arith);
      words = more-words i here (body (set_with cs [])) 1 f g.words k e ∙ sym (body-device cs f);
    }

    goes-task : kind ws i ≡ 2 → field ws i ≡ f → (ts : List Task) → Going i cs ts → Passes (scan_of cs ts) i TASK f → Going (suc i) cs (ts ++ ([] ∷ []))
    unfolding field_allowed held_after
    goes-task k e ts g p =
        let empty : (d : ℕ) → held_after d false (last_task (ts ++ ([] ∷ []))) ≡ false = λ d. rw (last-added ts []) in
        record {
          no_end = λ c. g.no_end (came-before ws i 5 (λ z. omega arith) c);
          devices = rw (many-same (λ j. eqb (kind ws j) 1) i (ne_eqb (kind ws i) 1 (λ z. omega arith))) g.devices;
          capacities = λ d h. declares-on ws i d (at cs d) (g.capacities d h);
          declares = λ d c h. by_cases (declares-told ws i d c h) (λ q. absurd (omega arith)) (g.declares d c);
          tasks = rw (many_more (λ j. eqb (kind ws j) 2) i (eq-eqb (kind ws i) 2 k)) (omega (arith, count_add ts [], g.tasks));
          held = λ d h. true-not-false _ h (empty d);
          holds = λ d h. by_cases (holds-told ws i d h) (λ z. absurd (omega arith)) (λ z. absurd (z.1 (inl k)));
          declared = λ d h. true-not-false _ h (empty d);
          opened = λ h. rw (last-added ts []) (i, omega arith, k, λ q a b. absurd (omega arith));
          words = more-words i here (body (set_with cs ts)) 2 f g.words k e ∙ ap (λ (v : ℕ). body (set_with cs ts) ++ (word TASK v ∷ [])) (eqb-true f 0 p.field) ∙ sym (body-task cs ts);
        }

  -- a CLAIM or RELEASE, whose word is that of the action a
  module _ (i : ℕ) (cs : List ℕ) (ts : List Task) (here : i < length ws) (some : 0 < length ts) (g : Going i cs ts) where
    goes-action : (a : Action) → take (suc i) ws ≡ body (set_with cs ts) ++ (action_word a ∷ []) → (kind ws i ≡ 3) ⊎ (kind ws i ≡ 4)
        → ((d : ℕ) → held_after d (held_after d false (last_task ts)) (a ∷ []) ≡ true → Holds ws (suc i) d × (d < length cs))
        → ((d : ℕ) → Holds ws (suc i) d → held_after d (held_after d false (last_task ts)) (a ∷ []) ≡ true)
        → Going (suc i) cs (add_action ts a)
    goes-action a w k held holds =
        let action : (kind ws i ≡ 1 → ⊥) × (kind ws i ≡ 2 → ⊥) × (kind ws i ≡ 5 → ⊥) =
        by_cases k (λ e. ((λ z. omega arith), (λ z. omega arith), (λ z. omega arith))) (λ e. ((λ z. omega arith), (λ z. omega arith), (λ z. omega arith))) in
        let o = g.opened some in
        let next : (d : ℕ) → held_after d false (last_task (add_action ts a)) ≡ held_after d (held_after d false (last_task ts)) (a ∷ []) =
        λ d. ap (held_after d false) (last-acts ts a some) ∙ held-append d false (last_task ts) (a ∷ []) in
        record {
          no_end = λ c. g.no_end (came-before ws i 5 action.2 c);
          devices = rw (many-same (λ j. eqb (kind ws j) 1) i (ne_eqb (kind ws i) 1 action.0)) g.devices;
          capacities = λ d h. declares-on ws i d (at cs d) (g.capacities d h);
          declares = λ d c h. by_cases (declares-told ws i d c h) (λ q. absurd (action.0 q.0)) (g.declares d c);
          tasks = rw (many-same (λ j. eqb (kind ws j) 2) i (ne_eqb (kind ws i) 2 action.1)) (count-acts ts a some ∙ g.tasks);
          held = λ d h. (held d (sym (next d) ∙ h)).0;
          holds = λ d h. next d ∙ holds d h;
          declared = λ d h. (held d (sym (next d) ∙ h)).1;
          opened = λ h.
              rw (last-acts ts a some) (
                o.0,
                omega (arith, length-append (last_task ts) (a ∷ []), o.1),
                o.2,
                λ q l m e. by_last q i m (λ z. action.1 (rw z at e)) (λ b. o.3 q l b e),
              );
          words = w ∙ sym (body-acts ts a some cs);
        }

    goes-claim : (f : ℕ) → kind ws i ≡ 3 → field ws i ≡ f → f < 0x1000000 → device_bits f < length cs → Going (suc i) cs (add_action ts (claim (device_bits f) (extra_bits f)))
    unfolding action_word held_after
    goes-claim f k e short l =
        let b = body (set_with cs ts) in
        let c = device_bits f in
        let named : device ws i ≡ c = ap (λ (v : ℕ). v % 0x10000) e in
        goes-action (claim c (extra_bits f)) (more-words i here b 3 f g.words k e ∙ ap (λ (v : ℕ). b ++ (word CLAIM v ∷ [])) (claim-parts f short)) (inl k)
        (λ d h. by_cases (or-true (eqb c d) _ h)
        (λ q. let same = eqb-true c d q in (holds-claimed ws i d k (named ∙ same), rw same at l))
        (λ q. (holds_kept ws i d (g.held d q) (λ z. by_cases z (λ y. omega arith) (λ y. omega arith)), g.declared d q)))
        (λ d h. by_cases (holds-told ws i d h)
        (λ q. rw (eq-eqb c d (sym named ∙ q.1)))
        (λ q. or_right (eqb c d) _ (g.holds d q.0)))

    goes-release : (f : ℕ) → kind ws i ≡ 4 → field ws i ≡ f → Going (suc i) cs (add_action ts (release f))
    unfolding action_word held_after
    goes-release f k e =
        goes-action (release f) (more-words i here (body (set_with cs ts)) 4 f g.words k e) (inr k)
        (λ d h.
        let r = and-true (not (eqb f d)) _ h in
        let other = eqb-false f d (not-true (eqb f d) r.0) in
        (holds_kept ws i d (g.held d r.1) (λ z. by_cases z (λ y. omega arith) (λ y. other (sym e ∙ y.1))), g.declared d r.1))
        (λ d h. by_cases (holds-told ws i d h)
        (λ q. absurd (omega arith))
        (λ q. rw (ne_eqb f d (λ z. q.1 (inr (k, e ∙ z))), g.holds d q.0)))

  module _ (i : ℕ) (cs : List ℕ) (ts : List Task) (here : i < length ws) (g : Going i cs ts) where
    goes_end : (f : ℕ) → kind ws i ≡ 5 → field ws i ≡ f → f ≡ i → take (suc i) ws ≡ encode (set_with cs ts)
    unfolding with_end
    goes_end f k e z =
        let size : length (body (set_with cs ts)) ≡ i = sym (ap length g.words) ∙ length-take-le i ws (omega arith) in
        more-words i here (body (set_with cs ts)) 5 f g.words k e ∙ ap (λ (v : ℕ). body (set_with cs ts) ++ (word END v ∷ [])) (z ∙ sym size)

    -- a word without a fault, by its kind
    on-device : (f : ℕ) → kind ws i ≡ 1 → field ws i ≡ f → Passes (scan_of cs ts) i DEVICE f → Tracks (suc i) (note (scan_of cs ts) DEVICE f)
    unfolding note
    on-device f k e p = going (cs ++ (f ∷ [])) ts (goes-device i cs f here k e ts g p)

    on-task : (f : ℕ) → kind ws i ≡ 2 → field ws i ≡ f → Passes (scan_of cs ts) i TASK f → Tracks (suc i) (note (scan_of cs ts) TASK f)
    unfolding note
    on-task f k e p = going cs (ts ++ ([] ∷ [])) (goes-task i cs f here k e ts g p)

    on-claim : (f : ℕ) → kind ws i ≡ 3 → field ws i ≡ f → Passes (scan_of cs ts) i CLAIM f → Tracks (suc i) (note (scan_of cs ts) CLAIM f)
    unfolding note out_of_order field_allowed
    on-claim f k e p =
        let some : 0 < length ts = omega (arith, eqb-false (length ts) 0 p.order) in
        let allowed = and-true (ltb f 0x1000000) (ltb (device_bits f) (length cs)) p.field in
        going cs (add_action ts (claim (device_bits f) (extra_bits f)))
        (goes-claim i cs ts here some g f k e (ltb-true f 0x1000000 allowed.0) (ltb-true (device_bits f) (length cs) allowed.1))

    on-release : (f : ℕ) → kind ws i ≡ 4 → field ws i ≡ f → Passes (scan_of cs ts) i RELEASE f → Tracks (suc i) (note (scan_of cs ts) RELEASE f)
    unfolding note out_of_order
    on-release f k e p =
        let some : 0 < length ts = omega (arith, eqb-false (length ts) 0 p.order) in
        going cs (add_action ts (release f)) (goes-release i cs ts here some g f k e)

    on-end : (f : ℕ) → kind ws i ≡ 5 → field ws i ≡ f → Passes (scan_of cs ts) i END f → Tracks (suc i) (note (scan_of cs ts) END f)
    unfolding note field_allowed
    on-end f k e p = done (set_with cs ts) (i, omega arith, k) (goes_end f k e (eqb-true f i p.field))

    goes_on : Passes (scan_of cs ts) i (kind ws i) (field ws i) → Tracks (suc i) (note (scan_of cs ts) (kind ws i) (field ws i))
    goes_on p =
        by-five (kind ws i) p.kind
        (λ k. rw k (on-device (field ws i) k refl (rw k at p)))
        (λ k. rw k (on-task (field ws i) k refl (rw k at p)))
        (λ k. rw k (on-claim (field ws i) k refl (rw k at p)))
        (λ k. rw k (on-release (field ws i) k refl (rw k at p)))
        (λ k. rw k (on-end (field ws i) k refl (rw k at p)))

  -- one word more, if it has no fault
  pub tracks_on : (i : ℕ) (s : Scan) → i < length ws → Tracks i s → Passes s i (kind ws i) (field ws i) → Tracks (suc i) (note s (kind ws i) (field ws i))
  tracks_on i s here (going cs ts g) p = goes_on i cs ts here g p
  tracks_on i s here (done r c w) p = true-not-false true refl p.before-end
