-- The reading accepts no words but those of a set that its rules take for well formed: it is exact.
use Prim.Native.Nat.{ℕ, suc, ◌<◌, ◌≤◌}
use native.Mathlib.Omega.{arith}
use mathlib.Core.Path.{◌≡◌, refl, sym, ap, ap₂, subst, ◌∙◌}
use mathlib.Core.Logic.{◌↔◌}
use mathlib.Core.Bool.{Bool, true, false, not, ◌&&◌}
use mathlib.Core.List.{List, [], ◌∷◌, ◌++◌, append-nil, append_assoc}
use lib.ListN.{length, length-append}
use lib.Seq.{append_snoc}
use lib.Dec.{eqb, ltb, leb}
use borrow.Author.Tests.{ltb-true, ltb-false, leb-true, leb-false, eqb-true, eqb-false, not-false}
use Rattle.model.specs.Set.{Action, claim, release, device_of, units_taken, Task, Set, lengths_of, claimed, at, size, balanced, GoodTask}
use Rattle.model.specs.Layout.{word, claim_field, device_bits, extra_bits, DEVICE, TASK, CLAIM, RELEASE, END, action_word, task_words, body, with_end, encode, Rules, present, WellFormedBy}
use Rattle.model.specs.Answer.{given}
use Rattle.model.specs.Read.{last_task, add_action, held_after, note, out_of_order, field_allowed, too_many, too_many_units, holds_some, read_from, read_words, first_unclaimed, close, read_by}
use Rattle.model.proofs.Bools.{by_bool, true-not-false, and-true, any_false}
use Rattle.model.proofs.Answers.{then-given}
use Rattle.model.proofs.Counts.{below-lowest}
use Rattle.model.proofs.Held.{EachPlace, place-added, Declared, WithinUnits, count_add, last-added, action-added, held-append, held-unnamed, releases, balanced-on}
use Rattle.model.proofs.Words.{set_with, claim-parts, body-device, body-task, body-action}
use Rattle.model.proofs.Faults.{scan_of, WordRead, not-refused, word-reads, by_kind}
use Rattle.model.proofs.ReadAccepts.{read-complete}

-- the devices and tasks read so far are as they must be
record Sound (cs : List ℕ) (ts : List Task) : Type 0 where
  capacities : EachPlace (λ c. (1 ≤ c) × (c ≤ 8)) cs 0
  devices : length cs ≤ 16
  tasks : length ts ≤ 8
  each_task : EachPlace (GoodTask cs) ts []

-- so are the actions t of the open task: it may go on as what it holds allows
record OpenScan (cs : List ℕ) (ts : List Task) (t : Task) : Type 0 where
  before : Sound cs ts
  count : length ts < 8
  actions : length t ≤ 255
  declared : Declared (length cs) t
  units : WithinUnits cs t
  balance : (d : ℕ) (u : Task) → balanced d false (t ++ u) ≡ balanced d (held_after d false t) u

module _ (cs : List ℕ) (ts : List Task) (t : Task) (o : OpenScan cs ts t) where
  -- a task that holds nothing may be closed
  closes : holds_some (scan_of cs (ts ++ (t ∷ []))) ≡ false → Sound cs (ts ++ (t ∷ []))
  unfolding balanced
  closes none =
      let n = length cs in
      let free : (d : ℕ) → held_after d false t ≡ false = λ d.
      by_bool (ltb d n) (λ k. rw (last-added ts t) at (any_false n _ none d (ltb-true d n k)))
      (λ k. held-unnamed n d false t (ltb-false d n k) o.declared) in
      let good : GoodTask cs t =
      record { actions = o.actions; declared = o.declared; units = o.units; balance = λ d. rw (append-nil t, free d) at (o.balance d []) } in
      record {
        capacities = o.before.capacities;
        devices = o.before.devices;
        tasks = omega (arith, count_add ts t, o.count);
        each_task = place-added (GoodTask cs) ts t [] o.before.each_task good;
      }

  -- an action that it may do now is added to it
  acts : (a : Action) → length t < 255 → device_of a < length cs → units_taken a ≤ at cs (device_of a) → held_after (device_of a) false t ≡ releases a → OpenScan cs ts (t ++ (a ∷ []))
  acts a room declared units may =
      record {
        before = o.before;
        count = o.count;
        actions = rw (length-append t (a ∷ [])) (omega arith);
        declared = place-added (λ b. device_of b < length cs) t a (claim 0 0) o.declared declared;
        units = place-added (λ b. units_taken b ≤ at cs (device_of b)) t a (claim 0 0) o.units units;
        balance = λ d u.
            ap (balanced d false) (append_assoc t (a ∷ []) u)
            ∙ o.balance d (a ∷ u)
            ∙ balanced-on d (held_after d false t) a u (λ k. rw (eqb-true (device_of a) d k) at may)
            ∙ ap (λ (h : Bool). balanced d h u) (sym (held-append d false t (a ∷ [])));
      }

opens : (cs : List ℕ) (ts : List Task) → Sound cs ts → length ts < 8 → OpenScan cs ts []
unfolding held_after
opens cs ts o room = record { before = o; count = room; actions = omega arith; declared = λ p k. absurd (omega arith); units = λ p k. absurd (omega arith); balance = λ d u. refl }

-- after END there is no word
after_end : (s r : Set) (i : ℕ) (ws : List ℕ) → read_from (record { set = s; ended = true }) i ws ≡ given r → (ws ≡ []) × (s ≡ r)
unfolding read_from
after_end s r i [] e = (refl, (cc))
after_end s r i (w ∷ ws) e = true-not-false true refl (word-reads (record { set = s; ended = true }) i w ws r e).passes.before-end

-- some task claims each device, if the rules ask for it
abbrev pub EachDevice : Rules → Set → Type 0
EachDevice rules s = rules ≡ present → (d : ℕ) → d < length s.capacities → claimed s.tasks d ≡ true

-- what is left to ask of a set whose words have no fault: its grid, and claims
abbrev pub ClosesWell : Set → Type 0
ClosesWell s = (rules : Rules) → EachDevice rules s → size (lengths_of s) ≤ 65536 → WellFormedBy rules s

module _ (all : List ℕ) (short : length all ≤ 4096) (r : Set) where
  -- all words are those of the set r
  abbrev Found : Type 0
  Found = (all ≡ encode r) × ClosesWell r

  -- all words are those of cs and ts and then ws, and from there ws is accepted
  record Takes (cs : List ℕ) (ts : List Task) (ws : List ℕ) : Type 0 where
    words : body (set_with cs ts) ++ ws ≡ all
    taken : read_from (scan_of cs ts) (length (body (set_with cs ts))) ws ≡ given r

  -- one word more is read
  takes-on : (cs : List ℕ) (ts : List Task) (ds : List ℕ) (us : List Task) (w : ℕ) (ws : List ℕ) → Takes cs ts (w ∷ ws)
      → body (set_with ds us) ≡ body (set_with cs ts) ++ (w ∷ []) → read_from (scan_of ds us) (suc (length (body (set_with cs ts)))) ws ≡ given r → Takes ds us ws
  takes-on cs ts ds us w ws e more next =
      let b = body (set_with cs ts) in
      let count : length (body (set_with ds us)) ≡ suc (length b) = ap length more ∙ simp length-append (omega arith) in
      record { words = rw more (append_snoc b w ws ∙ e.words); taken = rw count next }

  -- the word w, first of those left, is of kind k and field f
  abbrev ReadHere : List ℕ → List Task → ℕ → List ℕ → ℕ → ℕ → Type 0
  ReadHere cs ts w ws k f = WordRead (scan_of cs ts) (length (body (set_with cs ts))) w ws r k f

  -- ---- what each kind of word does
  by_end : (cs : List ℕ) (ts : List Task) (w : ℕ) (ws : List ℕ) (f : ℕ) → Sound cs ts → Takes cs ts (w ∷ ws) → ReadHere cs ts w ws END f → Found
  unfolding note out_of_order field_allowed with_end
  by_end cs ts w ws f o e x =
      let s = set_with cs ts in
      let b = body s in
      let done = after_end s r (suc (length b)) ws x.after in
      let here : w ≡ word END (length b) = x.made ∙ ap (word END) (eqb-true f (length b) x.passes.field) in
      let whole : all ≡ encode s = sym e.words ∙ ap₂ (λ (v : ℕ) (l : List ℕ). b ++ (v ∷ l)) here done.0 in
      let some = eqb-false (length ts) 0 x.passes.order in
      let well : ClosesWell s = λ rules devices grid.
      record {
        capacities = o.capacities;
        devices = o.devices;
        some_task = omega (arith, some);
        tasks = o.tasks;
        each_task = o.each_task;
        each_device = devices;
        grid = grid;
        words = subst (λ (l : List ℕ). length l ≤ 4096) whole short;
      } in
      subst (λ (q : Set). (all ≡ encode q) × ClosesWell q) done.1 (whole, well)

  by-device : (cs : List ℕ) (w : ℕ) (ws : List ℕ) (f : ℕ) → Sound cs [] → Takes cs [] (w ∷ ws) → ReadHere cs [] w ws DEVICE f
      → Sound (cs ++ (f ∷ [])) [] × Takes (cs ++ (f ∷ [])) [] ws
  unfolding note field_allowed too_many
  by-device cs w ws f o e x =
      let fits = and-true (leb 1 f) (leb f 8) x.passes.field in
      let room = leb-false 16 (length cs) x.passes.room in (
        record {
          capacities = place-added (λ c. (1 ≤ c) × (c ≤ 8)) cs f 0 o.capacities (leb-true 1 f fits.0, leb-true f 8 fits.1);
          devices = rw (length-append cs (f ∷ [])) (omega arith);
          tasks = o.tasks;
          each_task = λ p k. absurd (omega arith);
        },
        takes-on cs [] (cs ++ (f ∷ [])) [] w ws e (rw x.made (body-device cs f)) x.after,
      )

  by-task : (cs : List ℕ) (ts : List Task) (w : ℕ) (ws : List ℕ) (f : ℕ) → Sound cs ts → Takes cs ts (w ∷ ws) → ReadHere cs ts w ws TASK f
      → OpenScan cs ts [] × Takes cs (ts ++ ([] ∷ [])) ws
  unfolding note field_allowed too_many
  by-task cs ts w ws f o e x =
      let made : w ≡ word TASK 0 = x.made ∙ ap (word TASK) (eqb-true f 0 x.passes.field) in (
        opens cs ts o (leb-false 8 (length ts) x.passes.room),
        takes-on cs ts cs (ts ++ ([] ∷ [])) w ws e (rw made (body-task cs ts)) x.after,
      )

  module _ (cs : List ℕ) (ts : List Task) (t : Task) (w : ℕ) (ws : List ℕ) (o : OpenScan cs ts t) (e : Takes cs (ts ++ (t ∷ [])) (w ∷ ws)) where
    -- the open task has done the action a too
    abbrev Acted : Action → Type 0
    Acted a = OpenScan cs ts (t ++ (a ∷ [])) × Takes cs (ts ++ ((t ++ (a ∷ [])) ∷ [])) ws

    by-action : (a : Action) → w ≡ action_word a → leb 255 (length (last_task (ts ++ (t ∷ [])))) ≡ false → ltb (device_of a) (length cs) ≡ true
        → units_taken a ≤ at cs (device_of a) → held_after (device_of a) false (last_task (ts ++ (t ∷ []))) ≡ releases a
        → read_from (scan_of cs (add_action (ts ++ (t ∷ [])) a)) (suc (length (body (set_with cs (ts ++ (t ∷ [])))))) ws ≡ given r → Acted a
    by-action a made room declared units may next =
        let last = last-added ts t in
        let us = ts ++ (t ∷ []) in
        let vs = ts ++ ((t ++ (a ∷ [])) ∷ []) in (
          acts cs ts t o a (leb-false 255 (length t) (rw last at room)) (ltb-true _ _ declared) units (rw last at may),
          takes-on cs us cs vs w ws e (rw made (body-action cs ts t a)) (rw (action-added ts t a) at next),
        )

    by-claim : (f : ℕ) → ReadHere cs (ts ++ (t ∷ [])) w ws CLAIM f → Acted (claim (device_bits f) (extra_bits f))
    unfolding note field_allowed too_many too_many_units action_word device_of units_taken releases
    by-claim f x =
        let d = device_bits f in
        let e = extra_bits f in
        let fits = and-true (ltb f 0x1000000) (ltb d (length cs)) x.passes.field in
        let made : w ≡ word CLAIM (claim_field d e) = x.made ∙ ap (word CLAIM) (claim-parts f (ltb-true f 0x1000000 fits.0)) in
        by-action (claim d e) made x.passes.room fits.1 (ltb-false (at cs d) (suc e) x.passes.units) x.passes.claimed x.after

    by-release : (f : ℕ) → ReadHere cs (ts ++ (t ∷ [])) w ws RELEASE f → Acted (release f)
    unfolding note field_allowed too_many action_word device_of units_taken releases
    by-release f x = by-action (release f) x.made x.passes.room x.passes.field (omega arith) (not-false _ x.passes.released) x.after

  -- ---- the words left, with a task open, and before the first TASK
  in-task : (ws : List ℕ) (cs : List ℕ) (ts : List Task) (t : Task) → OpenScan cs ts t → Takes cs (ts ++ (t ∷ [])) ws → Found
  unfolding read_from out_of_order
  in-task [] cs ts t o e = absurd (let z : ◌≡◌ {A = ℕ} 0 1 = cc e.taken in omega arith)
  in-task (w ∷ ws) cs ts t o e =
      let us = ts ++ (t ∷ []) in
      by_kind (scan_of cs us) (length (body (set_with cs us))) w ws r e.taken
      (λ f x. absurd (omega (arith, ltb-false 0 (length us) x.passes.order, count_add ts t)))
      (λ f x. let n = by-task cs us w ws f (closes cs ts t o x.passes.closed) e x in in-task ws cs us [] n.0 n.1)
      (λ f x. let n = by-claim cs ts t w ws o e f x in in-task ws cs ts (t ++ (claim (device_bits f) (extra_bits f) ∷ [])) n.0 n.1)
      (λ f x. let n = by-release cs ts t w ws o e f x in in-task ws cs ts (t ++ (release f ∷ [])) n.0 n.1)
      (λ f x. by_end cs us w ws f (closes cs ts t o x.passes.closed) e x)

  in-devices : (ws cs : List ℕ) → Sound cs [] → Takes cs [] ws → Found
  unfolding read_from out_of_order
  in-devices [] cs o e = absurd (let z : ◌≡◌ {A = ℕ} 0 1 = cc e.taken in omega arith)
  in-devices (w ∷ ws) cs o e =
      by_kind (scan_of cs []) (length (body (set_with cs []))) w ws r e.taken
      (λ f x. let n = by-device cs w ws f o e x in in-devices ws (cs ++ (f ∷ [])) n.0 n.1)
      (λ f x. let n = by-task cs [] w ws f o e x in in-task ws cs [] [] n.0 n.1)
      (λ f x. true-not-false true refl x.passes.order)
      (λ f x. true-not-false true refl x.passes.order)
      (λ f x. true-not-false true refl x.passes.order)

-- words without a fault are those of the set that they declare
pub words-sound : (ws : List ℕ) (s : Set) → read_words ws ≡ given s → (ws ≡ encode s) × ClosesWell s
unfolding read_words body task_words
words-sound ws s e =
    let p = not-refused (eqb (length ws) 0) 1 0 _ s e in
    let q = not-refused (ltb 4096 (length ws)) 2 4096 _ s p.1 in
    let nothing : Sound [] [] =
    record { capacities = λ d h. absurd (omega arith); devices = omega arith; tasks = omega arith; each_task = λ t h. absurd (omega arith) } in
    in-devices ws (ltb-false 4096 (length ws) q.0) s ws [] nothing (record { words = refl; taken = q.1 })

-- a set that is closed is the one that was declared, its grid is within its limit, and its devices are as the rules ask
close-sound : (rules : Rules) (n : ℕ) (s r : Set) → close rules n s ≡ given r → (s ≡ r) × EachDevice rules s × (size (lengths_of s) ≤ 65536)
unfolding close
close-sound rules n s r e =
    let devices = length s.capacities in
    let p = not-refused (rules && ltb (first_unclaimed s) devices) 24 _ _ r e in
    let q = not-refused (ltb 65536 (size (lengths_of s))) 12 _ (given s) r p.1 in
    let same = q.1 in (
      (cc),
      (λ k d h.
          let all = ltb-false (first_unclaimed s) devices (rw k at p.0) in
          not-false _ (below-lowest devices (λ d. not (claimed s.tasks d)) d (omega arith))),
      ltb-false 65536 (size (lengths_of s)) q.0,
    )

-- accepted words are those of the set answered, and that is well formed
pub read-sound : {rules : Rules} (ws : List ℕ) (s : Set) → read_by rules ws ≡ given s → (ws ≡ encode s) × WellFormedBy rules s
unfolding read_by
read-sound {rules} ws s e =
    let r = (then-given (close rules (length ws)) (read_words ws) s).0 e in
    let w = words-sound ws r.0 r.1 in
    let c = close-sound rules (length ws) r.0 s r.2 in
    subst (λ (q : Set). (ws ≡ encode q) × WellFormedBy rules q) c.0 (w.0, w.1 rules c.1 c.2)

-- the reading accepts the sets that its rules take for well formed, and no others
pub read-exact : (rules : Rules) (ws : List ℕ) (s : Set) → (read_by rules ws ≡ given s) ↔ ((ws ≡ encode s) × WellFormedBy rules s)
read-exact rules ws s = (read-sound ws s, λ h. ap (read_by rules) h.0 ∙ read-complete rules s h.1)
