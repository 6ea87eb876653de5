-- What is said of the cleaner holds.
use Prim.Native.Nat.{ℕ, ◌<◌, ◌≤◌}
use native.Mathlib.Omega.{arith}
use mathlib.Core.Path.{◌≡◌, refl, sym, ap, ap₂, ◌∙◌}
use mathlib.Core.Logic.{◌↔◌}
use mathlib.Core.Bool.{Bool, true}
use mathlib.Core.List.{List, [], ◌++◌, map}
use lib.ListN.{length, get_or, take, drop, length-map, get_or-map}
use lib.Seq.{take-append_seam}
use lib.Dec.{ltb}
use borrow.Author.Tests.{lt-ltb, le-ltb, ltb-true, ltb-false, eqb-true, eq-eqb}
use Rattle.model.specs.Below.{any, lowest, how_many}
use Rattle.model.specs.Answer.{given, refused, ◌then◌, if_given}
use Rattle.model.specs.Set.{Action, claim, release, device_of, Task, Set, lengths_of, task_at, action_at, claims, claimed, size}
use Rattle.model.specs.Layout.{action_word, task_words, body, with_end, encode, present, former, WellFormedBy}
use Rattle.model.specs.Read.{last_task, add_action, held_after, note, out_of_order, field_allowed, too_many, too_many_units, fault, read_from, read_words, first_unclaimed, close, read_by, read}
use Rattle.model.specs.State.{State}
use Rattle.model.specs.Clean.{kept_from, new_number, renamed, cleaned, clean_fits, Cleaned, clean}
use Rattle.model.proofs.Bools.{by_bool, by_cases, true-not-false}
use Rattle.model.proofs.Each.{Each, each_at}
use Rattle.model.proofs.Kept.{many_below, many-apart}
use Rattle.model.proofs.Cleaned.{all_named, old_of, new-of, lengths-cleaned, cleaned-same, permitted-cleaned, map-cleaned, forbidden-cleaned, unsafe-cleaned, dead-cleaned, length-cleaned, cleaned-formed}
use Rattle.model.proofs.Counts.{many-bound}
use Rattle.model.proofs.ReadAccepts.{read-complete}
use Rattle.model.proofs.ReadExact.{words-sound, read-sound}
use Rattle.model.proofs.ReadNumbers.{words-listed}
use Rattle.model.proofs.Answers.{given-refused, refused-given, refused-number, refused-place, then-refused, then-given, given-value}
use Rattle.demands.specs.Terms.{AllClaimed, LowestUnclaimed}
use Rattle.demands.specs.Cleaning.{Kept, OfCleaned, Cleaning}
use Rattle.demands.proofs.ClaimedDevices.{is-claimed, claimed-test, lowest-unclaimed}

-- ---- what becomes of a set
module _ (s : Set) (w : WellFormedBy former s) where
  abbrev new : ℕ → ℕ
  new = new_number s.tasks

  abbrev f : ℕ → Bool
  f = claimed s.tasks

  passes : (d : ℕ) → Kept s d → f d ≡ true
  passes d k = claimed-test s d k.1

  -- an action in its place
  action-in : (k p : ℕ) → action_at (cleaned s) k p ≡ renamed new (action_at s k p)
  unfolding renamed how_many
  action-in k p =
      ap (λ (l : Task). get_or l p (claim 0 0)) (get_or-map (map (renamed new)) s.tasks k []) ∙ get_or-map (renamed new) (task_at s k) p (claim 0 0)

  -- it names a claimed device
  action-claims : (k p : ℕ) → k < length s.tasks → p < length (task_at s k) → f (device_of (action_at s k p)) ≡ true
  action-claims k p h l =
      each_at (λ a. f (device_of a) ≡ true) (claim 0 0) (task_at s k) (each_at (Each (λ a. f (device_of a) ≡ true)) [] s.tasks (all_named s w) k h) p l

  -- two claimed devices with one number are one
  same-device : (c d : ℕ) → f c ≡ true → f d ≡ true → new c ≡ new d → c ≡ d
  same-device c d p q e = eqb-true c d (sym (many-apart f c d p q) ∙ eq-eqb (new c) (new d) e)

  claims-back : (a : Action) (d u : ℕ) → f (device_of a) ≡ true → f d ≡ true → (renamed new a ≡ claim (new d) u) ↔ (a ≡ claim d u)
  unfolding renamed device_of
  claims-back (claim c v) d u p q = ((λ e. ap₂ claim (same-device c d p q (cc)) (cc)), λ e. ap (renamed new) e)
  claims-back (release c) d u p q = ((λ e. absurd (let z : ◌≡◌ {A = ℕ} 0 1 = cc in omega arith)), λ e. absurd (let z : ◌≡◌ {A = ℕ} 0 1 = cc in omega arith))

  releases-back : (a : Action) (d : ℕ) → f (device_of a) ≡ true → f d ≡ true → (renamed new a ≡ release (new d)) ↔ (a ≡ release d)
  unfolding renamed device_of
  releases-back (release c) d p q = ((λ e. ap release (same-device c d p q (cc))), λ e. ap (renamed new) e)
  releases-back (claim c v) d p q = ((λ e. absurd (let z : ◌≡◌ {A = ℕ} 0 1 = cc in omega arith)), λ e. absurd (let z : ◌≡◌ {A = ℕ} 0 1 = cc in omega arith))

  of-cleaned : OfCleaned s (cleaned s)
  of-cleaned =
      let named = all_named s w in
      let cs = s.capacities in
      record {
        tasks = length-map {B = Task} s.tasks (map (renamed new));
        actions = lengths-cleaned s;
        numbered = λ d k. (new-of s.tasks named cs d k.0 (passes d k)).0;
        closed_up = λ e h. let o = old_of s.tasks named cs e h in (o.0, (o.1, is-claimed s o.0 o.2), sym o.3);
        in_order = λ c d k _ h. many_below f c d (passes c k) h;
        capacity = λ d k. (new-of s.tasks named cs d k.0 (passes d k)).1;
        claims = λ k p d u h l q. rw (action-in k p) (claims-back (action_at s k p) d u (action-claims k p h l) (passes d q));
        releases = λ k p d h l q. rw (action-in k p) (releases-back (action_at s k p) d (action-claims k p h l) (passes d q));
        same_permitted = λ x. ap (λ (t : State → Bool). t x) (permitted-cleaned s w);
        same_map = map-cleaned s w;
        same_unsafe = unsafe-cleaned s w;
        same_dead = dead-cleaned s w;
        same_forbidden = forbidden-cleaned s w;
      }

-- ---- which calls are answered how
module _ (words slice : List ℕ) (s : Set) (e : read_by former words ≡ given s) where
  short : length slice < length (encode (cleaned s)) → clean words slice ≡ record { answer = refused 25 (length (encode (cleaned s))); slice = slice }
  unfolding ◌then◌ if_given clean_fits
  short h = rw (e, lt-ltb (length slice) (length (encode (cleaned s))) h)

  fits : length (encode (cleaned s)) ≤ length slice
      → clean words slice ≡ record { answer = given (length (encode (cleaned s))); slice = encode (cleaned s) ++ drop (length (encode (cleaned s))) slice }
  unfolding ◌then◌ if_given clean_fits
  fits h = rw (e, le-ltb (length slice) (length (encode (cleaned s))) h)

refuses : (words slice : List ℕ) (n p : ℕ) → read_by former words ≡ refused n p → clean words slice ≡ record { answer = refused n p; slice = slice }
unfolding ◌then◌ if_given
refuses words slice n p e = rw e

-- an accepted call: the set, the number of its words, and that they fit
module _ (words slice : List ℕ) (n : ℕ) (e : (clean words slice).answer ≡ given n) where
  from-given : (s : Set) × (read_by former words ≡ given s) × (n ≡ length (encode (cleaned s))) × (length (encode (cleaned s)) ≤ length slice)
  unfolding clean_fits
  from-given =
      let r = (then-given (λ ws. given (length ws)) (read_by former words then clean_fits slice) n).0 e in
      let q = (then-given (clean_fits slice) (read_by former words) r.0).0 r.1 in
      let s = q.0 in
      by_bool (ltb (length slice) (length (encode (cleaned s))))
      (λ k. refused-given (rw k at q.2))
      (λ k.
      let same = given-value (rw k at q.2) in
      (s, q.1, sym (given-value r.2) ∙ ap length (sym same), ltb-false (length slice) (length (encode (cleaned s))) k))

  -- what is written
  front : (s : Set) → read_by former words ≡ given s → n ≡ length (encode (cleaned s)) → length (encode (cleaned s)) ≤ length slice
      → take n (clean words slice).slice ≡ encode (cleaned s)
  front s f count room =
      ap (λ (c : Cleaned). take n c.slice) (fits words slice s f room)
      ∙ ap (λ (k : ℕ). take k (encode (cleaned s) ++ drop (length (encode (cleaned s))) slice)) count
      ∙ take-append_seam (encode (cleaned s)) (drop (length (encode (cleaned s))) slice)

  is-accepted : (s : Set) × (read_by former words ≡ given s) × (read (take n (clean words slice).slice) ≡ given (cleaned s))
  is-accepted =
      let r = from-given in
      let s = r.0 in
      (s, r.1, ap read (front s r.1 r.2 r.3) ∙ read-complete present (cleaned s) (cleaned-formed s (read-sound words s r.1).1))

-- the present rules accept less
to-former : (s : Set) → WellFormedBy present s → WellFormedBy former s
to-former s w =
    record {
      capacities = w.capacities;
      devices = w.devices;
      some_task = w.some_task;
      tasks = w.tasks;
      each_task = w.each_task;
      each_device = λ e. true-not-false former e refl;
      grid = w.grid;
      words = w.words;
    }

to-present : (s : Set) → WellFormedBy former s → AllClaimed s → WellFormedBy present s
to-present s w all =
    record {
      capacities = w.capacities;
      devices = w.devices;
      some_task = w.some_task;
      tasks = w.tasks;
      each_task = w.each_task;
      each_device = λ e d h. claimed-test s d (all d h);
      grid = w.grid;
      words = w.words;
    }

both : (words : List ℕ) (s : Set) → (read words ≡ given s) ↔ ((read_by former words ≡ given s) × AllClaimed s)
both words s = (
  (λ e.
      let r = read-sound words s e in
      (ap (read_by former) r.0 ∙ read-complete former s (to-former s r.1), λ d h. is-claimed s d (r.1.each_device refl d h))),
  (λ h.
      let r = read-sound words s h.0 in
      ap read r.0 ∙ read-complete present s (to-present s r.1 h.1)),
)

-- a clean set comes back
stays : (words slice : List ℕ) (s : Set) → read words ≡ given s → length words ≤ length slice
    → clean words slice ≡ record { answer = given (length words); slice = words ++ drop (length words) slice }
stays words slice s e h =
    let r = read-sound words s e in
    let same : encode (cleaned s) ≡ words = ap encode (cleaned-same s r.1) ∙ sym r.0 in
    rw same at (fits words slice s ((both words s).0 e).0 (rw same h))

-- cleaned words are clean
twice : (words slice : List ℕ) (n : ℕ) (e : (clean words slice).answer ≡ given n) (other : List ℕ) → n ≤ length other
    → let ws = take n (clean words slice).slice in clean ws other ≡ record { answer = given (length ws); slice = ws ++ drop (length ws) other }
twice words slice n e other h =
    let r = is-accepted words slice n e in
    let g = from-given words slice n e in
    let same = front words slice n e g.0 g.1 g.2 g.3 in
    stays (take n (clean words slice).slice) other (cleaned r.0) r.2 (rw (same, ← g.2) h)

-- as many words fewer as devices are dropped
no_longer : (words : List ℕ) (s : Set) → read_by former words ≡ given s → length (encode (cleaned s)) ≤ length words
no_longer words s e =
    let fewer : length (encode (cleaned s)) ≤ length (encode s) = omega (arith, length-cleaned s, many-bound (length s.capacities) (claimed s.tasks)) in
    rw (read-sound {rules = former} words s e).0 fewer

-- 24 is brought by the close alone
close-24 : (n : ℕ) (s : Set) (d : ℕ) → close present n s ≡ refused 24 d → LowestUnclaimed s d
unfolding close
close-24 n s d e =
    by_bool (ltb (first_unclaimed s) (length s.capacities))
    (λ k. rw (refused-place (rw k at e)) at (lowest-unclaimed s (ltb-true _ _ k)))
    (λ k. by_bool (ltb 65536 (size (lengths_of s)))
    (λ g. absurd (omega (arith, refused-number (rw (k, g) at e))))
    (λ g. given-refused (rw (k, g) at e)))

lowest-24 : (words : List ℕ) (d : ℕ) → read words ≡ refused 24 d → (s : Set) × (words ≡ encode s) × LowestUnclaimed s d
unfolding read_by
lowest-24 words d e =
    by_cases ((then-refused (close present (length words)) (read_words words) 24 d).0 e)
    (λ r. by_cases (words-listed words 24 d r) (λ n. absurd (omega arith)) (λ n. absurd (omega arith)))
    (λ r. (r.0, (words-sound words r.0 r.1).0, close-24 (length words) r.0 d r.2))

pub cleaning-holds : Cleaning
unfolding any lowest how_many claims claimed size last_task add_action held_after note out_of_order field_allowed too_many too_many_units fault read_from read_words close read_by ◌then◌ if_given action_word task_words body with_end kept_from renamed clean_fits
cleaning-holds = record {
  turned_back = refuses;
  too_short = short;
  fits = fits;
  no_longer = no_longer;
  of-set = of-cleaned;
  accepted = is-accepted;
  clean_stays = stays;
  twice = twice;
  both_rules = both;
  lowest = lowest-24;
  example = refl;
  short_example = refl;
  units_example = refl;
  units_refused = refl;
}
