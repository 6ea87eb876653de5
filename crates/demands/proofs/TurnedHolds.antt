-- The refusals 1 to 12, 24 and 28 of all words: the reader gives each exactly where SCOPE.md, "Refusals", says.
use Prim.Native.Nat.{ℕ, zero, suc, ◌<◌, ◌≤◌}
use native.Mathlib.Omega.{arith}
use native.Mathlib.Nat.{eq-or-lt_of_le, le_of_suc-le-suc}
use mathlib.Core.Path.{◌≡◌, refl, sym, ap, ◌∙◌}
use mathlib.Core.Logic.{◌⊎◌, inl, inr}
use mathlib.Core.List.{List, []}
use lib.ListN.{length, drop}
use lib.Seq.{take-length, drop-length, drop-cons}
use lib.Dec.{ltb}
use borrow.Author.Tests.{lt-ltb, le-ltb, ltb-true, ltb-false, ne_eqb}
use Rattle.model.specs.Set.{Set, lengths_of, at, size}
use Rattle.model.specs.Layout.{encode, Rules, present, former}
use Rattle.model.specs.Answer.{given, refused, ◌then◌}
use Rattle.model.specs.Read.{Scan, nothing_read, note, fault, read_from, read_words, first_unclaimed, close, read_by}
use Rattle.model.proofs.Bools.{by_bool, by_cases}
use Rattle.model.proofs.Faults.{fault-passes}
use Rattle.demands.specs.Turned.{in_order, place_in, kind, field, Came, Brings, after_end, Faultless, FirstFault, OfWhole, Turned}
use Rattle.demands.specs.Terms.{AllClaimed}
use Rattle.demands.proofs.ClaimedDevices.{lowest-unclaimed, unclaimed-lowest, all-or-lowest}
use Rattle.demands.proofs.ReadSoFar.{Tracks, going, done, nothing, tracks_on}
use Rattle.demands.proofs.WordFaults.{going-brings}
use Rattle.demands.proofs.LowestFaults.{Within, going-within, in_order_lem}

module _ (ws : List ℕ) where
  -- ---- the number of word i, after words without a fault
  abbrev fault_at : Scan → ℕ → ℕ
  fault_at s i = fault s i (kind ws i) (field ws i)

  brings : (i : ℕ) (s : Scan) (m : ℕ) → Tracks ws i s → fault_at s i ≡ suc m → Brings ws i (suc m)
  unfolding fault
  brings i s m (going cs ts g) e = going-brings ws i cs ts g m e
  brings i s m (done r c w) e = rw (← e) (after_end c)

  within : (i : ℕ) (s : Scan) (n : ℕ) → Tracks ws i s → Brings ws i n → Within n (fault_at s i)
  unfolding fault place_in
  within i s n (going cs ts g) b = going-within ws i cs ts g n b
  within i s n (done r c w) b = (omega arith, omega arith)

  -- two numbers of a word with one place are one
  same_number : (i n m : ℕ) → Brings ws i n → Brings ws i m → place_in in_order n ≡ place_in in_order m → n ≡ m
  same_number i n m b c e = sym (in_order_lem ws i n b) ∙ ap (at in_order) e ∙ in_order_lem ws i m c

  first-of : (i : ℕ) (s : Scan) (n : ℕ) → Tracks ws i s → Brings ws i n → ((m : ℕ) → Brings ws i m → place_in in_order n ≤ place_in in_order m) → fault_at s i ≡ n
  first-of i s n t b least = by_number (fault_at s i) refl (within i s n t b)
    where
      by_number : (v : ℕ) → fault_at s i ≡ v → Within n v → v ≡ n
      by_number zero e w = absurd (omega arith)
      by_number (suc m) e w = let c = brings i s m t e in same_number i (suc m) n c b (omega (arith, least (suc m) c, w.1))

  unfaulted : (i : ℕ) (s : Scan) → Tracks ws i s → ((m : ℕ) → Brings ws i m → ⊥) → fault_at s i ≡ 0
  unfaulted i s t none = by_number (fault_at s i) refl
    where
      by_number : (v : ℕ) → fault_at s i ≡ v → v ≡ 0
      by_number zero e = refl
      by_number (suc m) e = absurd (none (suc m) (brings i s m t e))

  -- ---- what the whole answers is what the words from i on answer
  record ReadTo (i : ℕ) : Type 0 where
    scan : Scan
    tracks : Tracks ws i scan
    rest : read_from nothing_read 0 ws ≡ read_from scan i (drop i ws)

  -- the word at i, first of those left
  read_at : (i : ℕ) (s : Scan) (n : ℕ) → i < length ws → fault_at s i ≡ n → 0 < n → read_from s i (drop i ws) ≡ refused n i
  unfolding read_from
  read_at i s n l e some = rw (drop-cons ws i 0 l, e, lt-ltb 0 n some)

  read_past : (i : ℕ) (s : Scan) → i < length ws → fault_at s i ≡ 0 → read_from s i (drop i ws) ≡ read_from (note s (kind ws i) (field ws i)) (suc i) (drop (suc i) ws)
  unfolding read_from
  read_past i s l e = rw (drop-cons ws i 0 l, e)

  read-to : (i : ℕ) → i ≤ length ws → Faultless ws i → ReadTo i
  read-to zero l c = record { scan = nothing_read; tracks = going [] [] (nothing ws); rest = refl }
  read-to (suc i) l c =
      let r = read-to i (omega arith) (λ j m h. c j m (omega arith)) in
      let s = r.scan in
      let here : i < length ws = omega arith in
      let e = unfaulted i s r.tracks (λ m. c i m (omega arith)) in
      record {
        scan = note s (kind ws i) (field ws i);
        tracks = tracks_on ws i s here r.tracks (fault-passes s i (kind ws i) (field ws i) e);
        rest = r.rest ∙ read_past i s here e;
      }

  -- the words are neither none nor too many
  from_first : 0 < length ws → length ws ≤ 4096 → read_words ws ≡ read_from nothing_read 0 ws
  unfolding read_words
  from_first some few = rw (ne_eqb (length ws) 0 (λ z. omega arith), le-ltb 4096 (length ws) few)

  over : 4096 < length ws → read_words ws ≡ refused 2 4096
  unfolding read_words
  over l = rw (ne_eqb (length ws) 0 (λ z. omega arith), lt-ltb 4096 (length ws) l)

  first-fault : (i n : ℕ) → length ws ≤ 4096 → FirstFault ws i n → read_words ws ≡ refused n i
  first-fault i n few f =
      let r = read-to i (omega (arith, f.listed)) f.faultless_before in
      let e = first-of i r.scan n r.tracks f.brings f.first in
      let w = within i r.scan n r.tracks f.brings in
      from_first (omega (arith, f.listed)) few ∙ r.rest ∙ read_at i r.scan n f.listed e (rw e at w.0)

  -- the first k words are without a fault, or one of them is the first that has one
  clean-or-not : (k : ℕ) → k ≤ length ws → Faultless ws k ⊎ ((i n : ℕ) × FirstFault ws i n)
  clean-or-not zero l = inl (λ j m h. absurd (omega arith))
  clean-or-not (suc k) l = by_cases (clean-or-not k (omega arith)) (λ c. by_number c (read-to k (omega arith) c)) inr
    where
      by_number : Faultless ws k → ReadTo k → Faultless ws (suc k) ⊎ ((i n : ℕ) × FirstFault ws i n)
      by_number c r = on (fault_at r.scan k) refl
        where
          on : (v : ℕ) → fault_at r.scan k ≡ v → Faultless ws (suc k) ⊎ ((i n : ℕ) × FirstFault ws i n)
          on zero e = inl λ j m h b.
              by_cases (eq-or-lt_of_le (le_of_suc-le-suc h))
              (λ q. let w = within k r.scan m r.tracks (rw q at b) in omega arith)
              (λ q. c j m q b)
          on (suc v) e = inr (
            k,
            suc v,
            record {
              listed = omega arith;
              faultless_before = c;
              brings = brings k r.scan v r.tracks e;
              first = λ m b. rw e at (within k r.scan m r.tracks b).1;
            },
          )

  -- all words, without a fault
  read_all : 0 < length ws → length ws ≤ 4096 → (r : ReadTo (length ws)) → read_words ws ≡ read_from r.scan (length ws) []
  read_all some few r = from_first some few ∙ r.rest ∙ ap (read_from r.scan (length ws)) (drop-length ws)

  unended : (s : Scan) → Tracks ws (length ws) s → (Came ws (length ws) 5 → ⊥) → read_from s (length ws) [] ≡ refused 11 (length ws)
  unfolding read_from
  unended s (going cs ts g) n = refl
  unended s (done r c w) n = absurd (n c)

  -- the set that all words declare
  ended : (s : Scan) → Tracks ws (length ws) s → Came ws (length ws) 5 → (r : Set) × (ws ≡ encode r) × (read_from s (length ws) [] ≡ given r)
  unfolding read_from
  ended s (going cs ts g) c = absurd (g.no_end c)
  ended s (done r e w) c = (r, sym (take-length ws) ∙ w, refl)

-- a refusal of the words is one by all rules
by-rules : (rules : Rules) (ws : List ℕ) (n p : ℕ) → read_words ws ≡ refused n p → read_by rules ws ≡ refused n p
unfolding read_by ◌then◌
by-rules rules ws n p e = rw e

-- what a set that all words declare answers
module _ (ws : List ℕ) (s : Set) (declared : read_words ws ≡ given s) where
  closed : (rules : Rules) → read_by rules ws ≡ close rules (length ws) s
  unfolding read_by ◌then◌
  closed rules = rw declared

  first-claimed : AllClaimed s → length s.capacities ≤ first_unclaimed s
  first-claimed all =
      by_bool (ltb (first_unclaimed s) (length s.capacities))
      (λ k. let l = lowest-unclaimed s (ltb-true _ _ k) in absurd (l.unclaimed (all (first_unclaimed s) l.declared)))
      (λ k. ltb-false _ _ k)

  whole : ws ≡ encode s → OfWhole ws s
  unfolding close
  whole e =
      let n = length s.capacities in
      let g = size (lengths_of s) in
      record {
        words = e;
        claims = all-or-lowest s;
        unclaimed = λ d l.
            let same = unclaimed-lowest s d l in
            closed present ∙ rw (lt-ltb (first_unclaimed s) n (omega (arith, same, l.declared))) (ap (λ (k : ℕ). refused 24 k) same);
        too_large = λ all h. closed present ∙ rw (le-ltb (first_unclaimed s) n (first-claimed all), lt-ltb 65536 g h);
        accepted = λ all h. closed present ∙ rw (le-ltb (first_unclaimed s) n (first-claimed all), le-ltb 65536 g h);
        formerly_too_large = λ h. closed former ∙ rw (lt-ltb 65536 g h);
        formerly_accepted = λ h. closed former ∙ rw (le-ltb 65536 g h);
      }

pub turned : Turned
unfolding read_words read_by ◌then◌
turned = record {
  no_words = λ rules. refl;
  too_many = λ rules ws l. by-rules rules ws 2 4096 (over ws l);
  cases = λ ws few. clean-or-not ws (length ws) (omega arith);
  first_word = λ rules ws i n few f. by-rules rules ws n i (first-fault ws i n few f);
  no_end = λ rules ws some few c n.
      let r = read-to ws (length ws) (omega arith) c in
      by-rules rules ws 11 (length ws) (read_all ws some few r ∙ unended ws r.scan r.tracks n);
  with-end = λ ws few c e.
      let r = read-to ws (length ws) (omega arith) c in
      let d = ended ws r.scan r.tracks e in
      (d.0, whole ws d.0 (read_all ws (omega (arith, e.1)) few r ∙ d.2) d.1);
}
