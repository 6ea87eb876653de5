-- What there is to print of words, by what an analysis answers and leaves in slices as long as the printer's; and what is printed of bytes.
use Prim.Native.Nat.{ℕ, ◌<◌, ◌≤◌}
use native.Mathlib.Omega.{arith}
use mathlib.Core.Path.{◌≡◌, sym, ap, ◌∙◌}
use mathlib.Core.Logic.{inl, inr}
use mathlib.Core.List.{List}
use lib.ListN.{length, take, drop}
use lib.Seq.{take_at}
use borrow.Author.Tests.{le-ltb}
use Rattle.model.specs.Answer.{given, refused, ◌then◌, if_given}
use Rattle.model.specs.Set.{Set, lengths_of, size}
use Rattle.model.specs.Read.{read}
use Rattle.model.specs.Record.{map_fits}
use Rattle.model.specs.Slice.{over}
use Rattle.model.specs.Analysis.{Planned, plan_fits, with_room, analyse}
use Rattle.model.specs.Printed.{words_of, to_print, refusal_line, text_of, printed, TEXT, shown, printed_in}
use Rattle.model.proofs.Bools.{by_cases}
use Rattle.model.proofs.Answers.{given-refused, given-value, then-refused, then-given}
use Rattle.model.proofs.ReadExact.{read-sound}
use Rattle.model.proofs.Outcome.{plan-given, room-given}
use Rattle.model.proofs.FileShown.{in-long, in-short, by-words, by-none}

module _ (words map plan : List ℕ) (all : 65536 ≤ length map) (most : length plan ≡ 16384) where
  -- what there is to print of a set is what fits into the plan slice
  fitted : (s : Set) → plan_fits s plan ≡ to_print s
  unfolding plan_fits to_print
  fitted s = rw most

  -- the map of a set that is read always has room
  roomy : (s : Set) → read words ≡ given s → map_fits s map ≡ given (size (lengths_of s))
  unfolding map_fits
  roomy s e = let grid = (read-sound words s e).1.grid in rw (le-ltb (length map) (size (lengths_of s)) (omega arith))

  -- the plan slice of an accepted analysis
  written : (s : Set) (ws : List ℕ) → with_room words map ≡ given s → plan_fits s plan ≡ given ws → (analyse words map plan).plan ≡ over ws plan
  unfolding if_given
  written s ws e q = rw (e, q)

  -- accepted: the words that the plan slice has at its front
  pub planned : (a : Planned) → (analyse words map plan).answer ≡ given a
      → ((read words then to_print) ≡ given (take a.words (analyse words map plan).plan)) × (a.words ≤ 16384)
  planned a e =
      let r = (then-given _ (with_room words map) a).0 e in
      let q = (then-given _ (plan_fits r.0 plan) a).0 r.2 in
      let count : length q.0 ≡ a.words = ap (λ (p : Planned). p.words) (given-value q.2) in
      let front = take_at q.0 (drop (length q.0) plan) a.words count in
      let left = ap (take a.words) (written r.0 q.0 r.1 q.1) ∙ front in (
        (then-given to_print (read words) q.0).1 (r.0, (room-given words map r.0 r.1).0, sym (fitted r.0) ∙ q.1) ∙ ap given (sym left),
        omega (arith, (plan-given r.0 plan q.0 q.1).1, count),
      )

  -- refused: with the same number and place
  pub turned_back : (n p : ℕ) → (analyse words map plan).answer ≡ refused n p → (read words then to_print) ≡ refused n p
  turned_back n p e =
      by_cases ((then-refused _ (with_room words map) n p).0 e)
      (λ q. by_cases ((then-refused _ (read words) n p).0 q)
      (λ t. (then-refused to_print (read words) n p).1 (inl t))
      (λ t. by_cases ((then-refused _ (map_fits t.0 map) n p).0 t.2)
      (λ f. given-refused (sym (roomy t.0 t.1) ∙ f))
      (λ f. given-refused f.2)))
      (λ r. by_cases ((then-refused _ (plan_fits r.0 plan) n p).0 r.2)
      (λ f. (then-refused to_print (read words) n p).1 (inr (r.0, (room-given words map r.0 r.1).0, sym (fitted r.0) ∙ f)))
      (λ f. given-refused f.2))

-- ---- what is printed
module _ (bs : List ℕ) where
  -- by what the bytes are
  pub of_words : (ws : List ℕ) → words_of bs ≡ given ws → printed bs ≡ text_of (read ws then to_print)
  of_words = by-words (λ ws. read ws then to_print) text_of bs

  pub of_none : (n p : ℕ) → words_of bs ≡ refused n p → printed bs ≡ refusal_line n p
  unfolding text_of
  of_none = by-none (λ ws. read ws then to_print) text_of bs

  -- into a slice that is long enough, and into one that is not
  pub long-enough : (slice : List ℕ) → TEXT ≤ length slice → shown (printed bs) slice ≡ printed_in bs slice
  unfolding printed_in
  long-enough = in-long TEXT (printed bs)

  pub too_short : (slice : List ℕ) → length slice < TEXT → record { count = 0; slice = slice } ≡ printed_in bs slice
  unfolding printed_in
  too_short = in-short TEXT (printed bs)
