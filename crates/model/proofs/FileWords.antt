-- The words of a file's bytes: the three cases, and what each answer tells of the bytes.
use Prim.Native.Nat.{ℕ, ◌/◌, ◌%◌, ◌<◌, ◌≤◌}
use native.Mathlib.Omega.{arith}
use mathlib.Core.Path.{◌≡◌, sym, ◌∙◌}
use mathlib.Core.List.{List}
use lib.ListN.{length}
use lib.Dec.{ltb, eqb}
use borrow.Author.Tests.{lt-ltb, le-ltb, eq-eqb, ne_eqb, ltb-true, ltb-false, eqb-true, eqb-false}
use Rattle.model.specs.Answer.{given, refused}
use Rattle.model.specs.Printed.{word_at, words_in, words_of}
use Rattle.model.proofs.Bools.{by_bool}
use Rattle.model.proofs.Answers.{given-refused, refused-given, refused-number, refused-place, given-value}
use Rattle.model.proofs.Lists.{length-tabulate}

module _ (bs : List ℕ) where
  -- as many as there are fours of bytes
  pub count-words : length (words_in bs) ≡ length bs / 4
  count-words = length-tabulate (length bs / 4) (word_at bs)

  pub too_many_lem : 16384 < length bs → words_of bs ≡ refused 2 4096
  unfolding words_of
  too_many_lem h = rw (lt-ltb 16384 (length bs) h)

  pub not-whole : length bs ≤ 16384 → (length bs % 4 ≡ 0 → ⊥) → words_of bs ≡ refused 15 (length bs / 4)
  unfolding words_of
  not-whole h f = rw (le-ltb 16384 (length bs) h, ne_eqb (length bs % 4) 0 f)

  pub whole : length bs ≤ 16384 → length bs % 4 ≡ 0 → words_of bs ≡ given (words_in bs)
  unfolding words_of
  whole h e = rw (le-ltb 16384 (length bs) h, eq-eqb (length bs % 4) 0 e)

  -- words are all the whole ones, and at most 4,096
  pub words-given : (ws : List ℕ) → words_of bs ≡ given ws → (ws ≡ words_in bs) × (length ws ≤ 4096)
  words-given ws e =
      by_bool (ltb 16384 (length bs))
      (λ b. refused-given (sym (too_many_lem (ltb-true 16384 (length bs) b)) ∙ e))
      (λ b. let h = ltb-false 16384 (length bs) b in
      by_bool (eqb (length bs % 4) 0)
      (λ q. let w = given-value (sym e ∙ whole h (eqb-true (length bs % 4) 0 q)) in (w, rw w (omega (arith, count-words))))
      (λ q. refused-given (sym (not-whole h (eqb-false (length bs % 4) 0 q)) ∙ e)))

  -- a refusal's number and place are small
  pub placed : (n p : ℕ) → words_of bs ≡ refused n p → (n < 100) × (p < 100000)
  placed n p e =
      by_bool (ltb 16384 (length bs))
      (λ b. let q = sym (too_many_lem (ltb-true 16384 (length bs) b)) ∙ e in (omega (arith, refused-number q), omega (arith, refused-place q)))
      (λ b. let h = ltb-false 16384 (length bs) b in
      by_bool (eqb (length bs % 4) 0)
      (λ q. given-refused (sym (whole h (eqb-true (length bs % 4) 0 q)) ∙ e))
      (λ q. let r = sym (not-whole h (eqb-false (length bs % 4) 0 q)) ∙ e in (omega (arith, refused-number r), omega (arith, refused-place r))))
