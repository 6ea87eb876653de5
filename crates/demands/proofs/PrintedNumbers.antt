-- Printed numbers stand for what they should: decimal ones, and the hexadecimal digits of a word's line.
use Prim.Native.Nat.{ℕ, zero, suc, ◌+◌, ◌*◌, ◌-◌, ◌/◌, ◌%◌, ◌<◌, ◌≤◌}
use native.Mathlib.Omega.{arith}
use mathlib.Core.Path.{◌≡◌, refl, ap, ◌∙◌}
use mathlib.Core.Logic.{inl, inr}
use mathlib.Core.List.{List, [], ◌∷◌, ◌++◌, map}
use lib.ListN.{length, get_or, length-append, get_or-append}
use lib.Dec.{ltb}
use borrow.Author.Tests.{lt-ltb, le-ltb, ltb-true, ltb-false}
use Rattle.model.specs.Printed.{decimal, hex_digit, hex_line}
use Rattle.model.proofs.Bools.{by_bool}
use Rattle.model.proofs.Each.{Each, each_at, each_append, each_map}
use Rattle.model.proofs.Decimal.{decimal-one, decimal-more}
use Rattle.demands.specs.Printer.{number_from, IsDecimal, IsHex, hex_value, IsLine}

-- a number of one character more
number-snoc : (base : ℕ) (value : ℕ → ℕ) (n : ℕ) (cs : List ℕ) (c : ℕ) → number_from base value n (cs ++ (c ∷ [])) ≡ number_from base value n cs * base + value c
unfolding number_from
number-snoc base value n [] c = refl
number-snoc base value n (d ∷ cs) c = number-snoc base value (n * base + value d) cs c

-- a decimal digit's character
abbrev IsDigit : ℕ → Type 0
IsDigit c = (48 ≤ c) × (c ≤ 57)

-- what is proved of a number by its tenth: some characters, all digits, the first of a number above 0 not 0, that stand for it
record Spelt (n : ℕ) (text : List ℕ) : Type 0 where
  some : 0 < length text
  digits : Each IsDigit text
  leading : 1 ≤ n → 48 < get_or text 0 0
  number : number_from 10 (λ c. c - 48) 0 text ≡ n

one : (n : ℕ) → n < 10 → Spelt n ((48 + n) ∷ [])
unfolding number_from
one n h = record {
  some = omega arith;
  digits = ((omega arith, omega arith), tt);
  leading = λ l. omega arith;
  number = omega arith;
}

module _ (n : ℕ) (h : 10 ≤ n) (cs : List ℕ) (tenth : Spelt (n / 10) cs) where
  abbrev c : ℕ
  c = 48 + n % 10

  more : Spelt n (cs ++ (c ∷ []))
  more = record {
    some = omega (arith, length-append cs (c ∷ []));
    digits = each_append IsDigit cs (c ∷ []) tenth.digits ((omega arith, omega arith), tt);
    leading = λ l. rw (get_or-append cs (c ∷ []) 0 0 tenth.some) (tenth.leading (omega arith));
    number = number-snoc 10 (λ c. c - 48) 0 cs c ∙ omega (arith, tenth.number);
  }

spelt : (k n : ℕ) → n < k → Spelt n (decimal n)
spelt zero n h = absurd (let f : ⊥ = omega arith in f)
spelt (suc k) n h =
    by_bool (ltb n 10)
    (λ b. let l = ltb-true n 10 b in rw (decimal-one n l) (one n l))
    (λ b. let l = ltb-false n 10 b in rw (decimal-more n l) (more n l (decimal (n / 10)) (spelt k (n / 10) (omega arith))))

pub is-decimal : (n : ℕ) → IsDecimal n (decimal n)
is-decimal n =
    let s = spelt (suc n) n (omega arith) in
    record {
      some = s.some;
      digits = each_at IsDigit 0 (decimal n) s.digits;
      no_zeros = λ l. by_bool (ltb n 10)
          (λ b. absurd (let f : ⊥ = omega (arith, ap length (decimal-one n (ltb-true n 10 b))) in f))
          (λ b. let k = ltb-false n 10 b in s.leading (omega arith));
      number = s.number;
    }

-- a hexadecimal digit below 16 is one, and counts as much
is-hex : (d : ℕ) → d < 16 → IsHex (hex_digit d)
is-hex d h =
    by_bool (ltb d 10)
    (λ b. let l = ltb-true d 10 b in rw b (inl (omega arith, omega arith)))
    (λ b. let l = ltb-false d 10 b in rw b (inr (omega arith, omega arith)))

hex-value : (d : ℕ) → d < 16 → hex_value (hex_digit d) ≡ d
hex-value d h =
    by_bool (ltb d 10)
    (λ b. let l = ltb-true d 10 b in rw (b, lt-ltb (48 + d) 65 (omega arith)) (omega arith))
    (λ b. let l = ltb-false d 10 b in rw (b, le-ltb (65 + (d - 10)) 65 (omega arith)) (omega arith))

-- digits below 16
abbrev Below : ℕ → Type 0
Below d = d < 16

each-hex : (ds : List ℕ) → Each Below ds → (i : ℕ) → i < length (map hex_digit ds) → IsHex (get_or (map hex_digit ds) i 0)
each-hex ds b = each_at IsHex 0 (map hex_digit ds) (each_map Below IsHex hex_digit is-hex ds b)

counted : (ds : List ℕ) → Each Below ds → (n : ℕ) → number_from 16 hex_value n (map hex_digit ds) ≡ number_from 16 (λ d. d) n ds
unfolding number_from
counted [] b n = refl
counted (d ∷ ds) b n = ap (λ (v : ℕ). number_from 16 hex_value (n * 16 + v) (map hex_digit ds)) (hex-value d b.0) ∙ counted ds b.1 (n * 16 + d)

-- the digits of a word
abbrev digits_of : ℕ → List ℕ
digits_of w =
    w / 0x10000000 % 16 ∷ w / 0x1000000 % 16 ∷ w / 0x100000 % 16 ∷ w / 0x10000 % 16
    ∷ w / 0x1000 % 16 ∷ w / 0x100 % 16 ∷ w / 0x10 % 16 ∷ w % 16 ∷ []

-- all digits of a number but its last, and that one
join : (x q r : ℕ) → x ≡ r → q / 16 ≡ r → x * 16 + q % 16 ≡ q
join x q r e f = omega arith

stand : (w : ℕ) → w < 0x100000000 → number_from 16 (λ d. d) 0 (digits_of w) ≡ w
unfolding number_from
stand w h =
    let seven : 0 * 16 + w / 0x10000000 % 16 ≡ w / 0x10000000 = omega arith in
    let six = join _ (w / 0x1000000) (w / 0x10000000) seven (omega arith) in
    let five = join _ (w / 0x100000) (w / 0x1000000) six (omega arith) in
    let four = join _ (w / 0x10000) (w / 0x100000) five (omega arith) in
    let three = join _ (w / 0x1000) (w / 0x10000) four (omega arith) in
    let two = join _ (w / 0x100) (w / 0x1000) three (omega arith) in
    let one = join _ (w / 0x10) (w / 0x100) two (omega arith) in
    join _ w (w / 0x10) one refl

pub is-line : (w : ℕ) → w < 0x100000000 → IsLine w (hex_line w)
is-line w h =
    let b : Each Below (digits_of w) = (omega arith, (omega arith, (omega arith, (omega arith, (omega arith, (omega arith, (omega arith, (omega arith, tt)))))))) in
    record {
      nine = refl;
      ends = refl;
      digits = λ i l. rw (get_or-append (map hex_digit (digits_of w)) (10 ∷ []) 0 i l) (each-hex (digits_of w) b i l);
      number = counted (digits_of w) b 0 ∙ stand w h;
    }
