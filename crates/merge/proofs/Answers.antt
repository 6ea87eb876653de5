-- What the code answers, case by case, is what the definition says.
use Prim.Native.Nat.{ℕ, ◌<◌, ◌≤◌}
use mathlib.Core.Path.{◌≡◌, refl, sym, ap, ap₂, ◌∙◌}
use mathlib.Core.Logic.{◌⊎◌}
use mathlib.Core.List.{List}
use lib.ListN.{length}
use lib.Dec.{ltb}
use borrow.Author.Tests.{lt-ltb, le-ltb}
use Rattle.model.specs.Answer.{given, refused, ◌then◌, Written, if_given, in_slice}
use Rattle.model.specs.Slice.{over}
use Rattle.model.specs.Set.{Set}
use Rattle.model.specs.Layout.{encode}
use Rattle.model.specs.Read.{Reading, read, set_in}
use Rattle.model.specs.Merge.{merged, first_unequal, merge_fits, merge}
use Rattle.model.proofs.Bools.{by_cases, or_right}

-- the answer of a refused merge, which leaves the slice as it was, and of one that writes
abbrev pub turned_back : ℕ → ℕ → List ℕ → Written
turned_back n p slice = record { answer = refused n p; slice = slice }

abbrev pub written : List ℕ → List ℕ → Written
written ws slice = record { answer = given (length ws); slice = over ws slice }

module _ (k : ℕ) (slice : List ℕ) where
  -- what becomes of two readings
  abbrev made : Reading → Reading → Written
  made x y = in_slice (x then λ s. y then λ t. merge_fits k s t slice) slice

  module _ (s t : Set) where
    -- ---- what two sets bring
    short-first : length s.capacities < k → merge_fits k s t slice ≡ refused 29 0
    unfolding merge_fits
    short-first h = rw (lt-ltb (length s.capacities) k h)

    short-second : length t.capacities < k → merge_fits k s t slice ≡ refused 29 0
    unfolding merge_fits
    short-second h = rw (or_right (ltb (length s.capacities) k) (ltb (length t.capacities) k) (lt-ltb (length t.capacities) k h))

    module _ (f : k ≤ length s.capacities) (g : k ≤ length t.capacities) where
      unequal : first_unequal k s t < k → merge_fits k s t slice ≡ refused 30 (first_unequal k s t)
      unfolding merge_fits
      unequal h = rw (le-ltb (length s.capacities) k f, le-ltb (length t.capacities) k g, lt-ltb (first_unequal k s t) k h)

      module _ (e : k ≤ first_unequal k s t) where
        short-slice : length slice < length (encode (merged k s t)) → merge_fits k s t slice ≡ refused 31 (length (encode (merged k s t)))
        unfolding merge_fits
        short-slice h =
            rw (le-ltb (length s.capacities) k f, le-ltb (length t.capacities) k g, le-ltb (first_unequal k s t) k e, lt-ltb (length slice) (length (encode (merged k s t))) h)

        module _ (h : length (encode (merged k s t)) ≤ length slice) where
          unread : (n p : ℕ) → read (encode (merged k s t)) ≡ refused n p → merge_fits k s t slice ≡ refused n p
          unfolding merge_fits ◌then◌
          unread n p r =
              rw (le-ltb (length s.capacities) k f, le-ltb (length t.capacities) k g, le-ltb (first_unequal k s t) k e, le-ltb (length slice) (length (encode (merged k s t))) h, r)

          fits : (u : Set) → read (encode (merged k s t)) ≡ given u → merge_fits k s t slice ≡ given (encode (merged k s t))
          unfolding merge_fits ◌then◌
          fits u r =
              rw (le-ltb (length s.capacities) k f, le-ltb (length t.capacities) k g, le-ltb (first_unequal k s t) k e, le-ltb (length slice) (length (encode (merged k s t))) h, r)

    -- ---- the call's answer from that
    refused-made : (n p : ℕ) → merge_fits k s t slice ≡ refused n p → turned_back n p slice ≡ made (given s) (given t)
    unfolding ◌then◌ if_given
    refused-made n p e = rw e

    given-made : (ws : List ℕ) → merge_fits k s t slice ≡ given ws → written ws slice ≡ made (given s) (given t)
    unfolding ◌then◌ if_given
    given-made ws e = rw e

  second-made : (s : Set) (n p : ℕ) → turned_back n p slice ≡ made (given s) (refused n p)
  unfolding ◌then◌ if_given
  second-made s n p = refl

  first-made : (y : Reading) (n p : ℕ) → turned_back n p slice ≡ made (refused n p) y
  unfolding ◌then◌ if_given
  first-made y n p = refl

  module _ (first second : List ℕ) where
    -- the first set's refusal
    pub first-refused : (n p : ℕ) → read first ≡ refused n p → turned_back n p slice ≡ merge first second k slice
    first-refused n p e = first-made (read second) n p ∙ ap (λ (x : Reading). made x (read second)) (sym e)

    module _ (e : read first ≡ given (set_in first)) where
      -- the second's
      pub second-refused : (n p : ℕ) → read second ≡ refused n p → turned_back n p slice ≡ merge first second k slice
      second-refused n p f = second-made (set_in first) n p ∙ ap₂ made (sym e) (sym f)

      module _ (f : read second ≡ given (set_in second)) where
        abbrev s : Set
        s = set_in first

        abbrev t : Set
        t = set_in second

        both : made (given s) (given t) ≡ merge first second k slice
        both = ap₂ made (sym e) (sym f)

        -- 29
        pub too_many_shared : (length s.capacities < k) ⊎ (length t.capacities < k) → turned_back 29 0 slice ≡ merge first second k slice
        too_many_shared h = refused-made s t 29 0 (by_cases h (short-first s t) (short-second s t)) ∙ both

        module _ (l : k ≤ length s.capacities) (m : k ≤ length t.capacities) where
          -- 30
          pub unequal_capacities : (d : ℕ) → d ≡ first_unequal k s t → d < k → turned_back 30 d slice ≡ merge first second k slice
          unequal_capacities d q h = refused-made s t 30 d (rw q (unequal s t l m (rw (← q) h))) ∙ both

          module _ (q : k ≤ first_unequal k s t) where
            -- 31
            pub too_short : (n : ℕ) → n ≡ length (encode (merged k s t)) → length slice < n → turned_back 31 n slice ≡ merge first second k slice
            too_short n z h = refused-made s t 31 n (rw z (short-slice s t l m q (rw (← z) h))) ∙ both

            module _ (h : length (encode (merged k s t)) ≤ length slice) where
              -- what the merged words are refused with
              pub merge-refused : (n p : ℕ) → read (encode (merged k s t)) ≡ refused n p → turned_back n p slice ≡ merge first second k slice
              merge-refused n p r = refused-made s t n p (unread s t l m q h n p r) ∙ both

              pub merges : (u : Set) → read (encode (merged k s t)) ≡ given u → written (encode (merged k s t)) slice ≡ merge first second k slice
              merges u r = given-made s t (encode (merged k s t)) (fits s t l m q h u r) ∙ both
