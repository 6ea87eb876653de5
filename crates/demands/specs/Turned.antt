-- SCOPE.md, "Refusals", 1 to 12, 24 and 28, of all words: which word brings which number, said of the words alone, by the present rules and by the former ones.
use Rattle.std.specs.Prelude.{ℕ, suc, ◌+◌, ◌-◌, ◌/◌, ◌%◌, ◌<◌, ◌≤◌, ◌≡◌, ◌⊎◌, cond, List, [], ◌∷◌, length, get_or, eqb}
use Rattle.model.specs.Set.{Set, lengths_of, size}
use Rattle.model.specs.Layout.{encode, Rules, former}
use Rattle.model.specs.Answer.{given, refused}
use Rattle.model.specs.Read.{read_by, read}
use Rattle.demands.specs.Terms.{how_many, AllClaimed, LowestUnclaimed}

-- the numbers that a word can bring, in the order in which they count: 28 stands after 7 and before 8
abbrev pub in_order : List ℕ
in_order = 3 ∷ 4 ∷ 5 ∷ 6 ∷ 7 ∷ 28 ∷ 8 ∷ 9 ∷ 10 ∷ []

-- the first place of a number in a list, counted from 0; the list's length if it isn't there
unfoldable pub place_in : List ℕ → ℕ → ℕ
place_in [] n = 0
place_in (m ∷ ms) n = cond (eqb n m) 0 (suc (place_in ms n))

module _ (ws : List ℕ) where
  -- word i's top four bits, and its low 28
  abbrev pub kind : ℕ → ℕ
  kind i = get_or ws i 0 / 0x10000000

  abbrev pub field : ℕ → ℕ
  field i = get_or ws i 0 % 0x10000000

  -- a CLAIM's device, bits 15 to 0, and its extra units, bits 23 to 16
  abbrev pub device : ℕ → ℕ
  device i = field i % 0x10000

  abbrev pub extra : ℕ → ℕ
  extra i = field i / 0x10000 % 0x100

  -- how many devices are declared before word i
  abbrev pub declared : ℕ → ℕ
  declared i = how_many i (λ j. eqb (kind j) 1)

  -- before word i device d was declared, with capacity c: by the DEVICE that d others come before
  abbrev pub Declares : ℕ → ℕ → ℕ → Type 0
  Declares i d c = (j : ℕ) × (j < i) × (kind j ≡ 1) × (declared j ≡ d) × (field j ≡ c)

  -- a word before i has kind k
  abbrev pub Came : ℕ → ℕ → Type 0
  Came i k = (j : ℕ) × (j < i) × (kind j ≡ k)

  -- word i is a CLAIM or a RELEASE
  abbrev pub IsAction : ℕ → Type 0
  IsAction i = (kind i ≡ 3) ⊎ (kind i ≡ 4)

  -- before word i the open task holds device d: a CLAIM of d, and since then no TASK and no RELEASE of d
  abbrev pub Holds : ℕ → ℕ → Type 0
  Holds i d =
      (p : ℕ) × (p < i) × (kind p ≡ 3) × (device p ≡ d)
      × ((q : ℕ) → p < q → q < i → (kind q ≡ 2) ⊎ ((kind q ≡ 4) × (field q ≡ d)) → ⊥)

  -- before word i the open task has 255 actions: the last TASK is more than 255 words back
  abbrev pub Full : ℕ → Type 0
  Full i = (j : ℕ) × (j + 255 < i) × (kind j ≡ 2) × ((q : ℕ) → j < q → q < i → kind q ≡ 2 → ⊥)

  -- word i brings a number: the table's rows for each word, by kinds 1 DEVICE, 2 TASK, 3 CLAIM, 4 RELEASE, 5 END
  pub data Brings (i : ℕ) : ℕ → Type 0 where
    -- END came before
    after_end : Came i 5 → Brings i 3
    -- kind not 1 to 5
    no_kind : (kind i ≡ 0) ⊎ (5 < kind i) → Brings i 4
    -- DEVICE after a TASK; CLAIM, RELEASE or END before any
    late_device : kind i ≡ 1 → Came i 2 → Brings i 5
    early : IsAction i ⊎ (kind i ≡ 5) → (Came i 2 → ⊥) → Brings i 5
    -- field not allowed: a capacity is 1 to 8, TASK's field 0, CLAIM's has no bit above 23 and a declared device, RELEASE's is a declared device, END's the number of
    -- words before it
    bad_capacity : kind i ≡ 1 → (field i ≡ 0) ⊎ (8 < field i) → Brings i 6
    task_field : kind i ≡ 2 → (field i ≡ 0 → ⊥) → Brings i 6
    claim-field : kind i ≡ 3 → 0x1000000 ≤ field i → Brings i 6
    claims_undeclared : kind i ≡ 3 → declared i ≤ device i → Brings i 6
    releases_undeclared : kind i ≡ 4 → declared i ≤ field i → Brings i 6
    end_field : kind i ≡ 5 → (field i ≡ i → ⊥) → Brings i 6
    -- 17th device, 9th task, 256th action
    device_17 : kind i ≡ 1 → 16 ≤ declared i → Brings i 7
    task_9 : kind i ≡ 2 → 8 ≤ how_many i (λ j. eqb (kind j) 2) → Brings i 7
    action_256 : IsAction i → Full i → Brings i 7
    -- claim of more units than the device has: one and the extra ones
    too-many-units : kind i ≡ 3 → (c : ℕ) → Declares i (device i) c → c < extra i + 1 → Brings i 28
    -- claim of a held device; release of one not held
    claims_held : kind i ≡ 3 → Holds i (device i) → Brings i 8
    releases_free : kind i ≡ 4 → (Holds i (field i) → ⊥) → Brings i 9
    -- TASK or END while something is held
    holds_on : (kind i ≡ 2) ⊎ (kind i ≡ 5) → (d : ℕ) → Holds i d → Brings i 10

  -- no word before i brings any
  abbrev pub Faultless : ℕ → Type 0
  Faultless i = (j m : ℕ) → j < i → Brings j m → ⊥

  -- i is the first faulty word, and n the first of its numbers by `in_order`
  pub record FirstFault (i n : ℕ) : Type 0 where
    pub listed : i < length ws
    pub faultless_before : Faultless i
    pub brings : Brings i n
    pub first : (m : ℕ) → Brings i m → place_in in_order n ≤ place_in in_order m

-- what the words of a set answer, which have no fault and end with END
pub record OfWhole (ws : List ℕ) (s : Set) : Type 0 where
  -- they are the set's
  pub words : ws ≡ encode s
  -- each device is claimed, or one is the lowest that isn't
  pub claims : AllClaimed s ⊎ ((d : ℕ) × LowestUnclaimed s d)
  -- 24 with that device, whatever the grid; else 12, a grid over 65,536, at END; else the set is accepted
  pub unclaimed : (d : ℕ) → LowestUnclaimed s d → read ws ≡ refused 24 d
  pub too_large : AllClaimed s → 65536 < size (lengths_of s) → read ws ≡ refused 12 (length ws - 1)
  pub accepted : AllClaimed s → size (lengths_of s) ≤ 65536 → read ws ≡ given s
  -- the former rules ask for no claim
  pub formerly_too_large : 65536 < size (lengths_of s) → read_by former ws ≡ refused 12 (length ws - 1)
  pub formerly_accepted : size (lengths_of s) ≤ 65536 → read_by former ws ≡ given s

-- what all rules have in common, and what comes after it
pub record Turned : Type 0 where
  -- before words: none, or over 4,096
  pub no_words : (rules : Rules) → read_by rules [] ≡ refused 1 0
  pub too_many : (rules : Rules) (ws : List ℕ) → 4096 < length ws → read_by rules ws ≡ refused 2 4096
  -- within the limit, each list has a first faulty word or none at all; the first one counts, with the first of its numbers by `in_order`
  pub cases : (ws : List ℕ) → length ws ≤ 4096 → Faultless ws (length ws) ⊎ ((i n : ℕ) × FirstFault ws i n)
  pub first_word : (rules : Rules) (ws : List ℕ) (i n : ℕ) → length ws ≤ 4096 → FirstFault ws i n → read_by rules ws ≡ refused n i
  -- after words without a fault: 11 where no END came; else they are the words of a set
  pub no_end : (rules : Rules) (ws : List ℕ) → 0 < length ws → length ws ≤ 4096 → Faultless ws (length ws) → (Came ws (length ws) 5 → ⊥)
      → read_by rules ws ≡ refused 11 (length ws)
  pub with-end : (ws : List ℕ) → length ws ≤ 4096 → Faultless ws (length ws) → Came ws (length ws) 5 → (s : Set) × OfWhole ws s
