-- SCOPE.md, "Unsafe boxes": what a box holds, the blocker of a task, the box of a state, and the order in which the boxes are made.
use Rattle.std.specs.Prelude.{ℕ, suc, ◌<◌, ◌≤◌, ◌≡◌, ◌↔◌, ◌⊎◌, true, false, List, [], ◌∷◌, ◌++◌, map, length, get_or}
use Rattle.model.specs.Set.{Set, lengths_of, at, size}
use Rattle.model.specs.State.{State, next, state_at}
use Rattle.model.specs.Box.{Box, side, inside, covered, first_box}
use Rattle.model.specs.Forbidden.{forbidden}
use Rattle.model.specs.Plan.{unsafe_of}

-- the box at place i of a list
abbrev pub box_at : List Box → ℕ → Box
box_at bs i = get_or bs i []

-- b is the first box in list order that holds x: the boxes before it don't
pub record IsFirst (bs : List Box) (x : State) (b : Box) : Type 0 where
  pub place : ℕ
  pub listed : place < length bs
  pub is_box : b ≡ box_at bs place
  pub holds : inside b x ≡ true
  pub none_before : (i : ℕ) → i < place → inside (box_at bs i) x ≡ false

module _ (ls : List ℕ) (bs : List Box) (x : State) where
  -- x gets a box: it isn't the end, lies in no box so far, and each unfinished task's next state lies in one
  pub record Gets : Type 0 where
    pub not_the_end : x ≡ ls → ⊥
    pub in_none : covered bs x ≡ false
    pub next_in_one : (t : ℕ) → at x t < at ls t → covered bs (next x t) ≡ true

  -- the lower bound for task j of the blocker of task t: the first box that holds t's next state; a finished task has none
  abbrev pub blockers_low : ℕ → ℕ → ℕ
  blockers_low t j = (side (first_box bs (next x t)) j).low

  -- b is x's box: for task j up to x's position, and down to the largest lower bound for j among the blockers of the other tasks, 0 if they have none
  pub record IsBox (b : Box) : Type 0 where
    pub sides : length b ≡ length ls
    pub up_to : (j : ℕ) → j < length ls → (side b j).high ≡ at x j
    pub at_least : (j t : ℕ) → j < length ls → (t ≡ j → ⊥) → at x t < at ls t → blockers_low t j ≤ (side b j).low
    pub attained : (j : ℕ) → j < length ls
        → ((side b j).low ≡ 0) ⊎ ((t : ℕ) × (t ≡ j → ⊥) × (at x t < at ls t) × ((side b j).low ≡ blockers_low t j))

-- us are the boxes made, in order, where the states were visited by falling rank, from the last rank down to r; fs are the forbidden boxes
pub data Made (ls : List ℕ) (fs : List Box) : ℕ → List Box → Type 0 where
  none : Made ls fs (size ls) []
  boxed : {r : ℕ} {us : List Box} {b : Box} → Made ls fs (suc r) us → Gets ls (fs ++ us) (state_at ls r) → IsBox ls (fs ++ us) (state_at ls r) b
      → Made ls fs r (us ++ (b ∷ []))
  passed : {r : ℕ} {us : List Box} → Made ls fs (suc r) us → (Gets ls (fs ++ us) (state_at ls r) → ⊥) → Made ls fs r us

pub record UnsafeRule : Type 0 where
  -- a box holds a state exactly if each task's position lies in its side
  pub holds : (b : Box) (x : State)
      → (inside b x ≡ true) ↔ ((length b ≡ length x) × ((t : ℕ) → t < length x → ((side b t).low ≤ at x t) × (at x t ≤ (side b t).high)))
  -- a state lies in one of the boxes exactly if one of them holds it, and then the first of these is its first box
  pub in_one : (bs : List Box) (x : State) → (covered bs x ≡ true) ↔ ((i : ℕ) × (i < length bs) × (inside (box_at bs i) x ≡ true))
  pub first : (bs : List Box) (x : State) → covered bs x ≡ true → IsFirst bs x (first_box bs x)
  -- the unsafe boxes of a set are those made at all ranks, over its forbidden boxes in their order
  pub made : (s : Set) → Made (lengths_of s) (map (λ f. f.box) (forbidden s)) 0 (unsafe_of s)
