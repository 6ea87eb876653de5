-- A fact of each entry of a list.
use Prim.Native.Nat.{ℕ, zero, suc, ◌<◌, suc-le-suc}
use native.Mathlib.Omega.{arith}
use native.Mathlib.Nat.{le_of_suc-le-suc}
use mathlib.Core.Path.{refl}
use mathlib.Core.List.Memᴰ
use mathlib.Core.List.{List, [], ◌∷◌, ◌++◌, map, Memᴰ}
use lib.ListN.{length, get_or}
use Rattle.model.specs.Below.{tabulate}
use Rattle.model.proofs.Bools.{by_cases}

abbrev pub Each : {A : Type 0} → (A → Type 0) → List A → Type 0
Each P [] = Unit {0}
Each P (a ∷ l) = P a × Each P l

-- a fact of all is one of each
pub each_all : {A : Type 0} (P : A → Type 0) → ((a : A) → P a) → (l : List A) → Each P l
each_all P h [] = tt
each_all P h (a ∷ l) = (h a, each_all P h l)

pub each_append : {A : Type 0} (P : A → Type 0) (l k : List A) → Each P l → Each P k → Each P (l ++ k)
each_append P [] k e f = f
each_append P (a ∷ l) k e f = (e.0, each_append P l k e.1 f)

pub each_map : {A B : Type 0} (P : A → Type 0) (Q : B → Type 0) (g : A → B) → ((a : A) → P a → Q (g a)) → (l : List A) → Each P l → Each Q (map g l)
each_map P Q g h [] e = tt
each_map P Q g h (a ∷ l) e = (h a e.0, each_map P Q g h l e.1)

pub each-place : {A : Type 0} (P : A → Type 0) (d : A) (l : List A) → ((t : ℕ) → t < length l → P (get_or l t d)) → Each P l
each-place P d [] h = tt
each-place P d (a ∷ l) h = (h 0 (omega arith), each-place P d l (λ t k. h (suc t) (suc-le-suc k)))

pub each_at : {A : Type 0} (P : A → Type 0) (d : A) (l : List A) → Each P l → (t : ℕ) → t < length l → P (get_or l t d)
each_at P d [] e t h = absurd (omega arith)
each_at P d (a ∷ l) e zero h = e.0
each_at P d (a ∷ l) e (suc t) h = each_at P d l e.1 t (le_of_suc-le-suc h)

-- each entry is a member
pub each_member : {A : Type 0} (P : A → Type 0) (l : List A) → Each P l → (a : A) → Memᴰ a l → P a
each_member P [] e a m = absurd (Memᴰ.not-nil m)
each_member P (b ∷ l) e a m = by_cases (Memᴰ.cases_cons m) (λ q. rw q e.0) (each_member P l e.1 a)

pub member-each : {A : Type 0} (P : A → Type 0) (l : List A) → ((a : A) → Memᴰ a l → P a) → Each P l
member-each P [] h = tt
member-each P (b ∷ l) h = (h b (Memᴰ.head refl), member-each P l (λ a m. h a (Memᴰ.tail m)))

pub each-tabulate : {A : Type 0} (P : A → Type 0) (n : ℕ) (f : ℕ → A) → ((t : ℕ) → t < n → P (f t)) → Each P (tabulate n f)
unfolding tabulate
each-tabulate P zero f h = tt
each-tabulate P (suc n) f h = (h 0 (omega arith), each-tabulate P n (λ t. f (suc t)) (λ t k. h (suc t) (suc-le-suc k)))

pub each-mono : {A : Type 0} (P Q : A → Type 0) → ((a : A) → P a → Q a) → (l : List A) → Each P l → Each Q l
each-mono P Q h [] e = tt
each-mono P Q h (a ∷ l) e = (h a e.0, each-mono P Q h l e.1)

-- two facts of each entry give a third
pub each_both : {A : Type 0} (P Q R : A → Type 0) → ((a : A) → P a → Q a → R a) → (l : List A) → Each P l → Each Q l → Each R l
each_both P Q R h [] e f = tt
each_both P Q R h (a ∷ l) e f = (h a e.0 f.0, each_both P Q R h l e.1 f.1)
