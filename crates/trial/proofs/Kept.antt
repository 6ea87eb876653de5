-- The answers that a trial keeps between two grants.
use Prim.Native.Nat.{ℕ, ◌<◌}
use native.Mathlib.Omega.{arith}
use mathlib.Core.Path.{◌≡◌, refl, ap, sym, ◌∙◌}
use mathlib.Core.List.{List}
use lib.ListN.{length, get_or, set, replicate, length-set}
use lib.Seq.{get_or-set_same, get_or-set_other}
use lib.Dec.{eqb}
use borrow.Author.Tests.{eqb-true, eqb-false}
use Rattle.std.specs.Prelude.{Option, Some, None, Ok}
use Rattle.model.specs.Answer.{Answer}
use Rattle.model.specs.Broker as model
use Rattle.model.proofs.Bools.{by_bool}
use Rattle.model.proofs.Lists.{same_at}
use Rattle.broker.specs.declared.answers.Bid.{Bid}
use Rattle.broker.specs.Says.{bid_of}

-- the answer that is kept for task t
abbrev pub kept_at : List (Option Bid) → ℕ → Option Bid
kept_at kept t = get_or kept t None

-- where each task is answered so: a kept answer is that
pub record Keeps (answers : ℕ → Answer model.Bid) (kept : List (Option Bid)) : Type 0 where
  pub eight : length kept ≡ 8
  pub right : (t : ℕ) (b : Bid) → kept_at kept t ≡ Some b → bid_of (Ok b) ≡ answers t

-- before any task is asked none is kept
pub keeps-none : (answers : ℕ → Answer model.Bid) → Keeps answers (replicate 8 None)
keeps-none answers = record { eight = refl; right = λ t b e. absurd (let f : None ≡ Some b = sym (same_at None 8 t) ∙ e in cc) }

-- one more answer is kept
pub keeps-more : {answers : ℕ → Answer model.Bid} {kept : List (Option Bid)} → Keeps answers kept → (t : ℕ) → t < 8 → (b : Bid) → bid_of (Ok b) ≡ answers t
    → Keeps answers (set kept t (Some b))
keeps-more {answers} {kept} k t h b e = record {
  eight = length-set kept t (Some b) ∙ k.eight;
  right = λ u a is.
      by_bool (eqb u t)
      (λ q.
      let same : Some b ≡ Some a = sym (ap (kept_at (set kept t (Some b))) (eqb-true u t q) ∙ get_or-set_same kept t (Some b) None (omega (arith, k.eight))) ∙ is in
      let found : b ≡ a = cc in
      ap (λ x. bid_of (Ok x)) (sym found) ∙ e ∙ ap answers (sym (eqb-true u t q)))
      (λ q. k.right u a (sym (get_or-set_other kept t u (Some b) None (eqb-false u t q)) ∙ is));
}
