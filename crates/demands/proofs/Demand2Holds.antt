-- Demand 2 holds.
use Prim.Native.Nat.{ℕ, ◌<◌}
use mathlib.Core.Path.{◌≡◌, refl, ap, ◌∙◌}
use mathlib.Core.Logic.Iff
use mathlib.Core.Logic.{◌↔◌, inl, inr}
use mathlib.Core.Bool.{Bool, true, not}
use mathlib.Core.List.{List, Memᴰ}
use lib.ListN.{length, drop}
use borrow.Author.Tests.{not-true}
use Rattle.model.specs.Answer.{given}
use Rattle.model.specs.Set.{Set, lengths_of, size}
use Rattle.model.specs.Layout.{Rules, present, former}
use Rattle.model.specs.State.{state_at}
use Rattle.model.specs.Read.{set_in}
use Rattle.model.specs.Hold.{permitted}
use Rattle.model.specs.Run.{Dead}
use Rattle.model.specs.Reach.{reached_at}
use Rattle.model.specs.Plan.{keep, dead_of, reached_of, unreached_of, plan_of, plan_words, plan_from}
use Rattle.model.specs.Analysis.{Planned, analyse}
use Rattle.model.proofs.Bools.{by_bool, true-not-false}
use Rattle.model.proofs.Ranks.{rank-state_at, state_at-grid}
use Rattle.model.proofs.StartOpen.{start-permitted}
use Rattle.model.proofs.ForbiddenExact.{forbidden-exact}
use Rattle.model.proofs.Keep.{kept-member, member-kept, kept-ascend}
use Rattle.model.proofs.DeadRanks.{dead-ascending, dead-exact}
use Rattle.model.proofs.ReachExact.{reached-marked, marked-reached}
use Rattle.model.proofs.PlanFitting.{plan-of-back}
use Rattle.model.proofs.ReadAccepts.{read-complete, encode_injective}
use Rattle.model.proofs.ReadExact.{read-sound}
use Rattle.model.proofs.Outcome.{accepted-made}
use Rattle.demands.specs.Terms.{Ordered}
use Rattle.demands.specs.Demand2.{LayoutExact, DeadRank, ReachedRank, PlanExact, Demand2}
use Rattle.demands.specs.MapDemand.{IsDead}
use Rattle.demands.proofs.Orders.{ascending-ordered}
use Rattle.demands.proofs.MapDemandHolds.{dead-both, reached-both}

module _ (s : Set) where
  abbrev ls : List ℕ
  ls = lengths_of s

  -- the ranks of byte 3 are those of the dead states
  dead-rank : (r : ℕ) → Memᴰ r (dead_of s) ↔ DeadRank s r
  dead-rank r =
      let x = state_at ls r in
      let both : r < size ls → Dead ls (permitted s) x ↔ IsDead s x = λ h. dead-both s x (state_at-grid ls r h) in
      Iff.trans (dead-exact ls (permitted s) r) ((λ d. (d.0, (both d.0).0 d.1)), (λ d. (d.0, (both d.0).1 d.1)))

  -- a rank is marked exactly if its state is reached
  marked-is : (r : ℕ) → r < size ls → reached_at s r ≡ true → ReachedRank s r
  marked-is r h m = (reached-both s (state_at ls r)).0 (marked-reached ls (permitted s) (start-permitted s) r h m)

  is-marked : (r : ℕ) → r < size ls → ReachedRank s r → reached_at s r ≡ true
  is-marked r h e =
      rw (rank-state_at ls r h) at (reached-marked ls (permitted s) (start-permitted s) ((reached-both s (state_at ls r)).1 e)).1

  -- a list of the dead ranks that pass a test, by what the test tells of them
  kept-dead : (f : ℕ → Bool) (P : ℕ → Type 0) → ((r : ℕ) → r < size ls → (f r ≡ true) ↔ P r) → (r : ℕ) → Memᴰ r (keep f (dead_of s)) ↔ (DeadRank s r × P r)
  kept-dead f P tells r = (
    (λ m.
        let k = kept-member f (dead_of s) m in
        let d = (dead-rank r).0 k.0 in
        (d, (tells r d.0).0 k.1)),
    (λ d. member-kept f (dead_of s) ((dead-rank r).1 d.0) ((tells r d.0.0).1 d.1)),
  )

  reached-tells : (r : ℕ) → r < size ls → (reached_at s r ≡ true) ↔ ReachedRank s r
  reached-tells r h = (marked-is r h, is-marked r h)

  unreached-tells : (r : ℕ) → r < size ls → (not (reached_at s r) ≡ true) ↔ (ReachedRank s r → ⊥)
  unreached-tells r h = (
    (λ e m. true-not-false (reached_at s r) (is-marked r h m) (not-true (reached_at s r) e)),
    (λ n. by_bool (reached_at s r) (λ e. absurd (n (marked-is r h e))) (λ e. rw e)),
  )

  reached-listed : (r : ℕ) → Memᴰ r (reached_of s) ↔ (DeadRank s r × ReachedRank s r)
  reached-listed = kept-dead (reached_at s) (ReachedRank s) reached-tells

  unreached-listed : (r : ℕ) → Memᴰ r (unreached_of s) ↔ (DeadRank s r × (ReachedRank s r → ⊥))
  unreached-listed = kept-dead (λ r. not (reached_at s r)) (λ r. ReachedRank s r → ⊥) unreached-tells

  -- both lists rise as the list of all dead states does
  kept-rising : (f : ℕ → Bool) → Ordered (λ q r. q < r) (keep f (dead_of s))
  kept-rising f = ascending-ordered 0 (keep f (dead_of s)) (kept-ascend f 0 (dead_of s) (dead-ascending ls (permitted s)))

  -- the plan of a set is exact
  plan-exact : PlanExact s (plan_of s)
  plan-exact = record {
    rule = refl;
    exact = forbidden-exact s;
    made = refl;
    rising = kept-rising (reached_at s);
    listed = reached-listed;
    others_rising = kept-rising (λ r. not (reached_at s r));
    others_listed = unreached-listed;
    in_one = λ r d.
        by_bool (reached_at s r)
        (λ e. inl ((reached-listed r).1 (d, marked-is r d.0 e)))
        (λ e. inr ((unreached-listed r).1 (d, (unreached-tells r d.0).0 (rw e))));
    not_in_both = λ r m n. ((unreached-listed r).0 n).1 ((reached-listed r).0 m).1;
  }

-- an accepted analysis leaves the plan of the set that the words declare
pub plan-left : (words map plan : List ℕ) (p : Planned) → (analyse words map plan).answer ≡ given p
    → plan_from (analyse words map plan).plan ≡ plan_of (set_in words)
plan-left words map plan p e =
    let r = accepted-made words map plan p e in
    let s = set_in words in
    ap plan_from r.1 ∙ plan-of-back s (read-sound words s r.0.is_read).1 (drop (length (plan_words (plan_of s))) plan)

layout-exact : (rules : Rules) → LayoutExact rules
layout-exact rules = record { accepts = read-complete rules; no_others = read-sound; one_set = encode_injective }

pub demand2 : Demand2
demand2 = record {
  layout = layout-exact present;
  former_layout = layout-exact former;
  of-set = plan-exact;
  plan = λ words map plan p e. rw (plan-left words map plan p e) (plan-exact (set_in words));
}
