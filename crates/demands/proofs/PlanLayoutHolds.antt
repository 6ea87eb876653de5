-- Words are accepted exactly if they are a plan of the layout, and of one plan only.
use Prim.Native.Nat.{ℕ, ◌<◌, ◌≤◌}
use native.Mathlib.Omega.{arith}
use mathlib.Core.Path.{◌≡◌, refl, sym, ap, ◌∙◌}
use mathlib.Core.Logic.{◌↔◌}
use mathlib.Core.List.{List, [], append-nil, Memᴰ}
use lib.ListN.{length}
use Rattle.model.specs.Answer.{given}
use Rattle.model.specs.State.{State}
use Rattle.model.specs.Box.{Box}
use Rattle.model.specs.Plan.{Plan, plan_words, plan_from}
use Rattle.model.specs.StoredPlan.{nothing_scanned, scan_from, Location, locate}
use Rattle.model.proofs.Each.{each_at, each-place, each_member, member-each}
use Rattle.model.proofs.Fits.{FieldFits, SideFits, Sided, DeviceSided, RanksFit, ListsFit, PlanFits}
use Rattle.model.proofs.PlanBack.{length-plan, plan-back}
use Rattle.model.proofs.PlanScans.{lists-scanned}
use Rattle.model.proofs.PlanScanned.{Ended, given-ended, ended-words}
use Rattle.model.proofs.Located.{lies, answered, accepted}
use Rattle.demands.specs.Terms.{Ordered}
use Rattle.demands.specs.StoredPlans.{BoxFor, ListsFor, PlanFor, words_of, IsPlan, PlanLayout}
use Rattle.demands.proofs.LayoutWords.{body-words, plan-words}
use Rattle.demands.proofs.Orders.{ascending-ordered, ordered-ascending}

-- ---- what a plan lists, by its members and section by section
ranks-fit : (l : List ℕ) → ((r : ℕ) → Memᴰ r l → r < 0x10000000) → Ordered (λ q r. q < r) l → RanksFit l
ranks-fit l h o = record { fit = member-each FieldFits l h; rise = ordered-ascending 0 l (λ q m. omega arith) o }

module _ (n : ℕ) where
  box-sided : (b : Box) → BoxFor n b → Sided n b
  box-sided b h = record {
    count = h.every_task;
    sides = each-place SideFits (record { low = 0; high = 0 }) b (λ t l. h.bounds t (omega (arith, h.every_task)));
  }

  box-for : (b : Box) → Sided n b → BoxFor n b
  box-for b h = record {
    every_task = h.count;
    bounds = λ t l. each_at SideFits (record { low = 0; high = 0 }) b h.sides t (omega (arith, h.count));
  }

  pub lists-fit : (p : Plan) → ListsFor n p → ListsFit n p
  lists-fit p h = record {
    forbidden = member-each (DeviceSided n) p.forbidden λ f m.
        let g = h.forbidden f m in
        record { device = g.0; box = box-sided f.box g.1 };
    unsafe = member-each (Sided n) p.unsafe (λ b m. box-sided b (h.unsafe b m));
    reached = ranks-fit p.reached h.reached h.rising;
    unreached = ranks-fit p.unreached h.unreached h.unreached_rising;
  }

  pub lists-for : (p : Plan) → ListsFit n p → ListsFor n p
  lists-for p h = record {
    forbidden = λ f m.
        let g = each_member (DeviceSided n) p.forbidden h.forbidden f m in
        (g.device, box-for f.box g.box);
    unsafe = λ b m. box-for b (each_member (Sided n) p.unsafe h.unsafe b m);
    reached = each_member FieldFits p.reached h.reached.fit;
    rising = ascending-ordered 0 p.reached h.reached.rise;
    unreached = each_member FieldFits p.unreached h.unreached.fit;
    unreached_rising = ascending-ordered 0 p.unreached h.unreached.rise;
  }

  -- words up to END are a plan
  pub ended-plan : (ws : List ℕ) → Ended n (nothing_scanned n) 0 ws → IsPlan n ws
  ended-plan ws c =
      let (p, lists, fits, e) = ended-words n ws c in
      (p, record { lists = lists-for p lists; count = rw (body-words p) at fits }, e ∙ plan-words p)

  -- so are words scanned without a fault, and a plan's words are scanned so
  pub scanned-plan : (ws : List ℕ) → (scan_from n (nothing_scanned n) 0 ws ≡ given tt) ↔ IsPlan n ws
  scanned-plan ws = (
    (λ e. ended-plan ws (given-ended n (nothing_scanned n) 0 ws refl e)),
    (λ (p, h, e). rw (e ∙ sym (plan-words p)) (lists-scanned n p (lists-fit p h.lists) (rw (body-words p) h.count))),
  )

-- no words but plans are accepted
words-accepted : (x : State) (ws : List ℕ) (n : ℕ) → ((l : Location) × (locate x ws n ≡ given l)) ↔ ((1 ≤ n) × (n ≤ 8) × IsPlan n ws)
words-accepted x ws n = (
  (λ (l, e). let a = accepted x ws n l e in (a.some_task, a.tasks, (scanned-plan n ws).0 a.scanned)),
  (λ (p, q, h). (lies x ws n, answered x ws n (record { some_task = p; tasks = q; scanned = (scanned-plan n ws).1 h }))),
)

-- ---- one plan
module _ (n : ℕ) (p : Plan) (few : n ≤ 8) (h : PlanFor n p) where
  plan-fits : PlanFits n p
  plan-fits = record {
    tasks = omega arith;
    lists = lists-fit n p h.lists;
    words = omega (arith, length-plan p, ap length (body-words p), h.count);
  }

  -- the words give the plan back
  words_back : plan_from (words_of p) ≡ p
  words_back = ap plan_from (sym (append-nil (plan_words p) ∙ plan-words p)) ∙ plan-back n p [] plan-fits

pub plan-layout-holds : PlanLayout
plan-layout-holds = record {
  exact = words-accepted;
  one_plan = λ n m p q k l h g e. sym (words_back n p k h) ∙ ap plan_from e ∙ words_back m q l g;
}
