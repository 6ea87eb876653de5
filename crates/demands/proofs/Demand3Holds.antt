-- Demand 3 holds.
use Prim.Native.Nat.{ℕ}
use mathlib.Core.List.{List}
use Rattle.model.specs.Set.{lengths_of}
use Rattle.model.specs.Layout.{WellFormed}
use Rattle.model.specs.Read.{read, set_in}
use Rattle.model.specs.Hold.{permitted}
use Rattle.model.specs.Forbidden.{forbidden_boxes}
use Rattle.model.specs.Record.{fresh}
use Rattle.model.specs.Broker.{Call, after_calls, round_calls}
use Rattle.model.specs.Plan.{plan_of}
use Rattle.model.proofs.ForbiddenExact.{forbidden-permitted}
use Rattle.model.proofs.UnsafeComplete.{unsafe-exact}
use Rattle.model.proofs.Records.{Carries, over-carries, InService}
use Rattle.model.proofs.BrokerRecord.{no-forbidden-box, no-unsafe-box, grant-number, calls-serve, rounds-finish}
use Rattle.model.proofs.ReadExact.{read-sound}
use Rattle.model.proofs.Outcome.{Mapped, accepted-made, short-made}
use Rattle.demands.specs.Demand3.{state_after, OfMap, OfPlan, Demand3}
use Rattle.demands.proofs.StatesHold.{of-states}
use Rattle.demands.proofs.MapDemandHolds.{can_end, open-both, bytes-right}
use Rattle.demands.proofs.AnalysesHold.{of-analysis}
use Rattle.demands.proofs.AllowedSettings.{allowed}
use Rattle.demands.proofs.Demand2Holds.{plan-left}

-- what is left of an analysis that made the map
module _ (words map made : List ℕ) (mapped : Mapped (read words) map made) where
  well_formed : WellFormed (set_in words)
  well_formed = (read-sound words (set_in words) mapped.is_read).1

  lent : Carries (set_in words) made
  lent = rw mapped.is_made (over-carries (set_in words) map)

  -- after every list of calls the record is in service
  serves : (cs : List Call) → InService (set_in words) (after_calls words made fresh cs)
  serves = calls-serve words made (set_in words) well_formed mapped.is_read lent

  of_map : OfMap words made
  of_map = record {
    bytes = bytes-right (set_in words) made lent;
    open_after = λ cs.
        let g = (serves cs).good in
        (g.grid, (open-both (set_in words) (state_after words made cs) g.grid).0 g.is_open);
    counted = grant-number words made;
    finished = λ c a rs named enough.
        ((of-states (lengths_of (set_in words))).end (state_after words made (round_calls c rs))
        (serves (round_calls c rs)).good.grid).0
        (rounds-finish words made (set_in words) well_formed mapped.is_read lent c (allowed c a) rs named enough);
  }

  -- of the plan of the set
  of-plan : OfPlan words made (plan_of (set_in words))
  of-plan = record {
    unsafe-box = λ x g p.
        let s = set_in words in
        let c = can_end s x g in
        let u = unsafe-exact (lengths_of s) (permitted s) (forbidden_boxes s) (forbidden-permitted s) x g p in
        ((λ e r. u.0 e (c.1 r)), (λ n. u.1 (λ e. n (c.0 e))));
    no_box = λ cs. let g = (serves cs).good in (no-forbidden-box (set_in words) _ g, no-unsafe-box (set_in words) _ g);
  }

pub demand3 : Demand3
demand3 = record {
  answers = of-analysis;
  accepted = λ words map plan n e.
      let r = accepted-made words map plan n e in
      (of_map words map _ r.0, rw (plan-left words map plan n e) (of-plan words map _ r.0));
  plan_too_short = λ words map plan place e. let m = short-made words map plan place e in (of_map words map _ m, of-plan words map _ m);
}
