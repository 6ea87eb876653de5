-- The broker in service: what each bid and again answers.
use Prim.Native.Nat.{ℕ}
use native.Mathlib.Omega.{arith}
use mathlib.Core.Path.{◌≡◌, ap}
use mathlib.Core.Logic.{inr}
use mathlib.Core.List.{List}
use Rattle.model.specs.Answer.{given, refused}
use Rattle.model.specs.Set.{Set, lengths_of}
use Rattle.model.specs.State.{State, is_end, rank}
use Rattle.model.specs.Read.{read}
use Rattle.model.specs.Analysis.{analyse}
use Rattle.model.specs.Record.{Record, fresh, state_in}
use Rattle.model.specs.Broker.{Again, Served, again, after_calls}
use Rattle.model.proofs.Bools.{by_bool, true-not-false}
use Rattle.model.proofs.Records.{Carries, InService}
use Rattle.model.proofs.BrokerRecord.{calls-serve}
use Rattle.model.proofs.ReadExact.{read-sound}
use Rattle.demands.specs.Calls.{Ready}
use Rattle.demands.specs.Service.{OfService, Service}
use Rattle.demands.proofs.StatesHold.{of-states}
use Rattle.demands.proofs.AnalysesHold.{map-carries}
use Rattle.demands.proofs.CallsHold.{of-again}
use Rattle.demands.proofs.BiddingHolds.{release-opens, ready, cases, of-bidding}

module _ (words m : List ℕ) (s : Set) (is_read : read words ≡ given s) (lent : Carries s m) (r : Record) (i : InService s r) where
  abbrev ls : List ℕ
  ls = lengths_of s

  abbrev x : State
  x = state_in s r

  is-ready : Ready s r m
  is-ready = ready words m s is_read lent r i

  only_19 : (n p : ℕ) → (again words r).answer ≡ refused n p → (n ≡ 19) × (p ≡ rank ls x)
  only_19 n p e =
      let of = of-again words s is_read r i.eight in
      by_bool (is_end ls x)
      (λ k.
      let q = ap (λ (v : Served Again). v.answer) (of.at-end (((of-states ls).end x i.good.grid).0 k) is-ready.1) in
      let z : ◌≡◌ {A = ℕ} 0 1 = cc in
      absurd (omega arith))
      (λ k.
      let away : x ≡ ls → ⊥ = λ y. true-not-false (is_end ls x) (((of-states ls).end x i.good.grid).1 y) k in
      let q = ap (λ (v : Served Again). v.answer) (of.not_ended is-ready.1 away) in
      ((cc), (cc)))

  of-service : OfService words m s r
  of-service = record {
    eight = (i.eight, i.eight-counts);
    absent = λ t h. (i.absent t h, i.absent-counts t h);
    only_19 = only_19;
    not_allowed = λ c t n. (cases words m s is_read lent r i c t).bad_setting is-ready.0 n;
    used-up = λ c t a l. (cases words m s is_read lent r i c t).bad_record is-ready.0 a (inr (inr l));
    bidding = of-bidding words m s is_read lent r i;
  }

pub service-holds : Service
service-holds = record {
  release_open = λ rules. release-opens;
  service = λ words map plan s e h cs.
      let m = (analyse words map plan).map in
      let lent = map-carries words map plan s e h in
      of-service words m s e lent (after_calls words m fresh cs) (calls-serve words m s (read-sound words s e).1 e lent cs);
}
