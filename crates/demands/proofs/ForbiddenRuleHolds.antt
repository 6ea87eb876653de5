-- The forbidden boxes are those of the rule, in its order; the table has the sets of eight tasks in theirs.
use Prim.Native.Nat.{ℕ}
use native.Mathlib.Omega.{arith}
use mathlib.Core.Path.{◌≡◌}
use mathlib.Core.List.{[], Memᴰ}
use Rattle.model.specs.Set.{Set, at}
use Rattle.model.specs.Layout.{Rules, WellFormedBy}
use Rattle.model.specs.Forbidden.{Forbidden, forbidden}
use Rattle.model.proofs.Each.{Each, each-place}
use Rattle.model.proofs.TableOrder.{table-length}
use Rattle.demands.specs.Terms.{Ordered}
use Rattle.demands.specs.ForbiddenRule.{OfRule, Precedes, ForbiddenRule}
use Rattle.demands.proofs.BoxList.{Balanced}
use Rattle.demands.proofs.DeviceList.{device-told, device-listed, from_told, from-listed, from-ordered}
use Rattle.demands.proofs.TableList.{table-ordered, table-bytes}

module _ {rules : Rules} (s : Set) (w : WellFormedBy rules s) where
  balances : (d : ℕ) → Each (Balanced d) s.tasks
  balances d = each-place (Balanced d) [] s.tasks (λ t h. (w.each_task t h).balance d)

  module _ (f : Forbidden) where
    rule_told : Memᴰ f (forbidden s) → OfRule s f
    unfolding forbidden
    rule_told m =
        let d = f.device in
        let r = from_told s.tasks 0 s.capacities f m in
        let e : r.0 ≡ d = omega arith in
        let b = device-told d s.tasks (balances d) (at s.capacities d) f.box (rw e at r.3) in
        record {
          device = omega arith;
          sides = b.sides.count;
          over_hold = λ t h. (b.sides.over t h).hold;
          over_all = λ t h. (b.sides.over t h).whole;
          exceeds = b.exceeds;
          none_spare = b.none_spare;
        }

    rule-listed : OfRule s f → Memᴰ f (forbidden s)
    unfolding forbidden
    rule-listed r =
        let d = f.device in
        from-listed s.tasks 0 s.capacities f d (omega arith) r.device
        (device-listed d s.tasks (balances d) (at s.capacities d) f.box
        (record {
          sides = record { count = r.sides; over = λ t h. record { hold = r.over_hold t h; whole = r.over_all t h } };
          exceeds = r.exceeds;
          none_spare = r.none_spare;
        }))

  rule-order : Ordered Precedes (forbidden s)
  unfolding forbidden
  rule-order = from-ordered s.tasks balances 0 s.capacities

pub forbidden-rule : ForbiddenRule
forbidden-rule = record {
  rule = λ rules s w f. (rule_told s w f, rule-listed s w f);
  order = λ rules. rule-order;
  entries = table-length;
  bytes = table-bytes;
  table_order = table-ordered;
}
