-- What there is to print, by what the analysis answers and leaves in slices of the printer's lengths: the words of a plan, or a refusal.
use Prim.Native.Nat.{ℕ, ◌≤◌}
use mathlib.Core.Path.{◌≡◌, sym, ap}
use mathlib.Core.List.{List}
use lib.ListN.{length, take}
use Rattle.std.specs.Prelude.{Ok, Err}
use Rattle.model.specs.Answer.{given, refused, ◌then◌}
use Rattle.model.specs.Read.{read}
use Rattle.model.specs.Analysis.{Analysed, analyse}
use Rattle.model.specs.Printed.{to_print}
use Rattle.model.proofs.ToPrint.{planned, turned_back}
use Rattle.refusals.specs.declared.Refusal.{Refusal}
use Rattle.refusals.specs.Answers.{number_of, answer_of}
use Rattle.analysis.specs.declared.Planned.{Planned}
use Rattle.analysis.specs.Says.{planned_of, analysed_of}

module _ (words map plan made written : List ℕ) (all : 65536 ≤ length map) (most : length plan ≡ 16384) where
  pub has-plan : (p : Planned) → analysed_of (Ok p) made written ≡ analyse words map plan
      → ((read words then to_print) ≡ given (take p.words written)) × (p.words ≤ 16384)
  unfolding answer_of
  has-plan p h =
      let w = planned words map plan all most (planned_of p) (sym (ap (λ (x : Analysed). x.answer) h)) in
      (rw (ap (λ (x : Analysed). x.plan) h) w.0, w.1)

  pub has-none : (r : Refusal) → analysed_of (Err r) made written ≡ analyse words map plan → (read words then to_print) ≡ refused (number_of r.reason) r.place
  unfolding answer_of
  has-none r h = turned_back words map plan all most (number_of r.reason) r.place (sym (ap (λ (x : Analysed). x.answer) h))
