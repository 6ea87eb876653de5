-- `cleaner::clean` meets its contract, by what the reader ensures of its words.
use mathlib.Core.Path.{◌≡◌, ap}
use mathlib.Core.List.{List}
use Prim.Native.Nat.{ℕ}
use Rattle.std.proofs.lemmas.Result.{err_from_is_err_and}
use Rattle.model.specs.Answer.{given}
use Rattle.model.specs.Layout.{former}
use Rattle.model.specs.Read.{read_by}
use Rattle.refusals.specs.Answers.{answer_of}
use Rattle.reader.specs.declared.Reading.{Reading}
use Rattle.reader.specs.Answer.{answer}
use Rattle.reader.proofs.Facts.{of_accepted, of_refused}
use Rattle.cleaner.specs.Numbers.{Accepted}
use Rattle.cleaner.proofs.Answers.{refused-set}
use Rattle.cleaner.proofs.clean.Goals as goal

-- what was read by the former rules
accepts : (ws : List ℕ) (r : Reading) → given r ≡ answer (read_by former ws) → Accepted ws r.shape r.claimed
accepts ws r e =
    let p = of_accepted (read_by former ws) r e in
    record {
      accepted = p.0;
      shaped = ap (λ (x : Reading). x.shape) p.1;
      marked = ap (λ (x : Reading). x.claimed) p.1;
    }

pub clean_set-requires : goal.clean_set-requires
unfolding answer_of
clean_set-requires c = accepts _ _ c.in_ok-reading.ensures

pub returns-in_err-reading : goal.returns-in_err-reading
unfolding answer_of
returns-in_err-reading c =
    let a = c.args in
    let p = err_from_is_err_and c.from_residual.result c.from_residual.ensures.1 in
    rw (p.1, p.2) (refused-set a.words.now a.slice.now _ _ (of_refused _ _ _ c.in_err-reading.ensures))
