-- What there is to write, by what the cleaner answers and leaves in a slice of 4,096 words: the words of the cleaned set, or a refusal.
use Prim.Native.Nat.{ℕ, ◌≤◌}
use mathlib.Core.Path.{◌≡◌, sym, ap}
use mathlib.Core.List.{List}
use lib.ListN.{length, take}
use Rattle.std.specs.Prelude.{Ok, Err}
use Rattle.model.specs.Answer.{given, refused, ◌then◌}
use Rattle.model.specs.Layout.{former}
use Rattle.model.specs.Read.{read_by}
use Rattle.model.specs.Clean as model
use Rattle.model.specs.CleanFile.{to_write}
use Rattle.model.proofs.CleanedFile.{made, turned_back}
use Rattle.refusals.specs.declared.Refusal.{Refusal}
use Rattle.refusals.specs.Answers.{number_of, answer_of}
use Rattle.cleaner.specs.Says.{cleaned_of}

module _ (words slice after : List ℕ) (most : length slice ≡ 4096) where
  pub has_words : (n : ℕ) → cleaned_of (Ok n) after ≡ model.clean words slice → ((read_by former words then to_write) ≡ given (take n after)) × (n ≤ 4096)
  unfolding answer_of
  has_words n h =
      let p = made words slice most n (ap (λ (x : model.Cleaned). x.answer) (sym h)) in
      (rw (ap (λ (x : model.Cleaned). x.slice) h) p.0, p.1)

  pub has-none : (r : Refusal) → cleaned_of (Err r) after ≡ model.clean words slice → (read_by former words then to_write) ≡ refused (number_of r.reason) r.place
  unfolding answer_of
  has-none r h = turned_back words slice most _ _ (ap (λ (x : model.Cleaned). x.answer) (sym h))
