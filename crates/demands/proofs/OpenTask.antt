-- An action is added to the open task, the last: what that task, the count of tasks and the set's words become.
use Prim.Native.Nat.{ℕ, ◌<◌}
use native.Mathlib.Omega.{arith}
use mathlib.Core.Path.{◌≡◌, refl, ap}
use mathlib.Core.List.{List, [], ◌∷◌, ◌++◌}
use lib.ListN.{length}
use Rattle.model.specs.Set.{Action, Task}
use Rattle.model.specs.Layout.{action_word, body}
use Rattle.model.specs.Read.{last_task, add_action}
use Rattle.model.proofs.Held.{count_add, last-added, action-added}
use Rattle.model.proofs.Words.{set_with, body-action}

-- tasks, and the last of them
last-split : (ts : List Task) → 0 < length ts → (us : List Task) × (t : Task) × (ts ≡ us ++ (t ∷ []))
last-split [] h = absurd (omega arith)
last-split (t ∷ []) h = ([], t, refl)
last-split (t ∷ u ∷ ts) h =
    let r = last-split (u ∷ ts) (omega arith) in (t ∷ r.0, r.1, ap {B = List Task} (λ l. t ∷ l) r.2)

module _ (ts : List Task) (a : Action) (some : 0 < length ts) where
  pub last-acts : last_task (add_action ts a) ≡ last_task ts ++ (a ∷ [])
  last-acts =
      let r = last-split ts some in
      rw (r.2, action-added r.0 r.1 a, last-added r.0 (r.1 ++ (a ∷ [])), last-added r.0 r.1)

  pub count-acts : length (add_action ts a) ≡ length ts
  count-acts =
      let r = last-split ts some in
      rw (r.2, action-added r.0 r.1 a, count_add r.0 (r.1 ++ (a ∷ [])), count_add r.0 r.1)

  pub body-acts : (cs : List ℕ) → body (set_with cs (add_action ts a)) ≡ body (set_with cs ts) ++ (action_word a ∷ [])
  body-acts cs =
      let r = last-split ts some in
      rw (r.2, action-added r.0 r.1 a) (body-action cs r.0 r.1 a)
