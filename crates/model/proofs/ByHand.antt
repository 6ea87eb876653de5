-- A step that walks by hand share, whatever their crate.
use mathlib.Core.List.{[], ◌∷◌, List}
use seplogic.Ra.Ura.{Ura}
use mir.Val.{Val}
use base.Logic.{SProp, ent}
use types.Logic.{Logic}
use contract.Monad.{fact}
use types.Kit.{Item, ‵, raw, ◌⊛◌, some, later, Goal, Soaks, Seq, ◌$◌, move, use1, split, pick, await}
use denote.RattleType.{RattleType}
use denote.Steps.{heard}

module _ {M : Type 1} {𝓤 : Ura M} {𝓛 : Logic 𝓤} {K : Type 0} {Γ : List (Item 𝓤)} {G : Goal 𝓤 𝓛.H} where
  -- what a callee leaves: its result, of type R, and the clause φ that it ensures of it
  pub hears : K → Soaks G → (R : RattleType) (w : Val) (tokens : Item 𝓤) (ensured : R.Denot → SProp 𝓤) (φ : R.Denot → Type 0)
      → ((r : R.Denot) → ent 𝓤 (ensured r) (fact 𝓤 (φ r))) → ((r : R.Denot) → φ r → Seq K 𝓛 (‵ (R.own_val r (w ∷ [])) ∷ tokens ∷ Γ) G)
      → Seq K 𝓛 (later (some (λ (r : R.Denot). (tokens ⊛ ‵ (R.own_val r (w ∷ []))) ⊛ raw (ensured r))) ∷ Γ) G
  hears t z R w tokens ensured φ said k =
      await t z $ pick t (λ r. split t $ move t (1 ∷ []) $ use1 𝓛 (raw (fact 𝓤 (φ r))) (said r) $ heard t (φ r) (λ e. split t $ move t (1 ∷ []) $ k r e))
