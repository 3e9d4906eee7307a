-- A count has one machine value, that of a struct with no fields, whatever number it stands for.
use mathlib.Core.Path.{refl}
use mathlib.Core.List.{[], ◌∷◌}
use seplogic.Ra.Ura.{Ura}
use mir.Val.{Val, vstruct, vnil}
use base.Logic.{ent, emp}
use types.Logic.{Logic, sem}
use denote.RattleType.{RattleType}
use denote.Shadow.{makes_shadow}
use denote.Struct.Struct.{Struct}
use Rattle.step_counter.specs.contracts.steps.Count as count

abbrev pub token : Val
token = vstruct vnil

-- the struct with its ghost number left out
abbrev pub Bare : RattleType
Bare = Struct (record { name = (count.the_type).name; args = []; types = []; fields = [] })

-- its value takes nothing to own
pub made : {M : Type 1} {𝓤 : Ura M} (𝓛 : Logic 𝓤) → ent 𝓤 (emp 𝓤) (sem 𝓛 (Bare.own_val tt (token ∷ [])))
made 𝓛 = makes_shadow 𝓛 (Bare.own_val tt (token ∷ [])) (λ vss. (tt, tt)) (tt, (refl, tt))
