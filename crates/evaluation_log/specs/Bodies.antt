-- What is kept of the frames that bodies start.
use Rattle.std.specs.Prelude.{◌≡◌, ◌⊎◌, true, List, [], ◌∷◌, ◌++◌, IsSomeAnd}
use Rattle.ub_base.specs.declared.names.ObjName.{ObjName}
use Rattle.ub_base.specs.declared.names.Item.{Item}
use Rattle.ub_base.specs.declared.names.Item.TheVariants.{Born, Dies}
use Rattle.footprint.specs.declared.foot.Foot.{Foot}
use Rattle.footprint.specs.Holds.{holds, is_forgotten}
use Rattle.evaluation_log.specs.declared.log.Logged.{Logged}

-- it was forgotten with an object of which the set has the birth and the death
abbrev pub IsLost : Foot → Item → Type 0
IsLost f i = (x : ObjName) × (is_forgotten x i ≡ true) × (holds f (Born x) ≡ true) × (holds f (Dies x) ≡ true)

-- the second has what the first has, all but the accesses of objects that were born and have died
abbrev pub Keeps : Foot → Foot → Type 0
Keeps f g = (i : Item) → holds f i ≡ true → (holds g i ≡ true) ⊎ IsLost g i

-- the last event, if there is one, has this as what its body touched
abbrev pub HasBody : List Logged → Foot → Type 0
HasBody es foot = (t : List Logged) (e : Logged) → es ≡ t ++ e ∷ [] → IsSomeAnd e.foot (λ b. b.value ≡ foot)
