-- What was done to objects as wholes (own).
use Rattle.std.specs.Prelude.{Bool, false, ◌||◌, List, [], ◌∷◌, Option, Some, None, if◌then◌else◌}
use Rattle.std.specs.BTreeMap.{BTreeMap, get}
use Rattle.ub_base.specs.declared.names.ObjName.{ObjName}
use Rattle.ub_base.specs.declared.names.Item.{Item}
use Rattle.ub_base.specs.declared.names.Item.TheVariants.{Born, Dies, Alive, Expose}
use Rattle.ub_base.specs.Names.{same_object}
use Rattle.ub_base.specs.NameOrders.{object_cmp}
use Rattle.footprint.specs.declared.state.State.{State}

abbrev pub nothing : State
nothing = record { born = false; dies = false; alive = false; expose = false }

abbrev pub or_nothing : Option State → State
or_nothing None = nothing
or_nothing (Some s) = s

-- what was done to that object
abbrev pub state_in : BTreeMap ObjName State → ObjName → State
state_in states x = or_nothing (get object_cmp states x)

-- what one or the other says
abbrev pub either : State → State → State
either s t = record { born = s.born || t.born; dies = s.dies || t.dies; alive = s.alive || t.alive; expose = s.expose || t.expose }

abbrev pub only_at : ObjName → State → ObjName → State
only_at x s y = if same_object x y then s else nothing

abbrev pub not_alive : State → State
not_alive s = record { born = s.born; dies = s.dies; alive = false; expose = s.expose }

-- what was done to that object by these entries
abbrev pub listed : List (ObjName × State) → ObjName → State
listed [] x = nothing
listed (e ∷ es) x = either (only_at e.0 e.1 x) (listed es x)

-- whether that was done to the object of the item
abbrev pub said_by : (ObjName → State) → Item → Bool
said_by f (Born x) = (f x).born
said_by f (Dies x) = (f x).dies
said_by f (Alive x) = (f x).alive
said_by f (Expose x) = (f x).expose
said_by f _ = false
