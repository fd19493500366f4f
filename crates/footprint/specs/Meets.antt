-- What one set has that conflicts with what another has, entry by entry (own).
use Rattle.std.specs.Prelude.{◌≡◌, ℕ, Bool, true, false, not, ◌&&◌, ◌||◌, List, Option, Some, None}
use Rattle.std.specs.Ordering.{nat_cmp}
use Rattle.std.specs.declared.cmp.Ordering.TheVariants.{Less}
use Rattle.std.specs.List.{list_any}
use Rattle.std.specs.BTreeMap.{BTreeMap}
use Rattle.std.specs.BTreeSet.{BTreeSet, contains}
use Rattle.ub_base.specs.declared.names.Event.{Event}
use Rattle.ub_base.specs.declared.names.ObjName.{ObjName}
use Rattle.ub_base.specs.Names.{same_object, same_event}
use Rattle.ub_base.specs.NameOrders.{object_cmp}
use Rattle.addr_map.specs.declared.map.Row.{Row}
use Rattle.addr_map.specs.Rows.{covers, past}
use Rattle.footprint.specs.declared.foot.Foot.{Foot}
use Rattle.footprint.specs.declared.state.State.{State}
use Rattle.footprint.specs.States.{state_in}
use Rattle.footprint.specs.Holds.{narrow_cmp}

-- an object's birth with its use or its exposure, its death with its use, its birth or its death
abbrev pub states_meet : State → State → Bool
states_meet s t = (s.born && (t.alive || t.expose)) || (s.dies && (t.alive || (t.born || t.dies)))

abbrev pub states_conflict : State → State → Bool
states_conflict s t = states_meet s t || states_meet t s

-- what was done to some object conflicts
abbrev pub SomeStates : BTreeMap ObjName State → BTreeMap ObjName State → Type 0
SomeStates m n = (x : ObjName) × (states_conflict (state_in m x) (state_in n x) ≡ true)

-- the object died or was exposed
abbrev pub is_hit : Foot → Option ObjName → Bool
is_hit b None = false
is_hit b (Some x) = (state_in b.states x).dies || (state_in b.states x).expose

-- one of the objects that contain the address or have it one past did
abbrev pub is_met : Foot → List Row → ℕ → Bool
is_met b rows k = is_hit b (covers rows k) || is_hit b (past rows k)

abbrev pub SomeLookup : Foot → Foot → List Row → Type 0
SomeLookup a b rows = (k : ℕ) × (contains nat_cmp a.lookups k ≡ true) × (is_met b rows k ≡ true)

-- this ambiguity is settled to another object than that one
abbrev pub settled_otherwise : BTreeSet (Event × ObjName) → Event → ObjName → Bool
settled_otherwise s d x = list_any (λ m. same_event d m.0 && not (same_object x m.1)) s.keys

-- to an object that comes before that one in the order of names, or after it
abbrev pub SettledBelow : BTreeSet (Event × ObjName) → Event → ObjName → Type 0
SettledBelow s d x = (y : ObjName) × (contains narrow_cmp s (d, y) ≡ true) × (object_cmp y x ≡ Less)

abbrev pub SettledAbove : BTreeSet (Event × ObjName) → Event → ObjName → Type 0
SettledAbove s d x = (y : ObjName) × (contains narrow_cmp s (d, y) ≡ true) × (object_cmp x y ≡ Less)

-- some ambiguity is settled to different objects
abbrev pub SomeNarrow : BTreeSet (Event × ObjName) → BTreeSet (Event × ObjName) → Type 0
SomeNarrow s t = (d : Event) × (x : ObjName) × (y : ObjName) × (contains narrow_cmp s (d, x) ≡ true) × (contains narrow_cmp t (d, y) ≡ true) ×
    (not (same_object x y) ≡ true)

-- both use one stream, or one ends the run beside what stands for every event
abbrev pub streams_meet : Foot → Foot → Bool
streams_meet a b = ((a.input && b.input) || (a.output && b.output)) || ((a.ending && b.any) || (a.any && b.ending))
