-- The items that a footprint holds (own), each Read and Write being of one byte.
use Rattle.std.specs.Prelude.{◌+◌, ◌-◌, ◌^◌, min, Bool, true, false, ◌&&◌, ◌==◌}
use Rattle.std.specs.Ordering.{nat_cmp, ordering_then}
use Rattle.std.specs.declared.cmp.Ordering.{Ordering}
use Rattle.std.specs.BTreeSet.{contains}
use Rattle.ub_base.specs.declared.names.Event.{Event}
use Rattle.ub_base.specs.declared.names.ObjName.{ObjName}
use Rattle.ub_base.specs.declared.names.Item.{Item}
use Rattle.ub_base.specs.declared.names.Item.TheVariants.{Read, Write, Born, Dies, Alive, Expose, Lookup, Narrow, Input, Output, Ending, Any}
use Rattle.ub_base.specs.Names.{same_object, same_event}
use Rattle.ub_base.specs.NameOrders.{event_cmp, object_cmp}
use Rattle.footprint.specs.declared.foot.Foot.{Foot}
use Rattle.footprint.specs.Ranges.{range_has, has_byte}
use Rattle.footprint.specs.States.{state_in}

-- settled ambiguities are kept by the event and the object
abbrev pub narrow_cmp : Event × ObjName → Event × ObjName → Ordering
narrow_cmp x y = ordering_then (event_cmp x.0 y.0) (object_cmp x.1 y.1)

-- the item is among those of the footprint
abbrev pub holds : Foot → Item → Bool
holds f (Read x i n) = (n == 1) && has_byte f.reads.ends.entries x i
holds f (Write x i n) = (n == 1) && has_byte f.writes.ends.entries x i
holds f (Born x) = (state_in f.states x).born
holds f (Dies x) = (state_in f.states x).dies
holds f (Alive x) = (state_in f.states x).alive
holds f (Expose x) = (state_in f.states x).expose
holds f (Lookup a) = contains nat_cmp f.lookups a
holds f (Narrow d x) = contains narrow_cmp f.narrows (d, x)
holds f Input = f.input
holds f Output = f.output
holds f Ending = f.ending
holds f Any = f.any

-- an item stands for itself, and that of a range for one item a byte, of the bytes below the last of 64 bits
abbrev pub stands_for : Item → Item → Bool
stands_for (Read x f n) (Read y i m) = (m == 1) && range_has ((x, f), min (f + n) (2 ^ 64 - 1)) y i
stands_for (Write x f n) (Write y i m) = (m == 1) && range_has ((x, f), min (f + n) (2 ^ 64 - 1)) y i
stands_for (Born x) (Born y) = same_object x y
stands_for (Dies x) (Dies y) = same_object x y
stands_for (Alive x) (Alive y) = same_object x y
stands_for (Expose x) (Expose y) = same_object x y
stands_for (Lookup a) (Lookup b) = a == b
stands_for (Narrow d x) (Narrow e y) = same_event d e && same_object x y
stands_for Input Input = true
stands_for Output Output = true
stands_for Ending Ending = true
stands_for Any Any = true
stands_for _ _ = false

-- an item of the object that goes with its death
abbrev pub is_forgotten : ObjName → Item → Bool
is_forgotten x (Read y i n) = same_object x y
is_forgotten x (Write y i n) = same_object x y
is_forgotten x (Alive y) = same_object x y
is_forgotten x _ = false
