-- The items of one pick that are told of an object, in order (own).
use Rattle.std.specs.Prelude.{◌+◌, ◌-◌, ◌^◌, ℕ, min, max, nat_lt, nat_le, Bool, false, ◌&&◌, ◌||◌, List, [], ◌∷◌, Option, Some, None, if◌then◌else◌}
use Rattle.std.specs.declared.cmp.Ordering.{Ordering}
use Rattle.std.specs.declared.cmp.Ordering.TheVariants.{Less, Equal, Greater}
use Rattle.std.specs.Ordering.{nat_cmp, ordering_then}
use Rattle.ub_base.specs.Frames.{Row}
use Rattle.ub_base.specs.Names.{same_object}
use Rattle.ub_base.specs.declared.clause.Kind.TheVariants.{Val}
use Rattle.ub_base.specs.declared.names.Event.{Event}
use Rattle.ub_base.specs.declared.names.ObjName.{ObjName}
use Rattle.ub_base.specs.declared.names.Item.{Item}
use Rattle.ub_base.specs.declared.names.Item.TheVariants.{Read, Write, Born, Dies, Alive, Expose, Lookup, Narrow, Input, Output, Ending, Any}
use Rattle.addr_map.specs.declared.map.Row.{Row as Place}
use Rattle.addr_map.specs.Rows.{contains, is_past}
use Rattle.c_names.specs.Orders.{event_cmp}
use Rattle.trace_story.specs.declared.told.Sought.{Sought}

-- the byte behind the last of so many from one on
abbrev pub end_of : ℕ → ℕ → ℕ
end_of from len = min (from + len) (2 ^ 64 - 1)

-- a range before another with a gap, behind it with a gap, or touching it
abbrev pub by_range : (from len at count : ℕ) → Ordering
by_range from len at count = if nat_lt (end_of from len) at then Less else (if nat_lt (end_of at count) from then Greater else Equal)

-- the least range that has both
abbrev pub hull : (from len at count : ℕ) → ℕ × ℕ
hull from len at count = (min from at, max (end_of from len) (end_of at count) - min from at)

-- the order of the kinds of items
abbrev pub item_rank : Item → ℕ
item_rank (Read x i n) = 0
item_rank (Write x i n) = 1
item_rank (Born x) = 2
item_rank (Dies x) = 3
item_rank (Alive x) = 4
item_rank (Expose x) = 5
item_rank (Lookup a) = 6
item_rank (Narrow d x) = 7
item_rank Input = 8
item_rank Output = 9
item_rank Ending = 10
item_rank Any = 11

-- the bytes of an item, the address that it looks up and the event whose look-up it settles, where it has them
abbrev pub range_of : Item → ℕ × ℕ
range_of (Read x f n) = (f, n)
range_of (Write x f n) = (f, n)
range_of _ = (0, 0)

abbrev pub address_of : Item → ℕ
address_of (Lookup a) = a
address_of _ = 0

abbrev pub no_event : Event
no_event = record { frame = record { 0 = 0 }; turn = 0; node = 0; kind = Val }

abbrev pub event_of : Item → Event
event_of (Narrow d x) = d
event_of _ = no_event

-- how an item of the object stands to another: by kind, and two of one kind by their bytes, addresses or events; Equal where they are told as one
abbrev pub meeting : List Row → Item → Item → Ordering
meeting rows i j =
    ordering_then (nat_cmp (item_rank i) (item_rank j))
    (ordering_then (by_range (range_of i).0 (range_of i).1 (range_of j).0 (range_of j).1)
    (ordering_then (nat_cmp (address_of i) (address_of j)) (event_cmp rows (event_of i) (event_of j))))

-- the one item that two of a kind make: of ranges the least one that has both
abbrev pub joined : Item → Item → Item
joined (Read x f n) j = Read x (hull f n (range_of j).0 (range_of j).1).0 (hull f n (range_of j).0 (range_of j).1).1
joined (Write x f n) j = Write x (hull f n (range_of j).0 (range_of j).1).0 (hull f n (range_of j).0 (range_of j).1).1
joined i j = i

abbrev pub by_meeting : Ordering → (before behind one : List Item) → List Item
by_meeting Less before behind one = before
by_meeting Greater before behind one = behind
by_meeting Equal before behind one = one

-- items that stand in order with gaps, with one more
abbrev pub placed : List Row → Item → List Item → List Item
placed rows i [] = i ∷ []
placed rows i (j ∷ js) = by_meeting (meeting rows i j) (i ∷ j ∷ js) (j ∷ placed rows i js) (placed rows (joined i j) js)

-- the same, where there is still one to be placed
abbrev pub left : List Row → Option Item → List Item → List Item
left rows None js = js
left rows (Some i) js = placed rows i js

-- the object contains the address, or has it one past
abbrev pub is_at : Option Place → ℕ → Bool
is_at None a = false
is_at (Some r) a = contains r a || is_past r a

-- the item names the object, or looks up an address that it contains or has one past
abbrev pub is_told : Sought → Item → Bool
is_told s (Read x i n) = same_object x s.object && nat_lt 0 n
is_told s (Write x i n) = same_object x s.object && nat_lt 0 n
is_told s (Born x) = same_object x s.object
is_told s (Dies x) = same_object x s.object
is_told s (Alive x) = same_object x s.object
is_told s (Expose x) = same_object x s.object
is_told s (Lookup a) = is_at s.row a
is_told s (Narrow d x) = same_object x s.object
is_told s Input = false
is_told s Output = false
is_told s Ending = false
is_told s Any = false

-- the items that are told, each once and the ranges joined, behind those that stand in order already
abbrev pub told_with : List Row → Sought → List Item → List Item → List Item
told_with rows s told [] = told
told_with rows s told (i ∷ is) = told_with rows s (if is_told s i then placed rows i told else told) is

abbrev pub told_in : List Row → Sought → List Item → List Item
told_in rows s items = told_with rows s [] items
