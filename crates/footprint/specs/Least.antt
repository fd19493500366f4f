-- The order of items and of pairs of them (own), and the least pair of some.
use Rattle.std.specs.Prelude.{◌≡◌, ℕ, true, List, Option, Some, None, if◌then◌else◌}
use Rattle.std.specs.declared.cmp.Ordering.{Ordering}
use Rattle.std.specs.declared.cmp.Ordering.TheVariants.{Less}
use Rattle.std.specs.Ordering.{nat_cmp, ordering_then, is_lt}
use Rattle.ub_base.specs.declared.clause.Kind.TheVariants.{Val}
use Rattle.ub_base.specs.declared.names.Event.{Event}
use Rattle.ub_base.specs.declared.names.ObjName.{ObjName}
use Rattle.ub_base.specs.declared.names.ObjName.TheVariants.{Argv}
use Rattle.ub_base.specs.declared.names.Item.{Item}
use Rattle.ub_base.specs.declared.names.Item.TheVariants.{Read, Write, Born, Dies, Alive, Expose, Lookup, Narrow, Input, Output, Ending, Any}
use Rattle.ub_base.specs.Frames.{Row}
use Rattle.c_names.specs.Orders.{event_cmp, object_cmp}
use Rattle.footprint.specs.declared.span.Byte.{Byte}
use Rattle.footprint.specs.Ranges.{has_byte}

abbrev pub item_rank : Item → ℕ
item_rank (Read x i n) = 0
item_rank (Write x i n) = 1
item_rank (Born x) = 2
item_rank (Dies x) = 3
item_rank (Alive x) = 4
item_rank (Expose x) = 5
item_rank (Lookup a) = 6
item_rank (Narrow d x) = 7
item_rank Input = 8
item_rank Output = 9
item_rank Ending = 10
item_rank Any = 11

abbrev pub no_event : Event
no_event = record { frame = record { 0 = 0 }; turn = 0; node = 0; kind = Val }

-- the parts of an item, where it has them: an event, an object, and a byte or an address
abbrev pub item_event : Item → Event
item_event (Narrow d x) = d
item_event _ = no_event

abbrev pub item_object : Item → ObjName
item_object (Read x i n) = x
item_object (Write x i n) = x
item_object (Born x) = x
item_object (Dies x) = x
item_object (Alive x) = x
item_object (Expose x) = x
item_object (Narrow d x) = x
item_object _ = Argv

abbrev pub item_number : Item → ℕ
item_number (Read x i n) = i
item_number (Write x i n) = i
item_number (Lookup a) = a
item_number _ = 0

-- items by kind, and two of one kind by their parts
abbrev pub item_cmp : List Row → Item → Item → Ordering
item_cmp rows i j =
    ordering_then (nat_cmp (item_rank i) (item_rank j))
    (ordering_then (event_cmp rows (item_event i) (item_event j))
    (ordering_then (object_cmp rows (item_object i) (item_object j)) (nat_cmp (item_number i) (item_number j))))

-- pairs by the first item and then by the second
abbrev pub pair_cmp : List Row → Item × Item → Item × Item → Ordering
pair_cmp rows p q = ordering_then (item_cmp rows p.0 q.0) (item_cmp rows p.1 q.1)

-- a pair of which this holds, such that it holds of no lesser pair; or none where it holds of no pair
abbrev pub IsLeast : List Row → (Item → Item → Type 0) → Option (Item × Item) → Type 0
IsLeast rows Q None = (i j : Item) → Q i j → ⊥
IsLeast rows Q (Some p) = Q p.0 p.1 × ((i j : Item) → Q i j → pair_cmp rows (i, j) p ≡ Less → ⊥)

-- the lesser of two pairs, of which the first stays where they tie
abbrev pub lesser : List Row → Option (Item × Item) → Option (Item × Item) → Option (Item × Item)
lesser rows None q = q
lesser rows (Some p) None = Some p
lesser rows (Some p) (Some q) = if is_lt (pair_cmp rows q p) then Some q else Some p

-- bytes by object and place
abbrev pub byte_cmp : List Row → ObjName × ℕ → ObjName × ℕ → Ordering
byte_cmp rows b c = ordering_then (object_cmp rows b.0 c.0) (nat_cmp b.1 c.1)

-- the byte found so far isn't greater than this one
abbrev pub Reaches : List Row → Option Byte → ObjName → ℕ → Type 0
Reaches rows None x i = ⊥
Reaches rows (Some b) x i = byte_cmp rows (x, i) (b.object, b.at) ≡ Less → ⊥

-- the least byte that both have, or none where they share none
abbrev pub IsLeastShared : List Row → List ((ObjName × ℕ) × ℕ) → List ((ObjName × ℕ) × ℕ) → Option Byte → Type 0
IsLeastShared rows rs ss None = (x : ObjName) (i : ℕ) → has_byte rs x i ≡ true → has_byte ss x i ≡ true → ⊥
IsLeastShared rows rs ss (Some b) = (has_byte rs b.object b.at ≡ true) × (has_byte ss b.object b.at ≡ true)
    × ((x : ObjName) (i : ℕ) → has_byte rs x i ≡ true → has_byte ss x i ≡ true → byte_cmp rows (x, i) (b.object, b.at) ≡ Less → ⊥)

abbrev pub read_at : ObjName → ℕ → Item
read_at x i = Read x i 1

abbrev pub write_at : ObjName → ℕ → Item
write_at x i = Write x i 1

-- two accesses of that byte
abbrev pub paired : (ObjName → ℕ → Item) → (ObjName → ℕ → Item) → Option Byte → Option (Item × Item)
paired f g None = None
paired f g (Some b) = Some (f b.object b.at, g b.object b.at)
