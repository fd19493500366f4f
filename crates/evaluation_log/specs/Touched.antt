-- What the events of the log have touched, item by item, each access a byte at a time (own).
use Rattle.std.specs.Prelude.{ℕ, zero, suc, ◌+◌, ◌-◌, Bool, true, false, not, ◌&&◌, ◌||◌, List, Option, Some, None, Box, slice_get, length}
use Rattle.std.specs.Global.{Global}
use Rattle.ub_base.specs.declared.clause.Kind.{Kind}
use Rattle.ub_base.specs.declared.clause.Kind.TheVariants.{Val, Eff, Body}
use Rattle.ub_base.specs.declared.names.Item.{Item}
use Rattle.footprint.specs.declared.foot.Foot.{Foot}
use Rattle.footprint.specs.Holds.{holds, stands_for}
use Rattle.evaluation_log.specs.declared.log.Logged.{Logged}
use Rattle.evaluation_log.specs.declared.log.Segment.{Segment}
use Rattle.evaluation_log.specs.declared.sought.Sought.{Sought}
use Rattle.evaluation_log.specs.declared.sought.Sought.TheVariants.{Races, Any}

abbrev pub some_stands : Option Item → Item → Bool
some_stands None j = false
some_stands (Some i) j = stands_for i j

-- one of so many items of a list, from one place on
abbrev pub touched : List Item → (from n : ℕ) → Item → Bool
touched items from zero j = false
touched items from (suc n) j = touched items from n j || some_stands (slice_get items (from + n)) j

abbrev pub body_has : Option (Box Foot Global) → Item → Bool
body_has None j = false
body_has (Some b) j = holds b.value j

-- an event's own items, or those of the body that it started
abbrev pub event_has : List Item → Option Logged → Item → Bool
event_has items None j = false
event_has items (Some e) j = touched items e.from (e.to - e.from) j || body_has e.foot j

abbrev pub is_body : Kind → Bool
is_body Val = false
is_body Eff = false
is_body Body = true

-- bodies have no part in races
abbrev pub is_sought : Sought → Option Logged → Bool
is_sought sought None = false
is_sought Any (Some e) = true
is_sought Races (Some e) = not (is_body e.kind)

-- one of so many events from one place on, of those that are sought
abbrev pub range_has : List Logged → List Item → Sought → (from n : ℕ) → Item → Bool
range_has events items sought from zero j = false
range_has events items sought from (suc n) j =
    range_has events items sought from n j ||
    (is_sought sought (slice_get events (from + n)) && event_has items (slice_get events (from + n)) j)

abbrev pub first_event : List Logged → Option Segment → ℕ
first_event events None = length events
first_event events (Some s) = s.first

-- where the events of an operand's segment begin, and behind the last one where the events end
abbrev pub start_of : List Segment → List Logged → ℕ → ℕ
start_of segments events g = first_event events (slice_get segments g)
