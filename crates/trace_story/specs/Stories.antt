-- The story of an object: what the picks of a run do to it, in order (own).
use Rattle.std.specs.Prelude.{ℕ, ◌+◌, List, [], ◌∷◌, ◌++◌, map, Option, Some, None}
use Rattle.ub_base.specs.Frames.{Row}
use Rattle.ub_base.specs.declared.names.Event.{Event}
use Rattle.ub_base.specs.declared.names.Item.{Item}
use Rattle.ub_base.specs.declared.names.ObjName.{ObjName}
use Rattle.addr_map.specs.declared.map.Row.{Row as Place}
use Rattle.addr_map.specs.Rows.{row_of as place_of}
use Rattle.core_run.specs.Calls.{Call, picked, node_done, operands_done, Heard, picks_in}
use Rattle.trace_story.specs.declared.entry.Entry.{Entry}
use Rattle.trace_story.specs.declared.told.Sought.{Sought}
use Rattle.trace_story.specs.Told.{told_in}

-- the number of a pick, its event, or none for a control step, and an item
abbrev pub Mark : Type 0
Mark = ℕ × Option Event × Item

-- an entry but for its line
abbrev pub mark_of : Entry → Mark
mark_of e = (e.pick, e.event, e.item)

abbrev pub mark_at : ℕ → Option Event → Item → Mark
mark_at n event item = (n, event, item)

-- what a call tells of the object, behind so many picks
abbrev pub marks_of : List Row → Sought → ℕ → Call → List Mark
marks_of rows s n (picked event items) = map (mark_at (n + 1) event) (told_in rows s items)
marks_of rows s n (node_done frame turn node) = []
marks_of rows s n (operands_done frame turn node) = []

-- the same, where there is an object
abbrev pub marks_in : List Row → Option Sought → ℕ → Call → List Mark
marks_in rows None n call = []
marks_in rows (Some s) n call = marks_of rows s n call

-- what these calls, of which the last one stands first, tell of the object, where there is one
abbrev pub story_in : List Row → Option Sought → Heard → List Mark
story_in rows sought [] = []
story_in rows sought (h ∷ hs) = story_in rows sought hs ++ marks_in rows sought (picks_in hs) h.0

-- the object, with its place among these rows
abbrev pub sought_in : List Place → Option ObjName → Option Sought
sought_in places None = None
sought_in places (Some x) = Some (record { object = x; row = place_of places x })
