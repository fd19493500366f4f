-- The text of a story (own).
use Rattle.std.specs.Prelude.{ℕ, List, [], ◌∷◌, ◌++◌, length, codes, decimal, Option, Some, None}
use Rattle.ub_base.specs.Frames.{Row}
use Rattle.ub_base.specs.declared.names.Event.{Event}
use Rattle.ub_base.specs.declared.names.Item.{Item}
use Rattle.ub_base.specs.declared.names.Item.TheVariants.{Read, Write, Born, Dies, Alive, Expose, Lookup, Narrow, Input, Output, Ending, Any}
use Rattle.c_names.specs.Texts.{event_text}
use Rattle.trace_story.specs.declared.entry.Entry.{Entry}

abbrev pub range_text : List ℕ → ℕ → ℕ → List ℕ
range_text words from len = words ++ (decimal from ++ (codes " length " ++ decimal len))

-- an item without its object
abbrev pub item_text : List Row → Item → List ℕ
item_text rows (Read x from len) = range_text (codes "read from ") from len
item_text rows (Write x from len) = range_text (codes "write from ") from len
item_text rows (Born x) = codes "born"
item_text rows (Dies x) = codes "dies"
item_text rows (Alive x) = codes "alive"
item_text rows (Expose x) = codes "expose"
item_text rows (Lookup a) = codes "lookup " ++ decimal a
item_text rows (Narrow d x) = codes "narrow " ++ event_text rows d
item_text rows Input = codes "in"
item_text rows Output = codes "out"
item_text rows Ending = codes "end"
item_text rows Any = codes "any"

-- a control step, or an event and its line
abbrev pub cause_text : List Row → Option Event → ℕ → List ℕ
cause_text rows None line = codes " control "
cause_text rows (Some e) line = codes " " ++ (event_text rows e ++ (codes " line " ++ (decimal line ++ codes " ")))

abbrev pub entry_text : List Row → Entry → List ℕ
entry_text rows e = decimal e.pick ++ (cause_text rows e.event e.line ++ (item_text rows e.item ++ codes "\n"))

abbrev pub lines_text : List Row → List Entry → List ℕ
lines_text rows [] = []
lines_text rows (e ∷ es) = entry_text rows e ++ lines_text rows es

-- a line for each entry, and their count
abbrev pub entries_text : List Row → List Entry → List ℕ
entries_text rows es = lines_text rows es ++ (codes "entries " ++ (decimal (length es) ++ codes "\n"))
