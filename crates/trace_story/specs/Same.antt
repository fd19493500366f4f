-- When two that are sought are one (own).
use Rattle.std.specs.Prelude.{Bool, true, false, ◌&&◌, ◌==◌, Option, Some, None}
use Rattle.ub_base.specs.Names.{same_object}
use Rattle.addr_map.specs.declared.map.Row.{Row as Place}
use Rattle.trace_story.specs.declared.told.Sought.{Sought}

abbrev pub same_row : Place → Place → Bool
same_row r s = same_object r.name s.name && ((r.base == s.base) && ((r.size == s.size) && (r.align == s.align)))

abbrev pub same_place : Option Place → Option Place → Bool
same_place None None = true
same_place None (Some s) = false
same_place (Some r) None = false
same_place (Some r) (Some s) = same_row r s

abbrev pub same_sought : Sought → Sought → Bool
same_sought r s = same_object r.object s.object && same_place r.row s.row
