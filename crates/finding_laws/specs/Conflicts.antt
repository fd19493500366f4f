-- Whether two footprints conflict, and whether two lists of items do.
use Rattle.std.specs.Prelude.{◌↔◌, List, IsTrue}
use Rattle.ub_base.specs.declared.names.Item.{Item}
use Rattle.addr_map.specs.declared.map.Row.{Row}
use Rattle.addr_map.specs.Conflict.{some_conflict}
use Rattle.footprint.specs.declared.foot.Foot.{Foot}
use Rattle.footprint.specs.Found.{SomeConflict, SomeRace}
use Rattle.c_model.specs.Findings.{accesses}
use Rattle.finding_laws.specs.Footprints.{AreItems}

-- an item of one footprint and an item of another conflict exactly where an item of one list and one of the other do
abbrev pub ConflictsAreTold : Type 0
ConflictsAreTold = (rows : List Row) (is js : List Item) (f g : Foot) → AreItems f is → AreItems g js →
    SomeConflict f g rows ↔ IsTrue (some_conflict rows is js)

-- so do accesses
abbrev pub RacesAreTold : Type 0
RacesAreTold = (rows : List Row) (is js : List Item) (f g : Foot) → AreItems f is → AreItems g js →
    SomeRace f g ↔ IsTrue (some_conflict rows (accesses is) (accesses js))
