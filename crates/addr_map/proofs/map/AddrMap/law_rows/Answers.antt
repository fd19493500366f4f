use Rattle.std.specs.HashMap.{get}
use Rattle.addr_map.specs.Sound.{object_eq}
use Rattle.addr_map.proofs.ApartRows.{is_map}
use Rattle.addr_map.proofs.map.AddrMap.law_rows.Goals as goal

pub returns : goal.returns
returns c = rw (← c.self.view_is) (is_map c.self.inside.rows (get object_eq c.self.inside.bases) c.self.inside.free c.self.invariant)
