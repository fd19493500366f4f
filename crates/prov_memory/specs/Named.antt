-- The provenance that a number names, where there is a number (own).
use Rattle.std.specs.Prelude.{List, Option, Some, None}
use Rattle.exposure.specs.declared.prov.Prov.{Prov}
use Rattle.mem_objects.specs.declared.cell.Origin.{Origin}
use Rattle.mem_objects.specs.Cells.{prov_numbered}

abbrev pub named_in : List Prov → Option Origin → Option Prov
named_in ps None = None
named_in ps (Some o) = Some (prov_numbered ps o.number)
