-- The scripts of libc_spec ask before they read or write.
use Rattle.std.specs.Prelude.{List}
use Rattle.ub_base.specs.declared.names.Event.{Event}
use Rattle.addr_map.specs.declared.map.Row.{Row}
use Rattle.c_types.specs.declared.library.LibFunc.{LibFunc}
use Rattle.c_types.specs.Types.{CType}
use Rattle.ub_base.specs.declared.names.Item.{Item}
use Rattle.c_model.specs.Values.{Value}
use Rattle.c_model.specs.Libraries.{library}
use Rattle.order_laws.specs.Asking.{AskedOrEnds}

abbrev pub LibraryAsks : Type 0
LibraryAsks = (rows : List Row) (g : LibFunc) (who : Event) (ts : List CType) (vs : List Value) (bs : List Item)
    → AskedOrEnds rows (library rows g who ts vs) bs
