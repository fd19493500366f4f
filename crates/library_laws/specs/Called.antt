-- Calls of the library with their limits, of each of its functions (7.21, 7.22, 7.24; the limits: own).
use Rattle.std.specs.Prelude.{◌||◌, Bool, true, false, List, drop, None, Some, if◌then◌else◌}
use Rattle.ub_base.specs.declared.names.Event.{Event}
use Rattle.ub_base.specs.declared.names.Item.{Item}
use Rattle.addr_map.specs.declared.map.Row.{Row}
use Rattle.c_types.specs.declared.library.LibFunc.{LibFunc}
use Rattle.c_types.specs.declared.library.LibFunc.TheVariants.{Malloc, Calloc, Realloc, Printf, Fprintf, Sprintf, Snprintf}
use Rattle.c_types.specs.Types.{CType}
use Rattle.mem_spec.specs.Script.{Act}
use Rattle.mem_spec.specs.Store.{Store}
use Rattle.libc_spec.specs.Formatted.{printed_to_by, stored_by}
use Rattle.libc_spec.specs.Library.{LibValue, argument_at, called, integer_in, joined, reads_strings, size_of_value}
use Rattle.libc_spec.specs.Print.{printed_by}
use Rattle.c_model.specs.Libraries.{typed}

-- a call of a function with arguments of these types, by this event
abbrev pub called_with : List Row → LibFunc → Event → List CType → List LibValue → Store → Act LibValue
called_with rows Printf who ts vs s = printed_by rows (argument_at vs 0) (drop 1 (typed ts vs)) s
called_with rows Fprintf who ts vs s = printed_to_by rows (integer_in (argument_at vs 0)) (argument_at vs 1) (drop 2 (typed ts vs)) s
called_with rows Sprintf who ts vs s = stored_by rows None (argument_at vs 0) (argument_at vs 1) (drop 2 (typed ts vs)) s
called_with rows Snprintf who ts vs s =
    stored_by rows (Some (size_of_value (argument_at vs 1))) (argument_at vs 0) (argument_at vs 2) (drop 3 (typed ts vs)) s
called_with rows f who ts vs s = called rows f vs who s

-- the functions that allocate (7.22.3)
abbrev pub allocates : LibFunc → Bool
allocates Malloc = true
allocates Calloc = true
allocates Realloc = true
allocates f = false

-- the functions that take a format (7.21.6)
abbrev pub takes_format : LibFunc → Bool
takes_format Printf = true
takes_format Fprintf = true
takes_format Sprintf = true
takes_format Snprintf = true
takes_format f = false

-- the items of a function that reads strings name what is read of a string by one range (own)
abbrev pub names_ranges : LibFunc → Bool
names_ranges f = takes_format f || reads_strings f

abbrev pub items_of : LibFunc → List Item → List Item
items_of f is = if names_ranges f then joined is else is
