-- Calls of the library under the rows of a memory and under more (own).
use Rattle.std.specs.Prelude.{◌≡◌, true, List, [], ◌∷◌, is_some}
use Rattle.ub_base.specs.declared.names.Event.{Event}
use Rattle.addr_map.specs.declared.map.Row.{Row}
use Rattle.addr_map.specs.Rows.{row_of}
use Rattle.c_types.specs.declared.library.LibFunc.{LibFunc}
use Rattle.c_types.specs.declared.library.LibFunc.TheVariants.{Malloc, Calloc, Realloc}
use Rattle.mem_spec.specs.Store.{Store}
use Rattle.libc_spec.specs.Library.{LibValue, prov_in, heap_name, called}
use Rattle.mem_laws.specs.MoreRows.{Extends, AreIn}

-- each candidate of each pointer among the arguments has a row
abbrev pub ArgumentsIn : List Row → List LibValue → Type 0
ArgumentsIn rows [] = Unit {0}
ArgumentsIn rows (v ∷ vs) = AreIn rows (prov_in v) × ArgumentsIn rows vs

-- the object that a call allocates, if it allocates one, has a row
abbrev pub AllocatesIn : List Row → LibFunc → Event → Type 0
AllocatesIn rows Malloc who = is_some (row_of rows (heap_name who)) ≡ true
AllocatesIn rows Calloc who = is_some (row_of rows (heap_name who)) ≡ true
AllocatesIn rows Realloc who = is_some (row_of rows (heap_name who)) ≡ true
AllocatesIn rows f who = Unit {0}

-- a call of a function that takes no format does the same under more rows
abbrev pub CallsSame : Type 0
CallsSame = (few more : List Row) (f : LibFunc) (vs : List LibValue) (who : Event) (s : Store) → Extends few more → ArgumentsIn few vs
    → AllocatesIn few f who → called more f vs who s ≡ called few f vs who s
