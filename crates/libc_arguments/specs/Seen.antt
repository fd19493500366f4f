-- The values of a run as those of the library's definitions.
use Rattle.std.specs.Prelude.{List, map}
use Rattle.mem_objects.specs.declared.value.Value.{Value}
use Rattle.mem_objects.specs.declared.value.Value.TheVariants.{Int, Ptr}
use Rattle.libc_spec.specs.Library.{LibValue, number, pointer, nothing}
use Rattle.libc_arguments.specs.declared.arguments.Pointer.{Pointer}

-- a function takes integers and pointers to objects
abbrev pub value_seen : Value → LibValue
value_seen (Int n) = number n
value_seen (Ptr address prov) = pointer address prov
value_seen _ = nothing

abbrev pub values_seen : List Value → List LibValue
values_seen vs = map value_seen vs

abbrev pub pointer_seen : Pointer → LibValue
pointer_seen p = pointer p.addr p.prov
