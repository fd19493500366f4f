-- What values and places are to the definitions of runs (own).
use Rattle.std.specs.Prelude.{Result, Ok, Err}
use Rattle.mem_objects.specs.declared.value.Value.{Value as Held}
use Rattle.mem_objects.specs.declared.value.Value.TheVariants as values
use Rattle.mem_objects.specs.Memory.{Kept}
use Rattle.mem_objects.specs.Pieces.{seen}
use Rattle.c_model.specs.Values.{Value, Int, Ptr, Fun, Whole, Missing, Nothing, Pointer, pointer_value}
use Rattle.run_values.specs.declared.values.Pointer.{Pointer as Place}

-- a value, the pieces and tags of its bytes as the memory names them
abbrev pub value_in : Kept → Held → Value
value_in m (values.Int z) = Int z
value_in m (values.Ptr a prov) = Ptr a prov
value_in m (values.Func a) = Fun a
value_in m (values.Block b) = Whole (seen m b.cells) b.source
value_in m values.Missing = Missing
value_in m values.Nothing = Nothing

abbrev pub pointer_at : Place → Pointer
pointer_at p = record { address = p.addr; prov = p.prov }

abbrev pub value_result : {E : Type 0} → Kept → Result Held E → Result Value E
value_result m (Ok v) = Ok (value_in m v)
value_result m (Err e) = Err e

-- a place as a value
abbrev pub place_result : {E : Type 0} → Result Place E → Result Value E
place_result (Ok p) = Ok (pointer_value (pointer_at p))
place_result (Err e) = Err e
