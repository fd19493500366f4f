-- Members of structure values, read without an access as loads read their bytes (own; 6.5.2.3p3).
use Rattle.std.specs.Prelude.{ℕ, not, List, [], Option, Some, None, ℤ}
use Rattle.ub_base.specs.declared.clause.Clause.TheVariants.{Indeterminate, TrapRepresentation}
use Rattle.ub_base.specs.declared.names.Event.{Event}
use Rattle.ub_base.specs.declared.names.Item.{Item}
use Rattle.exposure.specs.declared.prov.Prov.{Prov}
use Rattle.c_types.specs.declared.kind.IntKind.{IntKind}
use Rattle.mem_spec.specs.Store.{TaggedByte}
use Rattle.mem_spec.specs.Script.{Script, Give, require, ◌>>=◌, ◌>>◌}
use Rattle.mem_spec.specs.Acts.{all_written, number_of, is_trap, value_of, show_pieces, pointer_in, from_int}
use Rattle.mem_objects.specs.Made.{look_up_items}

-- an integer of these bytes
abbrev pub part_int : IntKind → List TaggedByte → Script ℤ
part_int kind bs =
    require (all_written bs) Indeterminate
    >> (require (not (is_trap kind (number_of bs))) TrapRepresentation >> (show_pieces bs >> Give (value_of kind (number_of bs))))

-- a pointer to a function, which is a plain address
abbrev pub part_func : List TaggedByte → Script ℕ
part_func bs = require (all_written bs) Indeterminate >> (show_pieces bs >> Give (number_of bs))

-- the pointer that the bytes are the pieces of, or what a cast of their number gives
abbrev pub pointer_or_found : Event → Option Prov → ℕ → Script (ℕ × Prov)
pointer_or_found who (Some prov) a = Give (a, prov)
pointer_or_found who None a = from_int who a >>= (λ prov. Give (a, prov))

-- a pointer to an object; whether its target lives isn't asked
abbrev pub part_ptr : Event → List TaggedByte → Script (ℕ × Prov)
part_ptr who bs = require (all_written bs) Indeterminate >> pointer_or_found who (pointer_in bs) (number_of bs)

-- what a member that is a pointer asks for: what is found by its number, where its bytes are no pieces
abbrev pub part_items : Option Prov → ℕ → List Item
part_items (Some prov) a = []
part_items None a = look_up_items a
