-- What reading a member of a structure value does, as a node's act has it (6.5.2.3p3).
use Rattle.std.specs.Prelude.{List}
use Rattle.c_types.specs.declared.kind.IntKind.{IntKind}
use Rattle.mem_spec.specs.Script.{Script, Give, ◌>>=◌}
use Rattle.mem_spec.specs.Store.{TaggedByte}
use Rattle.prov_memory.specs.Parts.{part_int, part_func}
use Rattle.c_model.specs.Values.{Value, Int, Fun}

abbrev pub integer_part : IntKind → List TaggedByte → Script Value
integer_part kind bs = part_int kind bs >>= (λ z. Give (Int z))

abbrev pub function_part : List TaggedByte → Script Value
function_part bs = part_func bs >>= (λ n. Give (Fun n))
