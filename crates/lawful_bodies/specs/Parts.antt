-- The types of the library functions, as the code has them.
use Rattle.std.specs.Prelude.{true, false}
use Rattle.c_types.specs.Types.{CType, void, int, pointer}
use Rattle.c_types.specs.declared.kind.IntKind.TheVariants.{Char, Int as Whole, ULong}
use Rattle.lawful_bodies.specs.declared.library.Part.{Part}
use Rattle.lawful_bodies.specs.declared.library.Part.TheVariants.{Nothing, Int, Size, Memory, ConstMemory, Text, ConstText}

abbrev pub part_type : Part → CType
part_type Nothing = void
part_type Int = int Whole
part_type Size = int ULong
part_type Memory = pointer false void
part_type ConstMemory = pointer true void
part_type Text = pointer false (int Char)
part_type ConstText = pointer true (int Char)
