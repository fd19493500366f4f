-- The bytes of pointers: loaded and stored one by one, in the wrong order, half overwritten, in structures. 16,777,216 is 2^24,
-- whose bytes are 0 0 0 1 0 0 0 0.
use Rattle.std.specs.Prelude.{List, [], ◌∷◌, true, false, pos}
use Rattle.ub_base.specs.declared.clause.Clause.TheVariants.{DeadObject, EffectiveType, Indeterminate, InvalidPointer, OutOfBounds}
use Rattle.ub_base.specs.declared.names.Item.TheVariants.{Read, Write, Born, Dies, Alive, Expose, Lookup}
use Rattle.addr_map.specs.declared.map.Row.{Row}
use Rattle.exposure.specs.declared.prov.Prov.TheVariants.{Empty, Whole, Either}
use Rattle.c_types.specs.declared.kind.IntKind.TheVariants.{UChar, Short, Int, UInt, Long, ULong}
use Rattle.c_types.specs.Types.{int}
use Rattle.mem_spec.specs.Store.{Store}
use Rattle.mem_samples.specs.Objects as o
use Rattle.mem_samples.specs.Objects.{turn, row, allocated, declared, structure, union, pointer_type, function_type}
use Rattle.mem_samples.specs.Calls.{
  Call,
  create,
  kill,
  expose,
  load,
  load_pointer,
  load_function,
  load_block,
  store,
  store_pointer,
  store_function,
  clear,
  store_block,
  cast,
  Given,
  done,
  number,
  pointer,
  origin,
  raises,
  Follows,
}

abbrev pub bytes_one_by_one_rows : List Row
bytes_one_by_one_rows = row o.x 16777216 4 4 ∷ row o.p 16777224 8 8 ∷ row o.q 16777232 8 8 ∷ []

-- bytes of a pointer that are read one by one expose its object, and those that are stored are looked up
abbrev pub bytes_one_by_one : List (Call × Given)
bytes_one_by_one =
    (create o.x 4 4 (declared (int Int)), number (pos 16777216) (Born o.x ∷ []))
    ∷ (create o.p 8 8 (declared pointer_type), number (pos 16777224) (Born o.p ∷ []))
    ∷ (create o.q 8 8 (declared pointer_type), number (pos 16777232) (Born o.q ∷ []))
    ∷ (store true Int (pos 7) 16777216 (Whole o.x), done (Alive o.x ∷ Write o.x 0 4 ∷ []))
    ∷ (store_pointer 16777216 (Whole o.x) 16777224 (Whole o.p), done (Alive o.p ∷ Write o.p 0 8 ∷ []))
    ∷ (load_pointer 3 16777224 (Whole o.p), pointer 16777216 (Whole o.x) (Alive o.p ∷ Read o.p 0 8 ∷ Alive o.x ∷ []))
    ∷ (cast 4 16777216, origin Empty (Lookup 16777216 ∷ []))
    ∷ (load UChar 16777224 (Whole o.p), number (pos 0) (Alive o.p ∷ Read o.p 0 1 ∷ Expose o.x ∷ []))
    ∷ (store false UChar (pos 0) 16777232 (Whole o.q), done (Alive o.q ∷ Write o.q 0 1 ∷ []))
    ∷ (load UChar 16777225 (Whole o.p), number (pos 0) (Alive o.p ∷ Read o.p 1 1 ∷ Expose o.x ∷ []))
    ∷ (store false UChar (pos 0) 16777233 (Whole o.q), done (Alive o.q ∷ Write o.q 1 1 ∷ []))
    ∷ (load UChar 16777226 (Whole o.p), number (pos 0) (Alive o.p ∷ Read o.p 2 1 ∷ Expose o.x ∷ []))
    ∷ (store false UChar (pos 0) 16777234 (Whole o.q), done (Alive o.q ∷ Write o.q 2 1 ∷ []))
    ∷ (load UChar 16777227 (Whole o.p), number (pos 1) (Alive o.p ∷ Read o.p 3 1 ∷ Expose o.x ∷ []))
    ∷ (store false UChar (pos 1) 16777235 (Whole o.q), done (Alive o.q ∷ Write o.q 3 1 ∷ []))
    ∷ (load UChar 16777228 (Whole o.p), number (pos 0) (Alive o.p ∷ Read o.p 4 1 ∷ Expose o.x ∷ []))
    ∷ (store false UChar (pos 0) 16777236 (Whole o.q), done (Alive o.q ∷ Write o.q 4 1 ∷ []))
    ∷ (load UChar 16777229 (Whole o.p), number (pos 0) (Alive o.p ∷ Read o.p 5 1 ∷ Expose o.x ∷ []))
    ∷ (store false UChar (pos 0) 16777237 (Whole o.q), done (Alive o.q ∷ Write o.q 5 1 ∷ []))
    ∷ (load UChar 16777230 (Whole o.p), number (pos 0) (Alive o.p ∷ Read o.p 6 1 ∷ Expose o.x ∷ []))
    ∷ (store false UChar (pos 0) 16777238 (Whole o.q), done (Alive o.q ∷ Write o.q 6 1 ∷ []))
    ∷ (load_pointer 5 16777232 (Whole o.q), raises Indeterminate)
    ∷ (load UChar 16777231 (Whole o.p), number (pos 0) (Alive o.p ∷ Read o.p 7 1 ∷ Expose o.x ∷ []))
    ∷ (store false UChar (pos 0) 16777239 (Whole o.q), done (Alive o.q ∷ Write o.q 7 1 ∷ []))
    ∷ (load_pointer 6 16777232 (Whole o.q), pointer 16777216 (Whole o.x) (Alive o.q ∷ Read o.q 0 8 ∷ Lookup 16777216 ∷ []))
    ∷ (load Int 16777216 (Whole o.x), number (pos 7) (Alive o.x ∷ Read o.x 0 4 ∷ []))
    ∷ []

abbrev pub pieces_out_of_order_rows : List Row
pieces_out_of_order_rows = row o.x 16777216 4 4 ∷ row o.p 16777224 8 8 ∷ row o.q 16777232 8 8 ∷ []

-- pieces in the wrong order are the number that they spell
abbrev pub pieces_out_of_order : List (Call × Given)
pieces_out_of_order =
    (create o.x 4 4 (declared (int Int)), number (pos 16777216) (Born o.x ∷ []))
    ∷ (create o.p 8 8 (declared pointer_type), number (pos 16777224) (Born o.p ∷ []))
    ∷ (create o.q 8 8 (declared pointer_type), number (pos 16777232) (Born o.q ∷ []))
    ∷ (store_pointer 16777216 (Whole o.x) 16777224 (Whole o.p), done (Alive o.p ∷ Write o.p 0 8 ∷ []))
    ∷ (load_block 1 1 16777224 (Whole o.p), done (Alive o.p ∷ Read o.p 0 1 ∷ []))
    ∷ (store_block 1 16777239 (Whole o.q), done (Alive o.q ∷ Write o.q 7 1 ∷ []))
    ∷ (load_block 1 1 16777225 (Whole o.p), done (Alive o.p ∷ Read o.p 1 1 ∷ []))
    ∷ (store_block 1 16777238 (Whole o.q), done (Alive o.q ∷ Write o.q 6 1 ∷ []))
    ∷ (load_block 1 1 16777226 (Whole o.p), done (Alive o.p ∷ Read o.p 2 1 ∷ []))
    ∷ (store_block 1 16777237 (Whole o.q), done (Alive o.q ∷ Write o.q 5 1 ∷ []))
    ∷ (load_block 1 1 16777227 (Whole o.p), done (Alive o.p ∷ Read o.p 3 1 ∷ []))
    ∷ (store_block 1 16777236 (Whole o.q), done (Alive o.q ∷ Write o.q 4 1 ∷ []))
    ∷ (load_block 1 1 16777228 (Whole o.p), done (Alive o.p ∷ Read o.p 4 1 ∷ []))
    ∷ (store_block 1 16777235 (Whole o.q), done (Alive o.q ∷ Write o.q 3 1 ∷ []))
    ∷ (load_block 1 1 16777229 (Whole o.p), done (Alive o.p ∷ Read o.p 5 1 ∷ []))
    ∷ (store_block 1 16777234 (Whole o.q), done (Alive o.q ∷ Write o.q 2 1 ∷ []))
    ∷ (load_block 1 1 16777230 (Whole o.p), done (Alive o.p ∷ Read o.p 6 1 ∷ []))
    ∷ (store_block 1 16777233 (Whole o.q), done (Alive o.q ∷ Write o.q 1 1 ∷ []))
    ∷ (load_block 1 1 16777231 (Whole o.p), done (Alive o.p ∷ Read o.p 7 1 ∷ []))
    ∷ (store_block 1 16777232 (Whole o.q), done (Alive o.q ∷ Write o.q 0 1 ∷ []))
    ∷ (load_pointer 3 16777232 (Whole o.q), pointer 4294967296 Empty (Alive o.q ∷ Read o.q 0 8 ∷ Lookup 4294967296 ∷ []))
    ∷ (load Int 4294967296 Empty, raises InvalidPointer)
    ∷ []

abbrev pub block_of_pieces_rows : List Row
block_of_pieces_rows = row o.x 16777216 4 4 ∷ row o.p 16777224 8 8 ∷ row o.q 16777232 8 8 ∷ []

-- a block keeps pieces and exposes nothing, and one piece out of place leaves a number
abbrev pub block_of_pieces : List (Call × Given)
block_of_pieces =
    (create o.x 4 4 (declared (int Int)), number (pos 16777216) (Born o.x ∷ []))
    ∷ (create o.p 8 8 (declared pointer_type), number (pos 16777224) (Born o.p ∷ []))
    ∷ (create o.q 8 8 (declared pointer_type), number (pos 16777232) (Born o.q ∷ []))
    ∷ (store_pointer 16777216 (Whole o.x) 16777224 (Whole o.p), done (Alive o.p ∷ Write o.p 0 8 ∷ []))
    ∷ (load_block 8 1 16777224 (Whole o.p), done (Alive o.p ∷ Read o.p 0 8 ∷ []))
    ∷ (store_block 1 16777232 (Whole o.q), done (Alive o.q ∷ Write o.q 0 8 ∷ []))
    ∷ (load_pointer 3 16777232 (Whole o.q), pointer 16777216 (Whole o.x) (Alive o.q ∷ Read o.q 0 8 ∷ Alive o.x ∷ []))
    ∷ (load_block 1 1 16777225 (Whole o.p), done (Alive o.p ∷ Read o.p 1 1 ∷ []))
    ∷ (store_block 1 16777232 (Whole o.q), done (Alive o.q ∷ Write o.q 0 1 ∷ []))
    ∷ (load_pointer 4 16777232 (Whole o.q), pointer 16777216 Empty (Alive o.q ∷ Read o.q 0 8 ∷ Lookup 16777216 ∷ []))
    ∷ (expose (Whole o.x), done (Expose o.x ∷ []))
    ∷ (load_pointer 5 16777232 (Whole o.q), pointer 16777216 (Whole o.x) (Alive o.q ∷ Read o.q 0 8 ∷ Lookup 16777216 ∷ []))
    ∷ []

abbrev pub half_overwritten_rows : List Row
half_overwritten_rows = row o.x 16777216 4 4 ∷ row o.p 16777224 8 8 ∷ []

-- a pointer that is half overwritten is a number, though the bytes are the same
abbrev pub half_overwritten : List (Call × Given)
half_overwritten =
    (create o.x 4 4 (declared (int Int)), number (pos 16777216) (Born o.x ∷ []))
    ∷ (create o.p 8 8 (declared pointer_type), number (pos 16777224) (Born o.p ∷ []))
    ∷ (store_pointer 16777216 (Whole o.x) 16777224 (Whole o.p), done (Alive o.p ∷ Write o.p 0 8 ∷ []))
    ∷ (clear 4 16777228 (Whole o.p), done (Alive o.p ∷ Write o.p 4 4 ∷ []))
    ∷ (load_pointer 3 16777224 (Whole o.p), pointer 16777216 Empty (Alive o.p ∷ Read o.p 0 8 ∷ Lookup 16777216 ∷ []))
    ∷ (load UChar 16777228 (Whole o.p), number (pos 0) (Alive o.p ∷ Read o.p 4 1 ∷ []))
    ∷ (cast 4 16777216, origin Empty (Lookup 16777216 ∷ []))
    ∷ (load UChar 16777224 (Whole o.p), number (pos 0) (Alive o.p ∷ Read o.p 0 1 ∷ Expose o.x ∷ []))
    ∷ (load_pointer 5 16777224 (Whole o.p), pointer 16777216 (Whole o.x) (Alive o.p ∷ Read o.p 0 8 ∷ Lookup 16777216 ∷ []))
    ∷ []

abbrev pub pieces_of_two_pointers_rows : List Row
pieces_of_two_pointers_rows = row o.a 16777216 4 4 ∷ row o.b 16777220 4 4 ∷ row o.p 16777224 8 8 ∷ row o.q 16777232 8 8 ∷ []

-- pieces of two pointers to one address are no pointer
abbrev pub pieces_of_two_pointers : List (Call × Given)
pieces_of_two_pointers =
    (create o.a 4 4 (declared (int Int)), number (pos 16777216) (Born o.a ∷ []))
    ∷ (create o.b 4 4 (declared (int Int)), number (pos 16777220) (Born o.b ∷ []))
    ∷ (create o.p 8 8 (declared pointer_type), number (pos 16777224) (Born o.p ∷ []))
    ∷ (create o.q 8 8 (declared pointer_type), number (pos 16777232) (Born o.q ∷ []))
    ∷ (store_pointer 16777220 (Whole o.a) 16777224 (Whole o.p), done (Alive o.p ∷ Write o.p 0 8 ∷ []))
    ∷ (store_pointer 16777220 (Whole o.b) 16777232 (Whole o.q), done (Alive o.q ∷ Write o.q 0 8 ∷ []))
    ∷ (load_block 4 1 16777228 (Whole o.p), done (Alive o.p ∷ Read o.p 4 4 ∷ []))
    ∷ (store_block 1 16777236 (Whole o.q), done (Alive o.q ∷ Write o.q 4 4 ∷ []))
    ∷ (load_pointer 3 16777232 (Whole o.q), pointer 16777220 Empty (Alive o.q ∷ Read o.q 0 8 ∷ Lookup 16777220 ∷ []))
    ∷ (load UChar 16777232 (Whole o.q), number (pos 4) (Alive o.q ∷ Read o.q 0 1 ∷ Expose o.b ∷ []))
    ∷ (load_pointer 4 16777232 (Whole o.q), pointer 16777220 (Whole o.b) (Alive o.q ∷ Read o.q 0 8 ∷ Lookup 16777220 ∷ []))
    ∷ (load UChar 16777236 (Whole o.q), number (pos 0) (Alive o.q ∷ Read o.q 4 1 ∷ Expose o.a ∷ []))
    ∷ (load_pointer 5 16777232 (Whole o.q), pointer 16777220 (Either (turn 5) o.a o.b) (Alive o.q ∷ Read o.q 0 8 ∷ Lookup 16777220 ∷ []))
    ∷ []

abbrev pub byte_of_an_ambiguity_rows : List Row
byte_of_an_ambiguity_rows = row o.a 16777216 4 4 ∷ row o.b 16777220 4 4 ∷ row o.p 16777224 8 8 ∷ []

-- a byte of an ambiguous pointer exposes both objects
abbrev pub byte_of_an_ambiguity : List (Call × Given)
byte_of_an_ambiguity =
    (create o.a 4 4 (declared (int Int)), number (pos 16777216) (Born o.a ∷ []))
    ∷ (create o.b 4 4 (declared (int Int)), number (pos 16777220) (Born o.b ∷ []))
    ∷ (create o.p 8 8 (declared pointer_type), number (pos 16777224) (Born o.p ∷ []))
    ∷ (expose (Whole o.a), done (Expose o.a ∷ []))
    ∷ (expose (Whole o.b), done (Expose o.b ∷ []))
    ∷ (cast 3 16777220, origin (Either (turn 3) o.a o.b) (Lookup 16777220 ∷ []))
    ∷ (store_pointer 16777220 (Either (turn 3) o.a o.b) 16777224 (Whole o.p), done (Alive o.p ∷ Write o.p 0 8 ∷ []))
    ∷ (load UChar 16777224 (Whole o.p), number (pos 4) (Alive o.p ∷ Read o.p 0 1 ∷ Expose o.a ∷ Expose o.b ∷ []))
    ∷ (load ULong 16777224 (Whole o.p), raises EffectiveType)
    ∷ []

abbrev pub null_in_memory_rows : List Row
null_in_memory_rows = row o.p 16777216 8 8 ∷ []

-- null in memory, and zeros, which no look-up follows
abbrev pub null_in_memory : List (Call × Given)
null_in_memory =
    (create o.p 8 8 (declared pointer_type), number (pos 16777216) (Born o.p ∷ []))
    ∷ (load_pointer 3 16777216 (Whole o.p), raises Indeterminate)
    ∷ (store_pointer 0 Empty 16777216 (Whole o.p), done (Alive o.p ∷ Write o.p 0 8 ∷ []))
    ∷ (load_pointer 4 16777216 (Whole o.p), pointer 0 Empty (Alive o.p ∷ Read o.p 0 8 ∷ []))
    ∷ (load UChar 16777216 (Whole o.p), number (pos 0) (Alive o.p ∷ Read o.p 0 1 ∷ []))
    ∷ (clear 8 16777216 (Whole o.p), done (Alive o.p ∷ Write o.p 0 8 ∷ []))
    ∷ (load_pointer 5 16777216 (Whole o.p), pointer 0 Empty (Alive o.p ∷ Read o.p 0 8 ∷ []))
    ∷ []

abbrev pub function_pointers_rows : List Row
function_pointers_rows = row o.x 16777216 4 4 ∷ row o.p 16777224 8 8 ∷ row o.h 16777232 8 16 ∷ []

-- pointers to functions are plain addresses
abbrev pub function_pointers : List (Call × Given)
function_pointers =
    (create o.x 4 4 (declared (int Int)), number (pos 16777216) (Born o.x ∷ []))
    ∷ (create o.p 8 8 (declared function_type), number (pos 16777224) (Born o.p ∷ []))
    ∷ (create o.h 8 16 allocated, number (pos 16777232) (Born o.h ∷ []))
    ∷ (store_function 4096 16777224 (Whole o.p), done (Alive o.p ∷ Write o.p 0 8 ∷ []))
    ∷ (load_function 16777224 (Whole o.p), number (pos 4096) (Alive o.p ∷ Read o.p 0 8 ∷ []))
    ∷ (load ULong 16777224 (Whole o.p), raises EffectiveType)
    ∷ (load_pointer 3 16777224 (Whole o.p), raises EffectiveType)
    ∷ (store_pointer 16777216 (Whole o.x) 16777224 (Whole o.p), raises EffectiveType)
    ∷ (store_function 4112 16777232 (Whole o.h), done (Alive o.h ∷ Write o.h 0 8 ∷ []))
    ∷ (load_function 16777232 (Whole o.h), number (pos 4112) (Alive o.h ∷ Read o.h 0 8 ∷ []))
    ∷ (load_pointer 4 16777232 (Whole o.h), raises EffectiveType)
    ∷ (store_pointer 16777216 (Whole o.x) 16777232 (Whole o.h), done (Alive o.h ∷ Write o.h 0 8 ∷ []))
    ∷ (load_function 16777232 (Whole o.h), raises EffectiveType)
    ∷ (load ULong 16777232 (Whole o.h), raises EffectiveType)
    ∷ (load_pointer 5 16777232 (Whole o.h), pointer 16777216 (Whole o.x) (Alive o.h ∷ Read o.h 0 8 ∷ Alive o.x ∷ []))
    ∷ (store false UChar (pos 0) 16777232 (Whole o.h), done (Alive o.h ∷ Write o.h 0 1 ∷ []))
    ∷ (load_pointer 6 16777232 (Whole o.h), pointer 16777216 Empty (Alive o.h ∷ Read o.h 0 8 ∷ Lookup 16777216 ∷ []))
    ∷ []

abbrev pub structure_copied_rows : List Row
structure_copied_rows = row o.x 16777216 4 4 ∷ row o.g 16777224 16 8 ∷ row o.h 16777248 16 16 ∷ []

-- a structure is copied with its pieces and its unwritten bytes, and its scalars leave their types
abbrev pub structure_copied : List (Call × Given)
structure_copied =
    (create o.x 4 4 (declared (int Int)), number (pos 16777216) (Born o.x ∷ []))
    ∷ (create o.g 16 8 structure, number (pos 16777224) (Born o.g ∷ []))
    ∷ (create o.h 16 16 allocated, number (pos 16777248) (Born o.h ∷ []))
    ∷ (store false Int (pos 5) 16777224 (Whole o.g), done (Alive o.g ∷ Write o.g 0 4 ∷ []))
    ∷ (store_pointer 16777216 (Whole o.x) 16777232 (Whole o.g), done (Alive o.g ∷ Write o.g 8 8 ∷ []))
    ∷ (store false Int (pos 5) 16777232 (Whole o.g), raises EffectiveType)
    ∷ (load_block 16 8 16777224 (Whole o.g), done (Alive o.g ∷ Read o.g 0 16 ∷ []))
    ∷ (store_block 8 16777248 (Whole o.h), done (Alive o.h ∷ Write o.h 0 16 ∷ []))
    ∷ (load Int 16777248 (Whole o.h), number (pos 5) (Alive o.h ∷ Read o.h 0 4 ∷ []))
    ∷ (load UInt 16777248 (Whole o.h), number (pos 5) (Alive o.h ∷ Read o.h 0 4 ∷ []))
    ∷ (load Short 16777248 (Whole o.h), raises EffectiveType)
    ∷ (load Int 16777252 (Whole o.h), raises Indeterminate)
    ∷ (load_pointer 4 16777256 (Whole o.h), pointer 16777216 (Whole o.x) (Alive o.h ∷ Read o.h 8 8 ∷ Alive o.x ∷ []))
    ∷ (load Long 16777256 (Whole o.h), raises EffectiveType)
    ∷ (cast 5 16777216, origin Empty (Lookup 16777216 ∷ []))
    ∷ (kill o.x, done (Dies o.x ∷ []))
    ∷ (load_pointer 8 16777256 (Whole o.h), raises DeadObject)
    ∷ (load_block 16 8 16777249 (Whole o.h), raises OutOfBounds)
    ∷ (load_block 8 8 16777252 (Whole o.h), raises InvalidPointer)
    ∷ []

abbrev pub union_copied_rows : List Row
union_copied_rows = row o.g 16777216 8 8 ∷ row o.h 16777232 8 16 ∷ []

-- a byte of a union that two scalars span leaves no type, one that one spans leaves that one's
abbrev pub union_copied : List (Call × Given)
union_copied =
    (create o.g 8 8 union, number (pos 16777216) (Born o.g ∷ []))
    ∷ (create o.h 8 16 allocated, number (pos 16777232) (Born o.h ∷ []))
    ∷ (store false Int (pos 5) 16777216 (Whole o.g), done (Alive o.g ∷ Write o.g 0 4 ∷ []))
    ∷ (load Long 16777216 (Whole o.g), raises Indeterminate)
    ∷ (load_block 8 8 16777216 (Whole o.g), done (Alive o.g ∷ Read o.g 0 8 ∷ []))
    ∷ (store_block 8 16777232 (Whole o.h), done (Alive o.h ∷ Write o.h 0 8 ∷ []))
    ∷ (load Short 16777232 (Whole o.h), number (pos 5) (Alive o.h ∷ Read o.h 0 2 ∷ []))
    ∷ (load Int 16777232 (Whole o.h), number (pos 5) (Alive o.h ∷ Read o.h 0 4 ∷ []))
    ∷ (load UInt 16777236 (Whole o.h), raises EffectiveType)
    ∷ (load Long 16777232 (Whole o.h), raises Indeterminate)
    ∷ []

abbrev pub tags_copied_rows : List Row
tags_copied_rows = row o.x 16777216 4 4 ∷ row o.h 16777232 8 16 ∷ []

-- copied bytes keep their type and their place in it
abbrev pub tags_copied : List (Call × Given)
tags_copied =
    (create o.x 4 4 (declared (int Int)), number (pos 16777216) (Born o.x ∷ []))
    ∷ (create o.h 8 16 allocated, number (pos 16777232) (Born o.h ∷ []))
    ∷ (store true Int (pos 5) 16777216 (Whole o.x), done (Alive o.x ∷ Write o.x 0 4 ∷ []))
    ∷ (load_block 4 1 16777216 (Whole o.x), done (Alive o.x ∷ Read o.x 0 4 ∷ []))
    ∷ (store_block 1 16777232 (Whole o.h), done (Alive o.h ∷ Write o.h 0 4 ∷ []))
    ∷ (load Short 16777232 (Whole o.h), raises EffectiveType)
    ∷ (load Int 16777232 (Whole o.h), number (pos 5) (Alive o.h ∷ Read o.h 0 4 ∷ []))
    ∷ (load_block 2 1 16777234 (Whole o.h), done (Alive o.h ∷ Read o.h 2 2 ∷ []))
    ∷ (store_block 1 16777236 (Whole o.h), done (Alive o.h ∷ Write o.h 4 2 ∷ []))
    ∷ (load Int 16777236 (Whole o.h), raises EffectiveType)
    ∷ (load UChar 16777236 (Whole o.h), number (pos 0) (Alive o.h ∷ Read o.h 4 1 ∷ []))
    ∷ (load_block 4 1 16777232 (Whole o.h), done (Alive o.h ∷ Read o.h 0 4 ∷ []))
    ∷ (store_block 1 16777236 (Whole o.h), done (Alive o.h ∷ Write o.h 4 4 ∷ []))
    ∷ (load Int 16777236 (Whole o.h), number (pos 5) (Alive o.h ∷ Read o.h 4 4 ∷ []))
    ∷ []

-- each sequence gives what stands beside its calls
pub record Pieces (s : Store) : Type 0 where
  pub bytes_one_by_one_given : Follows bytes_one_by_one_rows bytes_one_by_one s
  pub pieces_out_of_order_given : Follows pieces_out_of_order_rows pieces_out_of_order s
  pub block_of_pieces_given : Follows block_of_pieces_rows block_of_pieces s
  pub half_overwritten_given : Follows half_overwritten_rows half_overwritten s
  pub pieces_of_two_pointers_given : Follows pieces_of_two_pointers_rows pieces_of_two_pointers s
  pub byte_of_an_ambiguity_given : Follows byte_of_an_ambiguity_rows byte_of_an_ambiguity s
  pub null_in_memory_given : Follows null_in_memory_rows null_in_memory s
  pub function_pointers_given : Follows function_pointers_rows function_pointers s
  pub structure_copied_given : Follows structure_copied_rows structure_copied s
  pub union_copied_given : Follows union_copied_rows union_copied s
  pub tags_copied_given : Follows tags_copied_rows tags_copied s
