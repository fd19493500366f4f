-- Loads and stores: unwritten bytes, `_Bool`, lives, what may not be stored to, effective types, and objects that can't be created.
use Rattle.std.specs.Prelude.{List, [], ◌∷◌, true, false, pos, negsuc}
use Rattle.ub_base.specs.declared.clause.Clause.TheVariants.{
  DeadObject,
  EffectiveType,
  Indeterminate,
  InvalidPointer,
  OutOfBounds,
  StoreToConst,
  StoreToLiteral,
  TrapRepresentation,
}
use Rattle.ub_base.specs.declared.names.Item.TheVariants.{Read, Write, Born, Dies, Alive, Expose, Lookup}
use Rattle.addr_map.specs.declared.map.Row.{Row}
use Rattle.exposure.specs.declared.prov.Prov.TheVariants.{Empty, Whole}
use Rattle.c_types.specs.declared.kind.IntKind.TheVariants.{Bool, Char, UChar, Short, Int, UInt, Long, ULong}
use Rattle.c_types.specs.Types.{int}
use Rattle.mem_spec.specs.Store.{Store}
use Rattle.mem_samples.specs.Objects as o
use Rattle.mem_samples.specs.Objects.{row, allocated, literal, constant, declared, pointer_type}
use Rattle.mem_samples.specs.Calls.{
  Call,
  create,
  created,
  kill,
  unwrite,
  expose,
  load,
  load_pointer,
  load_block,
  store,
  store_pointer,
  clear,
  store_block,
  shift,
  difference,
  compare,
  cast,
  Given,
  done,
  number,
  pointer,
  origin,
  raises,
  unplaced,
  Follows,
}

abbrev pub left_unwritten_rows : List Row
left_unwritten_rows = row o.x 16777232 4 4 ∷ []

-- a declaration without initializer leaves the object unwritten
abbrev pub left_unwritten : List (Call × Given)
left_unwritten =
    (create o.x 4 4 (declared (int Int)), number (pos 16777232) (Born o.x ∷ []))
    ∷ (unwrite o.x, done (Alive o.x ∷ Write o.x 0 4 ∷ []))
    ∷ (load Int 16777232 (Whole o.x), raises Indeterminate)
    ∷ (store false Int (negsuc 2) 16777232 (Whole o.x), done (Alive o.x ∷ Write o.x 0 4 ∷ []))
    ∷ (load Int 16777232 (Whole o.x), number (negsuc 2) (Alive o.x ∷ Read o.x 0 4 ∷ []))
    ∷ (load UInt 16777232 (Whole o.x), number (pos 4294967293) (Alive o.x ∷ Read o.x 0 4 ∷ []))
    ∷ (load UChar 16777232 (Whole o.x), number (pos 253) (Alive o.x ∷ Read o.x 0 1 ∷ []))
    ∷ (load Char 16777232 (Whole o.x), number (negsuc 2) (Alive o.x ∷ Read o.x 0 1 ∷ []))
    ∷ (unwrite o.x, done (Alive o.x ∷ Write o.x 0 4 ∷ []))
    ∷ (load Int 16777232 (Whole o.x), raises Indeterminate)
    ∷ (store false UChar (pos 1) 16777233 (Whole o.x), done (Alive o.x ∷ Write o.x 1 1 ∷ []))
    ∷ (load UChar 16777233 (Whole o.x), number (pos 1) (Alive o.x ∷ Read o.x 1 1 ∷ []))
    ∷ (load UChar 16777232 (Whole o.x), raises Indeterminate)
    ∷ (load Int 16777232 (Whole o.x), raises Indeterminate)
    ∷ (unwrite o.h, done (Alive o.h ∷ []))
    ∷ []

abbrev pub checks_in_order_rows : List Row
checks_in_order_rows = row o.x 16777232 4 4 ∷ []

-- the checks of an access come in their order
abbrev pub checks_in_order : List (Call × Given)
checks_in_order =
    (create o.x 4 4 (declared (int Int)), number (pos 16777232) (Born o.x ∷ []))
    ∷ (load Int 16777233 (Whole o.x), raises OutOfBounds)
    ∷ (load Short 16777233 (Whole o.x), raises InvalidPointer)
    ∷ (load Short 16777232 (Whole o.x), raises EffectiveType)
    ∷ (load Int 16777232 (Whole o.x), raises Indeterminate)
    ∷ (load Int 16777232 Empty, raises InvalidPointer)
    ∷ (load Int 0 Empty, raises InvalidPointer)
    ∷ (load Int 16777232 (Whole o.h), raises DeadObject)
    ∷ (load UChar 16777231 (Whole o.x), raises OutOfBounds)
    ∷ (load UChar 16777236 (Whole o.x), raises OutOfBounds)
    ∷ (store false Int (pos 1) 16777233 (Whole o.x), raises OutOfBounds)
    ∷ (store false Short (pos 1) 16777233 (Whole o.x), raises InvalidPointer)
    ∷ (store false Short (pos 1) 16777232 (Whole o.x), raises EffectiveType)
    ∷ (kill o.x, done (Dies o.x ∷ []))
    ∷ (load Int 16777233 (Whole o.x), raises DeadObject)
    ∷ (load Short 16777232 (Whole o.x), raises DeadObject)
    ∷ (store false Int (pos 1) 16777233 (Whole o.x), raises DeadObject)
    ∷ []

abbrev pub dead_target_rows : List Row
dead_target_rows = row o.p 16777232 8 8 ∷ row o.h 16777264 4 16 ∷ []

-- a dead target shows when the pointer is loaded, and at nothing else that is done with it
abbrev pub dead_target : List (Call × Given)
dead_target =
    (create o.p 8 8 (declared pointer_type), number (pos 16777232) (Born o.p ∷ []))
    ∷ (create o.h 4 16 allocated, number (pos 16777264) (Born o.h ∷ []))
    ∷ (store_pointer 16777264 (Whole o.h) 16777232 (Whole o.p), done (Alive o.p ∷ Write o.p 0 8 ∷ []))
    ∷ (load_pointer 3 16777232 (Whole o.p), pointer 16777264 (Whole o.h) (Alive o.p ∷ Read o.p 0 8 ∷ Alive o.h ∷ []))
    ∷ (kill o.h, done (Dies o.h ∷ []))
    ∷ (load_pointer 4 16777232 (Whole o.p), raises DeadObject)
    ∷ (shift 16777264 (Whole o.h) (pos 4), number (pos 16777268) [])
    ∷ (compare (Whole o.h) (Whole o.h), done [])
    ∷ (difference 16777268 (Whole o.h) 16777264 (Whole o.h) 4, done [])
    ∷ (expose (Whole o.h), done (Expose o.h ∷ []))
    ∷ (cast 5 16777264, origin Empty (Lookup 16777264 ∷ []))
    ∷ (store_pointer 16777264 (Whole o.h) 16777232 (Whole o.p), done (Alive o.p ∷ Write o.p 0 8 ∷ []))
    ∷ (load UChar 16777232 (Whole o.p), number (pos 48) (Alive o.p ∷ Read o.p 0 1 ∷ Expose o.h ∷ []))
    ∷ (load Int 16777264 (Whole o.h), raises DeadObject)
    ∷ (store false Int (pos 1) 16777264 (Whole o.h), raises DeadObject)
    ∷ []

abbrev pub bool_of_two_rows : List Row
bool_of_two_rows = row o.x 16777232 1 1 ∷ []

-- a `_Bool` byte of 2
abbrev pub bool_of_two : List (Call × Given)
bool_of_two =
    (create o.x 1 1 (declared (int Bool)), number (pos 16777232) (Born o.x ∷ []))
    ∷ (store false UChar (pos 2) 16777232 (Whole o.x), done (Alive o.x ∷ Write o.x 0 1 ∷ []))
    ∷ (load Bool 16777232 (Whole o.x), raises TrapRepresentation)
    ∷ (load UChar 16777232 (Whole o.x), number (pos 2) (Alive o.x ∷ Read o.x 0 1 ∷ []))
    ∷ (store false Bool (pos 1) 16777232 (Whole o.x), done (Alive o.x ∷ Write o.x 0 1 ∷ []))
    ∷ (load Bool 16777232 (Whole o.x), number (pos 1) (Alive o.x ∷ Read o.x 0 1 ∷ []))
    ∷ (store false Bool (pos 0) 16777232 (Whole o.x), done (Alive o.x ∷ Write o.x 0 1 ∷ []))
    ∷ (load Bool 16777232 (Whole o.x), number (pos 0) (Alive o.x ∷ Read o.x 0 1 ∷ []))
    ∷ []

abbrev pub const_object_rows : List Row
const_object_rows = row o.x 16777232 4 4 ∷ row o.h 16777264 4 4 ∷ []

-- an object defined const is initialized and not stored to
abbrev pub const_object : List (Call × Given)
const_object =
    (create o.x 4 4 (constant Int), number (pos 16777232) (Born o.x ∷ []))
    ∷ (create o.h 4 4 allocated, number (pos 16777264) (Born o.h ∷ []))
    ∷ (store true Int (pos 1) 16777232 (Whole o.x), done (Alive o.x ∷ Write o.x 0 4 ∷ []))
    ∷ (store false Int (pos 2) 16777232 (Whole o.x), raises StoreToConst)
    ∷ (store false Short (pos 2) 16777232 (Whole o.x), raises EffectiveType)
    ∷ (clear 4 16777232 (Whole o.x), raises StoreToConst)
    ∷ (load_block 4 4 16777264 (Whole o.h), done (Alive o.h ∷ Read o.h 0 4 ∷ []))
    ∷ (store_block 4 16777232 (Whole o.x), raises StoreToConst)
    ∷ (load Int 16777232 (Whole o.x), number (pos 1) (Alive o.x ∷ Read o.x 0 4 ∷ []))
    ∷ []

abbrev pub string_literal_rows : List Row
string_literal_rows = row o.g 16777232 1 1 ∷ []

-- a string literal isn't stored to
abbrev pub string_literal : List (Call × Given)
string_literal =
    (create o.g 1 1 literal, number (pos 16777232) (Born o.g ∷ []))
    ∷ (store true Char (pos 97) 16777232 (Whole o.g), done (Alive o.g ∷ Write o.g 0 1 ∷ []))
    ∷ (store false Char (pos 99) 16777232 (Whole o.g), raises StoreToLiteral)
    ∷ (clear 1 16777232 (Whole o.g), raises StoreToLiteral)
    ∷ (load_block 1 1 16777232 (Whole o.g), done (Alive o.g ∷ Read o.g 0 1 ∷ []))
    ∷ (store_block 1 16777232 (Whole o.g), raises StoreToLiteral)
    ∷ (load Char 16777232 (Whole o.g), number (pos 97) (Alive o.g ∷ Read o.g 0 1 ∷ []))
    ∷ []

abbrev pub declared_type_rows : List Row
declared_type_rows = row o.x 16777232 4 4 ∷ []

-- a declared object is accessed as its type or as the other of its signs, or as a character
abbrev pub declared_type : List (Call × Given)
declared_type =
    (create o.x 4 4 (declared (int Int)), number (pos 16777232) (Born o.x ∷ []))
    ∷ (store true Int (pos 1) 16777232 (Whole o.x), done (Alive o.x ∷ Write o.x 0 4 ∷ []))
    ∷ (load Short 16777232 (Whole o.x), raises EffectiveType)
    ∷ (load UInt 16777232 (Whole o.x), number (pos 1) (Alive o.x ∷ Read o.x 0 4 ∷ []))
    ∷ (load UChar 16777232 (Whole o.x), number (pos 1) (Alive o.x ∷ Read o.x 0 1 ∷ []))
    ∷ (store false UInt (pos 4294967295) 16777232 (Whole o.x), done (Alive o.x ∷ Write o.x 0 4 ∷ []))
    ∷ (load Int 16777232 (Whole o.x), number (negsuc 0) (Alive o.x ∷ Read o.x 0 4 ∷ []))
    ∷ []

abbrev pub type_of_last_store_rows : List Row
type_of_last_store_rows = row o.h 16777232 8 16 ∷ []

-- an allocated object has the type of the last store
abbrev pub type_of_last_store : List (Call × Given)
type_of_last_store =
    (create o.h 8 16 allocated, number (pos 16777232) (Born o.h ∷ []))
    ∷ (store false Long (pos 5) 16777232 (Whole o.h), done (Alive o.h ∷ Write o.h 0 8 ∷ []))
    ∷ (load Int 16777232 (Whole o.h), raises EffectiveType)
    ∷ (load ULong 16777232 (Whole o.h), number (pos 5) (Alive o.h ∷ Read o.h 0 8 ∷ []))
    ∷ (store false Int (pos 6) 16777232 (Whole o.h), done (Alive o.h ∷ Write o.h 0 4 ∷ []))
    ∷ (load Int 16777232 (Whole o.h), number (pos 6) (Alive o.h ∷ Read o.h 0 4 ∷ []))
    ∷ (load Long 16777232 (Whole o.h), raises EffectiveType)
    ∷ (load Int 16777236 (Whole o.h), raises EffectiveType)
    ∷ (store false UChar (pos 7) 16777232 (Whole o.h), done (Alive o.h ∷ Write o.h 0 1 ∷ []))
    ∷ (load Int 16777232 (Whole o.h), number (pos 7) (Alive o.h ∷ Read o.h 0 4 ∷ []))
    ∷ (load Short 16777232 (Whole o.h), raises EffectiveType)
    ∷ []

abbrev pub no_type_from_the_library_rows : List Row
no_type_from_the_library_rows = row o.h 16777232 8 16 ∷ []

-- bytes that a library function wrote have no type
abbrev pub no_type_from_the_library : List (Call × Given)
no_type_from_the_library =
    (create o.h 8 16 allocated, number (pos 16777232) (Born o.h ∷ []))
    ∷ (store false Long (pos 5) 16777232 (Whole o.h), done (Alive o.h ∷ Write o.h 0 8 ∷ []))
    ∷ (clear 8 16777232 (Whole o.h), done (Alive o.h ∷ Write o.h 0 8 ∷ []))
    ∷ (load Int 16777232 (Whole o.h), number (pos 0) (Alive o.h ∷ Read o.h 0 4 ∷ []))
    ∷ (load Short 16777236 (Whole o.h), number (pos 0) (Alive o.h ∷ Read o.h 4 2 ∷ []))
    ∷ []

abbrev pub blocks_overlap_rows : List Row
blocks_overlap_rows = row o.h 16777232 8 16 ∷ []

-- a block is stored over the bytes that it was loaded from
abbrev pub blocks_overlap : List (Call × Given)
blocks_overlap =
    (create o.h 8 16 allocated, number (pos 16777232) (Born o.h ∷ []))
    ∷ (store false UChar (pos 1) 16777232 (Whole o.h), done (Alive o.h ∷ Write o.h 0 1 ∷ []))
    ∷ (store false UChar (pos 2) 16777233 (Whole o.h), done (Alive o.h ∷ Write o.h 1 1 ∷ []))
    ∷ (store false UChar (pos 3) 16777234 (Whole o.h), done (Alive o.h ∷ Write o.h 2 1 ∷ []))
    ∷ (load_block 4 1 16777232 (Whole o.h), done (Alive o.h ∷ Read o.h 0 4 ∷ []))
    ∷ (store_block 1 16777233 (Whole o.h), done (Alive o.h ∷ Write o.h 1 4 ∷ []))
    ∷ (load UChar 16777232 (Whole o.h), number (pos 1) (Alive o.h ∷ Read o.h 0 1 ∷ []))
    ∷ (load UChar 16777233 (Whole o.h), number (pos 1) (Alive o.h ∷ Read o.h 1 1 ∷ []))
    ∷ (load UChar 16777234 (Whole o.h), number (pos 2) (Alive o.h ∷ Read o.h 2 1 ∷ []))
    ∷ (load UChar 16777235 (Whole o.h), number (pos 3) (Alive o.h ∷ Read o.h 3 1 ∷ []))
    ∷ (load UChar 16777236 (Whole o.h), raises Indeterminate)
    ∷ (load_block 3 1 16777234 (Whole o.h), done (Alive o.h ∷ Read o.h 2 3 ∷ []))
    ∷ (store_block 1 16777232 (Whole o.h), done (Alive o.h ∷ Write o.h 0 3 ∷ []))
    ∷ (load UChar 16777232 (Whole o.h), number (pos 2) (Alive o.h ∷ Read o.h 0 1 ∷ []))
    ∷ (load UChar 16777233 (Whole o.h), number (pos 3) (Alive o.h ∷ Read o.h 1 1 ∷ []))
    ∷ (load UChar 16777234 (Whole o.h), raises Indeterminate)
    ∷ (load UChar 16777235 (Whole o.h), number (pos 3) (Alive o.h ∷ Read o.h 3 1 ∷ []))
    ∷ []

abbrev pub counted_bytes_rows : List Row
counted_bytes_rows =
    row o.a 16777232 1 1
    ∷ row o.b 16777264 4 4
    ∷ row o.c 16777296 16 8
    ∷ row o.h 16777328 17 1
    ∷ row o.g 16777376 1 16
    ∷ row o.x 16777408 1048576 16
    ∷ []

-- each object counts as at least 16 bytes
abbrev pub counted_bytes : List (Call × Given)
counted_bytes =
    (created, number (pos 0) [])
    ∷ (create o.a 1 1 (declared (int Char)), number (pos 16777232) (Born o.a ∷ []))
    ∷ (create o.b 4 4 (declared (int Int)), number (pos 16777264) (Born o.b ∷ []))
    ∷ (create o.c 16 8 allocated, number (pos 16777296) (Born o.c ∷ []))
    ∷ (created, number (pos 48) [])
    ∷ (create o.h 17 1 allocated, number (pos 16777328) (Born o.h ∷ []))
    ∷ (created, number (pos 65) [])
    ∷ (create o.g 1 16 allocated, number (pos 16777376) (Born o.g ∷ []))
    ∷ (created, number (pos 81) [])
    ∷ (create o.x 1048576 16 allocated, number (pos 16777408) (Born o.x ∷ []))
    ∷ (created, number (pos 1048657) [])
    ∷ (kill o.x, done (Dies o.x ∷ []))
    ∷ (created, number (pos 1048657) [])
    ∷ []

abbrev pub not_created_twice_rows : List Row
not_created_twice_rows = row o.a 16777232 1 1 ∷ row o.b 16777264 4 2 ∷ []

-- an object isn't created twice, nor of no bytes, nor at another alignment
abbrev pub not_created_twice : List (Call × Given)
not_created_twice =
    (create o.a 1 1 (declared (int Char)), number (pos 16777232) (Born o.a ∷ []))
    ∷ (create o.a 1 1 (declared (int Char)), unplaced)
    ∷ (kill o.a, done (Dies o.a ∷ []))
    ∷ (create o.a 1 1 (declared (int Char)), unplaced)
    ∷ (create o.b 0 1 allocated, unplaced)
    ∷ (create o.b 4 0 allocated, unplaced)
    ∷ (create o.b 3 3 allocated, unplaced)
    ∷ (create o.b 4 32 allocated, unplaced)
    ∷ (created, number (pos 16) [])
    ∷ (create o.b 4 2 allocated, number (pos 16777264) (Born o.b ∷ []))
    ∷ (created, number (pos 32) [])
    ∷ []

-- each sequence gives what stands beside its calls
pub record Accesses (s : Store) : Type 0 where
  pub left_unwritten_given : Follows left_unwritten_rows left_unwritten s
  pub checks_in_order_given : Follows checks_in_order_rows checks_in_order s
  pub dead_target_given : Follows dead_target_rows dead_target s
  pub bool_of_two_given : Follows bool_of_two_rows bool_of_two s
  pub const_object_given : Follows const_object_rows const_object s
  pub string_literal_given : Follows string_literal_rows string_literal s
  pub declared_type_given : Follows declared_type_rows declared_type s
  pub type_of_last_store_given : Follows type_of_last_store_rows type_of_last_store s
  pub no_type_from_the_library_given : Follows no_type_from_the_library_rows no_type_from_the_library s
  pub blocks_overlap_given : Follows blocks_overlap_rows blocks_overlap s
  pub counted_bytes_given : Follows counted_bytes_rows counted_bytes s
  pub not_created_twice_given : Follows not_created_twice_rows not_created_twice s
