-- Addresses that are one past an object and in another, null, casts, arithmetic and comparison, with objects side by side.
use Rattle.std.specs.Prelude.{List, [], ◌∷◌, true, false, pos, negsuc}
use Rattle.ub_base.specs.declared.clause.Clause.TheVariants.{
  DeadObject,
  EffectiveType,
  Indeterminate,
  InvalidPointer,
  OutOfBounds,
  PointerComparison,
  PointerDifference,
}
use Rattle.ub_base.specs.declared.names.Item.TheVariants.{Read, Write, Born, Dies, Alive, Expose, Lookup, Narrow}
use Rattle.addr_map.specs.declared.map.Row.{Row}
use Rattle.exposure.specs.declared.prov.Prov.TheVariants.{Empty, Whole, Either}
use Rattle.c_types.specs.declared.kind.IntKind.TheVariants.{Short, Int, ULong}
use Rattle.c_types.specs.Types.{int}
use Rattle.mem_spec.specs.Store.{Store}
use Rattle.mem_samples.specs.Objects as o
use Rattle.mem_samples.specs.Objects.{turn, row, declared, pointer_type}
use Rattle.mem_samples.specs.Calls.{
  Call,
  create,
  kill,
  expose,
  load,
  load_pointer,
  load_block,
  store,
  store_pointer,
  store_block,
  shift,
  difference,
  compare,
  cast,
  settle,
  Given,
  done,
  number,
  pointer,
  origin,
  raises,
  Follows,
}

abbrev pub access_settles_rows : List Row
access_settles_rows = row o.a 16777216 4 4 ∷ row o.b 16777220 4 4 ∷ row o.u 16777224 8 8 ∷ row o.v 16777232 8 8 ∷ row o.p 16777240 8 8 ∷ []

-- an access settles an address one past the one object and in the other to the object that it meets
abbrev pub access_settles : List (Call × Given)
access_settles =
    (create o.a 4 4 (declared (int Int)), number (pos 16777216) (Born o.a ∷ []))
    ∷ (create o.b 4 4 (declared (int Int)), number (pos 16777220) (Born o.b ∷ []))
    ∷ (create o.u 8 8 (declared (int ULong)), number (pos 16777224) (Born o.u ∷ []))
    ∷ (create o.v 8 8 (declared (int ULong)), number (pos 16777232) (Born o.v ∷ []))
    ∷ (create o.p 8 8 (declared pointer_type), number (pos 16777240) (Born o.p ∷ []))
    ∷ (store true Int (pos 1) 16777216 (Whole o.a), done (Alive o.a ∷ Write o.a 0 4 ∷ []))
    ∷ (store true Int (pos 2) 16777220 (Whole o.b), done (Alive o.b ∷ Write o.b 0 4 ∷ []))
    ∷ (shift 16777216 (Whole o.a) (pos 4), number (pos 16777220) [])
    ∷ (expose (Whole o.a), done (Expose o.a ∷ []))
    ∷ (store true ULong (pos 16777220) 16777224 (Whole o.u), done (Alive o.u ∷ Write o.u 0 8 ∷ []))
    ∷ (expose (Whole o.b), done (Expose o.b ∷ []))
    ∷ (store true ULong (pos 16777220) 16777232 (Whole o.v), done (Alive o.v ∷ Write o.v 0 8 ∷ []))
    ∷ (load ULong 16777224 (Whole o.u), number (pos 16777220) (Alive o.u ∷ Read o.u 0 8 ∷ []))
    ∷ (cast 6 16777220, origin (Either (turn 6) o.a o.b) (Lookup 16777220 ∷ []))
    ∷ (store_pointer 16777220 (Either (turn 6) o.a o.b) 16777240 (Whole o.p), done (Alive o.p ∷ Write o.p 0 8 ∷ []))
    ∷ (load_pointer 7 16777240 (Whole o.p), pointer 16777220 (Either (turn 6) o.a o.b) (Alive o.p ∷ Read o.p 0 8 ∷ Alive o.a ∷ Alive o.b ∷ []))
    ∷ (load Int 16777220 (Either (turn 6) o.a o.b), number (pos 2) (Narrow (turn 6) o.b ∷ Alive o.b ∷ Read o.b 0 4 ∷ []))
    ∷ (load_pointer 8 16777240 (Whole o.p), pointer 16777220 (Either (turn 6) o.a o.b) (Alive o.p ∷ Read o.p 0 8 ∷ Alive o.a ∷ Alive o.b ∷ []))
    ∷ (shift 16777220 (Either (turn 6) o.a o.b) (negsuc 3), raises OutOfBounds)
    ∷ (shift 16777220 (Either (turn 6) o.a o.b) (pos 4), number (pos 16777224) (Narrow (turn 6) o.b ∷ []))
    ∷ []

abbrev pub arithmetic_settles_rows : List Row
arithmetic_settles_rows = row o.a 16777216 4 4 ∷ row o.b 16777220 4 4 ∷ []

-- arithmetic settles it to the object in which it stays
abbrev pub arithmetic_settles : List (Call × Given)
arithmetic_settles =
    (create o.a 4 4 (declared (int Int)), number (pos 16777216) (Born o.a ∷ []))
    ∷ (create o.b 4 4 (declared (int Int)), number (pos 16777220) (Born o.b ∷ []))
    ∷ (expose (Whole o.a), done (Expose o.a ∷ []))
    ∷ (expose (Whole o.b), done (Expose o.b ∷ []))
    ∷ (cast 3 16777220, origin (Either (turn 3) o.a o.b) (Lookup 16777220 ∷ []))
    ∷ (shift 16777220 (Either (turn 3) o.a o.b) (pos 0), number (pos 16777220) [])
    ∷ (shift 16777220 (Either (turn 3) o.a o.b) (pos 8), raises OutOfBounds)
    ∷ (shift 16777220 (Either (turn 3) o.a o.b) (negsuc 3), number (pos 16777216) (Narrow (turn 3) o.a ∷ []))
    ∷ (load Int 16777220 (Either (turn 3) o.a o.b), raises OutOfBounds)
    ∷ (store false Int (pos 1) 16777220 (Either (turn 3) o.a o.b), raises OutOfBounds)
    ∷ (settle 3 o.b, raises OutOfBounds)
    ∷ (settle 3 o.a, done (Narrow (turn 3) o.a ∷ []))
    ∷ (shift 16777220 (Either (turn 3) o.a o.b) (pos 0), number (pos 16777220) [])
    ∷ (cast 4 16777220, origin (Either (turn 4) o.a o.b) (Lookup 16777220 ∷ []))
    ∷ (shift 16777220 (Either (turn 4) o.a o.b) (pos 1), number (pos 16777221) (Narrow (turn 4) o.b ∷ []))
    ∷ (store false Int (pos 5) 16777220 (Either (turn 4) o.a o.b), done (Narrow (turn 4) o.b ∷ Alive o.b ∷ Write o.b 0 4 ∷ []))
    ∷ (load Int 16777220 (Whole o.b), number (pos 5) (Alive o.b ∷ Read o.b 0 4 ∷ []))
    ∷ []

abbrev pub raising_settles_nothing_rows : List Row
raising_settles_nothing_rows = row o.a 16777216 4 4 ∷ row o.b 16777220 4 4 ∷ []

-- what raises settles nothing
abbrev pub raising_settles_nothing : List (Call × Given)
raising_settles_nothing =
    (create o.a 4 4 (declared (int Int)), number (pos 16777216) (Born o.a ∷ []))
    ∷ (create o.b 4 4 (declared (int Int)), number (pos 16777220) (Born o.b ∷ []))
    ∷ (expose (Whole o.a), done (Expose o.a ∷ []))
    ∷ (expose (Whole o.b), done (Expose o.b ∷ []))
    ∷ (store true Int (pos 1) 16777216 (Whole o.a), done (Alive o.a ∷ Write o.a 0 4 ∷ []))
    ∷ (cast 3 16777220, origin (Either (turn 3) o.a o.b) (Lookup 16777220 ∷ []))
    ∷ (load Int 16777218 (Either (turn 3) o.a o.b), raises OutOfBounds)
    ∷ (load Short 16777220 (Either (turn 3) o.a o.b), raises EffectiveType)
    ∷ (load Int 16777220 (Either (turn 3) o.a o.b), raises Indeterminate)
    ∷ (store false Short (pos 1) 16777220 (Either (turn 3) o.a o.b), raises EffectiveType)
    ∷ (load Int 16777216 (Either (turn 3) o.a o.b), number (pos 1) (Narrow (turn 3) o.a ∷ Alive o.a ∷ Read o.a 0 4 ∷ []))
    ∷ (load Int 16777220 (Either (turn 3) o.a o.b), raises OutOfBounds)
    ∷ []

abbrev pub exposed_and_live_alone_rows : List Row
exposed_and_live_alone_rows = row o.a 16777216 4 4 ∷ row o.b 16777220 4 4 ∷ []

-- a cast finds exposed live objects alone
abbrev pub exposed_and_live_alone : List (Call × Given)
exposed_and_live_alone =
    (create o.a 4 4 (declared (int Int)), number (pos 16777216) (Born o.a ∷ []))
    ∷ (create o.b 4 4 (declared (int Int)), number (pos 16777220) (Born o.b ∷ []))
    ∷ (cast 3 16777220, origin Empty (Lookup 16777220 ∷ []))
    ∷ (expose (Whole o.a), done (Expose o.a ∷ []))
    ∷ (cast 3 16777220, origin (Whole o.a) (Lookup 16777220 ∷ []))
    ∷ (cast 3 16777219, origin (Whole o.a) (Lookup 16777219 ∷ []))
    ∷ (cast 3 16777215, origin Empty (Lookup 16777215 ∷ []))
    ∷ (expose (Whole o.b), done (Expose o.b ∷ []))
    ∷ (cast 3 16777220, origin (Either (turn 3) o.a o.b) (Lookup 16777220 ∷ []))
    ∷ (kill o.a, done (Dies o.a ∷ []))
    ∷ (cast 4 16777220, origin (Whole o.b) (Lookup 16777220 ∷ []))
    ∷ (cast 4 16777224, origin (Whole o.b) (Lookup 16777224 ∷ []))
    ∷ (expose (Either (turn 3) o.a o.b), done (Expose o.a ∷ Expose o.b ∷ []))
    ∷ (cast 4 16777216, origin Empty (Lookup 16777216 ∷ []))
    ∷ []

abbrev pub pointer_to_nothing_rows : List Row
pointer_to_nothing_rows = row o.a 16777216 4 4 ∷ row o.b 16777220 4 4 ∷ row o.p 16777224 8 8 ∷ []

-- a cast to an address where an object stands that isn't exposed gives a pointer to nothing
abbrev pub pointer_to_nothing : List (Call × Given)
pointer_to_nothing =
    (create o.a 4 4 (declared (int Int)), number (pos 16777216) (Born o.a ∷ []))
    ∷ (create o.b 4 4 (declared (int Int)), number (pos 16777220) (Born o.b ∷ []))
    ∷ (create o.p 8 8 (declared pointer_type), number (pos 16777224) (Born o.p ∷ []))
    ∷ (store true Int (pos 1) 16777216 (Whole o.a), done (Alive o.a ∷ Write o.a 0 4 ∷ []))
    ∷ (store true Int (pos 2) 16777220 (Whole o.b), done (Alive o.b ∷ Write o.b 0 4 ∷ []))
    ∷ (cast 4 16777220, origin Empty (Lookup 16777220 ∷ []))
    ∷ (store_pointer 16777220 Empty 16777224 (Whole o.p), done (Alive o.p ∷ Write o.p 0 8 ∷ []))
    ∷ (load_pointer 5 16777224 (Whole o.p), pointer 16777220 Empty (Alive o.p ∷ Read o.p 0 8 ∷ []))
    ∷ (load Int 16777220 Empty, raises InvalidPointer)
    ∷ (shift 16777220 Empty (pos 0), raises OutOfBounds)
    ∷ []

abbrev pub null_pointers_rows : List Row
null_pointers_rows = row o.a 16777216 4 4 ∷ []

-- null with an offset, and null accessed
abbrev pub null_pointers : List (Call × Given)
null_pointers =
    (create o.a 4 4 (declared (int Int)), number (pos 16777216) (Born o.a ∷ []))
    ∷ (cast 3 0, origin Empty [])
    ∷ (shift 0 Empty (pos 0), raises OutOfBounds)
    ∷ (shift 0 Empty (pos 4), raises OutOfBounds)
    ∷ (load Int 0 Empty, raises InvalidPointer)
    ∷ (load Int 0 (Whole o.a), raises InvalidPointer)
    ∷ (store false Int (pos 1) 0 (Whole o.a), raises InvalidPointer)
    ∷ (compare Empty (Whole o.a), raises PointerComparison)
    ∷ (compare Empty Empty, raises PointerComparison)
    ∷ (difference 0 Empty 0 Empty 4, raises PointerDifference)
    ∷ (expose Empty, done [])
    ∷ []

abbrev pub one_past_at_most_rows : List Row
one_past_at_most_rows = row o.a 16777216 4 4 ∷ []

-- arithmetic stays in the object or one past it
abbrev pub one_past_at_most : List (Call × Given)
one_past_at_most =
    (create o.a 4 4 (declared (int Int)), number (pos 16777216) (Born o.a ∷ []))
    ∷ (shift 16777216 (Whole o.a) (pos 4), number (pos 16777220) [])
    ∷ (shift 16777216 (Whole o.a) (pos 5), raises OutOfBounds)
    ∷ (shift 16777216 (Whole o.a) (negsuc 0), raises OutOfBounds)
    ∷ (shift 16777220 (Whole o.a) (negsuc 3), number (pos 16777216) [])
    ∷ (shift 16777216 (Whole o.a) (pos 170141183460469231731687303715884105727), raises OutOfBounds)
    ∷ (shift 16777216 (Whole o.a) (negsuc 170141183460469231731687303715884105727), raises OutOfBounds)
    ∷ (load Int 16777220 (Whole o.a), raises OutOfBounds)
    ∷ []

abbrev pub one_object_in_common_rows : List Row
one_object_in_common_rows = row o.a 16777216 4 4 ∷ row o.b 16777220 4 4 ∷ []

-- comparison and subtraction settle to the one object in common
abbrev pub one_object_in_common : List (Call × Given)
one_object_in_common =
    (create o.a 4 4 (declared (int Int)), number (pos 16777216) (Born o.a ∷ []))
    ∷ (create o.b 4 4 (declared (int Int)), number (pos 16777220) (Born o.b ∷ []))
    ∷ (expose (Whole o.a), done (Expose o.a ∷ []))
    ∷ (expose (Whole o.b), done (Expose o.b ∷ []))
    ∷ (cast 3 16777220, origin (Either (turn 3) o.a o.b) (Lookup 16777220 ∷ []))
    ∷ (compare (Whole o.a) (Whole o.b), raises PointerComparison)
    ∷ (difference 16777220 (Whole o.b) 16777216 (Whole o.a) 4, raises PointerDifference)
    ∷ (difference 16777218 (Whole o.a) 16777216 (Whole o.a) 4, raises PointerDifference)
    ∷ (difference 16777220 (Whole o.a) 16777216 (Whole o.a) 4, done [])
    ∷ (difference 16777216 (Whole o.a) 16777220 (Either (turn 3) o.a o.b) 4, done (Narrow (turn 3) o.a ∷ []))
    ∷ (compare (Either (turn 3) o.a o.b) (Whole o.b), raises PointerComparison)
    ∷ (difference 16777220 (Either (turn 3) o.a o.b) 16777220 (Whole o.b) 4, raises PointerDifference)
    ∷ (cast 4 16777220, origin (Either (turn 4) o.a o.b) (Lookup 16777220 ∷ []))
    ∷ (compare (Either (turn 4) o.a o.b) (Either (turn 3) o.a o.b), done [])
    ∷ (compare (Whole o.b) (Either (turn 4) o.a o.b), done (Narrow (turn 4) o.b ∷ []))
    ∷ (compare (Either (turn 4) o.a o.b) (Whole o.b), done (Narrow (turn 4) o.b ∷ []))
    ∷ (compare (Either (turn 4) o.a o.b) (Either (turn 3) o.a o.b), done [])
    ∷ []

abbrev pub two_ambiguities_rows : List Row
two_ambiguities_rows = row o.a 16777216 4 4 ∷ row o.b 16777220 4 4 ∷ row o.c 16777224 4 4 ∷ []

-- two ambiguities with one object in common settle to it
abbrev pub two_ambiguities : List (Call × Given)
two_ambiguities =
    (create o.a 4 4 (declared (int Int)), number (pos 16777216) (Born o.a ∷ []))
    ∷ (create o.b 4 4 (declared (int Int)), number (pos 16777220) (Born o.b ∷ []))
    ∷ (create o.c 4 4 (declared (int Int)), number (pos 16777224) (Born o.c ∷ []))
    ∷ (expose (Whole o.a), done (Expose o.a ∷ []))
    ∷ (expose (Whole o.b), done (Expose o.b ∷ []))
    ∷ (expose (Whole o.c), done (Expose o.c ∷ []))
    ∷ (cast 3 16777220, origin (Either (turn 3) o.a o.b) (Lookup 16777220 ∷ []))
    ∷ (cast 4 16777224, origin (Either (turn 4) o.b o.c) (Lookup 16777224 ∷ []))
    ∷ (difference 16777224 (Either (turn 4) o.b o.c) 16777220 (Either (turn 3) o.a o.b) 4, done (Narrow (turn 4) o.b ∷ Narrow (turn 3) o.b ∷ []))
    ∷ (shift 16777224 (Either (turn 4) o.b o.c) (pos 4), raises OutOfBounds)
    ∷ (shift 16777220 (Either (turn 3) o.a o.b) (negsuc 3), raises OutOfBounds)
    ∷ (compare (Either (turn 3) o.a o.b) (Either (turn 4) o.b o.c), done (Narrow (turn 3) o.b ∷ Narrow (turn 4) o.b ∷ []))
    ∷ (compare (Whole o.a) (Either (turn 4) o.b o.c), raises PointerComparison)
    ∷ []

abbrev pub both_objects_dead_rows : List Row
both_objects_dead_rows = row o.a 16777216 4 4 ∷ row o.b 16777220 4 4 ∷ row o.p 16777224 8 8 ∷ []

-- an ambiguous pointer isn't loaded where both objects are dead, whatever it was settled to
abbrev pub both_objects_dead : List (Call × Given)
both_objects_dead =
    (create o.a 4 4 (declared (int Int)), number (pos 16777216) (Born o.a ∷ []))
    ∷ (create o.b 4 4 (declared (int Int)), number (pos 16777220) (Born o.b ∷ []))
    ∷ (create o.p 8 8 (declared pointer_type), number (pos 16777224) (Born o.p ∷ []))
    ∷ (expose (Whole o.a), done (Expose o.a ∷ []))
    ∷ (expose (Whole o.b), done (Expose o.b ∷ []))
    ∷ (cast 3 16777220, origin (Either (turn 3) o.a o.b) (Lookup 16777220 ∷ []))
    ∷ (store_pointer 16777220 (Either (turn 3) o.a o.b) 16777224 (Whole o.p), done (Alive o.p ∷ Write o.p 0 8 ∷ []))
    ∷ (shift 16777220 (Either (turn 3) o.a o.b) (negsuc 3), number (pos 16777216) (Narrow (turn 3) o.a ∷ []))
    ∷ (kill o.a, done (Dies o.a ∷ []))
    ∷ (load_pointer 4 16777224 (Whole o.p), pointer 16777220 (Either (turn 3) o.a o.b) (Alive o.p ∷ Read o.p 0 8 ∷ Alive o.a ∷ Alive o.b ∷ []))
    ∷ (kill o.b, done (Dies o.b ∷ []))
    ∷ (load_pointer 5 16777224 (Whole o.p), raises DeadObject)
    ∷ (shift 16777220 (Either (turn 3) o.a o.b) (negsuc 3), number (pos 16777216) (Narrow (turn 3) o.a ∷ []))
    ∷ (compare (Either (turn 3) o.a o.b) (Whole o.a), done (Narrow (turn 3) o.a ∷ []))
    ∷ (load Int 16777216 (Either (turn 3) o.a o.b), raises DeadObject)
    ∷ []

abbrev pub blocks_settle_rows : List Row
blocks_settle_rows = row o.a 16777216 4 4 ∷ row o.b 16777220 4 4 ∷ []

-- a load and a store of a block settle their pointers as other accesses do
abbrev pub blocks_settle : List (Call × Given)
blocks_settle =
    (create o.a 4 4 (declared (int Int)), number (pos 16777216) (Born o.a ∷ []))
    ∷ (create o.b 4 4 (declared (int Int)), number (pos 16777220) (Born o.b ∷ []))
    ∷ (expose (Whole o.a), done (Expose o.a ∷ []))
    ∷ (expose (Whole o.b), done (Expose o.b ∷ []))
    ∷ (store true Int (pos 1) 16777220 (Whole o.b), done (Alive o.b ∷ Write o.b 0 4 ∷ []))
    ∷ (cast 3 16777220, origin (Either (turn 3) o.a o.b) (Lookup 16777220 ∷ []))
    ∷ (load_block 4 4 16777220 (Either (turn 3) o.a o.b), done (Narrow (turn 3) o.b ∷ Alive o.b ∷ Read o.b 0 4 ∷ []))
    ∷ (store_block 4 16777216 (Either (turn 3) o.a o.b), raises OutOfBounds)
    ∷ (cast 4 16777220, origin (Either (turn 4) o.a o.b) (Lookup 16777220 ∷ []))
    ∷ (store_block 4 16777216 (Either (turn 4) o.a o.b), done (Narrow (turn 4) o.a ∷ Alive o.a ∷ Write o.a 0 4 ∷ []))
    ∷ (load Int 16777216 (Whole o.a), number (pos 1) (Alive o.a ∷ Read o.a 0 4 ∷ []))
    ∷ (load_block 4 4 16777220 (Either (turn 4) o.a o.b), raises OutOfBounds)
    ∷ []

-- each sequence gives what stands beside its calls
pub record Ambiguities (s : Store) : Type 0 where
  pub access_settles_given : Follows access_settles_rows access_settles s
  pub arithmetic_settles_given : Follows arithmetic_settles_rows arithmetic_settles s
  pub raising_settles_nothing_given : Follows raising_settles_nothing_rows raising_settles_nothing s
  pub exposed_and_live_alone_given : Follows exposed_and_live_alone_rows exposed_and_live_alone s
  pub pointer_to_nothing_given : Follows pointer_to_nothing_rows pointer_to_nothing s
  pub null_pointers_given : Follows null_pointers_rows null_pointers s
  pub one_past_at_most_given : Follows one_past_at_most_rows one_past_at_most s
  pub one_object_in_common_given : Follows one_object_in_common_rows one_object_in_common s
  pub two_ambiguities_given : Follows two_ambiguities_rows two_ambiguities s
  pub both_objects_dead_given : Follows both_objects_dead_rows both_objects_dead s
  pub blocks_settle_given : Follows blocks_settle_rows blocks_settle s
