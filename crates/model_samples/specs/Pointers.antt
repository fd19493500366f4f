-- Conversions between pointers and integers, and from pointers to pointers (6.3.2.3; provenance is own).
use Rattle.std.specs.Prelude.{◌≡◌, true, false, [], ◌∷◌, Some, pos}
use Rattle.ub_base.specs.declared.clause.Kind.TheVariants.{Val, Eff}
use Rattle.ub_base.specs.declared.clause.Clause.TheVariants.{PointerAlignment, InvalidPointer, OutOfBounds}
use Rattle.ub_base.specs.declared.names.Item.TheVariants.{Read, Write, Alive, Expose, Narrow}
use Rattle.c_types.specs.declared.kind.IntKind.TheVariants as kind
use Rattle.c_types.specs.Types as types
use Rattle.c_typed.specs.declared.tree.Change.TheVariants as change
use Rattle.c_typed.specs.declared.tree.Conversion.TheVariants as conversion
use Rattle.c_typed.specs.Order.{place}
use Rattle.addr_map.specs.declared.map.Mode.TheVariants.{Tight}
use Rattle.mem_spec.specs.Streams.{silent}
use Rattle.c_model.specs.Program.{Update, Value, Return}
use Rattle.c_model.specs.FirstFinding.{Clean, Undefined}
use Rattle.model_samples.specs.Build.{int_type, pointer_to, returning, node, constant, int, local, x, y, get, set, init, equal, convert, to_kind}
use Rattle.model_samples.specs.Build.{function_at, found, touched, main, returns, main_object}
use Rattle.model_samples.specs.Accesses.{int_pointer, as_pointer, on, back, null, char_type, bool_type, function_pointer}

-- int x;return (unsigned long)&x;: the first object stands at 16777232 (6.3.2.3p6, own)
abbrev pub address : Type 0
address = found (main (int_type ∷ []) (Return (to_kind kind.Int (convert (conversion.Address kind.ULong) (types.int kind.ULong) x)) ∷ []))
    ≡ Clean 16 silent 6

-- and exposes x (own)
abbrev pub exposes : Type 0
exposes = touched (main (int_type ∷ []) (Return (to_kind kind.Int (convert (conversion.Address kind.ULong) (types.int kind.ULong) x)) ∷ [])) 3
    ≡ Expose (main_object 0) ∷ []

-- int x;return (_Bool)&x; (6.3.1.2)
abbrev pub as_bool : Type 0
as_bool = found (main (int_type ∷ []) (Return (to_kind kind.Int (convert conversion.NotNull bool_type x)) ∷ [])) ≡ Clean 1 silent 6

-- return (_Bool)(int*)0;
abbrev pub null_as_bool : Type 0
null_as_bool = found (returns (to_kind kind.Int (convert conversion.NotNull bool_type (null int_type)))) ≡ Clean 0 silent 6

-- int x;*(int*)(unsigned long)&x=7;return x; (6.3.2.3p5, own)
abbrev pub through_an_integer : Type 0
through_an_integer = found (main (int_type ∷ []) (Value (set (convert conversion.Lookup int_pointer
    (convert (conversion.Address kind.ULong) (types.int kind.ULong) x)) (int 7)) ∷ Return (get x) ∷ [])) ≡ Clean 7 silent 11

-- *(int*)16=7;: nothing that is exposed stands there
abbrev pub of_no_object : Type 0
of_no_object = found (main [] (Value (set (convert conversion.Lookup int_pointer (constant kind.ULong (pos 16))) (int 7)) ∷ []))
    ≡ Undefined InvalidPointer [] 2 (Some (place 0 Eff)) 1 5

-- int x;*(int*)16777232=7;: x stands there and is not exposed
abbrev pub not_exposed : Type 0
not_exposed = found (main (int_type ∷ []) (Value (set (convert conversion.Lookup int_pointer (constant kind.ULong (pos 16777232))) (int 7)) ∷ []))
    ≡ Undefined InvalidPointer [] 2 (Some (place 0 Eff)) 1 5

-- return (int*)(long)0==0;
abbrev pub zero_is_null : Type 0
zero_is_null = found (returns (equal (convert conversion.Lookup int_pointer (constant kind.ULong (pos 0))) (null int_type))) ≡ Clean 1 silent 6

-- int x;(int*)((char*)&x+1); (6.3.2.3p7)
abbrev pub misaligned : Type 0
misaligned = found (main (int_type ∷ []) (Value (as_pointer 4 int_type (on 1 char_type 1 (as_pointer 1 char_type x))) ∷ []))
    ≡ Undefined PointerAlignment [] 2 (Some (place 0 Val)) 1 5

-- return (void(*)(void))main==(void(*)(void))main; (6.3.2.3p8)
abbrev pub function_converted : Type 0
function_converted = found (returns (equal (convert conversion.Function (pointer_to (returning types.void [])) (function_at 0 function_pointer))
    (convert conversion.Function (pointer_to (returning types.void [])) (function_at 0 function_pointer)))) ≡ Clean 1 silent 7

-- int x,y;(unsigned long)&x;int*p=(int*)(unsigned long)&y;*p=3;return y;, where y begins at the end of x: p is one to either (own)
abbrev pub ambiguous : Type 0
ambiguous = found (record (main (int_type ∷ int_type ∷ int_pointer ∷ [])
    (Value (convert (conversion.Address kind.ULong) (types.int kind.ULong) x)
    ∷ Value (init (local 2 int_pointer) (convert conversion.Lookup int_pointer (convert (conversion.Address kind.ULong) (types.int kind.ULong) y)))
    ∷ Value (set (get (local 2 int_pointer)) (int 3)) ∷ Return (get y) ∷ [])) { mode = Tight }) ≡ Clean 3 silent 19

-- and p-1 after the store, which settled it to y
abbrev pub settled : Type 0
settled = found (record (main (int_type ∷ int_type ∷ int_pointer ∷ [])
    (Value (convert (conversion.Address kind.ULong) (types.int kind.ULong) x)
    ∷ Value (init (local 2 int_pointer) (convert conversion.Lookup int_pointer (convert (conversion.Address kind.ULong) (types.int kind.ULong) y)))
    ∷ Value (set (get (local 2 int_pointer)) (int 3)) ∷ Value (back 4 int_type 1 (get (local 2 int_pointer))) ∷ [])) { mode = Tight })
    ≡ Undefined OutOfBounds [] 5 (Some (place 0 Val)) 1 18

-- and without the store p-1 settles it to x: (unsigned long)&x;p=..;*(p-1)=4;return x;
abbrev pub settled_to_the_other : Type 0
settled_to_the_other = found (record (main (int_type ∷ int_type ∷ int_pointer ∷ [])
    (Value (convert (conversion.Address kind.ULong) (types.int kind.ULong) x)
    ∷ Value (init (local 2 int_pointer) (convert conversion.Lookup int_pointer (convert (conversion.Address kind.ULong) (types.int kind.ULong) y)))
    ∷ Value (set (back 4 int_type 1 (get (local 2 int_pointer))) (int 4)) ∷ Return (get x) ∷ [])) { mode = Tight }) ≡ Clean 4 silent 20

-- p++ of an ambiguous p: its value settles it
abbrev pub moved_once : Type 0
moved_once = touched (record (main (int_type ∷ int_type ∷ int_pointer ∷ [])
    (Value (convert (conversion.Address kind.ULong) (types.int kind.ULong) x)
    ∷ Value (init (local 2 int_pointer) (convert conversion.Lookup int_pointer (convert (conversion.Address kind.ULong) (types.int kind.ULong) y)))
    ∷ Value (node (Update (change.Pointer 4 false) true) int_pointer (local 2 int_pointer ∷ [])) ∷ [])) { mode = Tight }) 12 ≡ Alive (main_object 2)
    ∷ Read (main_object 2) 0 8 ∷ Alive (main_object 0) ∷ Alive (main_object 1)
    ∷ Narrow (record { frame = record { 0 = 0 }; turn = 3; node = 2; kind = Val }) (main_object 1) ∷ []

-- and its effect only stores
abbrev pub stored_only : Type 0
stored_only = touched (record (main (int_type ∷ int_type ∷ int_pointer ∷ [])
    (Value (convert (conversion.Address kind.ULong) (types.int kind.ULong) x)
    ∷ Value (init (local 2 int_pointer) (convert conversion.Lookup int_pointer (convert (conversion.Address kind.ULong) (types.int kind.ULong) y)))
    ∷ Value (node (Update (change.Pointer 4 false) true) int_pointer (local 2 int_pointer ∷ [])) ∷ [])) { mode = Tight }) 13 ≡ Alive (main_object 2)
    ∷ Write (main_object 2) 0 8 ∷ []
