-- Loads and stores, and what makes them undefined (6.2.4, 6.4.5, 6.5p7, 6.5.2.3, 6.5.3.2, 6.5.6 to 6.5.9, 6.5.16.1).
use Rattle.std.specs.Prelude.{◌≡◌, ℕ, true, false, List, [], ◌∷◌, Some, pos}
use Rattle.ub_base.specs.declared.clause.Kind.TheVariants.{Val, Eff}
use Rattle.ub_base.specs.declared.clause.Clause.TheVariants.{DeadObject, TrapRepresentation, StoreToLiteral, InvalidPointer, OutOfBounds}
use Rattle.ub_base.specs.declared.names.ObjName.TheVariants.{Static}
use Rattle.ub_base.specs.declared.clause.Clause.TheVariants.{PointerDifference, PointerComparison, OverlappingAssignment, EffectiveType}
use Rattle.ub_base.specs.declared.clause.Clause.TheVariants.{Indeterminate}
use Rattle.c_types.specs.declared.kind.IntKind.TheVariants as kind
use Rattle.c_types.specs.Types as types
use Rattle.c_types.specs.Types.{CType}
use Rattle.c_typed.specs.declared.tree.Access.TheVariants as access
use Rattle.c_typed.specs.declared.tree.Conversion.TheVariants as conversion
use Rattle.c_typed.specs.declared.tree.RelOp.TheVariants as relation
use Rattle.c_typed.specs.Order.{place}
use Rattle.mem_spec.specs.Streams.{silent}
use Rattle.c_model.specs.Program.{Object_at, Function_at, Comma, Call}
use Rattle.c_model.specs.Program.{Null, Load, PtrAdd, PtrDiff, Rel, Member, Part, Assign, Expr, Stmt, Value, Declare, Return, Standing}
use Rattle.c_model.specs.FirstFinding.{Clean, Undefined}
use Rattle.model_samples.specs.Build.{Sample, int_type, pointer_to, array_of, returning, node, constant, int, local, local_of, static, x, y, get, set}
use Rattle.model_samples.specs.Build.{init, equal, not_equal, convert, to_kind, text, block, function, main_function, sample, found, main, returns}
use Rattle.model_samples.specs.Build.{with_x, from_number, file_object, literal, frame_object, main_object}

abbrev pub int_pointer : CType
int_pointer = pointer_to int_type

-- a pointer as one to another type, of this alignment (6.3.2.3p7)
abbrev pub as_pointer : ℕ → CType → Expr → Expr
as_pointer align ty p = convert (conversion.Pointer align) (pointer_to ty) p

-- a pointer to elements of this size, so many elements on, and back; that of an array to its first element is the array's own node
abbrev pub on : ℕ → CType → ℕ → Expr → Expr
on size ty n p = node (PtrAdd size false) (pointer_to ty) (p ∷ int n ∷ [])

abbrev pub back : ℕ → CType → ℕ → Expr → Expr
back size ty n p = node (PtrAdd size true) (pointer_to ty) (p ∷ int n ∷ [])

abbrev pub null : CType → Expr
null ty = node Null (pointer_to ty) []

-- `int a[2]={4,5};` at file level, and its elements
abbrev pub array_object : Standing
array_object = file_object 0 (array_of 2 int_type) (4 ∷ 0 ∷ 0 ∷ 0 ∷ 5 ∷ 0 ∷ 0 ∷ 0 ∷ [])

abbrev pub a : Expr
a = static 0 int_type

abbrev pub with_array : List CType → List Stmt → Sample
with_array ts ss = sample (main_function ts ss ∷ []) (array_object ∷ []) (from_number 1 0 ts)

-- `struct {int a,b;}` and `s={4,5};` at file level
abbrev pub pair_type : CType
pair_type = types.struct 0

abbrev pub s : Expr
s = static 0 pair_type

abbrev pub with_pair : List CType → List Stmt → Sample
with_pair ts ss = sample (main_function ts ss ∷ []) (file_object 0 pair_type (4 ∷ 0 ∷ 0 ∷ 0 ∷ 5 ∷ 0 ∷ 0 ∷ 0 ∷ []) ∷ []) (from_number 1 0 ts)

abbrev pub char_type : CType
char_type = types.int kind.Char

abbrev pub byte_type : CType
byte_type = types.int kind.UChar

abbrev pub bool_type : CType
bool_type = types.int kind.Bool

-- `int(void)`, and a pointer to one
abbrev pub plain_function : CType
plain_function = returning int_type []

abbrev pub function_pointer : CType
function_pointer = pointer_to plain_function

-- int x=258;return *(unsigned char*)&x;: the least byte comes first (own)
abbrev pub low_byte : Type 0
low_byte = found (with_x (int 258) (Return (to_kind kind.Int (get (as_pointer 1 byte_type x))) ∷ [])) ≡ Clean 2 silent 11

-- int x=7;return *(unsigned*)&x; (6.5p7)
abbrev pub as_unsigned : Type 0
as_unsigned = found (with_x (int 7) (Return (to_kind kind.Int (get (as_pointer 4 (types.int kind.UInt) x))) ∷ [])) ≡ Clean 7 silent 11

-- int x=7;return *(short*)&x;
abbrev pub read_as_short : Type 0
read_as_short = found (with_x (int 7) (Return (to_kind kind.Int (get (as_pointer 2 (types.int kind.Short) x))) ∷ []))
    ≡ Undefined EffectiveType [] 3 (Some (place 1 Val)) 1 8

-- int x;*(short*)&x=1;
abbrev pub stored_as_short : Type 0
stored_as_short = found (main (int_type ∷ []) (Value (set (as_pointer 2 (types.int kind.Short) x) (constant kind.Short (pos 1))) ∷ []))
    ≡ Undefined EffectiveType [] 2 (Some (place 0 Eff)) 1 5

-- int x;*(char*)&x=1;return x;
abbrev pub partly_written : Type 0
partly_written = found (main (int_type ∷ []) (Declare 0 ∷ Value (set (as_pointer 1 char_type x) (constant kind.Char (pos 1))) ∷ Return (get x) ∷ []))
    ≡ Undefined Indeterminate [] 3 (Some (place 0 Val)) 1 9

-- return *(int*)0;
abbrev pub load_of_null : Type 0
load_of_null = found (returns (get (null int_type))) ≡ Undefined InvalidPointer [] 2 (Some (place 0 Val)) 1 3

-- *(int*)0=1;
abbrev pub store_to_null : Type 0
store_to_null = found (main [] (Value (set (null int_type) (int 1)) ∷ [])) ≡ Undefined InvalidPointer [] 2 (Some (place 0 Eff)) 1 4

-- return a[1];
abbrev pub element : Type 0
element = found (with_array [] (Return (get (on 4 int_type 1 a)) ∷ [])) ≡ Clean 5 silent 6

-- return a[2];: the address may be formed (6.5.6p8)
abbrev pub load_past_the_end : Type 0
load_past_the_end = found (with_array [] (Return (get (on 4 int_type 2 a)) ∷ [])) ≡ Undefined OutOfBounds [] 2 (Some (place 0 Val)) 1 4

-- return a[3];
abbrev pub further_past : Type 0
further_past = found (with_array [] (Return (get (on 4 int_type 3 a)) ∷ [])) ≡ Undefined OutOfBounds [] 2 (Some (place 1 Val)) 1 3

-- return *(a-1);
abbrev pub before_the_start : Type 0
before_the_start = found (with_array [] (Return (get (back 4 int_type 1 a)) ∷ [])) ≡ Undefined OutOfBounds [] 2 (Some (place 1 Val)) 1 3

-- int(*p)[2]=&a;return (*p)[1];: what is loaded is used as a pointer to the first element
abbrev pub element_of_pointer : Type 0
element_of_pointer = found (with_array (pointer_to (array_of 2 int_type) ∷ [])
    (Value (init (local 0 (pointer_to (array_of 2 int_type))) (static 0 (array_of 2 int_type)))
    ∷ Return (get (on 4 int_type 1 (node (Load access.Pointer) int_pointer (local 0 (pointer_to (array_of 2 int_type)) ∷ [])))) ∷ [])) ≡ Clean 5 silent 11

-- int*p;{int k;p=&k;}return *p; (6.2.4p2)
abbrev pub dead_block : Type 0
dead_block = found (sample (main_function (int_pointer ∷ []) (block 1 (int_type ∷ [])
    (Value (set (local 0 int_pointer) (local_of 1 0 int_type)) ∷ []) ∷ Return (get (get (local 0 int_pointer))) ∷ []) ∷ []) []
    ((main_object 0, int_pointer) ∷ (frame_object [] 2 0, int_type) ∷ [])) ≡ Undefined DeadObject [] 4 (Some (place 1 Val)) 1 9

-- *"a"=98; (6.4.5p7)
abbrev pub store_to_literal : Type 0
store_to_literal = found (sample (main_function [] (Value (set (text 0) (constant kind.Char (pos 98))) ∷ []) ∷ []) (literal 0 (97 ∷ 0 ∷ []) ∷ []) [])
    ≡ Undefined StoreToLiteral [] 2 (Some (place 0 Eff)) 1 4

-- _Bool b;*(unsigned char*)&b=2;return b; (6.2.6.1p5)
abbrev pub no_bool : Type 0
no_bool = found (main (bool_type ∷ []) (Value (set (as_pointer 1 byte_type (local 0 bool_type)) (constant kind.UChar (pos 2)))
    ∷ Return (to_kind kind.Int (get (local 0 bool_type))) ∷ [])) ≡ Undefined TrapRepresentation [] 3 (Some (place 1 Val)) 1 8

-- t=s;return t.b; (6.5.16.1p2)
abbrev pub whole_copied : Type 0
whole_copied = found (with_pair (pair_type ∷ []) (Value (node (Assign false (access.Whole 8 4)) pair_type
    (local 0 pair_type ∷ node (Load (access.Whole 8 4)) pair_type (s ∷ []) ∷ []))
    ∷ Return (get (node (Member 4) int_pointer (local 0 pair_type ∷ []))) ∷ [])) ≡ Clean 5 silent 10

-- return (t=s).b; (6.5.2.3p3)
abbrev pub member_of_value : Type 0
member_of_value = found (with_pair (pair_type ∷ []) (Return (node (Part 4 (access.Integer kind.Int)) int_type
    (node (Assign false (access.Whole 8 4)) pair_type (local 0 pair_type ∷ node (Load (access.Whole 8 4)) pair_type (s ∷ []) ∷ []) ∷ [])) ∷ []))
    ≡ Clean 5 silent 8

-- the value (0,h) of a structure that stands in the file's object of this number
abbrev pub value_of : ℕ → (size align : ℕ) → Expr
value_of n size align = node Comma pair_type (int 0 ∷ node (Load (access.Whole size align)) pair_type (static n pair_type ∷ []) ∷ [])

-- int x=9;struct{int*p;}h={&x};return *(0,h).p; (6.5.2.3p3); an array of one pointer is laid out as h
abbrev pub part_of_pointer : Type 0
part_of_pointer = found (sample (main_function [] (Return (get (node (Part 0 access.Pointer) int_pointer (value_of 1 8 8 ∷ []))) ∷ []) ∷ [])
    (file_object 0 int_type (9 ∷ 0 ∷ 0 ∷ 0 ∷ []) ∷ record (file_object 1 (array_of 1 int_pointer) [])
    { fillings = record { offset = 0; content = Object_at (Static 0) 0 } ∷ [] } ∷ []) []) ≡ Clean 9 silent 8

-- int g(void){return 4;}struct{int(*f)(void);}h={g};return (0,h).f();
abbrev pub part_of_function : Type 0
part_of_function = found (sample (main_function [] (Return (node (Call false) int_type
    (node (Part 0 access.Function) function_pointer (value_of 0 8 8 ∷ []) ∷ [])) ∷ []) ∷ function (returning int_type []) [] (Return (int 4) ∷ []) ∷ [])
    (record (file_object 0 (array_of 1 function_pointer) []) { fillings = record { offset = 0; content = Function_at 1 } ∷ [] } ∷ []) [])
    ≡ Clean 4 silent 13

-- struct{struct s i,j;}h={{1,2},{3,5}};return (0,h).j.b;
abbrev pub part_of_part : Type 0
part_of_part = found (sample (main_function [] (Return (node (Part 4 (access.Integer kind.Int)) int_type
    (node (Part 8 (access.Whole 8 4)) pair_type (value_of 0 16 4 ∷ []) ∷ [])) ∷ []) ∷ [])
    (file_object 0 (array_of 2 pair_type) (1 ∷ 0 ∷ 0 ∷ 0 ∷ 2 ∷ 0 ∷ 0 ∷ 0 ∷ 3 ∷ 0 ∷ 0 ∷ 0 ∷ 5 ∷ 0 ∷ 0 ∷ 0 ∷ []) ∷ []) []) ≡ Clean 5 silent 8

-- int z[3]={1,2,3};*(struct s*)(z+1)=*(struct s*)z; (6.5.16.1p3)
abbrev pub overlapping_copy : Type 0
overlapping_copy = found (sample (main_function [] (Value (node (Assign false (access.Whole 8 4)) pair_type
    (as_pointer 4 pair_type (on 4 int_type 1 a) ∷ node (Load (access.Whole 8 4)) pair_type (as_pointer 4 pair_type a ∷ []) ∷ [])) ∷ []) ∷ [])
    (file_object 0 (array_of 3 int_type) (1 ∷ 0 ∷ 0 ∷ 0 ∷ 2 ∷ 0 ∷ 0 ∷ 0 ∷ 3 ∷ 0 ∷ 0 ∷ 0 ∷ []) ∷ []) [])
    ≡ Undefined OverlappingAssignment [] 2 (Some (place 0 Eff)) 1 8

-- *(struct s*)z=*(struct s*)z; of the same place
abbrev pub exact_copy : Type 0
exact_copy = found (sample (main_function [] (Value (node (Assign false (access.Whole 8 4)) pair_type
    (as_pointer 4 pair_type a ∷ node (Load (access.Whole 8 4)) pair_type (as_pointer 4 pair_type a ∷ []) ∷ [])) ∷ []) ∷ []) (array_object ∷ []) [])
    ≡ Clean 0 silent 9

-- return ((struct s*)0)->b; (6.5.2.3p4)
abbrev pub member_of_null : Type 0
member_of_null = found (returns (get (node (Member 4) int_pointer (null pair_type ∷ [])))) ≡ Undefined InvalidPointer [] 2 (Some (place 1 Val)) 1 3

-- struct s*p=&s;return p->b;
abbrev pub member_by_pointer : Type 0
member_by_pointer = found (with_pair (pointer_to pair_type ∷ [])
    (Value (init (local 0 (pointer_to pair_type)) s) ∷ Return (get (node (Member 4) int_pointer (get (local 0 (pointer_to pair_type)) ∷ []))) ∷ []))
    ≡ Clean 5 silent 11

-- return a+2-a; (6.5.6p9)
abbrev pub difference : Type 0
difference = found (with_array [] (Return (to_kind kind.Int (node (PtrDiff 4) (types.int kind.Long) (on 4 int_type 2 a ∷ a ∷ []))) ∷ []))
    ≡ Clean 2 silent 7

-- int x,y;return &x-&y;
abbrev pub difference_of_two : Type 0
difference_of_two = found (main (int_type ∷ int_type ∷ []) (Return (to_kind kind.Int (node (PtrDiff 4) (types.int kind.Long) (x ∷ y ∷ []))) ∷ []))
    ≡ Undefined PointerDifference [] 2 (Some (place 1 Val)) 1 3

-- return (struct s*)(a+1)-(struct s*)a;
abbrev pub no_multiple : Type 0
no_multiple = found (with_array [] (Return (to_kind kind.Int (node (PtrDiff 8) (types.int kind.Long)
    (as_pointer 4 pair_type (on 4 int_type 1 a) ∷ as_pointer 4 pair_type a ∷ []))) ∷ [])) ≡ Undefined PointerDifference [] 2 (Some (place 1 Val)) 1 6

-- return a<a+1; (6.5.8p5)
abbrev pub less_within : Type 0
less_within = found (with_array [] (Return (node (Rel relation.Less true) int_type (a ∷ on 4 int_type 1 a ∷ [])) ∷ [])) ≡ Clean 1 silent 6

-- int x,y;return &x<&y;
abbrev pub less_of_two : Type 0
less_of_two = found (main (int_type ∷ int_type ∷ []) (Return (node (Rel relation.Less true) int_type (x ∷ y ∷ [])) ∷ []))
    ≡ Undefined PointerComparison [] 2 (Some (place 0 Val)) 1 3

-- int x;return &x==&x; (6.5.9p6)
abbrev pub equal_pointers : Type 0
equal_pointers = found (main (int_type ∷ []) (Return (equal x x) ∷ [])) ≡ Clean 1 silent 5

-- int x;return &x!=0;
abbrev pub not_null : Type 0
not_null = found (main (int_type ∷ []) (Return (not_equal x (null int_type)) ∷ [])) ≡ Clean 1 silent 5

-- int(*f)(void)=0;return f!=0;: a null pointer to a function is one (6.3.2.3p3)
abbrev pub null_function : Type 0
null_function = found (main (function_pointer ∷ []) (Value (init (local 0 function_pointer) (null plain_function))
    ∷ Return (not_equal (get (local 0 function_pointer)) (null plain_function)) ∷ [])) ≡ Clean 0 silent 10
