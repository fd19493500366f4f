-- Evaluations of one full expression that conflict, and some that don't (6.5p2; quarrels are own).
use Rattle.std.specs.Prelude.{◌≡◌, true, [], ◌∷◌, pos}
use Rattle.ub_base.specs.declared.clause.Kind.TheVariants.{Val, Eff, Body}
use Rattle.ub_base.specs.declared.names.ObjName.TheVariants.{Static}
use Rattle.ub_base.specs.declared.names.Item.TheVariants.{Read, Write, Dies, Alive, Expose, Lookup, Input, Output, Ending, Any}
use Rattle.c_types.specs.declared.kind.IntKind.TheVariants as kind
use Rattle.c_types.specs.declared.kind.BinOp.TheVariants as op
use Rattle.c_types.specs.declared.library.LibFunc.TheVariants as lib
use Rattle.c_types.specs.Types as types
use Rattle.c_typed.specs.declared.tree.Slot.TheVariants as slot
use Rattle.c_typed.specs.declared.tree.Conversion.TheVariants as conversion
use Rattle.c_typed.specs.Order.{place}
use Rattle.mem_spec.specs.Streams.{on_output, silent}
use Rattle.c_model.specs.Program.{Member, And, Or, Cond, Comma, Call, Listed, Isolated, Value, Return}
use Rattle.c_model.specs.FirstFinding.{Clean, Raced, Order_dependent}
use Rattle.model_samples.specs.Build.{int_type, array_of, returning, node, constant, int, local, static, x, get, set, init, add, not_equal, convert}
use Rattle.model_samples.specs.Build.{to_kind, increment, update, function_at, call, function, of_library, main_function, sample, found, main, with_x}
use Rattle.model_samples.specs.Build.{file_object, frame_object, heap_object, pair_of, main_object, literal, text}
use Rattle.model_samples.specs.Accesses.{int_pointer, as_pointer, on, null, char_type, plain_function}
use Rattle.model_samples.specs.Functions.{plain_pointer, length, giving, calling, doing, with_library, p}

-- int x=1;return x++ + x; (6.5p2)
abbrev pub write_and_read : Type 0
write_and_read = found (with_x (int 1) (Return (add (increment x) (get x)) ∷ []))
    ≡ Raced (pair_of 3 (place 1 Eff) (place 3 Val) (Write (main_object 0) 0 1) (Read (main_object 0) 0 1)) 9

-- int x=1;return x + x++;
abbrev pub read_and_write : Type 0
read_and_write = found (with_x (int 1) (Return (add (get x) (increment x)) ∷ []))
    ≡ Raced (pair_of 3 (place 1 Val) (place 3 Eff) (Read (main_object 0) 0 1) (Write (main_object 0) 0 1)) 9

-- int x;return (x=1)+(x=2);
abbrev pub two_writes : Type 0
two_writes = found (main (int_type ∷ []) (Return (add (set x (int 1)) (set x (int 2))) ∷ []))
    ≡ Raced (pair_of 2 (place 1 Eff) (place 4 Eff) (Write (main_object 0) 0 1) (Write (main_object 0) 0 1)) 6

-- int x=1;x=x++;
abbrev pub own_operand : Type 0
own_operand = found (with_x (int 1) (Value (set x (increment x)) ∷ []))
    ≡ Raced (pair_of 3 (place 0 Eff) (place 2 Eff) (Write (main_object 0) 0 1) (Write (main_object 0) 0 1)) 10

-- int x=1;x=x+1;: the value is read before it is stored (6.5.16p3)
abbrev pub value_used : Type 0
value_used = found (with_x (int 1) (Value (set x (add (get x) (int 1))) ∷ Return (get x) ∷ [])) ≡ Clean 2 silent 15

-- int a[2];return (a[0]=1)+(a[1]=2);: different bytes
abbrev pub other_bytes : Type 0
other_bytes = found (main (array_of 2 int_type ∷ []) (Return (add (set (on 4 int_type 0 (local 0 int_type)) (int 1))
    (set (on 4 int_type 1 (local 0 int_type)) (int 2))) ∷ [])) ≡ Clean 3 silent 11

-- int x=1;return (x=2)+*(char*)&x;: one byte of four
abbrev pub part_of_it : Type 0
part_of_it = found (with_x (int 1) (Return (add (set x (int 2)) (to_kind kind.Int (get (as_pointer 1 char_type x)))) ∷ []))
    ≡ Raced (pair_of 3 (place 1 Eff) (place 5 Val) (Write (main_object 0) 0 1) (Read (main_object 0) 0 1)) 11

-- int x=1;return x++&&x; (6.5.13p4)
abbrev pub test_before : Type 0
test_before = found (with_x (int 1) (Return (node And int_type (increment x ∷ get x ∷ [])) ∷ [])) ≡ Clean 1 silent 12

-- int x=0;return x++||x; (6.5.14p4)
abbrev pub test_before_either : Type 0
test_before_either = found (with_x (int 0) (Return (node Or int_type (increment x ∷ get x ∷ [])) ∷ [])) ≡ Clean 1 silent 12

-- int x=1;return x++?x:0; (6.5.15p4)
abbrev pub test_before_branch : Type 0
test_before_branch = found (with_x (int 1) (Return (node Cond int_type (increment x ∷ get x ∷ int 0 ∷ [])) ∷ [])) ≡ Clean 2 silent 12

-- int x=0;return (x&&x++)+x;: what is not evaluated conflicts with nothing
abbrev pub not_evaluated : Type 0
not_evaluated = found (with_x (int 0) (Return (add (node And int_type (get x ∷ increment x ∷ [])) (get x)) ∷ [])) ≡ Clean 0 silent 12

-- int x=1;return (x&&x++)+x;
abbrev pub evaluated : Type 0
evaluated = found (with_x (int 1) (Return (add (node And int_type (get x ∷ increment x ∷ [])) (get x)) ∷ []))
    ≡ Raced (pair_of 3 (place 4 Eff) (place 6 Val) (Write (main_object 0) 0 1) (Read (main_object 0) 0 1)) 11

-- int x=1;return (x++,x); (6.5.17p2)
abbrev pub comma_before : Type 0
comma_before = found (with_x (int 1) (Return (node Comma int_type (increment x ∷ get x ∷ [])) ∷ [])) ≡ Clean 2 silent 12

-- int n;int f(void){return ++n;}int main(void){return f()+f();} (6.5.2.2p10)
abbrev pub two_bodies : Type 0
two_bodies = found (sample (main_function [] (Return (add (call 1 []) (call 1 [])) ∷ [])
    ∷ function (returning int_type []) [] (Return (update op.Add (static 0 int_type) (int 1)) ∷ []) ∷ [])
    (file_object 0 int_type (0 ∷ 0 ∷ 0 ∷ 0 ∷ []) ∷ []) []) ≡ Order_dependent
    (pair_of 2 (place 1 Body) (place 3 Body) (Read (Static 0) 0 1) (Write (Static 0) 0 1)) 18

-- int n;int f(void){return n;}int main(void){return (n=1)+f();}
abbrev pub body_beside_write : Type 0
body_beside_write = found (sample (main_function [] (Return (add (set (static 0 int_type) (int 1)) (call 1 [])) ∷ [])
    ∷ function (returning int_type []) [] (Return (get (static 0 int_type)) ∷ []) ∷ []) (file_object 0 int_type (0 ∷ 0 ∷ 0 ∷ 0 ∷ []) ∷ []) [])
    ≡ Order_dependent (pair_of 2 (place 1 Eff) (place 4 Body) (Write (Static 0) 0 1) (Read (Static 0) 0 1)) 11

-- int n;int f(int a){return n;}int main(void){return f(n=1);}: all of an argument comes before
abbrev pub body_after_argument : Type 0
body_after_argument = found (sample (main_function [] (Return (call 1 (set (static 0 int_type) (int 1) ∷ [])) ∷ [])
    ∷ function (returning int_type (int_type ∷ [])) (int_type ∷ []) (Return (get (static 0 int_type)) ∷ []) ∷ [])
    (file_object 0 int_type (0 ∷ 0 ∷ 0 ∷ 0 ∷ []) ∷ []) ((frame_object ((2, 0) ∷ []) 1 0, int_type) ∷ [])) ≡ Clean 1 silent 13

-- int n;int g(void){return ++n;}int f(void){return g();}int main(void){return n+f();}: a body has the items of the frames that it started
abbrev pub body_of_body : Type 0
body_of_body = found (sample (main_function [] (Return (add (get (static 0 int_type)) (call 1 [])) ∷ [])
    ∷ function (returning int_type []) [] (Return (call 2 []) ∷ [])
    ∷ function (returning int_type []) [] (Return (update op.Add (static 0 int_type) (int 1)) ∷ []) ∷ [])
    (file_object 0 int_type (0 ∷ 0 ∷ 0 ∷ 0 ∷ []) ∷ []) []) ≡ Order_dependent
    (pair_of 2 (place 1 Val) (place 3 Body) (Read (Static 0) 0 1) (Write (Static 0) 0 1)) 17

-- int*p=malloc(4);*p=1;return *p+(free(p),1);
abbrev pub end_of_life_and_access : Type 0
end_of_life_and_access = found (with_library (lib.Malloc ∷ lib.Free ∷ []) [] ((heap_object 2 3, array_of 4 char_type) ∷ []) (int_pointer ∷ [])
    (Value (init p (as_pointer 4 int_type (giving 1 (length 4 ∷ [])))) ∷ Value (set (get p) (int 1))
    ∷ Return (add (get (get p)) (node Comma int_type (node (Call true) types.void (function_at 2 plain_function ∷ plain_pointer (get p) ∷ []) ∷ int 1
    ∷ []))) ∷ [])) ≡ Order_dependent (pair_of 4 (place 1 Val) (place 5 Body) (Alive (heap_object 2 3)) (Dies (heap_object 2 3))) 21

-- int*p=malloc(4);return ((unsigned long)p,0)+(free(p),1);: an exposure goes with the use of its object
abbrev pub exposure_and_end_of_life : Type 0
exposure_and_end_of_life = found (with_library (lib.Malloc ∷ lib.Free ∷ []) [] ((heap_object 2 3, array_of 4 char_type) ∷ []) (int_pointer ∷ [])
    (Value (init p (as_pointer 4 int_type (giving 1 (length 4 ∷ []))))
    ∷ Return (add (node Comma int_type (convert (conversion.Address kind.ULong) (types.int kind.ULong) (get p) ∷ int 0 ∷ []))
    (node Comma int_type (node (Call true) types.void (function_at 2 plain_function ∷ plain_pointer (get p) ∷ []) ∷ int 1 ∷ []))) ∷ []))
    ≡ Order_dependent (pair_of 3 (place 3 Val) (place 7 Body) (Alive (heap_object 2 3)) (Dies (heap_object 2 3))) 17

-- int x=7;return ((unsigned long)&x,0)+*(int*)16777232;
abbrev pub exposure_and_lookup : Type 0
exposure_and_lookup = found (with_x (int 7) (Return (add (node Comma int_type
    (convert (conversion.Address kind.ULong) (types.int kind.ULong) x ∷ int 0 ∷ []))
    (get (convert conversion.Lookup int_pointer (constant kind.ULong (pos 16777232))))) ∷ []))
    ≡ Order_dependent (pair_of 3 (place 2 Val) (place 6 Val) (Expose (main_object 0)) (Lookup 16777232)) 10

-- int*p=malloc(4);(unsigned long)p;return ((int*)16777264!=0)+(free(p),1);
abbrev pub lookup_and_end_of_life : Type 0
lookup_and_end_of_life = found (with_library (lib.Malloc ∷ lib.Free ∷ []) [] ((heap_object 2 3, array_of 4 char_type) ∷ []) (int_pointer ∷ [])
    (Value (init p (as_pointer 4 int_type (giving 1 (length 4 ∷ []))))
    ∷ Value (convert (conversion.Address kind.ULong) (types.int kind.ULong) (get p))
    ∷ Return (add (not_equal (convert conversion.Lookup int_pointer (constant kind.ULong (pos 16777264))) (null int_type))
    (node Comma int_type (node (Call true) types.void (function_at 2 plain_function ∷ plain_pointer (get p) ∷ []) ∷ int 1 ∷ []))) ∷ []))
    ≡ Order_dependent (pair_of 4 (place 2 Val) (place 6 Body) (Lookup 16777264) (Dies (heap_object 2 3))) 20

-- return getchar()+getchar();
abbrev pub two_inputs : Type 0
two_inputs = found (with_library (lib.Getchar ∷ []) [] [] [] (Return (add (calling 1 []) (calling 1 [])) ∷ []))
    ≡ Order_dependent (pair_of 2 (place 1 Body) (place 3 Body) (Input) (Input)) 6

-- return putchar(97)+putchar(98);
abbrev pub two_outputs : Type 0
two_outputs = found (with_library (lib.Putchar ∷ []) [] [] [] (Return (add (calling 1 (int 97 ∷ [])) (calling 1 (int 98 ∷ []))) ∷ []))
    ≡ Order_dependent (pair_of 2 (place 1 Body) (place 4 Body) (Output) (Output)) 6

-- return putchar(97)+fprintf(stderr,"b");: the streams are two, and the order of what they show is one (own)
abbrev pub outputs_of_two_streams : Type 0
outputs_of_two_streams = found (with_library (lib.Putchar ∷ lib.Fprintf ∷ []) (literal 0 (98 ∷ 0 ∷ []) ∷ []) [] []
    (Return (add (calling 1 (int 97 ∷ [])) (calling 2 (int 2 ∷ text 0 ∷ []))) ∷ []))
    ≡ Order_dependent (pair_of 2 (place 1 Body) (place 4 Body) (Output) (Output)) 6

-- return getchar()+putchar(98);: no conflict
abbrev pub input_and_output : Type 0
input_and_output = found (record (with_library (lib.Getchar ∷ lib.Putchar ∷ []) [] [] []
    (Return (add (calling 1 []) (calling 2 (int 98 ∷ []))) ∷ [])) { input = 1 ∷ [] }) ≡ Clean 99 (on_output (98 ∷ [])) 9

-- int n;int f(void){exit(3);return 0;}int main(void){return n+f();}
abbrev pub end_beside_done : Type 0
end_beside_done = found (sample (main_function [] (Return (add (get (static 0 int_type)) (call 1 [])) ∷ [])
    ∷ function (returning int_type []) [] (doing 2 (int 3 ∷ []) ∷ Return (int 0) ∷ []) ∷ of_library plain_function lib.Exit ∷ [])
    (file_object 0 int_type (0 ∷ 0 ∷ 0 ∷ 0 ∷ []) ∷ []) []) ≡ Order_dependent (pair_of 2 (place 1 Val) (place 3 Body) (Any) (Ending)) 7

-- return f()+n;, whose second operand is still due
abbrev pub end_beside_pending : Type 0
end_beside_pending = found (sample (main_function [] (Return (add (call 1 []) (get (static 0 int_type))) ∷ [])
    ∷ function (returning int_type []) [] (doing 2 (int 3 ∷ []) ∷ Return (int 0) ∷ []) ∷ of_library plain_function lib.Exit ∷ [])
    (file_object 0 int_type (0 ∷ 0 ∷ 0 ∷ 0 ∷ []) ∷ []) []) ≡ Order_dependent (pair_of 2 (place 1 Body) (place 3 Val) (Ending) (Any)) 6

-- return f();
abbrev pub end_alone : Type 0
end_alone = found (sample (main_function [] (Return (call 1 []) ∷ [])
    ∷ function (returning int_type []) [] (doing 2 (int 3 ∷ []) ∷ Return (int 0) ∷ []) ∷ of_library plain_function lib.Exit ∷ [])
    (file_object 0 int_type (0 ∷ 0 ∷ 0 ∷ 0 ∷ []) ∷ []) []) ≡ Clean 3 silent 6

-- return (n,f());: what comes before conflicts with nothing
abbrev pub end_after : Type 0
end_after = found (sample (main_function [] (Return (node Comma int_type (get (static 0 int_type) ∷ call 1 [] ∷ [])) ∷ [])
    ∷ function (returning int_type []) [] (doing 2 (int 3 ∷ []) ∷ Return (int 0) ∷ []) ∷ of_library plain_function lib.Exit ∷ [])
    (file_object 0 int_type (0 ∷ 0 ∷ 0 ∷ 0 ∷ []) ∷ []) []) ≡ Clean 3 silent 7

-- int i=0;int a[2]={i++,i};: in which order they are evaluated is open (6.7.9p23)
abbrev pub list_expressions : Type 0
list_expressions = found (main (int_type ∷ array_of 2 int_type ∷ [])
    (Value (init x (int 0)) ∷ Value (node (Listed (slot.Auto 0 1) []) int_type
    (node (Isolated (init (node (Member 0) int_pointer (local 1 int_type ∷ [])) (increment x))) int_type []
    ∷ node (Isolated (init (node (Member 4) int_pointer (local 1 int_type ∷ [])) (get x))) int_type [] ∷ [])) ∷ []))
    ≡ Order_dependent (pair_of 3 (place 1 Body) (place 2 Body) (Write (main_object 0) 0 1) (Read (main_object 0) 0 1)) 21

-- int n;int f(void){return ++n;}..return f()+(n++ + n);: a race goes before a quarrel where both show; here the race shows first
abbrev pub race_before_quarrel : Type 0
race_before_quarrel = found (sample (main_function [] (Return (add (call 1 []) (add (increment (static 0 int_type)) (get (static 0 int_type)))) ∷ [])
    ∷ function (returning int_type []) [] (Return (update op.Add (static 0 int_type) (int 1)) ∷ []) ∷ [])
    (file_object 0 int_type (0 ∷ 0 ∷ 0 ∷ 0 ∷ []) ∷ []) []) ≡ Raced
    (pair_of 2 (place 4 Eff) (place 6 Val) (Write (Static 0) 0 1) (Read (Static 0) 0 1)) 13
