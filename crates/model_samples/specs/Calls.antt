-- Calls, their arguments and results, and those of `main` (5.1.2.2, 6.5.2.2, 6.9.1).
use Rattle.std.specs.Prelude.{◌≡◌, true, false, [], ◌∷◌, Some, None, pos}
use Rattle.ub_base.specs.declared.clause.Kind.TheVariants.{Val, Body}
use Rattle.ub_base.specs.declared.clause.Clause.TheVariants.{IncompatibleCall, InvalidPointer, MissingValue}
use Rattle.ub_base.specs.declared.names.ObjName.TheVariants.{Arg, Argv}
use Rattle.ub_base.specs.declared.names.Item.TheVariants.{Write, Born, Alive}
use Rattle.c_types.specs.declared.kind.IntKind.TheVariants as kind
use Rattle.c_types.specs.declared.kind.BinOp.TheVariants as op
use Rattle.c_types.specs.Types as types
use Rattle.c_typed.specs.declared.tree.Access.TheVariants as access
use Rattle.c_typed.specs.declared.tree.Conversion.TheVariants as conversion
use Rattle.c_typed.specs.Order.{place}
use Rattle.mem_spec.specs.Streams.{silent}
use Rattle.c_model.specs.Program.{Object_at, No_object, Load, PtrAdd, Part, Cond, Comma, Call, Value, Return, Return_none}
use Rattle.c_model.specs.Values as value
use Rattle.c_model.specs.FirstFinding.{Clean, Undefined}
use Rattle.model_samples.specs.Build.{int_type, pointer_to, array_of, returning, node, int, local, static, x, y, get, init, binary, add, equal}
use Rattle.model_samples.specs.Build.{convert, to_kind, update, function_at, call, discard, function, main_function, sample, found, touched, main}
use Rattle.model_samples.specs.Build.{file_object, frame_object, main_object, decl}
use Rattle.model_samples.specs.Accesses.{null, pair_type, s, char_type, plain_function, function_pointer}
use Rattle.exposure.specs.declared.prov.Prov.TheVariants.{Whole}

-- int f(int a,int b){return a-b;}int main(void){return f(5,3);} (6.5.2.2p4)
abbrev pub arguments : Type 0
arguments = found (sample (main_function [] (Return (call 1 (int 5 ∷ int 3 ∷ [])) ∷ [])
    ∷ function (returning int_type (int_type ∷ int_type ∷ [])) (int_type ∷ int_type ∷ []) (Return (binary op.Sub (get x) (get y)) ∷ []) ∷ []) []
    ((frame_object ((2, 0) ∷ []) 1 0, int_type) ∷ (frame_object ((2, 0) ∷ []) 1 1, int_type) ∷ [])) ≡ Clean 2 silent 13

-- and as f is entered both objects are created before the arguments are stored (own)
abbrev pub objects_then_arguments : Type 0
objects_then_arguments = touched (sample (main_function [] (Return (call 1 (int 5 ∷ int 3 ∷ [])) ∷ [])
    ∷ function (returning int_type (int_type ∷ int_type ∷ [])) (int_type ∷ int_type ∷ []) (Return (binary op.Sub (get x) (get y)) ∷ []) ∷ []) []
    ((frame_object ((2, 0) ∷ []) 1 0, int_type) ∷ (frame_object ((2, 0) ∷ []) 1 1, int_type) ∷ [])) 4 ≡ Born (frame_object ((2, 0) ∷ []) 1 0)
    ∷ Born (frame_object ((2, 0) ∷ []) 1 1) ∷ Alive (frame_object ((2, 0) ∷ []) 1 0) ∷ Write (frame_object ((2, 0) ∷ []) 1 0) 0 4
    ∷ Alive (frame_object ((2, 0) ∷ []) 1 1) ∷ Write (frame_object ((2, 0) ∷ []) 1 1) 0 4 ∷ []

-- int f(int n){return n?f(n-1)+1:0;}int main(void){return f(1);}
abbrev pub recursion : Type 0
recursion = found (sample (main_function [] (Return (call 1 (int 1 ∷ [])) ∷ [])
    ∷ function (returning int_type (int_type ∷ [])) (int_type ∷ [])
    (Return (node Cond int_type (get x ∷ add (call 1 (binary op.Sub (get x) (int 1) ∷ [])) (int 1) ∷ int 0 ∷ [])) ∷ []) ∷ []) []
    ((frame_object ((2, 0) ∷ []) 1 0, int_type) ∷ (frame_object ((2, 4) ∷ (2, 0) ∷ []) 1 0, int_type) ∷ [])) ≡ Clean 1 silent 23

-- void f(void){return;}int main(void){f();return 0;} (6.8.6.4)
abbrev pub no_result : Type 0
no_result = found (sample (main_function [] (Value (node (Call true) types.void (function_at 1 (returning types.void []) ∷ [])) ∷ Return (int 0)
    ∷ []) ∷ record (function (returning types.void []) [] (Return_none ∷ [])) { void = true } ∷ []) [] []) ≡ Clean 0 silent 11

-- void f(void){}int main(void){f();return 0;}
abbrev pub no_return : Type 0
no_return = found (sample (main_function [] (Value (node (Call true) types.void (function_at 1 (returning types.void []) ∷ [])) ∷ Return (int 0)
    ∷ []) ∷ record (function (returning types.void []) [] []) { void = true } ∷ []) [] []) ≡ Clean 0 silent 10

-- int f(void){}int main(void){return f();} (6.9.1p12)
abbrev pub missing : Type 0
missing = found (sample (main_function [] (Return (call 1 []) ∷ []) ∷ function (returning int_type []) [] [] ∷ []) [] [])
    ≡ Undefined MissingValue [] 2 (Some (place 0 Val)) 1 6

-- int f(void){}int main(void){f();return 0;}
abbrev pub missing_unused : Type 0
missing_unused = found (sample (main_function [] (Value (discard 1 []) ∷ Return (int 0) ∷ []) ∷ function (returning int_type []) [] [] ∷ []) [] [])
    ≡ Clean 0 silent 10

-- int g(void){return 4;}int main(void){int(*p)(void)=g;return p();}
abbrev pub by_pointer : Type 0
by_pointer = found (sample (main_function (function_pointer ∷ [])
    (Value (init (local 0 function_pointer) (function_at 1 function_pointer))
    ∷ Return (node (Call false) int_type (get (local 0 function_pointer) ∷ [])) ∷ []) ∷ function (returning int_type []) [] (Return (int 4) ∷ [])
    ∷ []) [] ((main_object 0, function_pointer) ∷ [])) ≡ Clean 4 silent 15

-- int(*p)(void)=0;return p(); (6.5.3.2p4)
abbrev pub by_null : Type 0
by_null = found (main (function_pointer ∷ []) (Value (init (local 0 function_pointer) (null plain_function))
    ∷ Return (node (Call false) int_type (get (local 0 function_pointer) ∷ [])) ∷ [])) ≡ Undefined InvalidPointer [] 3 (Some (place 0 Body)) 1 8

-- int g(int a){return a;}int main(void){return ((int(*)(void))g)();} (6.5.2.2p9)
abbrev pub incompatible : Type 0
incompatible = found (sample (main_function [] (Return (node (Call false) int_type
    (convert conversion.Function function_pointer (function_at 1 (pointer_to (returning int_type (int_type ∷ [])))) ∷ [])) ∷ [])
    ∷ function (returning int_type (int_type ∷ [])) (int_type ∷ []) (Return (get x) ∷ []) ∷ []) [] [])
    ≡ Undefined IncompatibleCall [] 2 (Some (place 0 Body)) 1 4

-- int g(void);, which is no function of the library: its call has no function (own)
abbrev pub not_defined : Type 0
not_defined = found (sample (main_function [] (Return (call 1 []) ∷ []) ∷ record { ty = plain_function; void = false; library = None; body = None }
    ∷ []) [] []) ≡ Undefined InvalidPointer [] 2 (Some (place 0 Body)) 1 3

-- struct s f(struct s t){return t;}int main(void){return f(s).b;} (6.5.2.2p4)
abbrev pub whole_passed : Type 0
whole_passed = found (sample (main_function [] (Return (node (Part 4 (access.Integer kind.Int)) int_type
    (node (Call false) pair_type (function_at 1 (pointer_to (returning pair_type (pair_type ∷ [])))
    ∷ node (Load (access.Whole 8 4)) pair_type (s ∷ []) ∷ []) ∷ [])) ∷ [])
    ∷ function (returning pair_type (pair_type ∷ [])) (pair_type ∷ [])
    (Return (node (Load (access.Whole 8 4)) pair_type (local 0 pair_type ∷ [])) ∷ []) ∷ [])
    (file_object 0 pair_type (4 ∷ 0 ∷ 0 ∷ 0 ∷ 5 ∷ 0 ∷ 0 ∷ 0 ∷ []) ∷ []) ((frame_object ((2, 1) ∷ []) 1 0, pair_type) ∷ [])) ≡ Clean 5 silent 13

-- int n;int f(void){return ++n;}int main(void){return (f(),f());}
abbrev pub one_after_the_other : Type 0
one_after_the_other = found (sample (main_function [] (Return (node Comma int_type (call 1 [] ∷ call 1 [] ∷ [])) ∷ [])
    ∷ function (returning int_type []) [] (Return (update op.Add (static 0 int_type) (int 1)) ∷ []) ∷ [])
    (file_object 0 int_type (0 ∷ 0 ∷ 0 ∷ 0 ∷ []) ∷ []) []) ≡ Clean 2 silent 21

-- int main(int argc,char**argv){return argc;}, run without arguments (5.1.2.2.1)
abbrev pub count_of_arguments : Type 0
count_of_arguments = found (record (sample (function (returning int_type (int_type ∷ pointer_to (pointer_to char_type) ∷ []))
    (int_type ∷ pointer_to (pointer_to char_type) ∷ []) (Return (get x) ∷ []) ∷ [])
    (record (file_object 0 (array_of 5 char_type) (112 ∷ 114 ∷ 111 ∷ 103 ∷ 0 ∷ [])) { name = Arg 0 }
    ∷ record {
      name = Argv;
      decl = decl (array_of 2 (pointer_to char_type));
      literal = false;
      fillings = record
          { offset = 0; content = Object_at (Arg 0) 0 } ∷ record { offset = 8; content = No_object } ∷ [];
    } ∷ [])
    ((main_object 0, int_type) ∷ (main_object 1, pointer_to (pointer_to char_type)) ∷ []))
    { arguments = value.Int (pos 1) ∷ value.Ptr 16777264 (Whole Argv) ∷ [] }) ≡ Clean 1 silent 5

-- int main(int argc,char**argv){return **argv;}: the first argument is `prog` (own)
abbrev pub name_of_program : Type 0
name_of_program = found (record (sample (function (returning int_type (int_type ∷ pointer_to (pointer_to char_type) ∷ []))
    (int_type ∷ pointer_to (pointer_to char_type) ∷ []) (Return (to_kind kind.Int (get (get (get (local 1 (pointer_to (pointer_to char_type)))))))
    ∷ []) ∷ []) (record (file_object 0 (array_of 5 char_type) (112 ∷ 114 ∷ 111 ∷ 103 ∷ 0 ∷ [])) { name = Arg 0 }
    ∷ record {
      name = Argv;
      decl = decl (array_of 2 (pointer_to char_type));
      literal = false;
      fillings = record
          { offset = 0; content = Object_at (Arg 0) 0 } ∷ record { offset = 8; content = No_object } ∷ [];
    } ∷ [])
    ((main_object 0, int_type) ∷ (main_object 1, pointer_to (pointer_to char_type)) ∷ []))
    { arguments = value.Int (pos 1) ∷ value.Ptr 16777264 (Whole Argv) ∷ [] }) ≡ Clean 112 silent 8

-- int main(int argc,char**argv){return argv[argc]==0;}
abbrev pub last_argument : Type 0
last_argument = found (record (sample (function (returning int_type (int_type ∷ pointer_to (pointer_to char_type) ∷ []))
    (int_type ∷ pointer_to (pointer_to char_type) ∷ []) (Return (equal
    (get (node (PtrAdd 8 false) (pointer_to (pointer_to char_type)) ((get (local 1 (pointer_to (pointer_to char_type)))) ∷ (get x) ∷ [])))
    (null char_type)) ∷ []) ∷ []) (record (file_object 0 (array_of 5 char_type) (112 ∷ 114 ∷ 111 ∷ 103 ∷ 0 ∷ [])) { name = Arg 0 }
    ∷ record {
      name = Argv;
      decl = decl (array_of 2 (pointer_to char_type));
      literal = false;
      fillings = record
          { offset = 0; content = Object_at (Arg 0) 0 } ∷ record { offset = 8; content = No_object } ∷ [];
    } ∷ [])
    ((main_object 0, int_type) ∷ (main_object 1, pointer_to (pointer_to char_type)) ∷ []))
    { arguments = value.Int (pos 1) ∷ value.Ptr 16777264 (Whole Argv) ∷ [] }) ≡ Clean 1 silent 9
