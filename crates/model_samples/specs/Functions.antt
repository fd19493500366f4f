-- Functions of the library (7.21 to 7.24), each once, and what makes their calls undefined.
use Rattle.std.specs.Prelude.{◌≡◌, ℕ, true, false, List, [], ◌∷◌, Some, pos}
use Rattle.ub_base.specs.declared.clause.Kind.TheVariants.{Val, Body}
use Rattle.ub_base.specs.declared.clause.Clause.TheVariants.{DeadObject, LibraryArgument, TooFewArguments, Conversion, Free, Realloc, MemcpyOverlap}
use Rattle.ub_base.specs.declared.clause.Clause.TheVariants.{StrcpyOverlap, Indeterminate}
use Rattle.ub_base.specs.declared.names.ObjName.{ObjName}
use Rattle.c_types.specs.declared.kind.IntKind.TheVariants as kind
use Rattle.c_types.specs.declared.library.LibFunc.{LibFunc}
use Rattle.c_types.specs.declared.library.LibFunc.TheVariants as lib
use Rattle.c_types.specs.Types as types
use Rattle.c_types.specs.Types.{CType}
use Rattle.c_typed.specs.Order.{place}
use Rattle.mem_spec.specs.Streams.{on_output, silent}
use Rattle.c_model.specs.Program.{Comma, Call, Expr, Stmt, Value, Return, Function, Standing}
use Rattle.c_model.specs.FirstFinding.{Clean, Undefined}
use Rattle.model_samples.specs.Build.{Sample, int_type, pointer_to, array_of, node, constant, int, local, static, x, y, get, set, init, equal}
use Rattle.model_samples.specs.Build.{to_kind, function_at, text, of_library, main_function, sample, found, from_number, file_object, literal}
use Rattle.model_samples.specs.Build.{heap_object}
use Rattle.model_samples.specs.Accesses.{int_pointer, as_pointer, on, null, char_type, plain_function}
use Rattle.std.specs.Prelude.{◌++◌}

-- a pointer as an argument of type `void *`
abbrev pub plain_pointer : Expr → Expr
plain_pointer p = as_pointer 1 types.void p

-- a number of type `unsigned long`
abbrev pub length : ℕ → Expr
length n = constant kind.ULong (pos n)

-- a call that gives a pointer of type `void *`
abbrev pub giving : ℕ → List Expr → Expr
giving f es = node (Call false) (pointer_to types.void) (function_at f plain_function ∷ es)

-- one that gives an int, and one whose value isn't used
abbrev pub calling : ℕ → List Expr → Expr
calling f es = node (Call false) int_type (function_at f plain_function ∷ es)

abbrev pub doing : ℕ → List Expr → Stmt
doing f es = Value (node (Call true) types.void (function_at f plain_function ∷ es))

abbrev pub library_functions : List LibFunc → List Function
library_functions [] = []
library_functions (f ∷ fs) = of_library plain_function f ∷ library_functions fs

-- a program whose other functions are of the library; their types are left open
abbrev pub with_library : List LibFunc → List Standing → List (ObjName × CType) → List CType → List Stmt → Sample
with_library fs os heap ts ss = sample (main_function ts ss ∷ library_functions fs) os (from_number 1 0 ts ++ heap)

-- `char c[4]` at file level
abbrev pub chars : List ℕ → Standing
chars bs = file_object 0 (array_of 4 char_type) bs

abbrev pub c : Expr
c = static 0 char_type

abbrev pub p : Expr
p = local 0 int_pointer

-- int*p=calloc(1,4);return *p; (7.22.3.2)
abbrev pub zeroed_object : Type 0
zeroed_object = found (with_library (lib.Calloc ∷ []) [] ((heap_object 2 3, array_of 4 char_type) ∷ []) (int_pointer ∷ [])
    (Value (init p (as_pointer 4 int_type (giving 1 (length 1 ∷ length 4 ∷ [])))) ∷ Return (get (get p)) ∷ [])) ≡ Clean 0 silent 13

-- int*p=malloc(4);return *p; (7.22.3.4)
abbrev pub unwritten_object : Type 0
unwritten_object = found (with_library (lib.Malloc ∷ []) [] ((heap_object 2 3, array_of 4 char_type) ∷ []) (int_pointer ∷ [])
    (Value (init p (as_pointer 4 int_type (giving 1 (length 4 ∷ [])))) ∷ Return (get (get p)) ∷ []))
    ≡ Undefined Indeterminate [] 3 (Some (place 0 Val)) 1 11

-- int*p=malloc(4);*p=5;p=realloc(p,8);return *p; (7.22.3.5)
abbrev pub resized : Type 0
resized = found (with_library (lib.Malloc ∷ lib.Realloc ∷ []) []
    ((heap_object 2 3, array_of 4 char_type) ∷ (heap_object 4 3, array_of 8 char_type) ∷ []) (int_pointer ∷ [])
    (Value (init p (as_pointer 4 int_type (giving 1 (length 4 ∷ [])))) ∷ Value (set (get p) (int 5))
    ∷ Value (set p (as_pointer 4 int_type (giving 2 (plain_pointer (get p) ∷ length 8 ∷ [])))) ∷ Return (get (get p)) ∷ [])) ≡ Clean 5 silent 27

-- int*p=malloc(4);*p=7;free(p);return 0;
abbrev pub freed : Type 0
freed = found (with_library (lib.Malloc ∷ lib.Free ∷ []) [] ((heap_object 2 3, array_of 4 char_type) ∷ []) (int_pointer ∷ [])
    (Value (init p (as_pointer 4 int_type (giving 1 (length 4 ∷ [])))) ∷ Value (set (get p) (int 7)) ∷ doing 2 (plain_pointer (get p) ∷ [])
    ∷ Return (int 0) ∷ [])) ≡ Clean 0 silent 22

-- int*p=malloc(4);free(p);return *p; (6.2.4p2)
abbrev pub used_after_free : Type 0
used_after_free = found (with_library (lib.Malloc ∷ lib.Free ∷ []) [] ((heap_object 2 3, array_of 4 char_type) ∷ []) (int_pointer ∷ [])
    (Value (init p (as_pointer 4 int_type (giving 1 (length 4 ∷ [])))) ∷ doing 2 (plain_pointer (get p) ∷ []) ∷ Return (get (get p)) ∷ []))
    ≡ Undefined DeadObject [] 4 (Some (place 1 Val)) 1 16

-- free(0);return 1; (7.22.3.3p2)
abbrev pub frees_null : Type 0
frees_null = found (with_library (lib.Free ∷ []) [] [] [] (doing 1 (null types.void ∷ []) ∷ Return (int 1) ∷ [])) ≡ Clean 1 silent 8

-- int x;free(&x);
abbrev pub frees_local : Type 0
frees_local = found (with_library (lib.Free ∷ []) [] [] (int_type ∷ []) (doing 1 (plain_pointer x ∷ []) ∷ []))
    ≡ Undefined Free [] 2 (Some (place 0 Body)) 1 4

-- int*p=malloc(8);free(p+1);
abbrev pub frees_inside : Type 0
frees_inside = found (with_library (lib.Malloc ∷ lib.Free ∷ []) [] ((heap_object 2 3, array_of 8 char_type) ∷ []) (int_pointer ∷ [])
    (Value (init p (as_pointer 4 int_type (giving 1 (length 8 ∷ [])))) ∷ doing 2 (plain_pointer (on 4 int_type 1 (get p)) ∷ []) ∷ []))
    ≡ Undefined Free [] 3 (Some (place 0 Body)) 1 13

-- int x;realloc(&x,8); (7.22.3.5p3)
abbrev pub resizes_local : Type 0
resizes_local = found (with_library (lib.Realloc ∷ []) [] [] (int_type ∷ []) (doing 1 (plain_pointer x ∷ length 8 ∷ []) ∷ []))
    ≡ Undefined Realloc [] 2 (Some (place 0 Body)) 1 4

-- int*p=malloc(1048577);return p==0;: allocations above 2^20 bytes give null (own)
abbrev pub too_large : Type 0
too_large = found (with_library (lib.Malloc ∷ []) [] [] (int_pointer ∷ [])
    (Value (init p (as_pointer 4 int_type (giving 1 (length 1048577 ∷ [])))) ∷ Return (equal (get p) (null int_type)) ∷ [])) ≡ Clean 1 silent 13

-- int x=7,y;memcpy(&y,&x,4);return y; (7.24.2.1)
abbrev pub copied : Type 0
copied = found (with_library (lib.Memcpy ∷ []) [] [] (int_type ∷ int_type ∷ [])
    (Value (init x (int 7)) ∷ doing 1 (plain_pointer y ∷ plain_pointer x ∷ length 4 ∷ []) ∷ Return (get y) ∷ [])) ≡ Clean 7 silent 15

-- memcpy(c+1,c,2);
abbrev pub copied_onto_itself : Type 0
copied_onto_itself = found (with_library (lib.Memcpy ∷ []) (chars (1 ∷ 2 ∷ 3 ∷ 0 ∷ []) ∷ []) [] []
    (doing 1 (on 1 char_type 1 c ∷ c ∷ length 2 ∷ []) ∷ [])) ≡ Undefined MemcpyOverlap [] 2 (Some (place 0 Body)) 1 4

-- memmove(c+1,c,2);return c[2]; (7.24.2.2)
abbrev pub moved : Type 0
moved = found (with_library (lib.Memmove ∷ []) (chars (1 ∷ 2 ∷ 3 ∷ 0 ∷ []) ∷ []) [] []
    (doing 1 (on 1 char_type 1 c ∷ c ∷ length 2 ∷ []) ∷ Return (to_kind kind.Int (get (on 1 char_type 2 c))) ∷ [])) ≡ Clean 2 silent 12

-- memset(c,65,2);return c[1]; (7.24.6.1)
abbrev pub filled : Type 0
filled = found (with_library (lib.Memset ∷ []) (chars (1 ∷ 2 ∷ 3 ∷ 0 ∷ []) ∷ []) [] []
    (doing 1 (c ∷ int 65 ∷ length 2 ∷ []) ∷ Return (to_kind kind.Int (get (on 1 char_type 1 c))) ∷ [])) ≡ Clean 65 silent 11

-- memset(c,65,5); (7.1.4p1)
abbrev pub past_the_object : Type 0
past_the_object = found (with_library (lib.Memset ∷ []) (chars (1 ∷ 2 ∷ 3 ∷ 0 ∷ []) ∷ []) [] [] (doing 1 (c ∷ int 65 ∷ length 5 ∷ []) ∷ []))
    ≡ Undefined LibraryArgument [] 2 (Some (place 0 Body)) 1 3

-- return memcmp("ab","ac",2);: below zero, and -1 is own (7.24.4.1)
abbrev pub compared : Type 0
compared = found (with_library (lib.Memcmp ∷ []) (literal 0 (97 ∷ 98 ∷ 0 ∷ []) ∷ literal 1 (97 ∷ 99 ∷ 0 ∷ []) ∷ []) [] []
    (Return (calling 1 (text 0 ∷ text 1 ∷ length 2 ∷ [])) ∷ [])) ≡ Clean 255 silent 6

-- return strlen("ab"); (7.24.6.3)
abbrev pub length_of_text : Type 0
length_of_text = found (with_library (lib.Strlen ∷ []) (literal 0 (97 ∷ 98 ∷ 0 ∷ []) ∷ literal 1 (97 ∷ 99 ∷ 0 ∷ []) ∷ []) [] []
    (Return (calling 1 (text 0 ∷ [])) ∷ [])) ≡ Clean 2 silent 6

-- return strcmp("ab","ab"); (7.24.4.2)
abbrev pub texts_compared : Type 0
texts_compared = found (with_library (lib.Strcmp ∷ []) (literal 0 (97 ∷ 98 ∷ 0 ∷ []) ∷ literal 1 (97 ∷ 99 ∷ 0 ∷ []) ∷ []) [] []
    (Return (calling 1 (text 0 ∷ text 0 ∷ [])) ∷ [])) ≡ Clean 0 silent 6

-- return *strchr("ab",98); (7.24.5.2)
abbrev pub byte_found : Type 0
byte_found = found (with_library (lib.Strchr ∷ []) (literal 0 (97 ∷ 98 ∷ 0 ∷ []) ∷ literal 1 (97 ∷ 99 ∷ 0 ∷ []) ∷ []) [] []
    (Return (to_kind kind.Int (get (node (Call false) (pointer_to char_type) (function_at 1 plain_function ∷ text 0 ∷ int 98 ∷ [])))) ∷ []))
    ≡ Clean 98 silent 8

-- strcpy(c,"ab");return c[1]; (7.24.2.3)
abbrev pub text_copied : Type 0
text_copied = found (with_library (lib.Strcpy ∷ []) (chars (1 ∷ 2 ∷ 3 ∷ 0 ∷ []) ∷ literal 0 (97 ∷ 98 ∷ 0 ∷ []) ∷ []) [] []
    (doing 1 (c ∷ text 0 ∷ []) ∷ Return (to_kind kind.Int (get (on 1 char_type 1 c))) ∷ [])) ≡ Clean 98 silent 11

-- strcpy(c+1,c);, where c is "a"
abbrev pub text_copied_onto_itself : Type 0
text_copied_onto_itself = found (with_library (lib.Strcpy ∷ []) (chars (97 ∷ 0 ∷ 0 ∷ 0 ∷ []) ∷ []) [] []
    (doing 1 (on 1 char_type 1 c ∷ c ∷ []) ∷ [])) ≡ Undefined StrcpyOverlap [] 2 (Some (place 0 Body)) 1 4

-- strlen(c);, where c has no zero (7.1.1p1)
abbrev pub no_text : Type 0
no_text = found (with_library (lib.Strlen ∷ []) (chars (1 ∷ 2 ∷ 3 ∷ 4 ∷ []) ∷ []) [] [] (doing 1 (c ∷ []) ∷ []))
    ≡ Undefined LibraryArgument [] 2 (Some (place 0 Body)) 1 3

-- strlen(0); (7.1.4p1)
abbrev pub text_of_null : Type 0
text_of_null = found (with_library (lib.Strlen ∷ []) [] [] [] (doing 1 (null char_type ∷ []) ∷ []))
    ≡ Undefined LibraryArgument [] 2 (Some (place 0 Body)) 1 3

-- char s[2];s[1]=0;return strlen(s);
abbrev pub text_of_unwritten : Type 0
text_of_unwritten = found (with_library (lib.Strlen ∷ []) [] [] (array_of 2 char_type ∷ [])
    (Value (set (on 1 char_type 1 (local 0 char_type)) (constant kind.Char (pos 0))) ∷ Return (calling 1 (local 0 char_type ∷ [])) ∷ []))
    ≡ Undefined Indeterminate [] 3 (Some (place 0 Body)) 1 8

-- return getchar(); (7.21.7.6p3)
abbrev pub end_of_input : Type 0
end_of_input = found (with_library (lib.Getchar ∷ []) [] [] [] (Return (calling 1 []) ∷ [])) ≡ Clean 255 silent 6

-- return getchar(),getchar(),getchar();, of one byte: the end stays
abbrev pub after_the_end : Type 0
after_the_end = found (record (with_library (lib.Getchar ∷ []) [] [] []
    (Return (node Comma int_type (calling 1 [] ∷ calling 1 [] ∷ calling 1 [] ∷ [])) ∷ [])) { input = 65 ∷ [] }) ≡ Clean 255 silent 11

-- return puts("ab"); (7.21.7.9)
abbrev pub line_printed : Type 0
line_printed = found (with_library (lib.Puts ∷ []) (literal 0 (97 ∷ 98 ∷ 0 ∷ []) ∷ literal 1 (97 ∷ 99 ∷ 0 ∷ []) ∷ []) [] []
    (Return (calling 1 (text 0 ∷ [])) ∷ [])) ≡ Clean 1 (on_output (97 ∷ 98 ∷ 10 ∷ [])) 6

-- return printf("%c%%",65); (7.21.6.1p8)
abbrev pub byte_printed : Type 0
byte_printed = found (with_library (lib.Printf ∷ []) (literal 0 (37 ∷ 99 ∷ 37 ∷ 37 ∷ 0 ∷ []) ∷ []) [] []
    (Return (calling 1 (text 0 ∷ int 65 ∷ [])) ∷ [])) ≡ Clean 2 (on_output (65 ∷ 37 ∷ [])) 6

-- return fprintf(stderr,"%c%%",65);: standard error is a stream of its own (7.21.3p7)
abbrev pub error_printed : Type 0
error_printed = found (with_library (lib.Fprintf ∷ []) (literal 0 (37 ∷ 99 ∷ 37 ∷ 37 ∷ 0 ∷ []) ∷ []) [] []
    (Return (calling 1 (int 2 ∷ text 0 ∷ int 65 ∷ [])) ∷ [])) ≡ Clean 2 (record { standard = []; errors = 65 ∷ 37 ∷ [] }) 6

-- return printf("%d"); (7.21.6.1p2)
abbrev pub too_few : Type 0
too_few = found (with_library (lib.Printf ∷ []) (literal 0 (37 ∷ 100 ∷ 0 ∷ []) ∷ []) [] [] (Return (calling 1 (text 0 ∷ [])) ∷ []))
    ≡ Undefined TooFewArguments [] 2 (Some (place 0 Body)) 1 3

-- return printf("%d",0L); (7.21.6.1p9)
abbrev pub wrong_type : Type 0
wrong_type = found (with_library (lib.Printf ∷ []) (literal 0 (37 ∷ 100 ∷ 0 ∷ []) ∷ []) [] []
    (Return (calling 1 (text 0 ∷ constant kind.Long (pos 0) ∷ [])) ∷ [])) ≡ Undefined Conversion [] 2 (Some (place 0 Body)) 1 3

-- return printf("%y");
abbrev pub invalid_directive : Type 0
invalid_directive = found (with_library (lib.Printf ∷ []) (literal 0 (37 ∷ 121 ∷ 0 ∷ []) ∷ []) [] [] (Return (calling 1 (text 0 ∷ [])) ∷ []))
    ≡ Undefined Conversion [] 2 (Some (place 0 Body)) 1 3

-- exit(3); (7.22.4.4)
abbrev pub exits : Type 0
exits = found (with_library (lib.Exit ∷ []) [] [] [] (doing 1 (int 3 ∷ []) ∷ [])) ≡ Clean 3 silent 3

-- abort(); (7.22.4.1; the status 134 is own)
abbrev pub aborts : Type 0
aborts = found (with_library (lib.Abort ∷ []) [] [] [] (doing 1 [] ∷ [])) ≡ Clean 134 silent 3
