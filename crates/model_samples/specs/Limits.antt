-- Limits on open frames, created bytes and output (own).
use Rattle.std.specs.Prelude.{◌≡◌, false, [], ◌∷◌, Some}
use Rattle.ub_base.specs.declared.clause.Kind.TheVariants.{Body}
use Rattle.ub_base.specs.declared.clause.Clause.TheVariants.{IncompatibleCall}
use Rattle.ub_base.specs.declared.clause.Cause.TheVariants as cause
use Rattle.c_types.specs.declared.library.LibFunc.TheVariants as lib
use Rattle.c_typed.specs.declared.tree.Conversion.TheVariants as conversion
use Rattle.c_typed.specs.Order.{place}
use Rattle.mem_spec.specs.Streams.{on_output, silent}
use Rattle.c_model.specs.Program.{Call, Value, Return}
use Rattle.c_model.specs.FirstFinding.{Clean, Undefined, Outside}
use Rattle.model_samples.specs.Build.{int_type, pointer_to, array_of, returning, node, int, x, get, init, convert, function_at, call, text}
use Rattle.model_samples.specs.Build.{function, main_function, sample, found, main, file_object, literal, heap_object}
use Rattle.model_samples.specs.Accesses.{int_pointer, as_pointer, char_type, function_pointer}
use Rattle.model_samples.specs.Functions.{length, giving, calling, doing, with_library, p}

-- int f(void){return 0;}int main(void){return f();}, where one frame may be open
abbrev pub depth : Type 0
depth = found (record (sample (main_function [] (Return (call 1 []) ∷ []) ∷ function (returning int_type []) [] (Return (int 0) ∷ []) ∷ []) [] [])
    { limits = record { depth = 1; created = 1000; output = 100 } }) ≡ Outside cause.Depth 2 2

-- and where two may be
abbrev pub within_depth : Type 0
within_depth = found (record (sample (main_function [] (Return (call 1 []) ∷ []) ∷ function (returning int_type []) [] (Return (int 0) ∷ []) ∷ []) []
    []) { limits = record { depth = 2; created = 1000; output = 100 } }) ≡ Clean 0 silent 10

-- int x;, at file level, where 8 bytes may be created: an object counts as at least 16
abbrev pub created_at_start : Type 0
created_at_start = found (record (sample (main_function [] (Return (int 0) ∷ []) ∷ []) (file_object 0 int_type (0 ∷ 0 ∷ 0 ∷ 0 ∷ []) ∷ []) [])
    { limits = record { depth = 100; created = 8; output = 100 } }) ≡ Outside cause.Created 16 0

-- int main(void){int x,y;return 0;}, where 31 bytes may be created: none of the block is
abbrev pub created_by_block : Type 0
created_by_block = found (record (main (int_type ∷ int_type ∷ []) (Return (int 0) ∷ []))
    { limits = record { depth = 100; created = 31; output = 100 } }) ≡ Outside cause.Created 32 0

-- and where 32 may be
abbrev pub within_created : Type 0
within_created = found (record (main (int_type ∷ int_type ∷ []) (Return (int 0) ∷ []))
    { limits = record { depth = 100; created = 32; output = 100 } }) ≡ Clean 0 silent 4

-- int*p=malloc(24);, where 39 bytes may be created
abbrev pub created_by_call : Type 0
created_by_call = found (record (with_library (lib.Malloc ∷ []) [] ((heap_object 2 3, array_of 24 char_type) ∷ []) (int_pointer ∷ [])
    (Value (init p (as_pointer 4 int_type (giving 1 (length 24 ∷ [])))) ∷ [])) { limits = record { depth = 100; created = 39; output = 100 } })
    ≡ Outside cause.Created 40 2

-- and where the object has no row: the limit goes before that
abbrev pub created_without_row : Type 0
created_without_row = found (record (with_library (lib.Malloc ∷ []) [] [] (int_pointer ∷ [])
    (Value (init p (as_pointer 4 int_type (giving 1 (length 24 ∷ [])))) ∷ [])) { limits = record { depth = 100; created = 39; output = 100 } })
    ≡ Outside cause.Created 40 2

-- puts("ab");, where two bytes may be printed
abbrev pub output : Type 0
output = found (record (with_library (lib.Puts ∷ []) (literal 0 (97 ∷ 98 ∷ 0 ∷ []) ∷ literal 1 (97 ∷ 99 ∷ 0 ∷ []) ∷ []) [] []
    (doing 1 (text 0 ∷ []) ∷ [])) { limits = record { depth = 100; created = 1000; output = 2 } }) ≡ Outside cause.Output 3 2

-- and where three may be
abbrev pub within_output : Type 0
within_output = found (record (with_library (lib.Puts ∷ []) (literal 0 (97 ∷ 98 ∷ 0 ∷ []) ∷ literal 1 (97 ∷ 99 ∷ 0 ∷ []) ∷ []) [] []
    (doing 1 (text 0 ∷ []) ∷ Return (int 0) ∷ [])) { limits = record { depth = 100; created = 1000; output = 3 } }) ≡ Clean 0 (on_output (97 ∷ 98 ∷ 10 ∷ [])) 8

-- putchar(97);fprintf(stderr,"b");, where one byte may be printed: the bytes of both streams count together
abbrev pub outputs_together : Type 0
outputs_together = found (record (with_library (lib.Putchar ∷ lib.Fprintf ∷ []) (literal 0 (98 ∷ 0 ∷ []) ∷ []) [] []
    (doing 1 (int 97 ∷ []) ∷ doing 2 (int 2 ∷ text 0 ∷ []) ∷ [])) { limits = record { depth = 100; created = 1000; output = 1 } })
    ≡ Outside cause.Output 2 6

-- printf("%4096d",1);: a directive that gives more than 4095 bytes (7.21.6.1p15, own)
abbrev pub long_conversion : Type 0
long_conversion = found (with_library (lib.Printf ∷ []) (literal 0 (37 ∷ 52 ∷ 48 ∷ 57 ∷ 54 ∷ 100 ∷ 0 ∷ []) ∷ []) [] []
    (Return (calling 1 (text 0 ∷ int 1 ∷ [])) ∷ [])) ≡ Outside cause.Conversion 4096 2

-- printf("a%f",1);: a directive that is left out, at its offset (own)
abbrev pub directive_left_out : Type 0
directive_left_out = found (with_library (lib.Printf ∷ []) (literal 0 (97 ∷ 37 ∷ 102 ∷ 0 ∷ []) ∷ []) [] []
    (Return (calling 1 (text 0 ∷ int 1 ∷ [])) ∷ [])) ≡ Outside cause.Directive 1 2

-- int f(int a){return a;}..((int(*)(void))f)();, where one frame may be open: what raises goes first
abbrev pub raise_before_limit : Type 0
raise_before_limit = found (record (sample (main_function [] (Return
    (node (Call false) int_type (convert conversion.Function function_pointer (function_at 1 (pointer_to (returning int_type (int_type ∷ []))))
    ∷ [])) ∷ []) ∷ function (returning int_type (int_type ∷ [])) (int_type ∷ []) (Return (get x) ∷ []) ∷ []) [] [])
    { limits = record { depth = 1; created = 1000; output = 100 } }) ≡ Undefined IncompatibleCall [] 2 (Some (place 0 Body)) 1 4
