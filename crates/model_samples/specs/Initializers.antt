-- Initializers (6.7.9).
use Rattle.std.specs.Prelude.{◌≡◌, false, [], ◌∷◌}
use Rattle.ub_base.specs.declared.names.ObjName.TheVariants.{Static}
use Rattle.ub_base.specs.declared.names.Item.TheVariants.{Write, Alive}
use Rattle.c_types.specs.declared.kind.IntKind.TheVariants as kind
use Rattle.c_typed.specs.declared.tree.Slot.TheVariants as slot
use Rattle.mem_spec.specs.Streams.{silent}
use Rattle.c_model.specs.Program.{Zeros, Bytes, Object_at, Function_at, Member, Call, Listed, Isolated, Value, Return}
use Rattle.c_model.specs.FirstFinding.{Clean}
use Rattle.model_samples.specs.Build.{int_type, array_of, returning, node, int, local, static, get, init, to_kind, function, main_function, sample}
use Rattle.model_samples.specs.Build.{found, touched, main, file_object, main_object}
use Rattle.model_samples.specs.Accesses.{int_pointer, on, char_type, function_pointer}

-- int a[2]={4,5};return a[1];: each expression in a frame of its own (6.7.9p23)
abbrev pub listed : Type 0
listed = found (main (array_of 2 int_type ∷ []) (Value (node (Listed (slot.Auto 0 0) []) int_type
    (node (Isolated (init (node (Member 0) int_pointer (local 0 int_type ∷ [])) (int 4))) int_type []
    ∷ node (Isolated (init (node (Member 4) int_pointer (local 0 int_type ∷ [])) (int 5))) int_type [] ∷ []))
    ∷ Return (get (on 4 int_type 1 (local 0 int_type))) ∷ [])) ≡ Clean 5 silent 22

-- int a[2]={4};return a[1]; (6.7.9p21)
abbrev pub rest_is_zero : Type 0
rest_is_zero = found (main (array_of 2 int_type ∷ []) (Value (node (Listed (slot.Auto 0 0) (record { offset = 4; content = Zeros 4 } ∷ [])) int_type
    (node (Isolated (init (node (Member 0) int_pointer (local 0 int_type ∷ [])) (int 4))) int_type [] ∷ []))
    ∷ Return (get (on 4 int_type 1 (local 0 int_type))) ∷ [])) ≡ Clean 0 silent 16

-- int a[2]={4};return a[0];: the rest is filled, not the whole object again
abbrev pub expression_kept : Type 0
expression_kept = found (main (array_of 2 int_type ∷ []) (Value (node (Listed (slot.Auto 0 0) (record { offset = 4; content = Zeros 4 } ∷ [])) int_type
    (node (Isolated (init (node (Member 0) int_pointer (local 0 int_type ∷ [])) (int 4))) int_type [] ∷ []))
    ∷ Return (get (on 4 int_type 0 (local 0 int_type))) ∷ [])) ≡ Clean 4 silent 16

-- which its effect does, the tenth pick
abbrev pub fills_rest : Type 0
fills_rest = touched (main (array_of 2 int_type ∷ []) (Value (node (Listed (slot.Auto 0 0) (record { offset = 4; content = Zeros 4 } ∷ [])) int_type
    (node (Isolated (init (node (Member 0) int_pointer (local 0 int_type ∷ [])) (int 4))) int_type [] ∷ [])) ∷ [])) 10 ≡ Alive (main_object 0)
    ∷ Write (main_object 0) 4 4 ∷ []

-- char s[3]="ab";return s[1]; (6.7.9p14)
abbrev pub string : Type 0
string = found (main (array_of 3 char_type ∷ []) (Value (node
    (Listed (slot.Auto 0 0) (record { offset = 0; content = Bytes (97 ∷ 98 ∷ 0 ∷ []) } ∷ [])) int_type [])
    ∷ Return (to_kind kind.Int (get (on 1 char_type 1 (local 0 char_type)))) ∷ [])) ≡ Clean 98 silent 11

-- and its effect writes all three bytes at once
abbrev pub fills_only : Type 0
fills_only = touched (main (array_of 3 char_type ∷ []) (Value
    (node (Listed (slot.Auto 0 0) (record { offset = 0; content = Bytes (97 ∷ 98 ∷ 0 ∷ []) } ∷ [])) int_type []) ∷ [])) 4 ≡ Alive (main_object 0)
    ∷ Write (main_object 0) 0 3 ∷ []

-- int x=9;int*p=&x;, at file level; return *p; (6.6p9)
abbrev pub address_constant : Type 0
address_constant = found (sample (main_function [] (Return (get (get (static 1 int_pointer))) ∷ []) ∷ [])
    (file_object 0 int_type (9 ∷ 0 ∷ 0 ∷ 0 ∷ []) ∷ record (file_object 1 int_pointer [])
    { fillings = record { offset = 0; content = Object_at (Static 0) 0 } ∷ [] } ∷ []) []) ≡ Clean 9 silent 6

-- int g(void){return 4;}int(*p)(void)=g;, at file level; return p();
abbrev pub function_constant : Type 0
function_constant = found (sample (main_function [] (Return (node (Call false) int_type (get (static 0 function_pointer) ∷ [])) ∷ [])
    ∷ function (returning int_type []) [] (Return (int 4) ∷ []) ∷ [])
    (record (file_object 0 function_pointer []) { fillings = record { offset = 0; content = Function_at 1 } ∷ [] } ∷ []) []) ≡ Clean 4 silent 11

-- int x;, at file level; return x; (6.7.9p10)
abbrev pub zeroed : Type 0
zeroed = found (sample (main_function [] (Return (get (static 0 int_type)) ∷ []) ∷ [])
    (record (file_object 0 int_type []) { fillings = record { offset = 0; content = Zeros 4 } ∷ [] } ∷ []) []) ≡ Clean 0 silent 5
