-- The functions of the library by name and by type, as their rows are kept here (7.21, 7.22, 7.24).
use Rattle.std.specs.Prelude.{ℕ, Bool, false, List, [], ◌∷◌, codes, map}
use Rattle.c_types.specs.Types.{CType, void, int, Qualified, Signature}
use Rattle.c_types.specs.declared.kind.IntKind.TheVariants.{Int}
use Rattle.c_types.specs.declared.library.LibFunc.{LibFunc}
use Rattle.c_types.specs.declared.library.LibFunc.TheVariants as libc
use Rattle.c_typed.specs.Lawful.{size_type, memory, const_memory, text, const_text, taking}
use Rattle.type_linkage.specs.declared.library.Simple.{Simple}
use Rattle.type_linkage.specs.declared.library.Simple.TheVariants as simple

-- those of the heap and of memory, and the others, in the order of `library_names`
abbrev pub memory_names : List (List ℕ × LibFunc)
memory_names = (codes "malloc", libc.Malloc) ∷ (codes "calloc", libc.Calloc) ∷ (codes "realloc", libc.Realloc) ∷ (codes "free", libc.Free)
    ∷ (codes "memcpy", libc.Memcpy) ∷ (codes "memmove", libc.Memmove) ∷ (codes "memset", libc.Memset) ∷ (codes "memcmp", libc.Memcmp) ∷ []

abbrev pub text_names : List (List ℕ × LibFunc)
text_names = (codes "strlen", libc.Strlen) ∷ (codes "strcpy", libc.Strcpy) ∷ (codes "strcmp", libc.Strcmp) ∷ (codes "strchr", libc.Strchr)
    ∷ (codes "getchar", libc.Getchar) ∷ (codes "putchar", libc.Putchar) ∷ (codes "puts", libc.Puts) ∷ []

abbrev pub other_names : List (List ℕ × LibFunc)
other_names = (codes "printf", libc.Printf) ∷ (codes "_cub_fprintf", libc.Fprintf) ∷ (codes "sprintf", libc.Sprintf)
    ∷ (codes "snprintf", libc.Snprintf) ∷ (codes "exit", libc.Exit) ∷ (codes "abort", libc.Abort) ∷ []

-- a type that library functions take or return
abbrev pub simple_type : Simple → CType
simple_type simple.Int = int Int
simple_type simple.Size = size_type
simple_type simple.Text = text
simple_type simple.ConstText = const_text
simple_type simple.Memory = memory
simple_type simple.ConstMemory = const_memory
simple_type simple.Nothing = void

abbrev pub parameter_of : Simple → Qualified
parameter_of s = record { constant = false; ty = simple_type s }

abbrev pub function_of : Simple → List Simple → Bool → Signature
function_of returned params variadic = record { result = simple_type returned; params = taking (map simple_type params); variadic = variadic }
