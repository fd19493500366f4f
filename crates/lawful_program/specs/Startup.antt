-- The two types of `main`, as a test (5.1.2.2.1p1).
use Rattle.std.specs.Prelude.{Bool, true, false, not, ◌&&◌}
use Rattle.c_types.specs.declared.kind.IntKind.TheVariants.{Int, Char}
use Rattle.c_types.specs.Types.{CType, int, pointer, Params, none, more, Signature}

abbrev pub is_int : CType → Bool
is_int (int Int) = true
is_int _ = false

abbrev pub is_plain_char : CType → Bool
is_plain_char (int Char) = true
is_plain_char _ = false

-- a pointer to what is no const `char`
abbrev pub is_text : CType → Bool
is_text (pointer constant t) = not constant && is_plain_char t
is_text _ = false

abbrev pub is_argument_vector : CType → Bool
is_argument_vector (pointer constant t) = not constant && is_text t
is_argument_vector _ = false

abbrev pub are_arguments : Params → Bool
are_arguments none = true
are_arguments (more c count (more d vector none)) = is_int count && is_argument_vector vector
are_arguments _ = false

abbrev pub is_main : Signature → Bool
is_main f = not f.variadic && (is_int f.result && are_arguments f.params)
