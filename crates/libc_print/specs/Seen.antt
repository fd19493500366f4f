-- The values of this crate as those of the definitions of printf.
use Rattle.std.specs.Prelude.{ℕ, zero, suc, List, [], ◌∷◌, drop}
use Rattle.c_types.specs.declared.ty.Qual.{Qual}
use Rattle.c_types.specs.Types.{CType, void, qualified_of}
use Rattle.mem_objects.specs.declared.value.Value.{Value}
use Rattle.libc_spec.specs.Library.{argument_at}
use Rattle.libc_arguments.specs.Seen.{value_seen, values_seen}
use Rattle.libc_spec.specs.Print.{Argument}
use Rattle.libc_print.specs.declared.values.Arguments.{Arguments}

-- values with their types
abbrev pub typed : List Value → List Qual → List Argument
typed (v ∷ vs) (t ∷ ts) = record { value = value_seen v; ty = (qualified_of t).ty } ∷ typed vs ts
typed _ _ = []

abbrev pub type_at : List Qual → ℕ → CType
type_at [] i = void
type_at (t ∷ ts) zero = (qualified_of t).ty
type_at (t ∷ ts) (suc i) = type_at ts i

-- an argument by its number
abbrev pub argument_of : Arguments → ℕ → Argument
argument_of a i = record { value = argument_at (values_seen a.values.now) i; ty = type_at a.types.now i }

-- the arguments that are left
abbrev pub left : Arguments → List Argument
left a = drop a.next (typed a.values.now a.types.now)
