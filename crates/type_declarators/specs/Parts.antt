-- Types of specifiers and declarators, by the parts that the code keeps (6.7.2, 6.7.3, 6.7.6).
use Rattle.std.specs.Prelude.{◌^◌, Bool, true, false, not, ◌&&◌, ◌||◌, if◌then◌else◌, pos, ◌<ℤ◌, List, [], ◌∷◌, map, reverse, Option, Some, None}
use Rattle.c_types.specs.Types.{Qualified, qualified_of, params_of}
use Rattle.c_ast.specs.declared.declaration.Base.{Base}
use Rattle.c_ast.specs.declared.declaration.Base.TheBlock.{Plain, Ident}
use Rattle.c_ast.specs.declared.declaration.Declarator.{Declarator}
use Rattle.typing_env.specs.Env.{if_found}
use Rattle.typing_env.specs.Seen.{SeenTag}
use Rattle.typing_words.specs.Words.{Words, Derivation, pointer_to, array_of, function_of, derived_by}
use Rattle.typing_words.specs.Words.{may_be_restricted, const_type, with_qualifiers, is_no_word}
use Rattle.type_declarators.specs.declared.declarator.Derivation as held
use Rattle.type_declarators.specs.declared.declarator.Derivation.TheVariants as part

-- 1. Qualifiers beside specifiers.

-- a type that is restrict-qualified and const or not
abbrev pub qualified_so : (restricted constant : Bool) → Qualified → Option Qualified
qualified_so restricted constant q =
    if restricted && not (may_be_restricted q.ty) then None else if constant then const_type q else Some q

abbrev pub is_plain : Base → Bool
is_plain Plain = true
is_plain _ = false

-- beside a specifier that is no keyword stands no type specifier (6.7.2p2)
abbrev pub with_keywords : (plain : Bool) → Option Words → Qualified → Option Qualified
with_keywords plain None q = None
with_keywords plain (Some ws) q = if plain || is_no_word ws.types then with_qualifiers ws q else None

-- 2. The parts of a declarator.

abbrev pub part_seen : held.Derivation → Derivation
part_seen (part.Pointer constant restricted) = pointer_to constant restricted
part_seen (part.Array count) = array_of count
part_seen (part.Function params variadic) = function_of (params_of (map qualified_of params)) variadic

-- the part next to the name is the first that is read, and derived last (6.7.6p4)
abbrev pub parts_seen : List held.Derivation → List Derivation
parts_seen parts = map part_seen (reverse parts)

-- what they make of a type, within whatever limits
abbrev pub applied : List SeenTag → List Derivation → Qualified → Option Qualified
applied tags [] q = Some q
applied tags (d ∷ ds) q = if_found (derived_by tags q d) (applied tags ds)

-- the declarator is a name alone
abbrev pub is_name : Declarator → Bool
is_name (Ident (Some at)) = true
is_name _ = false

-- the count of an array is one that an integer type has
abbrev pub FitsCount : held.Derivation → Type 0
FitsCount (part.Array (Some n)) = n <ℤ pos (2 ^ 64)
FitsCount _ = Unit {0}

abbrev pub AllFit : List held.Derivation → Type 0
AllFit [] = Unit {0}
AllFit (d ∷ ds) = FitsCount d × AllFit ds
