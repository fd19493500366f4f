-- What is used in an expression that is evaluated (6.9p3, 6.9p5), which the rows of objects and functions note.
use Rattle.std.specs.Prelude.{◌≡◌, ℕ, ◌==◌, Bool, true, false, not, ◌&&◌, ◌||◌, List, [], ◌∷◌, ◌++◌, slice_get, is_some, Option, Some, None}
use Rattle.c_types.specs.Types.{CType, array}
use Rattle.c_typed.specs.declared.tree.Target.{Target}
use Rattle.c_typed.specs.declared.tree.Target.TheVariants as target
use Rattle.typing_env.specs.Env.{Use}
use Rattle.typing_env.specs.Names.{is_target}
use Rattle.type_scope.specs.declared.rows.CountedUse.{CountedUse}
use Rattle.type_scope.specs.declared.rows.FunctionRow.{FunctionRow}
use Rattle.type_scope.specs.declared.rows.ObjectRow.{ObjectRow}
use Rattle.type_scope.specs.declared.state.State.{State}
use Rattle.type_scope.specs.Known.{Naming}
use Rattle.type_scope.specs.Objects.{row_in}

-- 1. By the definition of typing.

-- some use is one of this object or function
abbrev pub is_used : Target → List Use → Bool
is_used t [] = false
is_used t (u ∷ us) = is_target u.target t || is_used t us

-- how many elements an array type says, if it says so
abbrev pub count_of : CType → Option ℕ
count_of (array c t n) = n
count_of _ = None

-- an array that is named by a size has that size (6.2.7p2)
abbrev pub has_count : Option ℕ → Option ℕ → Bool
has_count None n = true
has_count (Some m) None = false
has_count (Some m) (Some n) = m == n

-- an object of so many elements, as an array, is what each use of it says
abbrev pub fits_uses : Target → Option ℕ → List Use → Bool
fits_uses t count [] = true
fits_uses t count (u ∷ us) = (not (is_target u.target t) || has_count u.count count) && fits_uses t count us

-- a use more, unless it is in an operand that isn't evaluated (6.5.3.4p2, 6.9p3)
abbrev pub with_use : (unevaluated : Bool) → Use → List Use → List Use
with_use true u us = us
with_use false u us = us ++ u ∷ []

-- 2. As the rows tell it.

-- .. what each noted use of it says
abbrev pub fits_noted : Option CountedUse → Option ℕ → Bool
fits_noted None count = true
fits_noted (Some c) count = not c.others && has_count (Some c.count) count

-- the row of an object tells whether it is used, and how many elements the uses say
abbrev pub IsUsedObject : Target → List Use → Option ObjectRow → Type 0
IsUsedObject t us None = Unit {0}
IsUsedObject t us (Some row) = (is_some row.used ≡ is_used t us) × ((count : Option ℕ) → fits_noted row.counted count ≡ fits_uses t count us)

-- the row of a function tells whether it is used
abbrev pub IsUsedFunction : Target → List Use → Option FunctionRow → Type 0
IsUsedFunction t us None = Unit {0}
IsUsedFunction t us (Some row) = is_some row.used ≡ is_used t us

-- no use is noted
abbrev pub IsUnused : ObjectRow → Type 0
IsUnused row = (row.used ≡ None) × (row.counted ≡ None)

abbrev pub function_row_in : State → ℕ → Option FunctionRow
function_row_in s number = slice_get (s.functions).items number

-- the rows tell these uses, of which each is of an object by name or of a function by number
abbrev pub HasUses : Naming → State → List Use → Type 0
HasUses n s us =
    ((number : ℕ) → IsUsedObject (target.Static (n number)) us (row_in s number))
    × ((number : ℕ) → IsUsedFunction (target.Function number) us (function_row_in s number))
