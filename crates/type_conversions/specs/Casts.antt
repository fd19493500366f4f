-- Casts (6.5.4), and values that are tested against zero.
use Rattle.std.specs.Prelude.{ℕ, Bool, true, false, ◌&&◌, if◌then◌else◌, Option, Some}
use Rattle.c_types.specs.Types.{CType, void, pointer}
use Rattle.type_operands.specs.declared.operand.Form.{Form}
use Rattle.type_operands.specs.declared.operand.Form.TheVariants as form
use Rattle.type_operands.specs.Layouts.{Layouts}
use Rattle.type_operands.specs.Terms.{Term, type_at, Expression, as_value, ◌>>=◌, unless_refused}
use Rattle.type_operands.specs.Conversions.{is_void, is_pointer, is_scalar, value, converted_on, discarded}
use Rattle.type_constants.specs.Constants.{is_null, null_pointer}

-- a value that is tested against zero, of scalar type (6.5.13p2, 6.8.4.1p1, 6.8.5p2)
unfoldable pub truth : Layouts → Expression → Option Term
truth tags a = value tags a >>= λ x. unless_refused (is_scalar (type_at x)) x

-- an integer constant expression of value 0, cast to `void *`, is a null pointer constant again (6.3.2.3p3)
abbrev pub is_void_pointer : CType → Bool
is_void_pointer (pointer false void) = true
is_void_pointer _ = false

abbrev pub null_form : Form → CType → Form
null_form form.Value to = if is_void_pointer to then form.NullPointer else form.Value
null_form _ to = form.Value

abbrev pub null_cast : Expression → CType → ℕ → Expression
null_cast e to line = record { tree = null_pointer to line; form = null_form e.form to; line = line }

unfoldable pub scalar_cast : Layouts → CType → Expression → ℕ → Option Expression
scalar_cast tags to e line = do
  x ← value tags e
  from ← unless_refused (is_scalar (type_at x) && is_scalar to) x
  t ← converted_on tags line to from
  Some (as_value t)

unfoldable pub void_cast : Layouts → Expression → ℕ → Option Expression
void_cast tags e line = discarded tags e >>= λ t. Some (record { tree = t; form = form.Void; line = line })

-- a cast: to `void`, of which no value is left, or from one scalar type to another (6.5.4p2, 6.5.4p3, 6.3.2.2)
abbrev pub cast : Layouts → CType → Expression → ℕ → Option Expression
cast tags to e line =
    if is_void to then void_cast tags e line
    else if is_pointer to && is_null e then Some (null_cast e to line)
    else scalar_cast tags to e line
