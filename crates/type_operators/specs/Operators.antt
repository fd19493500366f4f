-- The operators of 6.5.3 to 6.5.14: the node that each makes of its operands, or that a constraint forbids it.
use Rattle.std.specs.Prelude.{ℕ, Bool, true, false, not, ◌&&◌, ◌||◌, if◌then◌else◌, Option, Some, None}
use Rattle.c_types.specs.declared.kind.IntKind.{IntKind}
use Rattle.c_types.specs.declared.kind.IntKind.TheVariants.{Int, Long}
use Rattle.c_types.specs.declared.kind.BinOp.{BinOp}
use Rattle.c_types.specs.declared.kind.BinOp.TheVariants.{Add, Sub}
use Rattle.c_types.specs.Layout.{extent}
use Rattle.c_types.specs.Types.{int, Qualified, kind_of}
use Rattle.c_typed.specs.declared.tree.RelOp.{RelOp}
use Rattle.c_typed.specs.declared.tree.EqOp.{EqOp}
use Rattle.c_typed.specs.declared.tree.UnOp.{UnOp}
use Rattle.c_typed.specs.declared.tree.UnOp.TheVariants as unary_op
use Rattle.c_typed.specs.declared.tree.Node.TheOpen as shape
use Rattle.c_typed.specs.declared.tree.Node.TheOpen.{Node-F}
use Rattle.type_operands.specs.Layouts.{Layouts}
use Rattle.type_operands.specs.declared.operand.Form.{Form}
use Rattle.type_operands.specs.declared.operand.Form.TheVariants as form
use Rattle.c_types.specs.Same.{compatible}
use Rattle.type_operands.specs.Terms.{Term, type_at, unary, binary, Expression, as_value, as_place, ◌>>=◌, unless_refused}
use Rattle.type_operands.specs.Conversions.{target_of, is_function, is_pointer, may_meet, value, promoted, Balanced}
use Rattle.type_operands.specs.Conversions.{balanced, step}
use Rattle.type_conversions.specs.Casts.{truth}
use Rattle.type_conversions.specs.Pairs.{matched}

-- 1. Integers.

-- an operator on two integers: both in their common type, which is that of the result (6.5.5p3, 6.5.6p4, 6.5.10p3)
abbrev pub in_common : BinOp → ℕ → Balanced → Expression
in_common op line p = as_value (binary (shape.Bin op p.kind) (int p.kind) line p.left p.right)

unfoldable pub arithmetic : BinOp → Term → Term → ℕ → Option Expression
arithmetic op a b line = balanced a b >>= λ p. Some (in_common op line p)

-- `* / %` and `& ^ |` (6.5.5, 6.5.10 to 6.5.12)
unfoldable pub multiplied : Layouts → BinOp → Expression → Expression → ℕ → Option Expression
multiplied tags op a b line = do
  x ← value tags a
  y ← value tags b
  arithmetic op x y line

-- `<<` and `>>`: the integer promotions are made on each operand, and the result has the type of the promoted left one
-- (6.5.7p3)
unfoldable pub shifted : Layouts → BinOp → Expression → Expression → ℕ → Option Expression
shifted tags op a b line = do
  x ← value tags a
  left ← promoted x
  y ← value tags b
  right ← promoted y
  Some (as_value (binary (shape.Bin op left.kind) (int left.kind) line left.term right.term))

-- `+`: the promoted value (6.5.3.3p2)
unfoldable pub plus : Layouts → Expression → Option Expression
plus tags a = do
  x ← value tags a
  own ← promoted x
  Some (as_value own.term)

-- `-` and `~`: of the promoted value, in its type (6.5.3.3p3, 6.5.3.3p4)
unfoldable pub of_promoted : (IntKind → UnOp) → Layouts → Expression → ℕ → Option Expression
of_promoted op tags a line = do
  x ← value tags a
  own ← promoted x
  Some (as_value (unary (shape.Un (op own.kind)) (int own.kind) line own.term))

abbrev pub negated : Layouts → Expression → ℕ → Option Expression
negated = of_promoted unary_op.Minus

abbrev pub complemented : Layouts → Expression → ℕ → Option Expression
complemented = of_promoted unary_op.Complement

-- `!`, of any scalar (6.5.3.3p5)
unfoldable pub inverted : Layouts → Expression → ℕ → Option Expression
inverted tags a line = truth tags a >>= λ x. Some (as_value (unary (shape.Un unary_op.Not) (int Int) line x))

-- 2. Pointers.

-- a pointer moved by an integer keeps its type (6.5.6p8)
unfoldable pub moved : Layouts → Bool → Term → Term → ℕ → Option Term
moved tags subtract base index line = do
  size ← step tags (type_at base)
  kind ← kind_of (type_at index)
  Some (binary (shape.PtrAdd size subtract) (type_at base) line base index)

abbrev pub moved_value : Layouts → Bool → Term → Term → ℕ → Option Expression
moved_value tags subtract base index line = moved tags subtract base index line >>= λ t. Some (as_value t)

-- the operands stay in their order where they are integers; the pointer comes first where one is
abbrev pub sum : Layouts → Term → Term → ℕ → Option Expression
sum tags x y line =
    if is_pointer (type_at x) then moved_value tags false x y line
    else if is_pointer (type_at y) then moved_value tags false y x line
    else arithmetic Add x y line

-- `+`: of two integers, or of a pointer and an integer in either order (6.5.6p2)
unfoldable pub added : Layouts → Expression → Expression → ℕ → Option Expression
added tags a b line = do
  x ← value tags a
  y ← value tags b
  sum tags x y line

-- two pointers to compatible types that are complete (6.5.6p3, 6.5.6p9)
unfoldable pub difference : Layouts → Term → Term → ℕ → Option Expression
difference tags x y line = do
  s ← target_of (type_at x)
  t ← target_of (type_at y)
  one_type ← unless_refused (compatible s.ty t.ty) s.ty
  e ← extent tags.extents one_type
  f ← extent tags.extents t.ty
  Some (as_value (binary (shape.PtrDiff e.size) (int Long) line x y))

abbrev pub less : Layouts → Term → Term → ℕ → Option Expression
less tags x y line =
    if is_pointer (type_at x) then (if is_pointer (type_at y) then difference tags x y line else moved_value tags true x y line)
    else arithmetic Sub x y line

-- `-`: of two integers, of a pointer and an integer, or of two pointers (6.5.6p3)
unfoldable pub subtracted : Layouts → Expression → Expression → ℕ → Option Expression
subtracted tags a b line = do
  x ← value tags a
  y ← value tags b
  less tags x y line

abbrev pub element : Layouts → Term → Term → ℕ → Option Term
element tags x y line =
    if is_pointer (type_at x) then moved tags false x y line else moved tags false y x line

-- `a[b]`: what `a + b` points to, whichever is the pointer (6.5.2.1p2)
unfoldable pub indexed : Layouts → Expression → Expression → ℕ → Option Expression
indexed tags a b line = do
  x ← value tags a
  y ← value tags b
  t ← element tags x y line
  Some (as_place false t)

-- pointers to compatible object types (6.5.8p2)
abbrev pub are_comparable : Qualified → Qualified → Bool
are_comparable s t = not (is_function s.ty) && compatible s.ty t.ty

-- whether pointers are compared, or integers
abbrev pub compares : Option Qualified → Option Qualified → Option Bool
compares (Some s) (Some t) = unless_refused (are_comparable s t) true
compares None None = Some false
compares _ _ = None

abbrev pub alike : Bool → Term → Term → Option (Term × Term)
alike true x y = Some (x, y)
alike false x y = balanced x y >>= λ p. Some (p.left, p.right)

-- `< > <= >=`: two integers, or two pointers to compatible object types; the result is an `int` (6.5.8p2, 6.5.8p6)
unfoldable pub compared : Layouts → RelOp → Expression → Expression → ℕ → Option Expression
compared tags op a b line = do
  x ← value tags a
  y ← value tags b
  pointers ← compares (target_of (type_at x)) (target_of (type_at y))
  p ← alike pointers x y
  Some (as_value (binary (shape.Rel op pointers) (int Int) line p.0 p.1))

abbrev pub either_or_both : Bool → Node-F (Unit {0}) (Unit {0})
either_or_both either = if either then shape.Or else shape.And

-- `&&` and `||`: of two scalars; the result is an `int` (6.5.13p2, 6.5.13p3, 6.5.14p2, 6.5.14p3)
unfoldable pub joined : Layouts → Bool → Expression → Expression → ℕ → Option Expression
joined tags either a b line = do
  x ← truth tags a
  y ← truth tags b
  Some (as_value (binary (either_or_both either) (int Int) line x y))

-- 3. `&` and `*`.

abbrev pub address_as : Form → Term → Option Expression
address_as form.Designator t = Some (as_value t)
address_as (form.Place register) t = unless_refused (not register) (as_value t)
address_as _ t = None

-- `&`: of a function, or of an lvalue that isn't declared `register`; no node is added (6.5.3.2p1, 6.5.3.2p3)
abbrev pub addressed : Expression → Option Expression
addressed a = address_as a.form a.tree

abbrev pub pointed_form : Qualified → Form
pointed_form target = if is_function target.ty then form.Designator else form.Place false

-- `*`: the object or function that a pointer points to; no node is added (6.5.3.2p2, 6.5.3.2p4)
unfoldable pub dereferenced : Layouts → Expression → ℕ → Option Expression
dereferenced tags a line = do
  x ← value tags a
  target ← target_of (type_at x)
  Some (record { tree = x; form = pointed_form target; line = line })

-- 4. `==` and `!=`.

-- pointers to compatible types, or one to `void` and one to an object type (6.5.9p2)
abbrev pub met : Option Qualified → Option Qualified → Term × Term → Option (Term × Term)
met (Some s) (Some t) p = unless_refused (may_meet s.ty t.ty) p
met _ _ p = None

abbrev pub met_pointers : Term × Term → Option (Term × Term)
met_pointers p = met (target_of (type_at p.0)) (target_of (type_at p.1)) p

abbrev pub equal_operands : Form → Term → Form → Term → Option (Term × Term)
equal_operands f x g y =
    if is_pointer (type_at x) || is_pointer (type_at y) then met_pointers (matched f x g y)
    else alike false x y

-- `==` and `!=`: two integers, two pointers, or a pointer and a null pointer constant; the result is an `int` (6.5.9p2,
-- 6.5.9p3)
unfoldable pub equated : Layouts → EqOp → Expression → Expression → ℕ → Option Expression
equated tags op a b line = do
  x ← value tags a
  y ← value tags b
  p ← equal_operands a.form x b.form y
  Some (as_value (binary (shape.Eq op) (int Int) line p.0 p.1))
