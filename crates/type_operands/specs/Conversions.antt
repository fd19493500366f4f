-- Conversions (6.3): of lvalues, arrays and functions to values, of integers, of pointers, and to no value.
use Rattle.std.specs.Prelude.{ℕ, Bool, true, false, not, if◌then◌else◌, Option, Some, None}
use Rattle.std.specs.Borrow.{Bor}
use Rattle.c_types.specs.declared.kind.IntKind.{IntKind}
use Rattle.c_types.specs.declared.kind.IntKind.TheVariants.{Bool as Boolean, Int}
use Rattle.c_types.specs.declared.tags.Extent.{Extent}
use Rattle.c_types.specs.Kinds as kinds
use Rattle.c_types.specs.Layout.{extent, align_in}
use Rattle.c_types.specs.declared.ty.Qual.{Qual}
use Rattle.c_types.specs.Types.{CType, void, int, enumeration, pointer, array, struct, union, function, Qualified, type_of, qualified_of, kind_of}
use Rattle.c_typed.specs.declared.tree.Access.{Access}
use Rattle.c_typed.specs.declared.tree.Access.TheVariants as access
use Rattle.c_typed.specs.declared.tree.Conversion.{Conversion}
use Rattle.c_typed.specs.declared.tree.Conversion.TheVariants as conversion
use Rattle.c_typed.specs.declared.tree.Node.TheOpen as shape
use Rattle.type_operands.specs.Layouts.{Layouts}
use Rattle.type_operands.specs.declared.operand.Form.{Form}
use Rattle.type_operands.specs.declared.operand.Form.TheVariants as form
use Rattle.type_operands.specs.declared.operand.Used.{Used}
use Rattle.type_operands.specs.declared.operand.Used.TheVariants as use_of
use Rattle.c_types.specs.Same.{same, compatible}
use Rattle.c_typed.specs.declared.tree.Typed.{Typed}
use Rattle.c_typed.specs.Sites.{Head}
use Rattle.type_operands.specs.Terms.{Term, Seen, term, term_of, type_at, line_at, retyped, over, unary, Expression, ◌>>=◌, unless_refused}

-- what a reference to a type with its qualifier shows
abbrev pub target_seen : Option (Bor Qual) → Option Qualified
target_seen None = None
target_seen (Some q) = Some (qualified_of q.now)

-- what a pointer points to
abbrev pub target_of : CType → Option Qualified
target_of (pointer constant target) = Some (record { constant = constant; ty = target })
target_of _ = None

abbrev pub is_function : CType → Bool
is_function (function result params variadic) = true
is_function _ = false

abbrev pub is_pointer : CType → Bool
is_pointer (pointer constant target) = true
is_pointer _ = false

abbrev pub is_void : CType → Bool
is_void void = true
is_void _ = false

-- integer and pointer types (6.2.5p21)
abbrev pub is_scalar : CType → Bool
is_scalar (int kind) = true
is_scalar (enumeration tag) = true
is_scalar (pointer constant target) = true
is_scalar _ = false

-- 1. Values (6.3.2.1).

abbrev pub pointer_access : CType → Access
pointer_access (function result params variadic) = access.Function
pointer_access _ = access.Pointer

abbrev pub whole : Option Extent → Option Access
whole None = None
whole (Some e) = Some (access.Whole e.size e.align)

-- how a value of the type lies in memory; none of an incomplete type, `void`, an array or a function
abbrev pub access_of : Layouts → CType → Option Access
access_of tags (int kind) = Some (access.Integer kind)
access_of tags (enumeration tag) = Some (access.Integer Int)
access_of tags (pointer constant target) = Some (pointer_access target)
access_of tags (struct tag) = whole (extent tags.extents (struct tag))
access_of tags (union tag) = whole (extent tags.extents (union tag))
access_of tags _ = None

-- what an lvalue becomes: it is loaded, or it is an array and gives a pointer to its first element (6.3.2.1p2, 6.3.2.1p3)
pub data Use : Type 0 where
  loads : Access → CType → Use
  decays : CType → Use

abbrev pub use_seen : Used → Use
use_seen (use_of.Loaded access ty) = loads access (type_of ty)
use_seen (use_of.Decayed ty) = decays (type_of ty)

abbrev pub loaded : CType → Option Access → Option Use
loaded object None = None
loaded object (Some a) = Some (loads a object)

abbrev pub use_at : Layouts → CType → Option Use
use_at tags (array constant element count) = Some (decays (pointer constant element))
use_at tags object = loaded object (access_of tags object)

abbrev pub use_behind : Layouts → CType → Option Use
use_behind tags (pointer constant object) = use_at tags object
use_behind tags _ = None

abbrev pub put_to_use : Term → ℕ → Use → Term
put_to_use place line (loads a object) = unary (shape.Load a) object line place
put_to_use place line (decays ty) = retyped ty place

abbrev pub value_as : Layouts → Form → Term → ℕ → Option Term
value_as tags (form.Place register) t line = use_behind tags (type_at t) >>= λ use_made. Some (put_to_use t line use_made)
value_as tags form.Void t line = None
value_as tags _ t line = Some t

-- the value of an operand (6.3.2.1p2 to 6.3.2.1p4)
unfoldable pub value : Layouts → Expression → Option Term
value tags e = value_as tags e.form e.tree e.line

-- 2. Integers (6.3.1).

-- no conversion stands between equal types
abbrev pub as_kind : IntKind → Term → Term
as_kind kind t = if same (type_at t) (int kind) then t else over (shape.Conv (conversion.Integer kind)) (int kind) t

-- an integer, in this kind
unfoldable pub to_kind : IntKind → Term → Option Term
to_kind kind t = kind_of (type_at t) >>= λ own. Some (as_kind kind t)

-- a value with its integer kind
pub record Integer : Type 0 where
  pub term : Term
  pub kind : IntKind

abbrev pub integer_of : Typed × IntKind → Integer
integer_of p = record { term = term_of p.0; kind = p.1 }

abbrev pub in_kind : IntKind → Term → Integer
in_kind kind t = record { term = as_kind kind t; kind = kind }

-- the integer promotions (6.3.1.1p2)
unfoldable pub promoted : Term → Option Integer
promoted t = kind_of (type_at t) >>= λ own. Some (in_kind (kinds.promoted own) t)

-- two values in their common type
pub record Balanced : Type 0 where
  pub left : Term
  pub right : Term
  pub kind : IntKind

abbrev pub usual : IntKind → IntKind → IntKind
usual j k = kinds.common (kinds.promoted j) (kinds.promoted k)

-- the usual arithmetic conversions (6.3.1.8p1)
unfoldable pub usual_kind : CType → CType → Option IntKind
usual_kind a b = do
  j ← kind_of a
  k ← kind_of b
  Some (usual j k)

unfoldable pub balanced : Term → Term → Option Balanced
balanced a b = do
  kind ← usual_kind (type_at a) (type_at b)
  left ← to_kind kind a
  right ← to_kind kind b
  Some (record { left = left; right = right; kind = kind })

-- 3. Pointers (6.3.2.3).

-- the conversion between pointers; none between one to a function and one to an object
abbrev pub pointer_conversion : Layouts → CType → CType → Option Conversion
pointer_conversion tags from to =
    if is_function from then unless_refused (is_function to) conversion.Function
    else unless_refused (not (is_function to)) (conversion.Pointer (align_in (extent tags.extents to)))

abbrev pub number_conversion : IntKind → Conversion
number_conversion Boolean = conversion.NotNull
number_conversion kind = conversion.Address kind

-- a pointer to an integer; to `_Bool`, whether it is null (6.3.1.2, 6.3.2.3p6)
abbrev pub address_conversion : CType → IntKind → Option Conversion
address_conversion from kind = unless_refused (not (is_function from)) (number_conversion kind)

-- an integer to a pointer (6.3.2.3p5)
abbrev pub lookup_conversion : CType → Option Conversion
lookup_conversion to = unless_refused (not (is_function to)) conversion.Lookup

abbrev pub between : Layouts → CType → CType → Option Qualified → Option Qualified → Option Conversion
between tags from to (Some p) (Some q) = pointer_conversion tags p.ty q.ty
between tags from to (Some p) None = kind_of to >>= λ kind. address_conversion p.ty kind
between tags from to None (Some q) = kind_of from >>= λ own. lookup_conversion q.ty
between tags from to None None = kind_of from >>= λ own. kind_of to >>= λ kind. Some (conversion.Integer kind)

-- the conversion from one scalar type to another (6.3.1, 6.3.2.3)
unfoldable pub conversion_to : Layouts → CType → CType → Option Conversion
conversion_to tags from to = between tags from to (target_of from) (target_of to)

-- the value in another scalar type: no conversion stands between equal types
unfoldable pub converted_on : Layouts → ℕ → CType → Term → Option Term
converted_on tags line to t =
    if same (type_at t) to then Some t
    else conversion_to tags (type_at t) to >>= λ c. Some (unary (shape.Conv c) to line t)

abbrev pub converted : Layouts → CType → Term → Option Term
converted tags to t = converted_on tags (line_at t) to t

-- two pointers to compatible types, or one to `void` and one to an object type (6.5.9p2, 6.5.15p3, 6.5.16.1p1)
abbrev pub may_meet : CType → CType → Bool
may_meet a b =
    if is_void a then not (is_function b)
    else if is_void b then not (is_function a)
    else compatible a b

-- the bytes of the elements that a pointer steps over, of a complete type (6.5.6p2)
unfoldable pub step : Layouts → CType → Option ℕ
step tags ty = do
  target ← target_of ty
  e ← extent tags.extents target.ty
  Some e.size

-- 4. Values that aren't used, and void expressions (6.3.2.2, 6.8.3p2).

-- the result of a call that is discarded
abbrev pub unused : Head → Head
unused (shape.Call discarded) = shape.Call true
unused head = head

abbrev pub unused_node : Seen → Seen
unused_node n = record n { head = unused n.head }

abbrev pub without_use : Term → Term
without_use (term head own ty line operands) = term (unused head) own ty line operands

abbrev pub is_void_target : Option Qualified → Bool
is_void_target None = false
is_void_target (Some object) = is_void object.ty

abbrev pub discarded_value : Layouts → Form → Term → ℕ → Option Term
discarded_value tags form t line = value_as tags form t line >>= λ x. Some (without_use x)

abbrev pub discarded_as : Layouts → Form → Term → ℕ → Option Term
discarded_as tags (form.Place register) t line =
    if is_void_target (target_of (type_at t)) then Some t else discarded_value tags (form.Place register) t line
discarded_as tags form.Void t line = Some t
discarded_as tags form t line = discarded_value tags form t line

-- an expression whose value isn't used: an object is read all the same (own), one of type `void` isn't
unfoldable pub discarded : Layouts → Expression → Option Term
discarded tags e = discarded_as tags e.form e.tree e.line

abbrev pub void_as : Form → Term → Bool
void_as form.Void t = true
void_as form.Value t = is_void (type_at t)
void_as (form.Place register) t = is_void_target (target_of (type_at t))
void_as _ t = false

-- a void expression, which has no value (6.3.2.2)
abbrev pub is_void_expression : Expression → Bool
is_void_expression e = void_as e.form e.tree
