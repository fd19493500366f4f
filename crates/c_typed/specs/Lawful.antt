-- Which programs are lawful: what all that runs may rely on (5.1.2.2.1, 6.2 to 6.9; the parts that say so are own).
use Rattle.std.specs.Prelude.{
  ◌≡◌,
  ◌≢◌,
  ℕ,
  ◌+◌,
  ◌*◌,
  ◌%◌,
  ◌^◌,
  ◌<◌,
  ◌≤◌,
  ℤ,
  pos,
  Bool,
  true,
  false,
  ◌⊎◌,
  IsTrue,
  IsSome,
  List,
  [],
  ◌∷◌,
  ◌++◌,
  map,
  length,
  slice_get,
  Option,
  Some,
  None,
  if◌then◌else◌,
  nat_le,
  ◌==◌,
}
use Rattle.std.specs.List.{All, AllPairs, Contains, sum}
use Rattle.c_types.specs.Kinds.{holds, promoted, common}
use Rattle.c_types.specs.Types.{
  CType,
  void,
  int,
  enumeration,
  pointer,
  array,
  struct,
  union,
  function,
  Params,
  none,
  more,
  Qualified,
  Signature,
  type_of,
  qualified_of,
  signature_of,
  kind_of,
  Compatible,
  SameSignature,
}
use Rattle.c_types.specs.Layout.{extent, extents, size_of, align_of}
use Rattle.c_types.specs.Leaves.{Scalar, scalars}
use Rattle.c_types.specs.declared.kind.IntKind.{IntKind}
use Rattle.c_types.specs.declared.kind.IntKind.TheVariants.{Bool as Boolean, Char, Int, Long, ULong}
use Rattle.c_types.specs.declared.kind.BinOp.{BinOp}
use Rattle.c_types.specs.declared.kind.BinOp.TheVariants.{Add, Sub, Shl, Shr}
use Rattle.c_types.specs.declared.library.LibFunc.{LibFunc}
use Rattle.c_types.specs.declared.library.LibFunc.TheVariants as libc
use Rattle.c_types.specs.declared.tags.Extent.{Extent}
use Rattle.c_types.specs.declared.tags.Tag.{Tag}
use Rattle.c_types.specs.declared.tags.Member.{Member}
use Rattle.c_typed.specs.declared.tree.Slot.{Slot}
use Rattle.c_typed.specs.declared.tree.Slot.TheVariants as slot
use Rattle.c_typed.specs.declared.tree.Target.{Target}
use Rattle.c_typed.specs.declared.tree.Target.TheVariants as target
use Rattle.c_typed.specs.declared.tree.Access.{Access}
use Rattle.c_typed.specs.declared.tree.Access.TheVariants as access
use Rattle.c_typed.specs.declared.tree.Conversion.{Conversion}
use Rattle.c_typed.specs.declared.tree.Conversion.TheVariants as conversion
use Rattle.c_typed.specs.declared.tree.UnOp.{UnOp}
use Rattle.c_typed.specs.declared.tree.UnOp.TheVariants as unary
use Rattle.c_typed.specs.declared.tree.Change.{Change}
use Rattle.c_typed.specs.declared.tree.Change.TheVariants as change
use Rattle.c_typed.specs.declared.tree.Node.{Node, out-Node}
use Rattle.c_typed.specs.declared.tree.Node.TheOpen as shape
use Rattle.c_typed.specs.declared.tree.Node.TheOpen.{Node-F}
use Rattle.c_typed.specs.declared.tree.Typed.{Typed, out-Typed}
use Rattle.c_typed.specs.declared.statement.Body.{Body}
use Rattle.c_typed.specs.declared.statement.Body.TheVariants as body
use Rattle.c_typed.specs.declared.program.Content.{Content}
use Rattle.c_typed.specs.declared.program.Content.TheVariants as content
use Rattle.c_typed.specs.declared.program.Constant.{Constant}
use Rattle.c_typed.specs.declared.program.Static.{Static}
use Rattle.c_typed.specs.declared.program.Function.{Function}
use Rattle.c_typed.specs.declared.program.Program.{Program}
use Rattle.c_typed.specs.Height.{function_height}
use Rattle.c_typed.specs.Sites.{
  Head,
  Site,
  sites,
  type_at,
  Use,
  unused,
  tested,
  selects,
  returned,
  initializes,
  Blocks,
  Expression,
  expressions,
  BlockRow,
  SwitchRow,
  Summary,
  summary,
}

-- what holds of each value that may be left out, where it is there
abbrev pub Where : {A : Type 0} → (A → Type 0) → Option A → Type 0
Where P None = Unit {0}
Where P (Some x) = P x

-- it is there, and this holds of it
abbrev pub There : {A : Type 0} → Option A → (A → Type 0) → Type 0
There None P = ⊥
There (Some x) P = P x

abbrev pub object_of_static : Option Static → Option Qualified
object_of_static None = None
object_of_static (Some s) = Some (qualified_of s.qual)

abbrev pub object_of_block : Option (List Qualified) → ℕ → Option Qualified
object_of_block None decl = None
object_of_block (Some objects) decl = slice_get objects decl

-- an object that the text names: with static storage, or of a block round the place (6.2.1, 6.2.4)
abbrev pub object_at : Program → Blocks → Slot → Option Qualified
object_at p blocks (slot.Static number) = object_of_static (slice_get p.statics number)
object_at p blocks (slot.Auto block decl) = object_of_block (blocks.objects block) decl

-- 1. What a node names is there.

abbrev pub HasBody : Function → Type 0
HasBody f = IsSome f.body

-- a function that something names is defined, or the library's (6.9p3, 6.9p5)
abbrev pub CanBeCalled : Function → Type 0
CanBeCalled f = HasBody f ⊎ IsSome f.library

abbrev pub NamesThere : Program → Blocks → Head → Type 0
NamesThere p blocks (shape.Obj slot) = IsSome (object_at p blocks slot)
NamesThere p blocks (shape.Func number) = There (slice_get p.functions number) CanBeCalled
NamesThere p blocks (shape.Str number) = number < length p.literals
NamesThere p blocks (shape.List slot bytes) = IsSome (object_at p blocks slot)
NamesThere p blocks _ = Unit {0}

-- 2. The number of operands that each kind of node has.

abbrev pub CountIs : Head → ℕ → Type 0
CountIs (shape.Const z) n = n ≡ 0
CountIs (shape.Obj slot) n = n ≡ 0
CountIs (shape.Func number) n = n ≡ 0
CountIs (shape.Str number) n = n ≡ 0
CountIs (shape.Load access) n = n ≡ 1
CountIs (shape.Conv c) n = n ≡ 1
CountIs (shape.Un op) n = n ≡ 1
CountIs (shape.Bin op kind) n = n ≡ 2
CountIs (shape.PtrAdd size subtract) n = n ≡ 2
CountIs (shape.PtrDiff size) n = n ≡ 2
CountIs (shape.Rel op pointers) n = n ≡ 2
CountIs (shape.Eq op) n = n ≡ 2
CountIs (shape.Member offset) n = n ≡ 1
CountIs (shape.Part offset access) n = n ≡ 1
CountIs (shape.Assign initializing access) n = n ≡ 2
-- `++` and `--` behind their operand have no second one
CountIs (shape.Update change old) n = n ≡ (if old then 1 else 2)
CountIs shape.And n = n ≡ 2
CountIs shape.Or n = n ≡ 2
CountIs shape.Cond n = n ≡ 3
CountIs shape.Comma n = 2 ≤ n
-- the designator stands before the arguments
CountIs (shape.Call discarded) n = 1 ≤ n
-- one for each listed expression
CountIs (shape.List slot bytes) n = Unit {0}
CountIs (shape.Isolated tree) n = n ≡ 0

-- 3. The types of a node's value and of its operands (6.3, 6.5), and the values that it holds.

-- a type whose values have bytes: complete, with 1 to 2^40 of them (own; no extent has more)
abbrev pub IsSized : List Tag → CType → Type 0
IsSized tags t = There (extent (extents tags) t) (λ e. 0 < e.size)

abbrev pub IsScalar : CType → Type 0
IsScalar (int kind) = Unit {0}
IsScalar (enumeration tag) = Unit {0}
IsScalar (pointer constant target) = Unit {0}
IsScalar _ = ⊥

abbrev pub IsInteger : CType → Type 0
IsInteger t = IsSome (kind_of t)

-- how a value of the type lies in memory
abbrev pub AccessIs : List Tag → CType → Access → Type 0
AccessIs tags (int kind) a = a ≡ access.Integer kind
AccessIs tags (enumeration tag) a = a ≡ access.Integer Int
AccessIs tags (pointer c (function r ps v)) a = a ≡ access.Function
AccessIs tags (pointer c target) a = a ≡ access.Pointer
AccessIs tags (struct tag) a = There (extent (extents tags) (struct tag)) (λ e. (0 < e.size) × (a ≡ access.Whole e.size e.align))
AccessIs tags (union tag) a = There (extent (extents tags) (union tag)) (λ e. (0 < e.size) × (a ≡ access.Whole e.size e.align))
AccessIs tags _ a = ⊥

-- this type, with its qualifier, is that of the object, or, where that is an array, of its first element, and so on
abbrev pub PointsInto : Bool → CType → Bool → CType → Type 0
PointsInto c t d (array q element count) = ((c ≡ d) × Compatible t (array q element count)) ⊎ PointsInto c t q element
PointsInto c t d object = (c ≡ d) × Compatible t object

-- a pointer to an object of this type, or to the first element of one that is an array (6.3.2.1p3)
abbrev pub PointsTo : CType → CType → Type 0
PointsTo (pointer c t) (array d element count) = Compatible t (array d element count) ⊎ PointsInto c t d element
PointsTo (pointer c t) object = Compatible t object
PointsTo _ object = ⊥

-- a pointer to an object of this type, or, where it is an array, to its first element, and so on (6.3.2.1p3)
abbrev pub FirstOf : CType → Bool → CType → Type 0
FirstOf own c (array q t count) = (own ≡ pointer c (array q t count)) ⊎ FirstOf own q t
FirstOf own c t = own ≡ pointer c t

-- a value of the other type; where that is a pointer whose array is used, it is a pointer to the first element
abbrev pub Gives : CType → CType → Type 0
Gives own (pointer c t) = FirstOf own c t
Gives own t = own ≡ t

abbrev pub IsPointer : CType → Type 0
IsPointer (pointer c t) = Unit {0}
IsPointer _ = ⊥

-- an integer that its type holds, or a null pointer (6.3.2.3p3)
abbrev pub IsConstant : CType → ℤ → Type 0
IsConstant (int kind) z = IsTrue (holds kind z)
IsConstant (enumeration tag) z = IsTrue (holds Int z)
IsConstant (pointer c t) z = z ≡ pos 0
IsConstant _ z = ⊥

-- the elements that a pointer steps over have so many bytes (6.5.6p8)
abbrev pub StepsOver : List Tag → CType → ℕ → Type 0
StepsOver tags (pointer c t) size = There (extent (extents tags) t) (λ e. (0 < e.size) × (e.size ≡ size))
StepsOver tags _ size = ⊥

-- a part of these many bytes at the offset lies in the other
abbrev pub LiesIn : List Tag → ℕ → CType → CType → Type 0
LiesIn tags offset part whole = IsSized tags part × (offset + size_of tags part ≤ size_of tags whole)

abbrev pub IsTagged : CType → Type 0
IsTagged (struct tag) = Unit {0}
IsTagged (union tag) = Unit {0}
IsTagged _ = ⊥

-- a member of what the pointer points to: it lies in it, and what the value points to is that part, or its first element
abbrev pub MemberOf : List Tag → ℕ → CType → CType → Type 0
MemberOf tags offset (pointer c part) (pointer d whole) = LiesIn tags offset part whole
MemberOf tags offset _ _ = ⊥

abbrev pub IsFunctionType : CType → Type 0
IsFunctionType (function r ps v) = Unit {0}
IsFunctionType _ = ⊥

abbrev pub NoFunction : CType → Type 0
NoFunction t = IsFunctionType t → ⊥

-- a type that may have been completed only behind the place where the text names it
abbrev pub EndsInTag : CType → Type 0
EndsInTag (struct tag) = Unit {0}
EndsInTag (union tag) = Unit {0}
EndsInTag (array c t count) = EndsInTag t
EndsInTag _ = ⊥

-- what a pointer to the type is aligned to (6.3.2.3p7): to 1 where the type isn't complete, or wasn't yet (own)
abbrev pub AlignsTo : List Tag → CType → ℕ → Type 0
AlignsTo tags t align = (align ≡ align_of tags t) ⊎ ((align ≡ 1) × EndsInTag t)

-- a conversion between scalar types, which aren't equal but where the array that a pointer is converted to is used
-- (6.3.1, 6.3.2.3)
abbrev pub Converts : List Tag → Conversion → CType → CType → Type 0
Converts tags (conversion.Integer kind) from to = IsInteger from × (kind_of to ≡ Some kind)
Converts tags (conversion.Address kind) (pointer c t) to = NoFunction t × (kind_of to ≡ Some kind) × (kind ≢ Boolean)
Converts tags conversion.NotNull (pointer c t) to = NoFunction t × (to ≡ int Boolean)
Converts tags conversion.Lookup from (pointer c t) = IsInteger from × NoFunction t
Converts tags (conversion.Pointer align) (pointer c s) (pointer d t) = NoFunction s × NoFunction t × AlignsTo tags t align
Converts tags conversion.Function (pointer c s) (pointer d t) = IsFunctionType s × IsFunctionType t
Converts tags _ from to = ⊥

abbrev pub is_shift : BinOp → Bool
is_shift Shl = true
is_shift Shr = true
is_shift _ = false

-- no operand that is worked with has a type below `int` (6.3.1.1p2)
abbrev pub IsPromoted : IntKind → Type 0
IsPromoted kind = promoted kind ≡ kind

-- an integer type that the promotions leave as it is
abbrev pub IsPromotedType : CType → Type 0
IsPromotedType (int kind) = IsPromoted kind
IsPromotedType _ = ⊥

-- of a shift the right operand keeps its own promoted type (6.5.7p3)
abbrev pub RightIs : (shift : Bool) → IntKind → CType → Type 0
RightIs true kind right = IsPromotedType right
RightIs false kind right = right ≡ int kind

abbrev pub UnaryTypes : UnOp → CType → CType → Type 0
UnaryTypes (unary.Minus kind) own t = IsPromoted kind × (t ≡ int kind) × (own ≡ int kind)
UnaryTypes (unary.Complement kind) own t = IsPromoted kind × (t ≡ int kind) × (own ≡ int kind)
UnaryTypes unary.Not own t = IsScalar t × (own ≡ int Int)

-- two pointers to compatible object types (6.5.6p3, 6.5.8p2)
abbrev pub Ordered : CType → CType → Type 0
Ordered (pointer c s) (pointer d t) = NoFunction s × Compatible s t
Ordered _ _ = ⊥

-- two pointers to compatible types, or one to an object and one to `void` (6.5.9p2)
abbrev pub Comparable : CType → CType → Type 0
Comparable (pointer c s) (pointer d t) = Compatible s t ⊎ (((s ≡ void) × NoFunction t) ⊎ ((t ≡ void) × NoFunction s))
Comparable _ _ = ⊥

abbrev pub OneKind : CType → CType → Type 0
OneKind a b = (a ≡ b) × IsInteger a

abbrev pub Related : (pointers : Bool) → CType → CType → Type 0
Related true a b = Ordered a b
Related false a b = OneKind a b

abbrev pub IsStep : BinOp → Type 0
IsStep Add = Unit {0}
IsStep Sub = Unit {0}
IsStep _ = ⊥

-- the kind in which an object of the first kind is worked on: of a shift its own promoted kind, otherwise its common kind with
-- a right operand that has been converted to that (6.5.7p3, 6.3.1.8p1)
abbrev pub WorksIn : (shift : Bool) → IntKind → IntKind → Type 0
WorksIn true kind work = work ≡ promoted kind
WorksIn false kind work = common (promoted kind) (promoted work) ≡ work

-- the operands of an update behind its place, whose type this is (6.5.2.4, 6.5.3.1, 6.5.16.2)
abbrev pub UpdateTypes : List Tag → Change → CType → List CType → Type 0
UpdateTypes tags (change.Integer op kind work) t [] = (kind_of t ≡ Some kind) × IsStep op × (work ≡ promoted kind)
UpdateTypes tags (change.Integer op kind work) t (right ∷ []) =
    (kind_of t ≡ Some kind) × WorksIn (is_shift op) kind work × RightIs (is_shift op) work right
UpdateTypes tags (change.Pointer size subtract) t [] = StepsOver tags t size
UpdateTypes tags (change.Pointer size subtract) t (index ∷ []) = StepsOver tags t size × IsInteger index
UpdateTypes tags _ t _ = ⊥

-- an argument behind an ellipsis, after the default argument promotions: a promoted integer, a pointer, a structure or union
-- (6.5.2.2p6, 6.5.2.2p7)
abbrev pub IsArgument : List Tag → CType → Type 0
IsArgument tags (int kind) = IsPromoted kind
IsArgument tags (pointer c t) = Unit {0}
IsArgument tags (struct tag) = IsSized tags (struct tag)
IsArgument tags (union tag) = IsSized tags (union tag)
IsArgument tags _ = ⊥

-- the arguments have the types of the parameters (6.5.2.2p4)
abbrev pub Passed : List Tag → Params → Bool → List CType → Type 0
Passed tags none variadic [] = Unit {0}
Passed tags none variadic (a ∷ arguments) = IsTrue variadic × IsArgument tags a × Passed tags none variadic arguments
Passed tags (more c param ps) variadic [] = ⊥
Passed tags (more c param ps) variadic (a ∷ arguments) = (a ≡ param) × Passed tags ps variadic arguments

-- what a call gives: nothing, or a value of a complete type (6.5.2.2p1)
abbrev pub IsResult : List Tag → CType → Type 0
IsResult tags void = Unit {0}
IsResult tags (array c t count) = ⊥
IsResult tags (function r ps v) = ⊥
IsResult tags t = IsSized tags t

abbrev pub CallTypes : List Tag → CType → CType → List CType → Type 0
CallTypes tags own (pointer c (function result params variadic)) arguments =
    Gives own result × IsResult tags result × Passed tags params variadic arguments
CallTypes tags own _ arguments = ⊥

-- an operand whose value is that of the whole gives what the whole gives: a branch of `?:`, the last operand of a comma. Where
-- that is `void` it may have any type, since a cast to `void` adds no node (6.5.15p5, 6.5.17p2)
abbrev pub ValueIs : CType → CType → Type 0
ValueIs void operand = Unit {0}
ValueIs own operand = Gives own operand

abbrev pub LastIs : CType → List CType → Type 0
LastIs own [] = ⊥
LastIs own (t ∷ []) = ValueIs own t
LastIs own (t ∷ ts) = LastIs own ts

-- the parts of an object of so many bytes: inside it, and none over another
abbrev pub length_of : Content → ℕ
length_of (content.Zeros count) = count
length_of (content.Bytes bytes) = length bytes
length_of (content.Address target offset) = 8

abbrev pub end_of : Constant → ℕ
end_of c = c.at + length_of c.content

abbrev pub Apart : Constant → Constant → Type 0
Apart a b = (end_of a ≤ b.at) ⊎ (end_of b ≤ a.at)

pub record PartsFit (size : ℕ) (constants : List Constant) : Type 0 where
  pub inside : All (λ c. end_of c ≤ size) constants
  pub apart : AllPairs Apart constants

abbrev pub FunctionIs : Option Function → CType → Type 0
FunctionIs None own = ⊥
FunctionIs (Some f) (pointer c (function r ps v)) = SameSignature false (record { result = r; params = ps; variadic = v }) (signature_of f.ty)
FunctionIs (Some f) _ = ⊥

-- an array of `char` (6.4.5p6)
abbrev pub literal_type : ℕ → CType
literal_type count = array false (int Char) (Some count)

abbrev pub TypesAre : Program → Blocks → Head → CType → List CType → Type 0
TypesAre p blocks (shape.Const z) own [] = IsConstant own z
TypesAre p blocks (shape.Obj slot) own [] = There (object_at p blocks slot) (λ object. PointsTo own object.ty)
TypesAre p blocks (shape.Func number) own [] = FunctionIs (slice_get p.functions number) own
TypesAre p blocks (shape.Str number) own [] = There (slice_get p.literals number) (λ bytes. PointsTo own (literal_type (length bytes)))
TypesAre p blocks (shape.Load a) own (pointer c t ∷ []) = Gives own t × AccessIs p.tags t a
TypesAre p blocks (shape.Conv c) own (from ∷ []) = Converts p.tags c from own × ((from ≢ own) ⊎ IsPointer own)
TypesAre p blocks (shape.Un op) own (t ∷ []) = UnaryTypes op own t
TypesAre p blocks (shape.Bin op kind) own (left ∷ right ∷ []) =
    IsPromoted kind × (left ≡ int kind) × RightIs (is_shift op) kind right × (own ≡ int kind)
TypesAre p blocks (shape.PtrAdd size subtract) own (pointer c t ∷ index ∷ []) =
    StepsOver p.tags (pointer c t) size × IsInteger index × PointsTo own t
TypesAre p blocks (shape.PtrDiff size) own (a ∷ b ∷ []) =
    StepsOver p.tags a size × StepsOver p.tags b size × Ordered a b × (own ≡ int Long)
TypesAre p blocks (shape.Rel op pointers) own (a ∷ b ∷ []) =
    (own ≡ int Int) × Related pointers a b
TypesAre p blocks (shape.Eq op) own (a ∷ b ∷ []) = (own ≡ int Int) × (OneKind a b ⊎ Comparable a b)
TypesAre p blocks (shape.Member offset) own (t ∷ []) = MemberOf p.tags offset own t
TypesAre p blocks (shape.Part offset a) own (t ∷ []) = IsTagged t × LiesIn p.tags offset own t × AccessIs p.tags own a
-- only an initialization stores to what is const (6.5.16p2)
TypesAre p blocks (shape.Assign initializing a) own (pointer c t ∷ value ∷ []) =
    Gives own t × (value ≡ t) × AccessIs p.tags t a × (IsTrue c → IsTrue initializing)
TypesAre p blocks (shape.Update change old) own (pointer c t ∷ rest) = Gives own t × (c ≡ false) × UpdateTypes p.tags change t rest
TypesAre p blocks shape.And own (a ∷ b ∷ []) = (own ≡ int Int) × IsScalar a × IsScalar b
TypesAre p blocks shape.Or own (a ∷ b ∷ []) = (own ≡ int Int) × IsScalar a × IsScalar b
TypesAre p blocks shape.Cond own (test ∷ a ∷ b ∷ []) = IsScalar test × ValueIs own a × ValueIs own b
TypesAre p blocks shape.Comma own ts = LastIs own ts
TypesAre p blocks (shape.Call discarded) own (f ∷ arguments) = CallTypes p.tags own f arguments
TypesAre p blocks (shape.List slot bytes) own ts = (own ≡ void) × All (λ t. t ≡ void) ts
TypesAre p blocks (shape.Isolated tree) own [] = own ≡ void
TypesAre p blocks _ own ts = ⊥

-- 4. Initializers (6.7.9).

-- a node that initializes nothing
abbrev pub IsPlain : Head → Type 0
IsPlain (shape.Assign initializing access) = initializing ≡ false
IsPlain (shape.List slot bytes) = ⊥
IsPlain (shape.Isolated tree) = ⊥
IsPlain _ = Unit {0}

abbrev pub IsPlainTree : Typed → Type 0
IsPlainTree t = All (λ s. IsPlain s.head) (sites t)

abbrev pub Root : Type 0
Root = Node-F Node Typed

-- a node, with the trees below it
abbrev pub root_of : Typed → Root
root_of t = out-Node (out-Typed t).node

abbrev pub operands_of : Typed → List Typed
operands_of t = (out-Typed t).children

-- the whole object
abbrev pub IsObject : Slot → Root → Type 0
IsObject slot (shape.Obj named) = named ≡ slot
IsObject slot _ = ⊥

-- a part of the object
abbrev pub IsPart : Slot → Root → List Typed → Type 0
IsPart slot (shape.Member offset) (object ∷ []) = IsObject slot (root_of object)
IsPart slot _ _ = ⊥

abbrev pub StoresPart : Slot → Root → List Typed → Type 0
StoresPart slot (shape.Assign initializing access) (place ∷ value ∷ []) =
    IsTrue initializing × IsPart slot (root_of place) (operands_of place) × IsPlainTree value
StoresPart slot _ _ = ⊥

-- a listed expression: a full expression of its own that is stored in a part of the list's object (6.7.9p23)
abbrev pub IsListed : Slot → Root → Type 0
IsListed slot (shape.Isolated tree) = StoresPart slot (root_of tree) (operands_of tree)
IsListed slot _ = ⊥

-- where a part begins, and how many bytes it has
abbrev pub Span : Type 0
Span = ℕ × ℕ

abbrev pub target_size : List Tag → CType → ℕ
target_size tags (pointer c t) = size_of tags t
target_size tags _ = 0

abbrev pub member_span : List Tag → CType → Root → Span
member_span tags ty (shape.Member offset) = (offset, target_size tags ty)
member_span tags ty _ = (0, 0)

abbrev pub stored_span : List Tag → Root → List Typed → Span
stored_span tags (shape.Assign initializing access) (place ∷ value ∷ []) = member_span tags (type_of (out-Typed place).ty) (root_of place)
stored_span tags _ _ = (0, 0)

-- the part that a listed expression is stored in; none of anything else
abbrev pub listed_span : List Tag → Root → Span
listed_span tags (shape.Isolated tree) = stored_span tags (root_of tree) (operands_of tree)
listed_span tags _ = (0, 0)

abbrev pub zeros_in : Span → Constant
zeros_in span = record { at = span.0; content = content.Zeros span.1 }

-- the parts that a list gives: its constant bytes, and the places of its expressions
abbrev pub given_parts : List Tag → List Constant → List Typed → List Constant
given_parts tags bytes operands = bytes ++ map (λ t. zeros_in (listed_span tags (root_of t))) operands

-- an object of the block in which the initializer stands
abbrev pub IsOwn : Blocks → Slot → Type 0
IsOwn blocks (slot.Auto block decl) = blocks.innermost ≡ Some block
IsOwn blocks (slot.Static number) = ⊥

abbrev pub IsOwnObject : Blocks → Root → Type 0
IsOwnObject blocks (shape.Obj named) = IsOwn blocks named
IsOwnObject blocks _ = ⊥

-- an address lies in its object or one past it (6.5.6p8), is one of a function where its offset is 0
abbrev pub AddressIsLawful : Program → Target → ℕ → Type 0
AddressIsLawful p (target.Static number) offset =
    There (slice_get p.statics number) (λ s. offset ≤ size_of p.tags (qualified_of s.qual).ty)
AddressIsLawful p (target.Literal number) offset = There (slice_get p.literals number) (λ bytes. offset ≤ length bytes)
AddressIsLawful p (target.Function number) offset = There (slice_get p.functions number) (λ f. CanBeCalled f × (offset ≡ 0))

-- a byte of an object (5.2.4.2.1p1)
abbrev pub AreBytes : List ℕ → Type 0
AreBytes = All (λ n. n < 256)

abbrev pub ContentIsLawful : Program → Content → Type 0
ContentIsLawful p (content.Address target offset) = AddressIsLawful p target offset
ContentIsLawful p (content.Bytes bs) = AreBytes bs
ContentIsLawful p (content.Zeros count) = Unit {0}

-- one expression for the whole object, or a list of parts of it, each inside it and none over another, whose addresses are lawful (6.7.9p11,
-- 6.7.9p13, 6.7.9p14, 6.7.9p16)
abbrev pub Initializes : Program → Blocks → Root → List Typed → Type 0
Initializes p blocks (shape.Assign initializing access) (place ∷ value ∷ []) =
    IsTrue initializing × IsOwnObject blocks (root_of place) × IsPlainTree value
Initializes p blocks (shape.List slot bytes) operands =
    IsOwn blocks slot × All (λ t. IsListed slot (root_of t)) operands × All (λ c. ContentIsLawful p c.content) bytes
    × There (object_at p blocks slot) (λ object. PartsFit (size_of p.tags object.ty) (given_parts p.tags bytes operands))
Initializes p blocks _ _ = ⊥

-- only the entries of blocks that say so initialize
abbrev pub InitialFits : Program → Blocks → Use → Typed → Type 0
InitialFits p blocks initializes t = Initializes p blocks (root_of t) (operands_of t)
InitialFits p blocks _ t = IsPlainTree t

-- 5. Full expressions, by what they are for (6.8.3 to 6.8.6).

abbrev pub UseFits : Program → Signature → Use → CType → Type 0
UseFits p f unused t = Unit {0}
UseFits p f tested t = IsScalar t
UseFits p f selects t = There (kind_of t) IsPromoted
UseFits p f returned t = (t ≡ f.result) × (f.result ≢ void)
UseFits p f initializes t = Unit {0}

pub record SiteIsLawful (p : Program) (blocks : Blocks) (s : Site) : Type 0 where
  pub names : NamesThere p blocks s.head
  pub operands : CountIs s.head (length s.operands)
  pub types : TypesAre p blocks s.head s.ty s.operands

pub record ExpressionIsLawful (p : Program) (f : Signature) (e : Expression) : Type 0 where
  pub nodes : All (SiteIsLawful p e.blocks) (sites e.tree)
  pub fits : UseFits p f e.for_use (type_at e.tree)
  pub initial : InitialFits p e.blocks e.for_use e.tree
  -- so that a u32 numbers its nodes
  pub few : length (sites e.tree) < 2 ^ 32

-- 6. Statements (6.8.1 to 6.8.6).

-- one label of a value in a `switch`, and at most one `default` (6.8.4.2p3)
pub record SwitchIsLawful (s : SwitchRow) : Type 0 where
  pub distinct : AllPairs ◌≢◌ s.cases
  pub one_default : s.defaults ≤ 1

-- blocks are numbered in preorder; their objects are complete, and those that are declared are there (6.7p7)
abbrev pub NumberedFrom : ℕ → List BlockRow → Type 0
NumberedFrom n [] = Unit {0}
NumberedFrom n (b ∷ bs) = (b.number ≡ n) × NumberedFrom (1 + n) bs

pub record BlockIsLawful (tags : List Tag) (b : BlockRow) : Type 0 where
  pub objects : All (λ q. IsSized tags q.ty) b.objects
  pub declared : All (λ decl. decl < length b.objects) b.declares
  pub few : length b.objects < 2 ^ 32

pub record StatementsAreLawful (tags : List Tag) (s : Summary) : Type 0 where
  pub numbered : NumberedFrom 0 s.blocks
  pub blocks : All (BlockIsLawful tags) s.blocks
  pub few_blocks : length s.blocks < 2 ^ 32
  pub switches : All SwitchIsLawful s.switches
  -- a label of a `switch` stands in one (6.8.1p2)
  pub no_case : s.cases ≡ []
  pub no_default : s.defaults ≡ 0
  -- a jump out of a loop or `switch` stands in one (6.8.6.2p1, 6.8.6.3p1)
  pub no_break : s.breaks ≡ 0
  pub no_continue : s.continues ≡ 0
  -- labels are defined once, and where a `goto` names them (6.8.1p3, 6.8.6.1p1)
  pub distinct : AllPairs ◌≢◌ s.labels
  pub defined : All (Contains s.labels) s.jumps

-- 7. Functions (6.9.1, 7.1.3).

abbrev pub size_type : CType
size_type = int ULong

abbrev pub memory : CType
memory = pointer false void

abbrev pub const_memory : CType
const_memory = pointer true void

abbrev pub text : CType
text = pointer false (int Char)

abbrev pub const_text : CType
const_text = pointer true (int Char)

abbrev pub taking : List CType → Params
taking [] = none
taking (t ∷ ts) = more false t (taking ts)

abbrev pub fixed : CType → List CType → Signature
fixed r ts = record { result = r; params = taking ts; variadic = false }

-- a function that takes a format and further arguments
abbrev pub printing : List CType → Signature
printing ts = record { result = int Int; params = taking ts; variadic = true }

-- the types of the library functions (7.21.6.3, 7.21.6.5, 7.21.6.6, 7.21.7, 7.22.3, 7.22.4, 7.24)
abbrev pub library_type : LibFunc → Signature
library_type libc.Malloc = fixed memory (size_type ∷ [])
library_type libc.Calloc = fixed memory (size_type ∷ size_type ∷ [])
library_type libc.Realloc = fixed memory (memory ∷ size_type ∷ [])
library_type libc.Free = fixed void (memory ∷ [])
library_type libc.Memcpy = fixed memory (memory ∷ const_memory ∷ size_type ∷ [])
library_type libc.Memmove = fixed memory (memory ∷ const_memory ∷ size_type ∷ [])
library_type libc.Memset = fixed memory (memory ∷ int Int ∷ size_type ∷ [])
library_type libc.Memcmp = fixed (int Int) (const_memory ∷ const_memory ∷ size_type ∷ [])
library_type libc.Strlen = fixed size_type (const_text ∷ [])
library_type libc.Strcpy = fixed text (text ∷ const_text ∷ [])
library_type libc.Strcmp = fixed (int Int) (const_text ∷ const_text ∷ [])
library_type libc.Strchr = fixed text (const_text ∷ int Int ∷ [])
library_type libc.Getchar = fixed (int Int) []
library_type libc.Putchar = fixed (int Int) (int Int ∷ [])
library_type libc.Puts = fixed (int Int) (const_text ∷ [])
library_type libc.Printf = printing (const_text ∷ [])
library_type libc.Fprintf = printing (int Int ∷ const_text ∷ [])
library_type libc.Sprintf = printing (text ∷ const_text ∷ [])
library_type libc.Snprintf = printing (text ∷ size_type ∷ const_text ∷ [])
library_type libc.Exit = fixed void (int Int ∷ [])
library_type libc.Abort = fixed void []

-- a library function isn't defined (7.1.3p2)
abbrev pub IsExternal : Function → Type 0
IsExternal f = Where (λ l. f.body ≡ None) f.library

-- its type is compatible with the library's (7.1.4p2)
abbrev pub LibraryFits : Function → LibFunc → Type 0
LibraryFits f l = SameSignature false (library_type l) (signature_of f.ty)

-- the body block begins with the parameters
abbrev pub StartsWith : Params → List Qualified → Type 0
StartsWith none objects = Unit {0}
StartsWith (more c t ps) [] = ⊥
StartsWith (more c t ps) (q ∷ objects) = (q.constant ≡ c) × (q.ty ≡ t) × StartsWith ps objects

abbrev pub BeginsWith : Params → List BlockRow → Type 0
BeginsWith params [] = ⊥
BeginsWith params (b ∷ bs) = StartsWith params b.objects

pub record BodyIsLawful (p : Program) (f : Signature) (b : Body) : Type 0 where
  pub begins : BeginsWith f.params (summary b).blocks
  pub not_variadic : f.variadic ≡ false
  pub statements : StatementsAreLawful p.tags (summary b)
  pub full : All (ExpressionIsLawful p f) (expressions b)
  pub few : length (expressions b) < 2 ^ 32

abbrev pub IsNoArray : CType → Type 0
IsNoArray (array constant element count) = ⊥
IsNoArray t = Unit {0}

abbrev pub AreNoArrays : Params → Type 0
AreNoArrays none = Unit {0}
AreNoArrays (more constant t params) = IsNoArray t × AreNoArrays params

-- it gives and takes no arrays (6.7.6.3p1, 6.7.6.3p7)
abbrev pub IsUsual : Signature → Type 0
IsUsual f = IsNoArray f.result × AreNoArrays f.params

pub record FunctionIsLawful (p : Program) (f : Function) : Type 0 where
  pub usual : IsUsual (signature_of f.ty)
  pub body : Where (BodyIsLawful p (signature_of f.ty)) f.body
  pub library : Where (LibraryFits f) f.library
  pub height : function_height f < 2 ^ 32

-- 8. Objects with static storage (6.7.9, 6.9.2).

abbrev pub Divides : ℕ → ℕ → Type 0
Divides align n = n % align ≡ 0

-- the address is a multiple of the alignment, wherever its object begins (6.3.2.3p7)
abbrev pub AddressSuits : Program → ℕ → Target → ℕ → Type 0
AddressSuits p align (target.Static number) offset =
    There (slice_get p.statics number) (λ s. Divides align (align_of p.tags (qualified_of s.qual).ty) × Divides align offset)
AddressSuits p align (target.Literal number) offset = align ≡ 1
AddressSuits p align (target.Function number) offset = Unit {0}

-- an address stands only where the type is a pointer, and is aligned for what that points to
abbrev pub SuitsType : Program → CType → Target → ℕ → Type 0
SuitsType p (pointer constant t) target offset = AddressSuits p (align_of p.tags t) target offset
SuitsType p t target offset = ⊥

-- some of these scalars begins here and has a type that the address suits; in a union more than one may begin here
abbrev pub SuitsSome : Program → Target → ℕ → ℕ → List Scalar → Type 0
SuitsSome p target offset at [] = ⊥
SuitsSome p target offset at (scalar ∷ scalars) =
    ((scalar.offset ≡ at) × SuitsType p scalar.ty target offset) ⊎ SuitsSome p target offset at scalars

abbrev pub ContentSuits : Program → List Scalar → ℕ → Content → Type 0
ContentSuits p scalars at (content.Address target offset) = SuitsSome p target offset at scalars
ContentSuits p scalars at _ = Unit {0}

-- the object's type is complete (6.9.2p3)
abbrev pub IsComplete : List Tag → Static → Type 0
IsComplete tags s = IsSome (extent (extents tags) (qualified_of s.qual).ty)

pub record StaticIsLawful (p : Program) (s : Static) : Type 0 where
  pub sized : IsSized p.tags (qualified_of s.qual).ty
  pub fits : PartsFit (size_of p.tags (qualified_of s.qual).ty) s.constants
  pub contents : All (λ c. ContentIsLawful p c.content) s.constants
  pub aligned : All (λ c. ContentSuits p (scalars p.tags (qualified_of s.qual).ty) c.at c.content) s.constants

-- 9. The whole program.

-- `int argc, char **argv`, each with or without a const of its own
abbrev pub HasArguments : Params → Type 0
HasArguments (more c count (more d vector none)) = (count ≡ int Int) × (vector ≡ pointer false (pointer false (int Char)))
HasArguments _ = ⊥

abbrev pub IsMainType : Signature → Type 0
IsMainType f =
    (f ≡ fixed (int Int) []) ⊎ ((f.result ≡ int Int) × (f.variadic ≡ false) × HasArguments f.params)

-- `main` is there and has a body (5.1.2.2.1p1)
abbrev pub HasMain : Program → Type 0
HasMain p = There (slice_get p.functions p.main) HasBody

-- it has one of its two types (5.1.2.2.1p1)
abbrev pub MainHasType : Program → Type 0
MainHasType p = There (slice_get p.functions p.main) (λ f. IsMainType (signature_of f.ty))

-- no library function is defined
abbrev pub LibraryIsExternal : Program → Type 0
LibraryIsExternal p = All IsExternal p.functions

-- a string literal has its closing zero at least (6.4.5p6)
abbrev pub HasBytes : List ℕ → Type 0
HasBytes bytes = 0 < length bytes

abbrev pub LiteralsHaveBytes : Program → Type 0
LiteralsHaveBytes p = All HasBytes p.literals

abbrev pub LiteralsAreBytes : Program → Type 0
LiteralsAreBytes p = All AreBytes p.literals

-- each object with static storage has a complete type
abbrev pub StaticsAreComplete : Program → Type 0
StaticsAreComplete p = All (IsComplete p.tags) p.statics

-- what a u32 numbers is fewer than 2^32 (own)
pub record IsNumbered (p : Program) : Type 0 where
  pub functions : length p.functions < 2 ^ 32
  pub statics : length p.statics < 2 ^ 32
  pub literals : length p.literals < 2 ^ 32
  pub tags : length p.tags < 2 ^ 32

pub record IsLawful (p : Program) : Type 0 where
  pub main : HasMain p
  pub main_type : MainHasType p
  pub functions : All (FunctionIsLawful p) p.functions
  pub library : LibraryIsExternal p
  pub literals : LiteralsHaveBytes p
  pub bytes : LiteralsAreBytes p
  pub complete : StaticsAreComplete p
  pub statics : All (StaticIsLawful p) p.statics
  pub numbered : IsNumbered p

-- a program without functions has no `main`
abbrev pub NoMainIsUnlawful : Type 0
NoMainIsUnlawful = (p : Program) → p.functions ≡ [] → IsLawful p → ⊥
