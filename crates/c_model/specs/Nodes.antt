-- What the events of a node do, from the values of its operands.
use Rattle.std.specs.Prelude.{
  ℕ,
  ◌/◌,
  Bool,
  true,
  false,
  not,
  ◌&&◌,
  ◌||◌,
  ◌==◌,
  nat_lt,
  List,
  [],
  ◌∷◌,
  map,
  Option,
  Some,
  None,
  if◌then◌else◌,
  ℤ,
  pos,
  ◌+ℤ◌,
  neg_ℤ,
  ◌-ℤ◌,
  ◌*ℤ◌,
  int_lt,
  int_le,
  unsigned_abs,
  Result,
  Ok,
  Err,
}
use Rattle.ub_base.specs.declared.clause.Kind.{Kind}
use Rattle.ub_base.specs.declared.clause.Kind.TheVariants.{Val, Eff}
use Rattle.ub_base.specs.declared.clause.Clause.{Clause}
use Rattle.ub_base.specs.declared.clause.Clause.TheVariants.{
  TrapRepresentation,
  PointerAlignment,
  InvalidPointer,
  OverlappingAssignment,
  MissingValue,
  Indeterminate,
}
use Rattle.ub_base.specs.declared.names.Event.{Event}
use Rattle.addr_map.specs.declared.map.Row.{Row}
use Rattle.addr_map.specs.Rows.{row_of}
use Rattle.c_types.specs.declared.kind.IntKind.{IntKind}
use Rattle.c_types.specs.declared.kind.IntKind.TheVariants.{ULong}
use Rattle.c_types.specs.declared.kind.BinOp.{BinOp}
use Rattle.c_types.specs.Kinds.{holds}
use Rattle.c_types.specs.Types.{CType, int}
use Rattle.c_arith.specs.Operators.{value, negated, complemented, conv, bits, is_operand}
use Rattle.c_typed.specs.declared.tree.Access.{Access}
use Rattle.c_typed.specs.declared.tree.Access.TheVariants as access
use Rattle.c_typed.specs.declared.tree.Conversion.{Conversion}
use Rattle.c_typed.specs.declared.tree.Conversion.TheVariants as conversion
use Rattle.c_typed.specs.declared.tree.UnOp.{UnOp}
use Rattle.c_typed.specs.declared.tree.UnOp.TheVariants as unary
use Rattle.c_typed.specs.declared.tree.RelOp.{RelOp}
use Rattle.c_typed.specs.declared.tree.RelOp.TheVariants as relation
use Rattle.c_typed.specs.declared.tree.EqOp.{EqOp}
use Rattle.c_typed.specs.declared.tree.EqOp.TheVariants as equality
use Rattle.c_typed.specs.declared.tree.Change.{Change}
use Rattle.c_typed.specs.declared.tree.Change.TheVariants as change
use Rattle.exposure.specs.declared.prov.Prov.{Prov}
use Rattle.exposure.specs.declared.prov.Prov.TheVariants.{Empty}
use Rattle.exposure.specs.declared.prov.Prov.TheVariants as prov
use Rattle.mem_spec.specs.Store.{TaggedByte, written}
use Rattle.mem_spec.specs.Agreement.{bytes_of_kind}
use Rattle.mem_spec.specs.Bytes.{number_bytes, pointer_bytes}
use Rattle.mem_spec.specs.Script.{Script, Give, Raise, require, ◌>>=◌, ◌>>◌}
use Rattle.mem_spec.specs.Acts.{
  scalar,
  whole,
  bytes,
  base_in,
  is_aligned,
  is_trap,
  all_written,
  number_of,
  value_of,
  show_pieces,
  pointer_in,
  from_int,
  load_int,
  load_ptr,
  load_func,
  load_block,
  store,
  shift,
  diff,
  less,
  expose,
}
use Rattle.c_model.specs.Program.{
  Content,
  Zeros,
  Bytes,
  Object_at,
  Function_at,
  No_object,
  Filling,
  Head,
  Load,
  Conv,
  Un,
  Bin,
  PtrAdd,
  PtrDiff,
  Rel,
  Eq,
  Member,
  Part,
  Assign,
  Update,
  And,
  Or,
  Cond,
  Comma,
  Call,
  Listed,
}
use Rattle.c_model.specs.Values.{
  Value,
  Int,
  Ptr,
  Fun,
  Whole,
  Missing,
  Nothing,
  Pointer,
  pointer_value,
  integer_of,
  pointer_of,
  function_in,
  address_in,
  truth,
  value_at,
  function_address,
  address_after,
  int_bytes,
  part_bytes,
  moved_source,
  unplaced,
}

abbrev pub bool_value : Bool → Value
bool_value b = Int (if b then pos 1 else pos 0)

-- the result of an operator, or its clause
abbrev pub outcome : Result ℤ Clause → Script ℤ
outcome (Ok z) = Give z
outcome (Err c) = Raise c

abbrev pub int_outcome : Result ℤ Clause → Script Value
int_outcome r = outcome r >>= (λ z. Give (Int z))

-- an lvalue of this type that is converted to its value (6.3.2.1p2)
abbrev pub load : List Row → Event → Access → CType → Pointer → Script Value
load rows who (access.Integer k) ty p = load_int rows k p.address p.prov >>= (λ z. Give (Int z))
load rows who access.Pointer ty p = load_ptr rows ty who 8 p.address p.prov >>= (λ q. Give (Ptr q.0 q.1))
load rows who access.Function ty p = load_func rows ty p.address p.prov >>= (λ n. Give (Fun n))
load rows who (access.Whole size align) ty p = load_block rows size align p.address p.prov >>= (λ bs. Give (Whole bs (Some p.address)))

-- two ranges of so many bytes share a byte, and aren't one
abbrev pub overlap_inexactly : ℕ → ℕ → Option ℕ → Bool
overlap_inexactly len a None = false
overlap_inexactly len a (Some b) = not (a == b) && (nat_lt a (address_after b len) && nat_lt b (address_after a len))

-- a structure or union is stored only where it overlaps its source exactly (6.5.16.1p3)
abbrev pub put_whole : List Row → Bool → (size align : ℕ) → Pointer → Value → Script Value
put_whole rows first size align p (Whole bs source) =
    store rows first whole align p.address p.prov bs >> (require (not (overlap_inexactly size p.address source)) OverlappingAssignment >> Give Nothing)
put_whole rows first size align p v = Give Nothing

-- a value is stored to an lvalue of this type (6.5.16p3)
abbrev pub put : List Row → Bool → Access → CType → Pointer → Value → Script Value
put rows first (access.Integer k) ty p v = store rows first (scalar (int k)) (bytes_of_kind k) p.address p.prov (int_bytes k (integer_of v)) >> Give Nothing
put rows first access.Pointer ty p v = store rows first (scalar ty) 8 p.address p.prov (pointer_bytes 8 0 (pointer_of v).prov (pointer_of v).address) >> Give
    Nothing
put rows first access.Function ty p v = store rows first (scalar ty) 8 p.address p.prov (number_bytes 8 (function_in v)) >> Give Nothing
put rows first (access.Whole size align) ty p v = put_whole rows first size align p v

-- a conversion between scalar types (6.3)
abbrev pub convert : Event → Conversion → Value → Script Value
convert who (conversion.Integer k) v = Give (Int (conv k (integer_of v)))
convert who (conversion.Address k) v = expose (pointer_of v).prov >> Give (Int (conv k (pos (pointer_of v).address)))
convert who conversion.NotNull v = Give (bool_value (truth v))
convert who conversion.Lookup v = from_int who (bits ULong (integer_of v)) >>= (λ prov. Give (Ptr (bits ULong (integer_of v)) prov))
convert who (conversion.Pointer align) v = require (is_aligned align (pointer_of v).address) PointerAlignment >> Give (pointer_value (pointer_of v))
convert who conversion.Function v = Give (Fun (function_in v))

abbrev pub unary_value : UnOp → Value → Script Value
unary_value (unary.Minus k) v = int_outcome (negated k (conv k (integer_of v)))
unary_value (unary.Complement k) v = Give (Int (complemented k (conv k (integer_of v))))
unary_value unary.Not v = Give (bool_value (not (truth v)))

-- a binary operator on operands of its kind (6.5.5 to 6.5.7, 6.5.10 to 6.5.12), as they are in each program; of other numbers 0 (own)
abbrev pub operated : BinOp → IntKind → ℤ → ℤ → Result ℤ Clause
operated op k a b = if holds k a && is_operand op k b then value op k a b else Ok (pos 0)

abbrev pub in_order : RelOp → ℤ → ℤ → Bool
in_order relation.Less a b = int_lt a b
in_order relation.Greater a b = int_lt b a
in_order relation.LessEq a b = int_le a b
in_order relation.GreaterEq a b = int_le b a

-- of two pointers, or of two integers (6.5.8)
abbrev pub relational : RelOp → (pointers : Bool) → Value → Value → Script Value
relational op true v w =
    less (pointer_of v).prov (pointer_of w).prov >> Give (bool_value (in_order op (pos (pointer_of v).address) (pos (pointer_of w).address)))
relational op false v w = Give (bool_value (in_order op (integer_of v) (integer_of w)))

-- numbers, or addresses (6.5.9)
abbrev pub are_equal : Value → Value → Bool
are_equal (Int a) (Int b) = unsigned_abs (a -ℤ b) == 0
are_equal v w = address_in v == address_in w

abbrev pub equal : EqOp → Value → Value → Value
equal equality.Equal v w = bool_value (are_equal v w)
equal equality.NotEqual v w = bool_value (not (are_equal v w))

-- so many elements of a size, towards the end or the start
abbrev pub distance : ℕ → Bool → ℤ → ℤ
distance size subtract i = if subtract then neg_ℤ (i *ℤ pos size) else i *ℤ pos size

-- a pointer that moves within its object (6.5.6p8)
abbrev pub shifted : List Row → Pointer → ℤ → Script Value
shifted rows p by = shift rows p.address p.prov by >>= (λ z. Give (Ptr (unsigned_abs z) p.prov))

-- how many elements lie between two pointers, whose distance is a multiple of the size (6.5.6p9)
abbrev pub difference : ℕ → Pointer → Pointer → Script Value
difference size p q = diff p.address p.prov q.address q.prov size >> Give (Int (pos (p.address / size) -ℤ pos (q.address / size)))

abbrev pub is_empty : Prov → Bool
is_empty Empty = true
is_empty _ = false

-- `->` through a null pointer, or one of no object, is undefined (6.5.2.3p4, 6.5.3.2p4)
abbrev pub member : List Row → ℕ → Pointer → Script Value
member rows offset p = require (not ((p.address == 0) || is_empty p.prov)) InvalidPointer >> shifted rows p (pos offset)

abbrev pub part_pointer : Event → Option Prov → ℕ → Script Value
part_pointer who (Some prov) a = Give (Ptr a prov)
part_pointer who None a = from_int who a >>= (λ prov. Give (Ptr a prov))

-- bytes of a structure value, read without an access (own)
abbrev pub read_part : Event → Access → List TaggedByte → Option ℕ → Script Value
read_part who (access.Integer k) bs source =
    require (all_written bs) Indeterminate
    >> (require (not (is_trap k (number_of bs))) TrapRepresentation >> (show_pieces bs >> Give (Int (value_of k (number_of bs)))))
read_part who access.Pointer bs source = require (all_written bs) Indeterminate >> part_pointer who (pointer_in bs) (number_of bs)
read_part who access.Function bs source = require (all_written bs) Indeterminate >> (show_pieces bs >> Give (Fun (number_of bs)))
read_part who (access.Whole size align) bs source = Give (Whole bs source)

abbrev pub width_of : Access → ℕ
width_of (access.Integer k) = bytes_of_kind k
width_of (access.Whole size align) = size
width_of _ = 8

-- a member of a structure value, as a load reads it (6.5.2.3p3)
abbrev pub part_of : Event → ℕ → Access → Value → Script Value
part_of who offset how (Whole bs source) = read_part who how (part_bytes offset (width_of how) bs) (moved_source offset source)
part_of who offset how v = Give Nothing

-- the operand of an update: 1 for postfix `++` and `--`
abbrev pub amount : (old : Bool) → List Value → ℤ
amount true vs = pos 1
amount false vs = integer_of (value_at vs 1)

abbrev pub or_zero : Result ℤ Clause → ℤ
or_zero (Ok z) = z
or_zero (Err c) = pos 0

-- the number that an update works out from the value before it
abbrev pub worked : Change → Value → ℤ → Result ℤ Clause
worked (change.Integer op kind work) v n = operated op work (conv work (integer_of v)) n
worked (change.Pointer size subtract) v n = Ok (pos (pointer_of v).address +ℤ distance size subtract n)

-- the value after an update, from that before (6.5.2.4, 6.5.3.1, 6.5.16.2)
abbrev pub changed : Change → Value → ℤ → Value
changed (change.Integer op kind work) v n = Int (conv kind (or_zero (worked (change.Integer op kind work) v n)))
changed (change.Pointer size subtract) v n = Ptr (unsigned_abs (or_zero (worked (change.Pointer size subtract) v n))) (pointer_of v).prov

-- an update that can't be is undefined: by its operator, or as pointer arithmetic (6.5p5, 6.5.6p8)
abbrev pub check_change : List Row → Change → Value → ℤ → Script ℤ
check_change rows (change.Integer op kind work) v n = outcome (worked (change.Integer op kind work) v n)
check_change rows (change.Pointer size subtract) v n = shift rows (pointer_of v).address (pointer_of v).prov (distance size subtract n)

abbrev pub change_access : Change → Access
change_access (change.Integer op kind work) = access.Integer kind
change_access (change.Pointer size subtract) = access.Pointer

abbrev pub given_back : Bool → Value → Value → Value
given_back true before after = before
given_back false before after = after

-- the value of an update: it reads the object and works out the new value, so that what can't be is raised here
abbrev pub update_value : List Row → Event → Change → Bool → CType → Pointer → ℤ → Script Value
update_value rows who c old ty p n =
    load rows who (change_access c) ty p >>= (λ v. check_change rows c v n >> Give (given_back old v (changed c v n)))

-- its effect stores the new value, which follows from the old one where that was given
abbrev pub new_value : Change → Bool → Value → ℤ → Value
new_value c true own n = changed c own n
new_value c false own n = own

-- a call whose value is used has one (6.9.1p12)
abbrev pub call_value : Bool → Value → Script Value
call_value false Missing = Raise MissingValue
call_value discarded v = Give (unplaced v)

abbrev pub last_value : List Value → Value
last_value [] = Nothing
last_value (v ∷ []) = v
last_value (v ∷ w ∷ vs) = last_value (w ∷ vs)

abbrev pub plain_byte : ℕ → TaggedByte
plain_byte n = record { byte = written n None; tag = None }

-- the bytes that an initialization puts, an address as the pieces of a pointer
abbrev pub content_bytes : List Row → Content → List TaggedByte
content_bytes rows (Zeros n) = number_bytes n 0
content_bytes rows (Bytes ns) = map plain_byte ns
content_bytes rows (Object_at x offset) = pointer_bytes 8 0 (prov.Whole x) (address_after (base_in (row_of rows x)) offset)
content_bytes rows (Function_at n) = number_bytes 8 (function_address n)
content_bytes rows No_object = pointer_bytes 8 0 Empty 0

-- an object is filled, one content after the other (6.7.9)
abbrev pub fill : List Row → Pointer → List Filling → Script Value
fill rows p [] = Give Nothing
fill rows p (c ∷ cs) = store rows true bytes 1 (address_after p.address c.offset) p.prov (content_bytes rows c.content) >> fill rows p cs

-- The act of an event of a node, from the values of its operands, and what the earlier event of the node gave. An access goes by the
-- type of the object that the first operand points to: what a load gives may be used as a pointer of another type (6.3.2.1p3).
abbrev pub act_of : List Row → Event → Head → (object : CType) → Kind → List Value → Value → Script Value
act_of rows who (Load how) ty Val vs own = load rows who how ty (pointer_of (value_at vs 0))
act_of rows who (Conv c) ty Val vs own = convert who c (value_at vs 0)
act_of rows who (Un op) ty Val vs own = unary_value op (value_at vs 0)
act_of rows who (Bin op kind) ty Val vs own = int_outcome (operated op kind (integer_of (value_at vs 0)) (integer_of (value_at vs 1)))
act_of rows who (PtrAdd size subtract) ty Val vs own = shifted rows (pointer_of (value_at vs 0)) (distance size subtract (integer_of (value_at vs 1)))
act_of rows who (PtrDiff size) ty Val vs own = difference size (pointer_of (value_at vs 0)) (pointer_of (value_at vs 1))
act_of rows who (Rel op pointers) ty Val vs own = relational op pointers (value_at vs 0) (value_at vs 1)
act_of rows who (Eq op) ty Val vs own = Give (equal op (value_at vs 0) (value_at vs 1))
act_of rows who (Member offset) ty Val vs own = member rows offset (pointer_of (value_at vs 0))
act_of rows who (Part offset how) ty Val vs own = part_of who offset how (value_at vs 0)
act_of rows who (Assign first how) ty Val vs own = Give (value_at vs 1)
act_of rows who (Assign first how) ty Eff vs own = put rows first how ty (pointer_of (value_at vs 0)) (value_at vs 1)
act_of rows who (Update c old) ty Val vs own = update_value rows who c old ty (pointer_of (value_at vs 0)) (amount old vs)
act_of rows who (Update c old) ty Eff vs own =
    put rows false (change_access c) ty (pointer_of (value_at vs 0)) (new_value c old own (amount old vs))
act_of rows who And ty Val vs own = Give (bool_value (truth (value_at vs 0) && truth (value_at vs 1)))
act_of rows who Or ty Val vs own = Give (bool_value (truth (value_at vs 0) || truth (value_at vs 1)))
act_of rows who Cond ty Val vs own = Give (if truth (value_at vs 0) then value_at vs 1 else value_at vs 2)
act_of rows who Comma ty Val vs own = Give (last_value vs)
act_of rows who (Call discarded) ty Val vs own = call_value discarded own
act_of rows who (Listed slot fillings) ty Eff vs own = fill rows (pointer_of (value_at vs 0)) fillings
act_of rows who _ ty kind vs own = Give Nothing
