-- The acts that loads, stores, casts, arithmetic and comparison of pointers are made of.
use Rattle.std.specs.Prelude.{
  ℕ,
  zero,
  suc,
  ◌+◌,
  ◌-◌,
  ◌*◌,
  ◌%◌,
  ◌^◌,
  Bool,
  true,
  false,
  not,
  ◌&&◌,
  ◌||◌,
  ◌==◌,
  nat_lt,
  nat_le,
  List,
  [],
  ◌∷◌,
  length,
  replicate,
  Option,
  Some,
  None,
  is_some,
  if◌then◌else◌,
  ℤ,
  pos,
  ◌+ℤ◌,
  ◌-ℤ◌,
  int_le,
}
use Rattle.ub_base.specs.declared.clause.Clause.{Clause}
use Rattle.ub_base.specs.declared.clause.Clause.TheVariants.{
  DeadObject,
  TrapRepresentation,
  StoreToLiteral,
  InvalidPointer,
  OutOfBounds,
  PointerDifference,
  PointerComparison,
  EffectiveType,
  StoreToConst,
  LibraryArgument,
  Indeterminate,
}
use Rattle.ub_base.specs.declared.names.Event.{Event}
use Rattle.ub_base.specs.declared.names.ObjName.{ObjName}
use Rattle.ub_base.specs.Names.{same_event, same_object}
use Rattle.addr_map.specs.declared.map.Row.{Row}
use Rattle.addr_map.specs.Rows.{row_of}
use Rattle.exposure.specs.declared.prov.Prov.{Prov}
use Rattle.exposure.specs.declared.prov.Prov.TheVariants.{Empty, Whole, Either}
use Rattle.exposure.specs.Choice.{chosen}
use Rattle.c_types.specs.declared.kind.IntKind.{IntKind}
use Rattle.c_types.specs.Kinds.{is_signed}
use Rattle.c_types.specs.Types.{CType, int, is_character}
use Rattle.c_types.specs.Shapes.{Form}
use Rattle.mem_spec.specs.declared.kind.ObjKind.{ObjKind}
use Rattle.c_types.specs.Same.{agrees}
use Rattle.mem_spec.specs.Agreement.{Tag, number_of_kind, suits_form, read_as_int, bytes_of_kind, declared_tag}
use Rattle.mem_spec.specs.Store.{Byte, unwritten, written, TaggedByte, fresh, Life, is_live}
use Rattle.mem_spec.specs.Script.{Ask, Get, Put, Bear, Bury, Show, Find, Settle, Script, Give, Raise, Misplace, touch, require, ◌>>=◌, ◌>>◌}

-- the candidates of a provenance
abbrev pub candidates : Prov → List ObjName
candidates Empty = []
candidates (Whole x) = x ∷ []
candidates (Either id past start) = past ∷ start ∷ []

-- the range lies in the object
abbrev pub in_row : Option Row → ℕ → ℕ → Bool
in_row None a len = false
in_row (Some r) a len = nat_le r.base a && nat_le (a + len) (r.base + r.size)

abbrev pub offset_in : Option Row → ℕ → ℕ
offset_in None a = 0
offset_in (Some r) a = a - r.base

-- aligned, where there is an alignment
abbrev pub is_aligned : ℕ → ℕ → Bool
is_aligned zero a = true
is_aligned (suc n) a = (a % suc n) == 0

pub record Accessed : Type 0 where
  pub object : ObjName
  pub from : ℕ
  pub life : Option Life

-- the object of an access: an ambiguity is settled to the candidate that contains the range
abbrev pub object_of : List Row → ℕ → ℕ → Prov → Script ObjName
object_of rows len a Empty = Raise InvalidPointer
object_of rows len a (Whole x) = Give x
object_of rows len a (Either id past start) =
    if in_row (row_of rows past) a len then touch (Settle id past OutOfBounds) >> Give past
    else (if in_row (row_of rows start) a len then touch (Settle id start OutOfBounds) >> Give start else Raise OutOfBounds)

-- the checks of an access up to the alignment, in their order (6.5.3.2p4, 6.5.6p8, 6.2.4p2)
abbrev pub access : List Row → (len align a : ℕ) → Prov → Script Accessed
access rows len align a prov = do
  require (not (a == 0)) InvalidPointer
  x ← object_of rows len a prov
  life ← touch (Ask x)
  require (is_live life) DeadObject
  require (in_row (row_of rows x) a len) OutOfBounds
  require (is_aligned align a) InvalidPointer
  Give (record { object = x; from = offset_in (row_of rows x) a; life = life })

abbrev pub declared_of : Option Life → Option Form
declared_of None = None
declared_of (Some l) = l.declared

abbrev pub is_literal : Option Life → Bool
is_literal None = false
is_literal (Some l) = l.kind.literal

abbrev pub is_constant : Option Life → Bool
is_constant None = false
is_constant (Some l) = l.kind.constant

abbrev pub tag_agrees : CType → ℕ → Option Tag → Bool
tag_agrees a i None = true
tag_agrees a i (Some tag) = tag.1 == i && agrees a tag.0

abbrev pub tags_agree : CType → ℕ → List TaggedByte → Bool
tags_agree a i [] = true
tags_agree a i (b ∷ bs) = tag_agrees a i b.tag && tags_agree a (suc i) bs

-- the type of a scalar load suits the bytes that it meets (6.5p7)
abbrev pub suits_load : CType → Option Form → ℕ → List TaggedByte → Bool
suits_load a (Some form) from bs = suits_form a form from
suits_load a None from bs = is_character a || tags_agree a 0 bs

-- how an access sees its bytes
pub data Seen : Type 0 where
  scalar : CType → Seen
  whole : Seen
  bytes : Seen

-- the type of a store suits the object; every store suits an object without declared type
abbrev pub suits_store : Seen → Option Form → ℕ → Bool
suits_store (scalar a) (Some form) from = suits_form a form from
suits_store _ _ from = true

abbrev pub is_written : Byte → Bool
is_written unwritten = false
is_written (written n piece) = true

abbrev pub all_written : List TaggedByte → Bool
all_written [] = true
all_written (b ∷ bs) = is_written b.byte && all_written bs

-- the little-endian number of the bytes
abbrev pub number_in : Byte → ℕ
number_in unwritten = 0
number_in (written n piece) = n

abbrev pub number_of : List TaggedByte → ℕ
number_of [] = 0
number_of (b ∷ bs) = number_in b.byte + 256 * number_of bs

abbrev pub show_each : List ObjName → Script (Unit {0})
show_each [] = Give tt
show_each (x ∷ xs) = touch (Show x) >> show_each xs

abbrev pub origins_in : Byte → List ObjName
origins_in (written n (Some piece)) = candidates piece.0
origins_in _ = []

-- what the pieces of pointers among the bytes were made from is exposed
abbrev pub show_pieces : List TaggedByte → Script (Unit {0})
show_pieces [] = Give tt
show_pieces (b ∷ bs) = show_each (origins_in b.byte) >> show_pieces bs

-- the value of an integer type with these bytes (own: two's complement)
abbrev pub value_of : IntKind → ℕ → ℤ
value_of k n = if is_signed k && nat_le (2 ^ (8 * bytes_of_kind k - 1)) n then pos n -ℤ pos (2 ^ (8 * bytes_of_kind k)) else pos n

-- a number other than 0 and 1 as `_Bool` (6.2.6.1p5)
abbrev pub is_trap : IntKind → ℕ → Bool
is_trap k n = number_of_kind k == 1 && nat_lt 1 n

-- an integer load (6.3.2.1p2)
abbrev pub load_int : List Row → IntKind → ℕ → Prov → Script ℤ
load_int rows kind a prov = do
  at ← access rows (bytes_of_kind kind) (bytes_of_kind kind) a prov
  bs ← touch (Get at.object at.from (bytes_of_kind kind))
  require (suits_load (int kind) (declared_of at.life) at.from bs) EffectiveType
  require (all_written bs) Indeterminate
  require (not (is_trap kind (number_of bs))) TrapRepresentation
  show_pieces bs
  Give (value_of kind (number_of bs))

-- a load of a pointer to a function, which is a plain address
abbrev pub load_func : List Row → CType → ℕ → Prov → Script ℕ
load_func rows ty a prov = do
  at ← access rows 8 8 a prov
  bs ← touch (Get at.object at.from 8)
  require (suits_load ty (declared_of at.life) at.from bs) EffectiveType
  require (all_written bs) Indeterminate
  show_pieces bs
  Give (number_of bs)

abbrev pub same_prov : Prov → Prov → Bool
same_prov Empty Empty = true
same_prov (Whole x) (Whole y) = same_object x y
same_prov (Either d x y) (Either e z w) = same_event d e && (same_object x z && same_object y w)
same_prov _ _ = false

abbrev pub is_piece : Prov → ℕ → Byte → Bool
is_piece prov i (written n (Some piece)) = same_prov piece.0 prov && piece.1 == i
is_piece prov i _ = false

-- the bytes are the pieces i and so on of one pointer value with this provenance
abbrev pub are_pieces : Prov → ℕ → List TaggedByte → Bool
are_pieces prov i [] = true
are_pieces prov i (b ∷ bs) = is_piece prov i b.byte && are_pieces prov (suc i) bs

abbrev pub origin_in : Byte → Option Prov
origin_in (written n (Some piece)) = Some piece.0
origin_in _ = None

abbrev pub pointer_if : Option Prov → List TaggedByte → Option Prov
pointer_if None bs = None
pointer_if (Some prov) bs = if are_pieces prov 0 bs then Some prov else None

-- the provenance of bytes that are the pieces of one pointer value, from 0 on
abbrev pub pointer_in : List TaggedByte → Option Prov
pointer_in [] = None
pointer_in (b ∷ bs) = pointer_if (origin_in b.byte) (b ∷ bs)

-- what a number that is cast to a pointer was made from
abbrev pub from_int : Event → ℕ → Script Prov
from_int who a = if a == 0 then Give Empty else (do
  at ← touch (Find a)
  Give (chosen at.0 at.1 who))

abbrev pub some_live : List ObjName → Script Bool
some_live [] = Give false
some_live (x ∷ xs) = do
  life ← touch (Ask x)
  rest ← some_live xs
  Give (is_live life || rest)

-- a pointer isn't loaded where it has candidates and all of them are dead (6.2.4p2)
abbrev pub target_lives : Prov → Script (Unit {0})
target_lives Empty = Give tt
target_lives prov = do
  ok ← some_live (candidates prov)
  require ok DeadObject

abbrev pub pointer_or_number : Event → Option Prov → ℕ → Script (ℕ × Prov)
pointer_or_number who (Some prov) a = target_lives prov >> Give (a, prov)
pointer_or_number who None a = do
  prov ← from_int who a
  Give (a, prov)

-- a load of a pointer to an object
abbrev pub load_ptr : List Row → CType → Event → (align a : ℕ) → Prov → Script (ℕ × Prov)
load_ptr rows ty who align a prov = do
  at ← access rows 8 align a prov
  bs ← touch (Get at.object at.from 8)
  require (suits_load ty (declared_of at.life) at.from bs) EffectiveType
  require (all_written bs) Indeterminate
  pointer_or_number who (pointer_in bs) (number_of bs)

-- the bytes of an object with declared type take the tags of its scalars
abbrev pub retagged : Option Form → ℕ → List TaggedByte → List TaggedByte
retagged None from bs = bs
retagged (Some form) from [] = []
retagged (Some form) from (b ∷ bs) = record { byte = b.byte; tag = declared_tag form from } ∷ retagged (Some form) (suc from) bs

-- a load of a structure or union: its bytes as they stand
abbrev pub load_block : List Row → (size align a : ℕ) → Prov → Script (List TaggedByte)
load_block rows size align a prov = do
  at ← access rows size align a prov
  bs ← touch (Get at.object at.from size)
  Give (retagged (declared_of at.life) at.from bs)

-- the tag that a store leaves on a byte of an object without declared type
abbrev pub tag_left : Seen → ℕ → Option Tag → Option Tag
tag_left (scalar ty) i old = if is_character ty then None else Some (read_as_int ty, i)
tag_left whole i old = old
tag_left bytes i old = None

abbrev pub stored_from : Option Form → Seen → ℕ → List TaggedByte → List TaggedByte
stored_from declared via i [] = []
stored_from None via i (b ∷ bs) = record { byte = b.byte; tag = tag_left via i b.tag } ∷ stored_from None via (suc i) bs
stored_from (Some form) via i (b ∷ bs) = record { byte = b.byte; tag = None } ∷ stored_from (Some form) via (suc i) bs

-- an initialization may store to a literal and to an object defined const (6.4.5p7, 6.7.3p6)
abbrev pub check_writable : Bool → Option Life → Script (Unit {0})
check_writable true life = Give tt
check_writable false life = require (not (is_literal life)) StoreToLiteral >> require (not (is_constant life)) StoreToConst

abbrev pub store : List Row → Bool → Seen → (align a : ℕ) → Prov → List TaggedByte → Script (Unit {0})
store rows first via align a prov bs = do
  at ← access rows (length bs) align a prov
  require (suits_store via (declared_of at.life) at.from) EffectiveType
  check_writable first at.life
  touch (Put at.object at.from (stored_from (declared_of at.life) via 0 bs))

-- a new object at its row
abbrev pub has_place : Option Row → ℕ → ℕ → Bool
has_place None size align = false
has_place (Some r) size align = r.size == size && r.align == align

abbrev pub base_in : Option Row → ℕ
base_in None = 0
base_in (Some r) = r.base

abbrev pub create : List Row → ObjName → (size align : ℕ) → ObjKind → Option Form → Script ℕ
create rows x size align kind declared =
    if has_place (row_of rows x) size align then touch (Bear x size kind declared) >> Give (base_in (row_of rows x)) else Misplace

abbrev pub kill : ObjName → Script (Unit {0})
kill x = touch (Bury x) >> Give tt

abbrev pub size_in : Option Row → ℕ
size_in None = 0
size_in (Some r) = r.size

-- a declaration without initializer leaves the object unwritten
abbrev pub unwrite : List Row → ObjName → Script (Unit {0})
unwrite rows x = do
  life ← touch (Ask x)
  if is_some life then touch (Put x 0 (replicate (size_in (row_of rows x)) fresh)) else Give tt

-- the address lies in the object or one past it
abbrev pub in_bounds : Option Row → ℤ → Bool
in_bounds None a = false
in_bounds (Some r) a = int_le (pos r.base) a && int_le a (pos (r.base + r.size))

-- of two candidates for which the tests tell, one is settled to, two leave the ambiguity as it is, none raises
abbrev pub settle_by : Bool → Bool → Event → ObjName → ObjName → Clause → Script (Unit {0})
settle_by true true id past start c = Give tt
settle_by true false id past start c = touch (Settle id past c)
settle_by false true id past start c = touch (Settle id start c)
settle_by false false id past start c = Raise c

-- pointer arithmetic (6.5.6p8)
abbrev pub shift : List Row → ℕ → Prov → ℤ → Script ℤ
shift rows a Empty by = Raise OutOfBounds
shift rows a (Whole x) by = require (in_bounds (row_of rows x) (pos a +ℤ by)) OutOfBounds >> Give (pos a +ℤ by)
shift rows a (Either id past start) by =
    settle_by (in_bounds (row_of rows past) (pos a +ℤ by)) (in_bounds (row_of rows start) (pos a +ℤ by)) id past start OutOfBounds >> Give (pos a +ℤ by)

abbrev pub is_among : ObjName → List ObjName → Bool
is_among x [] = false
is_among x (y ∷ ys) = same_object x y || is_among x ys

-- the candidates that two provenances have in common
abbrev pub in_common : List ObjName → List ObjName → List ObjName
in_common [] ys = []
in_common (x ∷ xs) ys = if is_among x ys then x ∷ in_common xs ys else in_common xs ys

abbrev pub settle_to : Prov → ObjName → Clause → Script (Unit {0})
settle_to (Either id past start) x c = touch (Settle id x c)
settle_to _ x c = Give tt

-- a comparison settles each ambiguity where just one candidate is common, and raises where none is
abbrev pub settle_common : List ObjName → Prov → Prov → Clause → Script (Unit {0})
settle_common [] p q c = Raise c
settle_common (x ∷ []) p q c = settle_to p x c >> settle_to q x c
settle_common (x ∷ y ∷ ys) p q c = Give tt

-- the order of two pointers is that of their addresses (6.5.8p5)
abbrev pub less : Prov → Prov → Script (Unit {0})
less p q = settle_common (in_common (candidates p) (candidates q)) p q PointerComparison

-- the distance is a multiple of the size (6.5.6p9)
abbrev pub is_multiple : ℕ → ℕ → ℕ → Bool
is_multiple zero a b = false
is_multiple (suc n) a b = (a % suc n) == (b % suc n)

abbrev pub diff : ℕ → Prov → ℕ → Prov → ℕ → Script (Unit {0})
diff a p b q size = require (is_multiple size a b) PointerDifference >> settle_common (in_common (candidates p) (candidates q)) p q PointerDifference

abbrev pub expose : Prov → Script (Unit {0})
expose prov = show_each (candidates prov)

abbrev pub the_one_in : Bool → Bool → ObjName → ObjName → Option ObjName
the_one_in true false x y = Some x
the_one_in false true x y = Some y
the_one_in _ _ x y = None

-- the object of a library function's pointer argument; no bytes may leave an ambiguity open
abbrev pub argument_object : List Row → ℕ → ℕ → Prov → Script (Option ObjName)
argument_object rows len a Empty = Raise LibraryArgument
argument_object rows len a (Whole x) = Give (Some x)
argument_object rows len a (Either id past start) =
    settle_by (in_row (row_of rows past) a len) (in_row (row_of rows start) a len) id past start LibraryArgument >> Give
    (the_one_in (in_row (row_of rows past) a len) (in_row (row_of rows start) a len) past start)

abbrev pub argument_in : List Row → ℕ → ℕ → Option ObjName → Script (Option Accessed)
argument_in rows len a None = Give None
argument_in rows len a (Some x) = do
  life ← touch (Ask x)
  require (is_live life) DeadObject
  require (in_row (row_of rows x) a len) LibraryArgument
  Give (Some (record { object = x; from = offset_in (row_of rows x) a; life = life }))

-- the checks of a library function's pointer argument (7.1.4p1)
abbrev pub argument : List Row → (len a : ℕ) → Prov → Script (Option Accessed)
argument rows len a prov = do
  require (not (a == 0)) LibraryArgument
  x ← argument_object rows len a prov
  argument_in rows len a x

abbrev pub copy_between : ℕ → Option Accessed → Option Accessed → Script (Unit {0})
copy_between (suc n) (Some target) (Some source) = do
  check_writable false target.life
  bs ← touch (Get source.object source.from (suc n))
  touch (Put target.object target.from (stored_from (declared_of target.life) whole 0 (retagged (declared_of source.life) source.from bs)))
copy_between _ target source = Give tt

-- bytes are copied as by way of a buffer, with their pieces and tags
abbrev pub copy : List Row → (to : ℕ) → Prov → (from : ℕ) → Prov → ℕ → Script (Unit {0})
copy rows to p from q len = do
  target ← argument rows len to p
  source ← argument rows len from q
  copy_between len target source
