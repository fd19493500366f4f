-- The functions of the library, but for those that take a format, as scripts of touches (7.21.7.6, 7.21.7.8, 7.21.7.9, 7.22.3, 7.22.4, 7.24).
-- A pointer argument is checked in the order: null, dead, range; then unwritten bytes, writability and overlap (own: the order).
use Rattle.std.specs.Prelude.{
  ℕ,
  zero,
  suc,
  ◌+◌,
  ◌-◌,
  ◌*◌,
  ◌^◌,
  Bool,
  true,
  false,
  not,
  ◌&&◌,
  ◌||◌,
  ◌==◌,
  nat_lt,
  nat_le,
  min,
  max,
  List,
  [],
  ◌∷◌,
  ◌++◌,
  length,
  map,
  replicate,
  Option,
  Some,
  None,
  if◌then◌else◌,
  ℤ,
  pos,
  negsuc,
  unsigned_abs,
}
use Rattle.std.specs.Int.{int_rem_euclid}
use Rattle.ub_base.specs.declared.clause.Clause.{Clause}
use Rattle.ub_base.specs.declared.clause.Clause.TheVariants.{
  LibraryArgument,
  Indeterminate,
  MemcpyOverlap,
  StrcpyOverlap,
  Free as FreeOfOther,
  Realloc as ReallocOfOther,
}
use Rattle.ub_base.specs.declared.clause.Cause.TheVariants.{Output as PastOutput, Created as PastCreated}
use Rattle.ub_base.specs.declared.names.Event.{Event}
use Rattle.ub_base.specs.declared.names.ObjName.{ObjName}
use Rattle.ub_base.specs.declared.names.ObjName.TheVariants.{Heap}
use Rattle.ub_base.specs.declared.names.Item.{Item}
use Rattle.ub_base.specs.declared.names.Item.TheVariants.{Read}
use Rattle.ub_base.specs.Names.{same_object}
use Rattle.addr_map.specs.declared.map.Row.{Row}
use Rattle.addr_map.specs.Rows.{row_of}
use Rattle.exposure.specs.declared.prov.Prov.{Prov}
use Rattle.exposure.specs.declared.prov.Prov.TheVariants.{Empty, Whole, Either}
use Rattle.c_types.specs.declared.library.LibFunc.{LibFunc}
use Rattle.c_types.specs.declared.library.LibFunc.TheVariants.{
  Malloc,
  Calloc,
  Realloc,
  Free,
  Memcpy,
  Memmove,
  Memset,
  Memcmp,
  Strlen,
  Strcpy,
  Strcmp,
  Strchr,
  Getchar,
  Putchar,
  Puts,
  Printf,
  Fprintf,
  Sprintf,
  Snprintf,
  Exit,
  Abort,
}
use Rattle.mem_spec.specs.declared.kind.ObjKind.{ObjKind}
use Rattle.mem_spec.specs.declared.stream.Stream.TheVariants as streams
use Rattle.mem_spec.specs.Streams.{total}
use Rattle.mem_spec.specs.Store.{Byte, written, TaggedByte, Life, Store}
use Rattle.mem_spec.specs.Script.{
  Ask,
  Get,
  Put,
  Bury,
  Settle,
  Take,
  Print,
  Script,
  Give,
  Raise,
  Finish,
  touch,
  require,
  ◌>>=◌,
  ◌>>◌,
  Act,
  Done,
  Raised,
  Outside,
  run,
}
use Rattle.mem_spec.specs.Acts.{
  Accessed,
  argument,
  check_writable,
  copy_between,
  create,
  declared_of,
  stored_from,
  bytes,
  all_written,
  number_in,
  show_pieces,
  size_in,
  base_in,
}

-- an argument, or what a function gives
pub data LibValue : Type 0 where
  number : ℤ → LibValue
  pointer : (address : ℕ) → Prov → LibValue
  nothing : LibValue

abbrev pub null : LibValue
null = pointer 0 Empty

-- the arguments in order; one that isn't there reads as null or 0
abbrev pub argument_at : List LibValue → ℕ → LibValue
argument_at [] i = nothing
argument_at (v ∷ vs) zero = v
argument_at (v ∷ vs) (suc i) = argument_at vs i

abbrev pub address_in : LibValue → ℕ
address_in (pointer a p) = a
address_in _ = 0

abbrev pub prov_in : LibValue → Prov
prov_in (pointer a p) = p
prov_in _ = Empty

-- one that is no pointer reads as null
abbrev pub pointer_in : LibValue → LibValue
pointer_in v = pointer (address_in v) (prov_in v)

abbrev pub integer_in : LibValue → ℤ
integer_in (number n) = n
integer_in _ = pos 0

abbrev pub size_of_value : LibValue → ℕ
size_of_value v = unsigned_abs (integer_in v)

-- a number modulo 256
abbrev pub low_byte : ℤ → ℕ
low_byte n = unsigned_abs (int_rem_euclid n (pos 256))

abbrev pub plain : ℕ → TaggedByte
plain n = record { byte = written n None; tag = None }

abbrev pub number_of_byte : TaggedByte → ℕ
number_of_byte b = number_in b.byte

abbrev pub numbers : List TaggedByte → List ℕ
numbers bs = map number_of_byte bs

-- bytes as a library function reads them: each is written, and the pieces of pointers among them expose
abbrev pub read_numbers : List TaggedByte → Script (List ℕ)
read_numbers bs = require (all_written bs) Indeterminate >> (show_pieces bs >> Give (numbers bs))

abbrev pub life_at : Option Accessed → Option Life
life_at None = None
life_at (Some at) = at.life

-- a range of no bytes may be written anywhere (own)
abbrev pub check_target : ℕ → Option Accessed → Script (Unit {0})
check_target (suc n) (Some at) = check_writable false at.life
check_target _ at = Give tt

-- bytes of a range that was checked
abbrev pub bytes_at : ℕ → Option Accessed → Script (List TaggedByte)
bytes_at (suc n) (Some at) = touch (Get at.object at.from (suc n))
bytes_at _ at = Give []

-- numbers are stored over a range that was checked; they leave no tag
abbrev pub write_numbers : List ℕ → Option Accessed → Script (Unit {0})
write_numbers (n ∷ ns) (Some at) = touch (Put at.object at.from (stored_from (declared_of at.life) bytes 0 (map plain (n ∷ ns))))
write_numbers _ at = Give tt

abbrev pub is_zero : Byte → Bool
is_zero (written zero piece) = true
is_zero _ = false

abbrev pub ends_in_zero : List TaggedByte → Bool
ends_in_zero [] = false
ends_in_zero (b ∷ bs) = is_zero b.byte

abbrev pub behind : List TaggedByte → Option (List TaggedByte) → Option (List TaggedByte)
behind bs None = None
behind bs (Some more) = Some (bs ++ more)

-- the bytes up to and with the first written zero, if there is one among the next n
abbrev pub until_zero : ℕ → ObjName → ℕ → Script (Option (List TaggedByte))
until_zero zero x from = Give None
until_zero (suc n) x from = do
  bs ← touch (Get x from 1)
  if ends_in_zero bs then Give (Some bs) else (do
    more ← until_zero n x (suc from)
    Give (behind bs more))

pub record Text : Type 0 where
  pub at : Accessed
  pub bytes : List TaggedByte

abbrev pub text_at : Accessed → Option (List TaggedByte) → Script Text
text_at at None = Raise LibraryArgument
text_at at (Some bs) = Give (record { at = at; bytes = bs })

abbrev pub text_from : List Row → Option Accessed → Script Text
text_from rows None = Raise LibraryArgument
text_from rows (Some at) = do
  found ← until_zero (size_in (row_of rows at.object) - at.from) at.object at.from
  text_at at found

-- a string argument with its zero (7.1.1p1): the checks of its first byte, and a zero in the object
abbrev pub text : List Row → ℕ → Prov → Script Text
text rows a prov = do
  at ← argument rows 1 a prov
  text_from rows at

-- the order of two lists of bytes, by the first difference
abbrev pub order_of : List ℕ → List ℕ → ℤ
order_of [] [] = pos 0
order_of [] (y ∷ ys) = negsuc 0
order_of (x ∷ xs) [] = pos 1
order_of (x ∷ xs) (y ∷ ys) = if nat_lt x y then negsuc 0 else (if nat_lt y x then pos 1 else order_of xs ys)

-- two ranges of this many bytes have one in common
abbrev pub overlap : ℕ → ℕ → ℕ → Bool
overlap n a b = if nat_le a b then nat_lt (b - a) n else nat_lt (a - b) n

-- 7.22.3

abbrev pub heap_kind : ObjKind
heap_kind = record { heap = true; literal = false; constant = false }

abbrev pub heap_name : Event → ObjName
heap_name who = Heap who.frame who.turn who.node

-- an allocation gives an object for 1 to 2 ^ 20 bytes (own)
abbrev pub is_given : ℕ → Bool
is_given n = nat_lt 0 n && nat_le n (2 ^ 20)

abbrev pub new_object : List Row → Event → ℕ → Script ℕ
new_object rows who n = create rows (heap_name who) n 16 heap_kind None

abbrev pub malloc : List Row → Event → ℕ → Script LibValue
malloc rows who n = if is_given n then (do
  base ← new_object rows who n
  Give (pointer base (Whole (heap_name who))))
    else Give null

abbrev pub calloc : List Row → Event → ℕ → Script LibValue
calloc rows who n = if is_given n then (do
  base ← new_object rows who n
  life ← touch (Ask (heap_name who))
  touch (Put (heap_name who) 0 (replicate n (plain 0)))
  Give (pointer base (Whole (heap_name who))))
    else Give null

-- the object lives on the heap and begins at the address
abbrev pub is_heap_start : Option Row → ℕ → Option Life → Bool
is_heap_start row a None = false
is_heap_start row a (Some l) = l.live && (l.kind.heap && base_in row == a)

-- the object that free and realloc mean: of an ambiguity the one that the address begins
abbrev pub start_object : Prov → Clause → Script ObjName
start_object Empty c = Raise c
start_object (Whole x) c = Give x
start_object (Either id past start) c = touch (Settle id start c) >> Give start

abbrev pub free : List Row → ℕ → Prov → Clause → Script (Unit {0})
free rows zero prov c = Give tt
free rows a prov c = do
  x ← start_object prov c
  life ← touch (Bury x)
  require (is_heap_start (row_of rows x) a life) c

-- a new object with the bytes that both have; the old one dies
abbrev pub moved : List Row → Event → ObjName → ℕ → Script LibValue
moved rows who x n = do
  bs ← touch (Get x 0 (min (size_in (row_of rows x)) n))
  base ← new_object rows who n
  life ← touch (Ask (heap_name who))
  touch (Put (heap_name who) 0 bs)
  old ← touch (Bury x)
  Give (pointer base (Whole (heap_name who)))

abbrev pub resized : List Row → Event → ℕ → Prov → ℕ → Script LibValue
resized rows who a prov n = do
  x ← start_object prov ReallocOfOther
  life ← touch (Ask x)
  require (is_heap_start (row_of rows x) a life) ReallocOfOther
  if is_given n then moved rows who x n else Give null

abbrev pub realloc : List Row → Event → ℕ → Prov → ℕ → Script LibValue
realloc rows who zero prov n = malloc rows who n
realloc rows who a prov zero = free rows a prov ReallocOfOther >> Give null
realloc rows who a prov n = resized rows who a prov n

-- 7.24

abbrev pub memmove : List Row → Bool → (to : ℕ) → Prov → (from : ℕ) → Prov → ℕ → Script LibValue
memmove rows may_overlap to p from q n = do
  target ← argument rows n to p
  source ← argument rows n from q
  check_target n target
  require (may_overlap || not (overlap n to from)) MemcpyOverlap
  copy_between n target source
  Give (pointer to p)

abbrev pub memset : List Row → ℕ → Prov → ℤ → ℕ → Script LibValue
memset rows a prov c n = do
  target ← argument rows n a prov
  check_target n target
  write_numbers (replicate n (low_byte c)) target
  Give (pointer a prov)

abbrev pub memcmp : List Row → ℕ → Prov → ℕ → Prov → ℕ → Script LibValue
memcmp rows a p b q n = do
  first ← argument rows n a p
  second ← argument rows n b q
  xs ← bytes_at n first
  x ← read_numbers xs
  ys ← bytes_at n second
  y ← read_numbers ys
  Give (number (order_of x y))

abbrev pub strlen : List Row → ℕ → Prov → Script LibValue
strlen rows a prov = do
  s ← text rows a prov
  ns ← read_numbers s.bytes
  Give (number (pos (length s.bytes - 1)))

-- the source is checked before the target, whose range it gives
abbrev pub strcpy : List Row → (to : ℕ) → Prov → (from : ℕ) → Prov → Script LibValue
strcpy rows to p from q = do
  source ← text rows from q
  target ← argument rows (length source.bytes) to p
  ns ← read_numbers source.bytes
  check_target (length source.bytes) target
  require (not (overlap (length source.bytes) to from)) StrcpyOverlap
  write_numbers ns target
  Give (pointer to p)

abbrev pub strcmp : List Row → ℕ → Prov → ℕ → Prov → Script LibValue
strcmp rows a p b q = do
  first ← text rows a p
  second ← text rows b q
  x ← read_numbers first.bytes
  y ← read_numbers second.bytes
  Give (number (order_of x y))

abbrev pub place_of : ℕ → ℕ → List ℕ → Option ℕ
place_of c i [] = None
place_of c i (n ∷ ns) = if n == c then Some i else place_of c (suc i) ns

abbrev pub pointer_behind : ℕ → Prov → Option ℕ → LibValue
pointer_behind a prov None = null
pointer_behind a prov (Some i) = pointer (a + i) prov

abbrev pub strchr : List Row → ℕ → Prov → ℤ → Script LibValue
strchr rows a prov c = do
  s ← text rows a prov
  ns ← read_numbers s.bytes
  Give (pointer_behind a prov (place_of (low_byte c) 0 ns))

-- 7.21

abbrev pub byte_or_end : Option ℕ → LibValue
byte_or_end None = number (negsuc 0)
byte_or_end (Some b) = number (pos b)

abbrev pub getchar : Script LibValue
getchar = do
  b ← touch Take
  Give (byte_or_end b)

abbrev pub putchar : ℤ → Script LibValue
putchar c = touch (Print streams.Output (low_byte c ∷ [])) >> Give (number (pos (low_byte c)))

abbrev pub without_zero : List ℕ → List ℕ
without_zero [] = []
without_zero (n ∷ []) = []
without_zero (n ∷ m ∷ ns) = n ∷ without_zero (m ∷ ns)

-- the value of puts is own
abbrev pub puts : List Row → ℕ → Prov → Script LibValue
puts rows a prov = do
  s ← text rows a prov
  ns ← read_numbers s.bytes
  touch (Print streams.Output (without_zero ns ++ 10 ∷ []))
  Give (number (pos 1))

-- what a function does to the store
abbrev pub library : List Row → LibFunc → List LibValue → Event → Script LibValue
library rows Malloc vs who = malloc rows who (size_of_value (argument_at vs 0))
library rows Calloc vs who = calloc rows who (size_of_value (argument_at vs 0) * size_of_value (argument_at vs 1))
library rows Realloc vs who = realloc rows who (address_in (argument_at vs 0)) (prov_in (argument_at vs 0)) (size_of_value (argument_at vs 1))
library rows Free vs who = free rows (address_in (argument_at vs 0)) (prov_in (argument_at vs 0)) FreeOfOther >> Give nothing
library rows Memcpy vs who = memmove rows false (address_in (argument_at vs 0)) (prov_in (argument_at vs 0)) (address_in (argument_at vs 1))
    (prov_in (argument_at vs 1)) (size_of_value (argument_at vs 2))
library rows Memmove vs who = memmove rows true (address_in (argument_at vs 0)) (prov_in (argument_at vs 0)) (address_in (argument_at vs 1))
    (prov_in (argument_at vs 1)) (size_of_value (argument_at vs 2))
library rows Memset vs who = memset rows (address_in (argument_at vs 0)) (prov_in (argument_at vs 0)) (integer_in (argument_at vs 1))
    (size_of_value (argument_at vs 2))
library rows Memcmp vs who = memcmp rows (address_in (argument_at vs 0)) (prov_in (argument_at vs 0)) (address_in (argument_at vs 1))
    (prov_in (argument_at vs 1)) (size_of_value (argument_at vs 2))
library rows Strlen vs who = strlen rows (address_in (argument_at vs 0)) (prov_in (argument_at vs 0))
library rows Strcpy vs who = strcpy rows (address_in (argument_at vs 0)) (prov_in (argument_at vs 0)) (address_in (argument_at vs 1))
    (prov_in (argument_at vs 1))
library rows Strcmp vs who = strcmp rows (address_in (argument_at vs 0)) (prov_in (argument_at vs 0)) (address_in (argument_at vs 1))
    (prov_in (argument_at vs 1))
library rows Strchr vs who = strchr rows (address_in (argument_at vs 0)) (prov_in (argument_at vs 0)) (integer_in (argument_at vs 1))
library rows Getchar vs who = getchar
library rows Putchar vs who = putchar (integer_in (argument_at vs 0))
library rows Puts vs who = puts rows (address_in (argument_at vs 0)) (prov_in (argument_at vs 0))
library rows Printf vs who = Give nothing
library rows Fprintf vs who = Give nothing
library rows Sprintf vs who = Give nothing
library rows Snprintf vs who = Give nothing
library rows Exit vs who = Finish (low_byte (integer_in (argument_at vs 0)))
library rows Abort vs who = Finish 134

-- the functions that read strings
abbrev pub reads_strings : LibFunc → Bool
reads_strings Strlen = true
reads_strings Strcpy = true
reads_strings Strcmp = true
reads_strings Strchr = true
reads_strings Puts = true
reads_strings _ = false

-- two reads are one where the second begins where the first ends
abbrev pub joins : Item → List Item → List Item
joins (Read x a n) (Read y b m ∷ is) = if same_object x y && b == a + n then Read x a (n + m) ∷ is else Read x a n ∷ Read y b m ∷ is
joins i is = i ∷ is

abbrev pub joined : List Item → List Item
joined [] = []
joined (i ∷ is) = joins i (joined is)

-- a string is read byte by byte up to its zero; the items of a call name all of it by one range (own)
abbrev pub in_ranges : Act LibValue → Act LibValue
in_ranges (Done v is s) = Done v (joined is) s
in_ranges act = act

abbrev pub noted : LibFunc → Act LibValue → Act LibValue
noted f act = if reads_strings f then in_ranges act else act

-- how many bytes a call allocates
abbrev pub asked : LibFunc → List LibValue → ℕ
asked Malloc vs = size_of_value (argument_at vs 0)
asked Calloc vs = size_of_value (argument_at vs 0) * size_of_value (argument_at vs 1)
asked Realloc vs = size_of_value (argument_at vs 1)
asked _ vs = 0

abbrev pub created_with : Store → ℕ → ℕ
created_with s n = min (s.created + max n 16) (2 ^ 62)

-- the limit on created bytes goes before a missing row, and behind all that raises
abbrev pub created_within : ℕ → Store → Act LibValue → Act LibValue
created_within n s (Raised c) = Raised c
created_within n s act = if is_given n && nat_lt (2 ^ 26) (created_with s n) then Outside PastCreated (created_with s n) else act

-- the limit on the bytes of standard output and standard error together (own)
abbrev pub output_within : Act LibValue → Act LibValue
output_within (Done v is s) = if nat_lt (2 ^ 24) (total s.output) then Outside PastOutput (total s.output) else Done v is s
output_within act = act

-- a call of a library function, with the limits
abbrev pub called : List Row → LibFunc → List LibValue → Event → Store → Act LibValue
called rows f vs who s = output_within (created_within (asked f vs) s (noted f (run rows (library rows f vs who) s)))
