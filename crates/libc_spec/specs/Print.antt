-- printf as a script of touches: its directives from left to right, each with its arguments and its bytes (7.21.6.1, 7.21.6.3).
use Rattle.std.specs.Prelude.{
  ℕ,
  zero,
  suc,
  ◌+◌,
  ◌-◌,
  ◌/◌,
  ◌%◌,
  Bool,
  true,
  false,
  not,
  ◌&&◌,
  ◌||◌,
  ◌==◌,
  nat_lt,
  nat_le,
  min,
  max,
  List,
  [],
  ◌∷◌,
  ◌++◌,
  length,
  drop,
  replicate,
  Option,
  Some,
  None,
  is_none,
  if◌then◌else◌,
  ℤ,
  pos,
  negsuc,
  int_lt,
  unsigned_abs,
}
use Rattle.c_arith.specs.Operators.{conv}
use Rattle.c_types.specs.declared.kind.IntKind.{IntKind}
use Rattle.c_types.specs.declared.kind.IntKind.TheVariants.{SChar, UChar, Short, UShort, Int, UInt, Long, ULong, LLong}
use Rattle.c_types.specs.Kinds.{holds, unsigned_form}
use Rattle.c_types.specs.Types.{CType, void, int, pointer, is_character}
use Rattle.ub_base.specs.declared.clause.Clause.TheVariants.{LibraryArgument, TooFewArguments, Conversion}
use Rattle.ub_base.specs.declared.clause.Cause.TheVariants.{Conversion as PastConversion, Directive as PastDirective}
use Rattle.ub_base.specs.declared.names.ObjName.{ObjName}
use Rattle.addr_map.specs.declared.map.Row.{Row}
use Rattle.addr_map.specs.Rows.{row_of}
use Rattle.mem_spec.specs.Store.{TaggedByte, Store}
use Rattle.mem_spec.specs.declared.stream.Stream.{Stream}
use Rattle.mem_spec.specs.declared.stream.Stream.TheVariants as streams
use Rattle.mem_spec.specs.Script.{Get, Print, Script, Give, Raise, Exceed, touch, require, ◌>>=◌, ◌>>◌, Act, run}
use Rattle.mem_spec.specs.Acts.{Accessed, argument, expose, size_in}
use Rattle.libc_spec.specs.Library.{
  LibValue,
  number,
  pointer_in,
  address_in,
  prov_in,
  integer_in,
  low_byte,
  read_numbers,
  without_zero,
  text,
  ends_in_zero,
  in_ranges,
  output_within,
}
use Rattle.libc_spec.specs.Directives.{
  Flags,
  Count,
  absent,
  count,
  Length,
  hh,
  h,
  l,
  ll,
  j,
  z,
  t,
  Directive,
  most,
  directive_of,
  Form,
  taken,
  left_out,
  invalid,
  form,
  is_in,
}
use Rattle.libc_spec.specs.Directives as directives

-- an argument with its type
pub record Argument : Type 0 where
  pub value : LibValue
  pub ty : CType

-- what a step takes and what is left
pub record Taken (A : Type 0) : Type 0 where
  pub item : A
  pub rest : List Argument

abbrev pub next : List Argument → Script (Taken Argument)
next [] = Raise TooFewArguments
next (a ∷ as') = Give (record { item = a; rest = as' })

abbrev pub is_int : CType → Bool
is_int (int Int) = true
is_int _ = false

-- an argument of type int
abbrev pub next_int : List Argument → Script (Taken ℤ)
next_int as' = do
  a ← next as'
  require (is_int a.item.ty) Conversion
  Give (record { item = integer_in a.item.value; rest = a.rest })

pub record Width : Type 0 where
  pub size : ℕ
  pub is_left : Bool

-- a number above 2 ^ 62 counts as 2 ^ 62 (own)
abbrev pub counted : ℕ → ℕ
counted n = min n most

-- a negative width is the flag `-` with its absolute value (7.21.6.1p5)
abbrev pub width_taken : Count → List Argument → Script (Taken Width)
width_taken absent as' = Give (record { item = record { size = 0; is_left = false }; rest = as' })
width_taken (count n) as' = Give (record { item = record { size = n; is_left = false }; rest = as' })
width_taken directives.argument as' = do
  n ← next_int as'
  Give (record { item = record { size = counted (unsigned_abs n.item); is_left = int_lt n.item (pos 0) }; rest = n.rest })

abbrev pub not_negative : ℤ → Option ℕ
not_negative (pos n) = Some (counted n)
not_negative (negsuc n) = None

-- a negative precision is none
abbrev pub precision_taken : Count → List Argument → Script (Taken (Option ℕ))
precision_taken absent as' = Give (record { item = None; rest = as' })
precision_taken (count n) as' = Give (record { item = Some n; rest = as' })
precision_taken directives.argument as' = do
  n ← next_int as'
  Give (record { item = not_negative n.item; rest = n.rest })

-- the signed type of a length
abbrev pub signed_kind : Length → IntKind
signed_kind l = Long
signed_kind j = Long
signed_kind z = Long
signed_kind t = Long
signed_kind ll = LLong
signed_kind _ = Int

-- the type to which hh and h convert
abbrev pub converted : Length → Bool → ℤ → ℤ
converted hh true n = conv SChar n
converted hh false n = conv UChar n
converted h true n = conv Short n
converted h false n = conv UShort n
converted _ signed n = n

abbrev pub same_kind : IntKind → CType → Bool
same_kind Int (int Int) = true
same_kind UInt (int UInt) = true
same_kind Long (int Long) = true
same_kind ULong (int ULong) = true
same_kind LLong (int LLong) = true
same_kind IntKind.ULLong (int IntKind.ULLong) = true
same_kind k ty = false

-- the type of the conversion, or the other signedness where the value is in both (6.5.2.2p6)
abbrev pub fits_kind : IntKind → Bool → Argument → Bool
fits_kind k signed a =
    (if signed then same_kind k a.ty else same_kind (unsigned_form k) a.ty)
    || ((if signed then same_kind (unsigned_form k) a.ty else same_kind k a.ty)
    && (holds k (integer_in a.value) && holds (unsigned_form k) (integer_in a.value)))

abbrev pub next_integer : Length → Bool → List Argument → Script (Taken ℤ)
next_integer m signed as' = do
  a ← next as'
  require (fits_kind (signed_kind m) signed a.item) Conversion
  Give (record { item = converted m signed (integer_in a.item.value); rest = a.rest })

abbrev pub is_target : Bool → CType → Bool
is_target may_be_void (pointer c void) = may_be_void
is_target may_be_void (pointer c ty) = is_character ty
is_target may_be_void _ = false

abbrev pub next_pointer : Bool → List Argument → Script (Taken LibValue)
next_pointer may_be_void as' = do
  a ← next as'
  require (is_target may_be_void a.item.ty) Conversion
  Give (record { item = pointer_in a.item.value; rest = a.rest })

-- the digits of a number, the highest first; none for 0
abbrev pub digit : Bool → ℕ → ℕ
digit upper n = if nat_lt n 10 then 48 + n else ((if upper then 55 else 87) + n)

abbrev pub digits_by : ℕ → Bool → ℕ → ℕ → List ℕ
digits_by zero upper base n = []
digits_by (suc fuel) upper base n = if n == 0 then [] else digits_by fuel upper base (n / base) ++ digit upper (n % base) ∷ []

-- numbers have at most 64 bits
abbrev pub digits : Bool → ℕ → ℕ → List ℕ
digits upper base n = digits_by 64 upper base n

-- the parts of a conversion: what stands before it, zeros, and the rest
pub record Parts : Type 0 where
  pub prefix : List ℕ
  pub zeros : ℕ
  pub body : List ℕ

abbrev pub own_size : Parts → ℕ
own_size p = length p.prefix + p.zeros + length p.body

pub record Field : Type 0 where
  pub width : ℕ
  pub is_left : Bool
  pub has_zeros : Bool

-- padded by spaces on the left, on the right, or by zeros behind the prefix
abbrev pub padded : Parts → Field → ℕ → List ℕ
padded p f padding =
    if f.is_left then p.prefix ++ (replicate p.zeros 48 ++ (p.body ++ replicate padding 32))
    else if f.has_zeros then p.prefix ++ (replicate (p.zeros + padding) 48 ++ p.body)
    else replicate padding 32 ++ (p.prefix ++ (replicate p.zeros 48 ++ p.body))

abbrev pub whole_size : Parts → Field → ℕ
whole_size p f = min (max (own_size p) f.width) most

-- a conversion has at most 4,095 bytes (own)
abbrev pub field : Parts → Field → Script (List ℕ)
field p f =
    if nat_lt 4095 (whole_size p f) then Exceed PastConversion (whole_size p f)
    else Give (padded p f (whole_size p f - own_size p))

abbrev pub sign : Flags → ℤ → List ℕ
sign flags (negsuc n) = 45 ∷ []
sign flags (pos n) = if flags.plus then 43 ∷ [] else (if flags.space then 32 ∷ [] else [])

abbrev pub hex_prefix : Flags → ℕ → ℕ → List ℕ
hex_prefix flags c n =
    if flags.hash && (not (n == 0) && is_in c (120 ∷ 88 ∷ [])) then 48 ∷ c ∷ [] else []

abbrev pub least_digits : Option ℕ → ℕ
least_digits None = 1
least_digits (Some n) = n

-- `#` with `o` makes the first digit 0
abbrev pub zeros_before : Flags → ℕ → Option ℕ → List ℕ → ℕ
zeros_before flags c precision ds =
    if c == 111 && (flags.hash && nat_le (least_digits precision) (length ds)) then 1 else least_digits precision - length ds

abbrev pub base_of : ℕ → ℕ
base_of c = if c == 111 then 8 else (if is_in c (120 ∷ 88 ∷ []) then 16 else 10)

abbrev pub is_signed_conversion : ℕ → Bool
is_signed_conversion c = is_in c (100 ∷ 105 ∷ [])

abbrev pub integer_parts : Flags → ℕ → Option ℕ → ℤ → Parts
integer_parts flags c precision n = record {
  prefix = if is_signed_conversion c then sign flags n else hex_prefix flags c (unsigned_abs n);
  zeros = zeros_before flags c precision (digits (c == 88) (base_of c) (unsigned_abs n));
  body = digits (c == 88) (base_of c) (unsigned_abs n);
}

abbrev pub bare : List ℕ → Parts
bare body = record { prefix = []; zeros = 0; body = body }

abbrev pub spaced : Flags → Width → Field
spaced flags w = record { width = w.size; is_left = flags.minus || w.is_left; has_zeros = false }

abbrev pub integer_field : Flags → Width → Option ℕ → Field
integer_field flags w precision = record { width = w.size; is_left = flags.minus || w.is_left; has_zeros = flags.zeros && is_none precision }

-- the bytes up to the first written zero, or as many as are wanted, whichever comes first
abbrev pub until_most : (wanted left : ℕ) → ObjName → ℕ → Script (List TaggedByte)
until_most zero left x from = Give []
until_most (suc wanted) zero x from = Raise LibraryArgument
until_most (suc wanted) (suc left) x from = do
  bs ← touch (Get x from 1)
  if ends_in_zero bs then Give bs else (do
    more ← until_most wanted left x (suc from)
    Give (bs ++ more))

abbrev pub bounded_from : List Row → ℕ → Option Accessed → Script (List TaggedByte)
bounded_from rows n None = Give []
bounded_from rows n (Some at) = until_most n (size_in (row_of rows at.object) - at.from) at.object at.from

-- without the zero that ended it
abbrev pub before_zero : List ℕ → List ℕ
before_zero [] = []
before_zero (zero ∷ ns) = []
before_zero (suc n ∷ ns) = suc n ∷ before_zero ns

-- the bytes of a string that are printed
abbrev pub string_bytes : List Row → LibValue → Option ℕ → Script (List ℕ)
string_bytes rows v None = do
  s ← text rows (address_in v) (prov_in v)
  ns ← read_numbers s.bytes
  Give (before_zero ns)
string_bytes rows v (Some n) = do
  at ← argument rows (min n 1) (address_in v) (prov_in v)
  bs ← bounded_from rows n at
  ns ← read_numbers bs
  Give (before_zero ns)

abbrev pub one : List ℕ → List Argument → Script (Taken (List ℕ))
one bytes as' = Give (record { item = bytes; rest = as' })

abbrev pub put_integer : Directive → Width → Option ℕ → List Argument → Script (Taken (List ℕ))
put_integer d w precision as' = do
  n ← next_integer d.modifier (is_signed_conversion d.conversion) as'
  bytes ← field (integer_parts d.flags d.conversion precision n.item) (integer_field d.flags w precision)
  one bytes n.rest

abbrev pub put_byte : Directive → Width → List Argument → Script (Taken (List ℕ))
put_byte d w as' = do
  n ← next_int as'
  bytes ← field (bare (low_byte n.item ∷ [])) (spaced d.flags w)
  one bytes n.rest

abbrev pub put_string : List Row → Directive → Width → Option ℕ → List Argument → Script (Taken (List ℕ))
put_string rows d w precision as' = do
  v ← next_pointer false as'
  body ← string_bytes rows v.item precision
  bytes ← field (bare body) (spaced d.flags w)
  one bytes v.rest

abbrev pub address_parts : ℕ → Parts
address_parts a = record { prefix = 48 ∷ 120 ∷ []; zeros = if a == 0 then 1 else 0; body = digits false 16 a }

-- `0x` and hexadecimal digits, `0x0` for null (own); the pointer is exposed
abbrev pub put_address : Directive → Width → List Argument → Script (Taken (List ℕ))
put_address d w as' = do
  v ← next_pointer true as'
  expose (prov_in v.item)
  bytes ← field (address_parts (address_in v.item)) (spaced d.flags w)
  one bytes v.rest

abbrev pub put_sized : List Row → Directive → Width → Option ℕ → List Argument → Script (Taken (List ℕ))
put_sized rows d w precision as' =
    if d.conversion == 99 then put_byte d w as'
    else if d.conversion == 115 then put_string rows d w precision as'
    else if d.conversion == 112 then put_address d w as'
    else put_integer d w precision as'

abbrev pub put : List Row → Directive → List Argument → Script (Taken (List ℕ))
put rows d as' = if d.conversion == 37 then one (37 ∷ []) as' else (do
  w ← width_taken d.width as'
  p ← precision_taken d.precision w.rest
  put_sized rows d w.item p.item p.rest)

abbrev pub put_formed : List Row → Form → Directive → ℕ → List Argument → Script (Taken (List ℕ))
put_formed rows taken d at as' = put rows d as'
put_formed rows left_out d at as' = Exceed PastDirective at
put_formed rows invalid d at as' = Raise Conversion

pub record Step : Type 0 where
  pub bytes : List ℕ
  pub len : ℕ
  pub rest : List Argument

-- what stands next in the format: a directive, or a byte
abbrev pub step_by : List Row → Option Directive → ℕ → List Argument → Script Step
step_by rows None at as' = Raise Conversion
step_by rows (Some d) at as' = do
  put' ← put_formed rows (form d) d at as'
  Give (record { bytes = put'.item; len = d.len; rest = put'.rest })

abbrev pub step : List Row → ℕ → List ℕ → ℕ → List Argument → Script Step
step rows c cs at as' =
    if c == 37 then step_by rows (directive_of cs) at as'
    else Give (record { bytes = c ∷ []; len = 0; rest = as' })

-- the text of a format, from the offset on
abbrev pub text_of : ℕ → List Row → ℕ → List ℕ → List Argument → Script (List ℕ)
text_of zero rows at cs as' = Give []
text_of (suc fuel) rows at [] as' = Give []
text_of (suc fuel) rows at (c ∷ cs) as' = do
  s ← step rows c cs at as'
  more ← text_of fuel rows (at + 1 + s.len) (drop s.len cs) s.rest
  Give (s.bytes ++ more)

-- the text of a format goes to a stream; the value is its length (7.21.6.1p14)
abbrev pub print_to : Stream → List Row → LibValue → List Argument → Script LibValue
print_to to rows format as' = do
  s ← text rows (address_in format) (prov_in format)
  ns ← read_numbers s.bytes
  bytes ← text_of (length ns) rows 0 (without_zero ns) as'
  touch (Print to bytes)
  Give (number (pos (length bytes)))

abbrev pub printf : List Row → LibValue → List Argument → Script LibValue
printf rows format as' = print_to streams.Output rows format as'

-- a call of printf, whose items name what is read of a string by one range (own), with the limit on the output; the check of each
-- string's pointer stands before its reads, so no range joins two strings
abbrev pub printed_by : List Row → LibValue → List Argument → Store → Act LibValue
printed_by rows format as' s = output_within (in_ranges (run rows (printf rows format as') s))
