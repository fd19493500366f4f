-- Values, what each counts as where another kind is asked for, and the bytes that hold them.
use Rattle.std.specs.Prelude.{ℕ, zero, suc, ◌+◌, ◌*◌, ◌%◌, min, Bool, true, not, ◌==◌, List, [], ◌∷◌, take, drop, Option, Some, None, ℤ, pos, unsigned_abs}
use Rattle.c_types.specs.declared.kind.IntKind.{IntKind}
use Rattle.exposure.specs.declared.prov.Prov.{Prov}
use Rattle.exposure.specs.declared.prov.Prov.TheVariants.{Empty}
use Rattle.mem_spec.specs.Store.{TaggedByte}
use Rattle.mem_spec.specs.Agreement.{bytes_of_kind}
use Rattle.mem_spec.specs.Bytes.{number_bytes, low_bits}

pub data Value : Type 0 where
  Int : ℤ → Value
  Ptr : (address : ℕ) → Prov → Value
  Fun : (address : ℕ) → Value
  -- a structure or union, and where it was loaded from
  Whole : List TaggedByte → (source : Option ℕ) → Value
  -- of a call that should have given a value and didn't (6.9.1p12)
  Missing : Value
  Nothing : Value

-- a pointer to an object: its address and what it was made from
pub record Pointer : Type 0 where
  pub address : ℕ
  pub prov : Prov

abbrev pub null : Pointer
null = record { address = 0; prov = Empty }

abbrev pub pointer_value : Pointer → Value
pointer_value p = Ptr p.address p.prov

-- The kind of each value follows from the types of the expression that gives it (6.5). What a value counts as where another kind is
-- asked for is own, and no program of the profile sees it: these make each act defined of any values.
abbrev pub integer_of : Value → ℤ
integer_of (Int z) = z
integer_of _ = pos 0

abbrev pub pointer_of : Value → Pointer
pointer_of (Ptr a prov) = record { address = a; prov = prov }
pointer_of _ = null

abbrev pub function_in : Value → ℕ
function_in (Fun a) = a
function_in _ = 0

-- the address of a pointer to an object or a function
abbrev pub address_in : Value → ℕ
address_in (Fun a) = a
address_in v = (pointer_of v).address

-- unequal to 0 (6.8.4.1p2, 6.5.3.3p5)
abbrev pub truth : Value → Bool
truth (Int z) = not (unsigned_abs z == 0)
truth (Ptr a prov) = not (a == 0)
truth (Fun a) = not (a == 0)
truth _ = true

abbrev pub or_nothing : Option Value → Value
or_nothing None = Nothing
or_nothing (Some v) = v

-- the value of this number of a list
abbrev pub value_at : List Value → ℕ → Value
value_at [] n = Nothing
value_at (v ∷ vs) zero = v
value_at (v ∷ vs) (suc n) = value_at vs n

abbrev pub later_values : List Value → List Value
later_values [] = []
later_values (v ∷ vs) = vs

-- the address of a function of this number (own)
abbrev pub function_address : ℕ → ℕ
function_address n = 4096 + 16 * n

-- an address so many bytes on, at most the last one (own)
abbrev pub address_after : ℕ → ℕ → ℕ
address_after a n = min (a + n) 18446744073709551615

abbrev pub int_bytes : IntKind → ℤ → List TaggedByte
int_bytes k z = number_bytes (bytes_of_kind k) (low_bits z)

abbrev pub part_bytes : ℕ → ℕ → List TaggedByte → List TaggedByte
part_bytes from len bs = take len (drop from bs)

-- a source address moves with a part, modulo 2^64 (own)
abbrev pub moved_source : ℕ → Option ℕ → Option ℕ
moved_source by None = None
moved_source by (Some a) = Some ((a + by) % 18446744073709551616)

-- a result of a call stands nowhere any more (6.8.6.4p4)
abbrev pub unplaced : Value → Value
unplaced (Whole bs source) = Whole bs None
unplaced v = v
