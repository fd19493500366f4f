-- The alignment of each type is a power of two.
use Rattle.std.proofs.Common.{◌≡◌, ℕ, zero, suc, ◌^◌, ◌*◌, Bool, true, false, refl, subst, arith, List, [], ◌∷◌, length, Option, Some, None, max, slice_get}
use Rattle.std.specs.Prelude.{nat_le, if◌then◌else◌}
use Rattle.addr_map.specs.Rows.{is_power}
use Rattle.addr_map.proofs.Tests.{le_true, le_false}
use Rattle.c_types.specs.declared.kind.IntKind.{IntKind}
use Rattle.c_types.specs.declared.kind.IntKind.TheVariants as kinds
use Rattle.c_types.specs.declared.tags.Extent.{Extent}
use Rattle.c_types.specs.declared.tags.Member.{Member}
use Rattle.c_types.specs.declared.tags.Tag.{Tag}
use Rattle.c_types.specs.declared.tags.TagKind.{TagKind}
use Rattle.c_types.specs.Layout.{
  Known,
  and_then,
  bytes,
  extent,
  extent_of_tag,
  extents,
  if_any,
  known_by,
  limited,
  members_extent,
  no_members,
  padded,
  placed,
  repeated,
  rounded,
  type_of_member,
  with_member,
}
use Rattle.c_types.specs.Types.{CType, void, int, enumeration, pointer, array, struct, union, function}
use Rattle.run_objects.specs.Extents.{extent_of, extent_or_byte}

abbrev IsPower : Option Extent → Type 0
IsPower None = Unit {0}
IsPower (Some e) = is_power e.align ≡ true

power_if : (b : Bool) (e : Extent) → is_power e.align ≡ true → IsPower (if b then Some e else None)
power_if true e power = power
power_if false e power = tt

limited_power : (e : Extent) → is_power e.align ≡ true → IsPower (limited e)
limited_power e power = power_if (nat_le e.size (2 ^ 40)) e power

repeated_power : (count : ℕ) (o : Option Extent) → IsPower o → IsPower (repeated count o)
repeated_power count None power = tt
repeated_power count (Some e) power = limited_power (record { size = count * e.size; align = e.align }) power

bytes_power : (kind : IntKind) → is_power (bytes kind) ≡ true
bytes_power kinds.Bool = refl
bytes_power kinds.Char = refl
bytes_power kinds.SChar = refl
bytes_power kinds.UChar = refl
bytes_power kinds.Short = refl
bytes_power kinds.UShort = refl
bytes_power kinds.Int = refl
bytes_power kinds.UInt = refl
bytes_power kinds.Long = refl
bytes_power kinds.ULong = refl
bytes_power kinds.LLong = refl
bytes_power kinds.ULLong = refl

extent_power : (known : Known) → ((tag : ℕ) → IsPower (known tag)) → (ty : CType) → IsPower (extent known ty)
extent_power known all void = tt
extent_power known all (int kind) = bytes_power kind
extent_power known all (enumeration tag) = refl
extent_power known all (pointer c t) = refl
extent_power known all (array c t None) = tt
extent_power known all (array c t (Some count)) = repeated_power count (extent known t) (extent_power known all t)
extent_power known all (struct tag) = all tag
extent_power known all (union tag) = all tag
extent_power known all (function r ps v) = tt

max_power_by : (b : Bool) (m n : ℕ) → nat_le m n ≡ b → is_power m ≡ true → is_power n ≡ true → is_power (max m n) ≡ true
max_power_by true m n e first second =
    let greater : n ≡ max m n = omega (arith, le_true m n e) in
    subst (λ (k : ℕ). is_power k ≡ true) greater second
max_power_by false m n e first second =
    let greater : m ≡ max m n = omega (arith, le_false m n e) in
    subst (λ (k : ℕ). is_power k ≡ true) greater first

placed_power : (kind : TagKind) (before : Extent) (o : Option Extent) → is_power before.align ≡ true → IsPower o → IsPower (placed kind before o)
placed_power kind before None first second = tt
placed_power kind before (Some e) first second =
    limited_power (with_member kind before e) (max_power_by (nat_le before.align e.align) before.align e.align refl first second)

then_power : (o : Option Extent) (f : Extent → Option Extent) → IsPower o → ((e : Extent) → is_power e.align ≡ true → IsPower (f e)) → IsPower (and_then o f)
then_power None f power next = tt
then_power (Some e) f power next = next e power

members_power : (kind : TagKind) (known : Known) → ((tag : ℕ) → IsPower (known tag)) → (o : Option Extent) (ms : List Member) → IsPower o →
    IsPower (members_extent kind known o ms)
members_power kind known all o [] power = power
members_power kind known all o (m ∷ ms) power =
    let next : Extent → Option Extent = λ b. placed kind b (extent known (type_of_member m)) in
    members_power kind known all (and_then o next) ms (then_power o next power (λ b first.
    placed_power kind b (extent known (type_of_member m)) first (extent_power known all (type_of_member m))))

any_power : (ms : List Member) (o : Option Extent) → IsPower o → IsPower (if_any ms o)
any_power [] o power = tt
any_power (m ∷ ms) o power = power

tag_power : (known : Known) → ((tag : ℕ) → IsPower (known tag)) → (o : Option Tag) → IsPower (extent_of_tag known o)
tag_power known all None = tt
tag_power known all (Some t) =
    let laid = members_extent t.kind known (Some no_members) t.members in
    any_power t.members (and_then laid padded) (then_power laid padded (members_power t.kind known all (Some no_members) t.members refl) (λ e power.
    limited_power (record { size = rounded e.align e.size; align = e.align }) power))

known_power : (n : ℕ) (tags : List Tag) (tag : ℕ) → IsPower (known_by n tags tag)
known_power zero tags tag = tt
known_power (suc n) tags tag = tag_power (known_by n tags) (known_power n tags) (slice_get tags tag)

or_byte : (o : Option Extent) → IsPower o → is_power (extent_or_byte o).align ≡ true
or_byte None power = refl
or_byte (Some e) power = power

pub extent_aligned : (tags : List Tag) (ty : CType) → is_power (extent_of tags ty).align ≡ true
extent_aligned tags ty = or_byte (extent (extents tags) ty) (extent_power (extents tags) (known_power (length tags) tags) ty)
