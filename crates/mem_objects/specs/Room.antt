-- How far the rows of a memory reach, by what it created (own).
use Rattle.std.specs.Prelude.{◌≡◌, ℕ, ◌+◌, ◌*◌, ◌^◌, ◌≤◌, ◌<◌, min, max, true, [], Option, None, is_some}
use Rattle.ub_base.specs.declared.names.ObjName.{ObjName}
use Rattle.addr_map.specs.declared.map.Mode.{Mode}
use Rattle.addr_map.specs.Rows.{row_of, row_at, free_of, is_power, base_of, insert_row}
use Rattle.mem_objects.specs.Held.{held_of}
use Rattle.mem_objects.specs.Memory.{Kept, empty, has_room}

-- the free address is at most 2^24 and three times the sum of what was created
abbrev pub IsPacked : Kept → Type 0
IsPacked m = free_of m.rows ≤ 2 ^ 24 + 3 * m.created

-- each row is that of an object that was created
abbrev pub AreRowsCreated : Kept → Type 0
AreRowsCreated m = (x : ObjName) → is_some (row_of m.rows x) ≡ true → is_some (held_of m.objects x) ≡ true

-- as long as the sum of what was created is within 2^40, the memory is packed, and each row is that of an object
pub record IsClose (m : Kept) : Type 0 where
  pub packed : m.created ≤ 2 ^ 40 → IsPacked m
  pub only : m.created ≤ 2 ^ 40 → AreRowsCreated m

-- a new object, within the limits, of a memory whose mode places it
pub record CanPlace (m : Kept) (x : ObjName) (size align : ℕ) : Type 0 where
  pub within : m.created ≤ 2 ^ 40
  pub small : size ≤ 2 ^ 40
  pub some : 0 < size
  pub power : is_power align ≡ true
  pub mode : is_some m.mode ≡ true
  pub absent : held_of m.objects x ≡ None

-- a memory that begins without rows is packed
abbrev pub BeginsPacked : Type 0
BeginsPacked = (mode : Option Mode) → IsPacked (empty [] mode)

-- a new object that is placed behind all others leaves it so
abbrev pub StaysPacked : Type 0
StaysPacked =
    (old new : Kept) (x : ObjName) (mode : Mode) (size align : ℕ) → IsPacked old → has_room old.rows size align ≡ true →
    new.rows ≡ insert_row (row_at x (base_of mode old.rows align) size align) old.rows → new.created ≡ min (old.created + max size 16) (2 ^ 62) →
    IsPacked new

-- so each object has a place as long as the sum of what was created is within 2^40
abbrev pub HasRoomWithin : Type 0
HasRoomWithin =
    (m : Kept) (size align : ℕ) → IsPacked m → m.created ≤ 2 ^ 40 → size ≤ 2 ^ 40 → 0 < size → is_power align ≡ true → has_room m.rows size align ≡ true
