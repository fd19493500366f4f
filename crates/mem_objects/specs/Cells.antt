-- The bytes of objects as a memory keeps them: provenances and scalar types by their numbers (own).
use Rattle.std.specs.Prelude.{
  ℕ,
  zero,
  suc,
  ◌-◌,
  ◌+◌,
  ◌%◌,
  ◌^◌,
  Bool,
  true,
  false,
  ◌&&◌,
  nat_le,
  nat_lt,
  ◌==◌,
  List,
  take,
  drop,
  slice_get,
  slice_index_or,
  Option,
  Some,
  None,
  option_map,
  if◌then◌else◌,
}
use Rattle.exposure.specs.declared.prov.Prov.{Prov}
use Rattle.exposure.specs.declared.prov.Prov.TheVariants.{Empty}
use Rattle.c_types.specs.declared.kind.IntKind.{IntKind}
use Rattle.c_types.specs.declared.kind.IntKind.TheVariants as kinds
use Rattle.c_types.specs.Types.{CType, int}
use Rattle.mem_objects.specs.declared.cell.State.{State}
use Rattle.mem_objects.specs.declared.cell.State.TheVariants as states
use Rattle.mem_objects.specs.declared.cell.Cell.{Cell}
use Rattle.mem_objects.specs.declared.cell.Origin.{Origin}
use Rattle.mem_objects.specs.declared.cell.Via.{Via}
use Rattle.mem_objects.specs.declared.cell.Via.TheVariants as vias
use Rattle.mem_objects.specs.declared.cell.MemByte.{MemByte}
use Rattle.mem_objects.specs.declared.cell.MemByte.TheVariants as mem
use Rattle.mem_spec.specs.Agreement.{Tag}
use Rattle.mem_spec.specs.Store.{Byte, unwritten, written, TaggedByte}

-- an unwritten cell
abbrev pub no_cell : Cell
no_cell = record {
  number = 0;
  state = states.Unwritten;
  piece_index = 0;
  tag_index = 0;
  origin = record { number = 0 };
  tag = record { number = 0 };
}

abbrev pub plain_cell : ℕ → Cell
plain_cell n = record no_cell { number = n; state = states.Plain }

abbrev pub piece_cell : ℕ → Origin → ℕ → Cell
piece_cell n origin index = record no_cell { number = n; state = states.Piece; piece_index = index; origin = origin }

abbrev pub cell_of : MemByte → Cell
cell_of mem.Unwritten = no_cell
cell_of (mem.Written n None) = plain_cell n
cell_of (mem.Written n (Some piece)) = piece_cell n piece.0 piece.1

abbrev pub byte_by : State → Cell → MemByte
byte_by states.Unwritten c = mem.Unwritten
byte_by states.Plain c = mem.Written c.number None
byte_by states.Piece c = mem.Written c.number (Some (c.origin, c.piece_index))

-- a cell without its tag
abbrev pub byte_of : Cell → MemByte
byte_of c = byte_by c.state c

abbrev pub cell_at : List Cell → ℕ → Cell
cell_at cs at = slice_index_or cs at no_cell

abbrev pub untagged : Cell → Cell
untagged c = record c { tag_index = 0; tag = record { number = 0 } }

-- the character types are 2 to 4
abbrev pub is_character_numbered : ℕ → Bool
is_character_numbered n = nat_le 2 n && nat_le n 4

-- the cell that a store leaves of its byte at i
abbrev pub cell_left : (is_declared : Bool) → Via → ℕ → Cell → Cell
cell_left true via i c = untagged c
cell_left false vias.Whole i c = c
cell_left false (vias.Scalar ty) i c = if is_character_numbered ty.number then untagged c else record c { tag_index = i % 256; tag = ty }
cell_left false vias.Bytes i c = untagged c

-- the cell at a place after the first cells of a list were stored from a place on
abbrev pub cell_put : List Cell → (from count : ℕ) → (is_declared : Bool) → Via → List Cell → ℕ → Cell
cell_put old from count is_declared via cs at =
    if nat_le from at && nat_lt at (from + count) then cell_left is_declared via (at - from) (cell_at cs (at - from)) else cell_at old at

-- the integer type of a number
abbrev pub kind_numbered : ℕ → Option IntKind
kind_numbered n =
    if n == 1 then Some kinds.Bool else (if n == 2 then Some kinds.Char
    else (if n == 3 then Some kinds.SChar else (if n == 4 then Some kinds.UChar
    else (if n == 5 then Some kinds.Short else (if n == 6 then Some kinds.UShort
    else (if n == 7 then Some kinds.Int else (if n == 8 then Some kinds.UInt
    else (if n == 9 then Some kinds.Long else (if n == 10 then Some kinds.ULong
    else (if n == 11 then Some kinds.LLong else (if n == 12 then Some kinds.ULLong else None)))))))))))

-- the provenance of a number: 0 is the empty one
abbrev pub prov_numbered : List Prov → ℕ → Prov
prov_numbered ps zero = Empty
prov_numbered ps (suc n) = slice_index_or ps n Empty

abbrev pub integer_or : Option IntKind → Option CType → Option CType
integer_or (Some k) other = Some (int k)
integer_or None other = other

-- the scalar type of a number: 0 is none, 1 to 12 are the integer types, the others follow
abbrev pub type_numbered : List CType → ℕ → Option CType
type_numbered ts n = if n == 0 then None else integer_or (kind_numbered n) (slice_get ts (n - 13))

abbrev pub tag_in : List CType → Cell → Option Tag
tag_in ts c = option_map (λ ty. (ty, c.tag_index)) (type_numbered ts c.tag.number)

abbrev pub byte_in_state : List Prov → State → Cell → Byte
byte_in_state ps states.Unwritten c = unwritten
byte_in_state ps states.Plain c = written c.number None
byte_in_state ps states.Piece c = written c.number (Some (prov_numbered ps c.origin.number, c.piece_index))

-- the byte that a cell stands for
abbrev pub byte_in : List Prov → Cell → Byte
byte_in ps c = byte_in_state ps c.state c

abbrev pub tagged_in : List Prov → List CType → Cell → TaggedByte
tagged_in ps ts c = record { byte = byte_in ps c; tag = tag_in ts c }

-- the bytes of a value and, where they were loaded from a place, its address
pub record Loaded : Type 0 where
  pub cells : List Cell
  pub source : Option ℕ

abbrev pub part_of : Loaded → ℕ → ℕ → Loaded
part_of b from len = record {
  cells = take len (drop from b.cells);
  source = option_map (λ a. (a + from) % 2 ^ 64) b.source;
}
