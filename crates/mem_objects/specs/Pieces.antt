-- The bytes that hold a value, as a memory keeps them (own: little-endian).
use Rattle.std.specs.Prelude.{ℕ, zero, suc, ◌/◌, ◌%◌, min, List, [], ◌∷◌, length, map, Option, None}
use Rattle.c_types.specs.Types.{type_of}
use Rattle.mem_objects.specs.declared.cell.Cell.{Cell}
use Rattle.mem_objects.specs.declared.cell.Origin.{Origin}
use Rattle.mem_objects.specs.declared.value.Value.{Value}
use Rattle.mem_objects.specs.declared.value.Value.TheVariants as values
use Rattle.mem_spec.specs.Store.{TaggedByte}
use Rattle.mem_spec.specs.Bytes.{number_bytes, pointer_bytes, low_bits}
use Rattle.mem_objects.specs.Cells.{plain_cell, piece_cell, tagged_in}
use Rattle.mem_objects.specs.Memory.{Kept, CellsKnown}
use Rattle.mem_objects.specs.Made.{IsMade}
use Rattle.mem_objects.specs.Tags.{CellsTagged}

-- so many bytes of a number, the least first, as a memory keeps them
abbrev pub plain_cells : ℕ → ℕ → List Cell
plain_cells zero n = []
plain_cells (suc k) n = plain_cell (n % 256) ∷ plain_cells k (n / 256)

abbrev pub piece_cells : ℕ → ℕ → Origin → ℕ → List Cell
piece_cells zero i origin n = []
piece_cells (suc k) i origin n = piece_cell (n % 256) origin i ∷ piece_cells k (suc i) origin (n / 256)

-- the bytes that cells stand for
abbrev pub seen : Kept → List Cell → List TaggedByte
seen m cs = map (tagged_in m.origins (map type_of m.types)) cs

-- up to eight bytes of an integer, eight of a pointer, those of a structure or union
abbrev pub value_bytes : Kept → ℕ → Value → List TaggedByte
value_bytes m size (values.Int z) = number_bytes (min size 8) (low_bits z)
value_bytes m size (values.Ptr a prov) = pointer_bytes 8 0 prov a
value_bytes m size (values.Func a) = number_bytes 8 a
value_bytes m size (values.Block b) = seen m b.cells
value_bytes m size values.Missing = []
value_bytes m size values.Nothing = []

-- the address that the bytes of a structure or union were loaded from
abbrev pub source_of : Value → Option ℕ
source_of (values.Block b) = b.source
source_of v = None

-- the provenance of a pointer was made in this memory
abbrev pub IsMadeValue : Kept → Value → Type 0
IsMadeValue m (values.Ptr a prov) = IsMade m prov
IsMadeValue m _ = Unit {0}

-- the pieces among the bytes of a structure or union have their provenances from this memory
abbrev pub IsKnownValue : Kept → Value → Type 0
IsKnownValue m (values.Block b) = CellsKnown (length m.origins) b.cells
IsKnownValue m _ = Unit {0}

-- the tags of its bytes have their types from this memory
abbrev pub IsTaggedValue : Kept → Value → Type 0
IsTaggedValue m (values.Block b) = CellsTagged (length m.types) b.cells
IsTaggedValue m _ = Unit {0}
