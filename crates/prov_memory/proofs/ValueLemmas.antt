-- Stores of integers and pointers: what a store does with the bytes of a value.
use Rattle.std.proofs.Common.{◌≡◌, ℕ, ◌≤◌, Bool, sym, ap, ◌∙◌, arith, List, length, take, map}
use Rattle.std.specs.Prelude.{Result, Ok, Err, OnOk, IfErr}
use Rattle.ub_base.specs.declared.clause.Clause.{Clause}
use Rattle.ub_base.specs.declared.names.Item.{Item}
use Rattle.exposure.specs.declared.prov.Prov.{Prov}
use Rattle.c_types.specs.declared.kind.IntKind.{IntKind}
use Rattle.c_types.specs.declared.kind.IntKind.TheVariants as kinds
use Rattle.c_types.specs.Types.{type_of}
use Rattle.mem_objects.specs.declared.cell.Cell.{Cell}
use Rattle.mem_objects.specs.declared.cell.Origin.{Origin}
use Rattle.mem_objects.specs.declared.cell.Via.{Via}
use Rattle.mem_objects.specs.declared.cell.Via.TheVariants as vias
use Rattle.mem_spec.specs.Agreement.{bytes_of_kind}
use Rattle.mem_spec.specs.Store.{TaggedByte}
use Rattle.mem_spec.specs.Script.{Done, Raised, run}
use Rattle.mem_spec.specs.Acts.{Seen, store}
use Rattle.mem_spec.specs.Streams.{Io}
use Rattle.mem_objects.specs.Cells.{prov_numbered}
use Rattle.mem_objects.specs.Memory.{Kept, HasCell, CellsKnown, store_of}
use Rattle.mem_objects.specs.Stores.{Sees, IsShort, tagged_all}
use Rattle.mem_spec.specs.Bytes.{number_bytes, pointer_bytes}
use Rattle.mem_objects.specs.Pieces.{plain_cells, piece_cells}
use Rattle.mem_objects.proofs.PieceLemmas.{seen_pieces, seen_plain, plain_take, plain_length, plain_known}

short_of : (via : Via) (n : ℕ) → n ≤ 256 → IsShort via n
short_of (vias.Scalar id) n e = e
short_of vias.Whole n e = tt
short_of vias.Bytes n e = tt

-- the cells of a value are its bytes
pub stored_as : (r : Result (Unit {0}) Clause) (m new : Kept) (first : Bool) (via : Via) (align a : ℕ) (prov : Prov) (cs : List Cell) (bs : List TaggedByte)
    (items : List Item) → tagged_all m cs ≡ bs → length cs ≤ 256 → OnOk r
    (HasCell m prov → IsShort via (length cs) → (seen : Seen) → Sees m via seen →
    (io : Io) → run m.rows (store m.rows first seen align a prov (tagged_all m cs)) (store_of m io) ≡ Done tt items (store_of new io)) →
    OnOk r (HasCell m prov → (seen : Seen) → Sees m via seen → (io : Io) → run m.rows (store m.rows first seen align a prov bs) (store_of m io) ≡ Done tt items
    (store_of new io))
stored_as (Ok u) m new first via align a prov cs bs items e few act = λ has seen sees io.
    ap (λ (l : List TaggedByte). run m.rows (store m.rows first seen align a prov l) (store_of m io)) (sym e) ∙ act has
    (short_of via (length cs) few) seen sees io
stored_as (Err c) m new first via align a prov cs bs items e few act = tt

pub unstored_as : (r : Result (Unit {0}) Clause) (m : Kept) (first : Bool) (via : Via) (align a : ℕ) (prov : Prov) (cs : List Cell) (bs : List TaggedByte) →
    tagged_all m cs ≡ bs → IfErr r (λ c. (seen : Seen) → Sees m via seen →
    (io : Io) → run m.rows (store m.rows first seen align a prov (tagged_all m cs)) (store_of m io) ≡ Raised c) →
    IfErr r (λ c. (seen : Seen) → Sees m via seen → (io : Io) → run m.rows (store m.rows first seen align a prov bs) (store_of m io) ≡ Raised c)
unstored_as (Ok u) m first via align a prov cs bs e act = tt
unstored_as (Err c) m first via align a prov cs bs e act = λ seen sees io.
    ap (λ (l : List TaggedByte). run m.rows (store m.rows first seen align a prov l) (store_of m io)) (sym e) ∙ act seen sees io

-- ---- an integer
pub few_bytes : (k : IntKind) → bytes_of_kind k ≤ 8
few_bytes kinds.Bool = omega arith
few_bytes kinds.Char = omega arith
few_bytes kinds.SChar = omega arith
few_bytes kinds.UChar = omega arith
few_bytes kinds.Short = omega arith
few_bytes kinds.UShort = omega arith
few_bytes kinds.Int = omega arith
few_bytes kinds.UInt = omega arith
few_bytes kinds.Long = omega arith
few_bytes kinds.ULong = omega arith
few_bytes kinds.LLong = omega arith
few_bytes kinds.ULLong = omega arith

pub first_bytes : (cells : List Cell) (k : IntKind) (n low : ℕ) → cells ≡ plain_cells 8 low → n ≡ bytes_of_kind k →
    take n cells ≡ plain_cells (bytes_of_kind k) low
first_bytes cells k n low e size =
    ap (λ (l : List Cell). take n l) e ∙ ap (λ (j : ℕ). take j (plain_cells 8 low)) size ∙ plain_take (bytes_of_kind k) 8 low (few_bytes k)

pub number_seen : (m : Kept) (cs : List Cell) (k : ℕ) (low : ℕ) → cs ≡ plain_cells k low → tagged_all m cs ≡ number_bytes k low
number_seen m cs k low e = ap (tagged_all m) e ∙ seen_plain m.origins (map type_of m.types) k low

pub number_short : (cs : List Cell) (k : IntKind) (low : ℕ) → cs ≡ plain_cells (bytes_of_kind k) low → length cs ≤ 256
number_short cs k low e =
    let long : length cs ≡ bytes_of_kind k = ap length e ∙ plain_length (bytes_of_kind k) low in
    omega (arith, few_bytes k)

pub number_known : (most : ℕ) (cs : List Cell) (k low : ℕ) → cs ≡ plain_cells k low → CellsKnown most cs
number_known most cs k low e = rw e (plain_known most k low)

-- ---- a pointer
pub pieces_seen : (m : Kept) (cs : List Cell) (o : Origin) (prov : Prov) (a : ℕ) → cs ≡ piece_cells 8 0 o a → prov_numbered m.origins o.number ≡ prov →
    tagged_all m cs ≡ pointer_bytes 8 0 prov a
pieces_seen m cs o prov a e is = ap (tagged_all m) e ∙ seen_pieces m.origins (map type_of m.types) 8 0 o a ∙ ap (λ (p : Prov). pointer_bytes 8 0 p a) is

pub pieces_short : (cs : List Cell) (o : Origin) (a : ℕ) → cs ≡ piece_cells 8 0 o a → length cs ≤ 256
pieces_short cs o a e =
    let long : length cs ≡ 8 = ap length e in
    omega arith
