-- The blocks of functions as they are laid out, with their objects by the types of these (6.2.4, 6.7.3, 6.9.1p9).
use Rattle.std.specs.Prelude.{◌≡◌, ℕ, suc, ◌+◌, ◌^◌, ◌<◌, min, max, true, List, [], ◌∷◌, ◌++◌, length, Some, option_map, slice_get}
use Rattle.c_types.specs.declared.kind.IntKind.TheVariants.{Int}
use Rattle.c_types.specs.declared.tags.Tag.{Tag}
use Rattle.c_types.specs.Shapes.{form_of}
use Rattle.c_types.specs.Types.{CType, int, enumeration, pointer, function, Qualified, type_of}
use Rattle.c_typed.specs.declared.tree.Access.{Access}
use Rattle.c_typed.specs.declared.tree.Access.TheVariants as access
use Rattle.c_typed.specs.declared.statement.Block.{Block, fold-Block}
use Rattle.c_typed.specs.declared.statement.Body.{Body}
use Rattle.c_typed.specs.declared.statement.Entry.{Entry, fold-Entry}
use Rattle.c_typed.specs.declared.statement.ForStart.{ForStart, fold-ForStart}
use Rattle.c_typed.specs.Sites.{BlockRow, Summary, summary, summary_step, entry_summary, start_summary, block_summary}
use Rattle.run_objects.specs.Extents.{extent_of, is_constant, HasForm}
use Rattle.run_layout.specs.declared.draft.FunctionDraft.{FunctionDraft}
use Rattle.run_layout.specs.declared.steps.BlockCode.{BlockCode}
use Rattle.run_layout.specs.declared.steps.ObjectCode.{ObjectCode}
use Rattle.run_layout.specs.declared.steps.Range.{Range}
use Rattle.run_layout.specs.declared.steps.StoreCode.{StoreCode}
use Rattle.run_layout.specs.declared.tables.Tables.{Tables}
use Rattle.run_layout.specs.EventActs.{AreGrown}

-- 1. Objects.

abbrev pub pointer_access : CType → Access
pointer_access (function result params variadic) = access.Function
pointer_access ty = access.Pointer

-- how an object of a type is stored to whole
abbrev pub access_by : List Tag → CType → Access
access_by tags (int kind) = access.Integer kind
access_by tags (enumeration tag) = access.Integer Int
access_by tags (pointer constant ty) = pointer_access ty
access_by tags ty = access.Whole (extent_of tags ty).size (extent_of tags ty).align

-- an object is laid out as its type says, and takes an argument by a store of that type
pub record IsObjectOf (tags : List Tag) (stores : List StoreCode) (q : Qualified) (o : ObjectCode) : Type 0 where
  pub size : o.size ≡ (extent_of tags q.ty).size
  pub align : o.align ≡ (extent_of tags q.ty).align
  pub constant : o.constant ≡ is_constant q
  pub form : HasForm tags q.ty (option_map (λ s. form_of s.value) o.shape)
  pub by : StoreCode
  pub at : slice_get stores o.store ≡ Some by
  pub access : by.access ≡ access_by tags q.ty
  pub initializing : by.initializing ≡ true
  pub ty : type_of by.ty.now ≡ q.ty

-- the entry of this number of the table of objects is one of this type
abbrev pub IsObjectAt : List Tag → Tables → (at : ℕ) → Qualified → Type 0
IsObjectAt tags tables at q = (o : ObjectCode) × (slice_get tables.objects.items at ≡ Some o) × IsObjectOf tags tables.stores.items q o

abbrev pub AreObjectsFrom : List Tag → Tables → (at : ℕ) → List Qualified → Type 0
AreObjectsFrom tags tables at [] = Unit {0}
AreObjectsFrom tags tables at (q ∷ qs) = IsObjectAt tags tables at q × AreObjectsFrom tags tables (suc at) qs

-- the bytes that objects count behind so many, each at least 16 (own)
abbrev pub counted_by : List Tag → ℕ → List Qualified → ℕ
counted_by tags n [] = n
counted_by tags n (q ∷ qs) = counted_by tags (min (n + max (extent_of tags q.ty).size 16) (2 ^ 62)) qs

-- 2. Blocks.

-- A block with these objects, behind so many of its function, so many of which take arguments.
pub record IsBlockOf (tags : List Tag) (tables : Tables) (before taken : ℕ) (qs : List Qualified) (b : BlockCode) : Type 0 where
  pub objects : AreObjectsFrom tags tables b.objects.first qs
  pub count : b.objects.count ≡ length qs
  pub first : b.first ≡ before
  pub few : before + length qs < 2 ^ 32
  pub arguments : b.arguments ≡ taken
  pub created : b.created ≡ counted_by tags 0 qs

-- the block of this number is so
abbrev pub IsBlockAt : List Tag → Tables → (at before taken : ℕ) → List Qualified → Type 0
IsBlockAt tags tables at before taken qs =
    (b : BlockCode) × (slice_get tables.blocks.items at ≡ Some b) × IsBlockOf tags tables before taken qs b × (at < 2 ^ 32)

-- blocks in turn; only objects of the first of them take arguments
abbrev pub AreBlocksFrom : List Tag → Tables → (at before taken : ℕ) → List BlockRow → Type 0
AreBlocksFrom tags tables at before taken [] = Unit {0}
AreBlocksFrom tags tables at before taken (r ∷ rs) =
    IsBlockAt tags tables at before taken r.objects × AreBlocksFrom tags tables (suc at) (before + length r.objects) 0 rs

-- the number of the first object of each, where there are so many objects before
abbrev pub firsts_from : ℕ → List BlockRow → List ℕ
firsts_from before [] = []
firsts_from before (r ∷ rs) = before ∷ firsts_from (before + length r.objects) rs

-- how many objects there are in these blocks
abbrev pub objects_in : List BlockRow → ℕ
objects_in [] = 0
objects_in (r ∷ rs) = length r.objects + objects_in rs

-- the blocks of a statement, and of a block, in preorder
abbrev pub rows_of : Body → List BlockRow
rows_of b = (summary b).blocks

abbrev pub rows_of_block : Block → List BlockRow
rows_of_block b = (fold-Block Summary (Summary × List ℕ) Summary Summary summary_step entry_summary start_summary block_summary b).blocks

abbrev pub start_rows : ForStart → List BlockRow
start_rows s = (fold-ForStart Summary (Summary × List ℕ) Summary Summary summary_step entry_summary start_summary block_summary s).blocks

abbrev pub entry_rows : Entry → List BlockRow
entry_rows e = (fold-Entry Summary (Summary × List ℕ) Summary Summary summary_step entry_summary start_summary block_summary e).0.blocks

-- 3. What the passes over blocks add to the tables.

-- an object of this type
pub record AddsObject (tags : List Tag) (q : Qualified) (old new : Tables) : Type 0 where
  pub object : ObjectCode
  pub all : new.objects.items ≡ old.objects.items ++ object ∷ []
  pub is : IsObjectOf tags new.stores.items q object

-- objects of these types, in this range, which count so many bytes
pub record AddsObjects (tags : List Tag) (qs : List Qualified) (old new : Tables) (range : Range) (bytes : ℕ) : Type 0 where
  pub grown : AreGrown old new
  pub objects : AreObjectsFrom tags new range.first qs
  pub many : length new.objects.items ≡ length old.objects.items + length qs
  pub few : length new.objects.items < 2 ^ 32
  pub count : range.count ≡ length qs
  pub counted : bytes ≡ counted_by tags 0 qs

-- These blocks: the function has their objects behind those that it had.
pub record AddsBlocks (tags : List Tag) (taken : ℕ) (rows : List BlockRow) (old : Tables) (before : FunctionDraft) (new : Tables) (after : FunctionDraft)
    : Type 0 where
  pub grown : AreGrown old new
  pub blocks : AreBlocksFrom tags new (length old.blocks.items) before.count taken rows
  pub many : length new.blocks.items ≡ length old.blocks.items + length rows
  pub count : after.count ≡ before.count + objects_in rows
  pub firsts : after.objects.first.items ≡ before.objects.first.items ++ firsts_from before.count rows
