-- The blocks of the functions of a program, and their full expressions, as the code has them: what a run asks as it enters, leaves and names (6.2.4p6, 6.9.1).
use Rattle.std.specs.Prelude.{◌≡◌, ℕ, zero, suc, ◌+◌, ◌^◌, ◌<◌, ◌≤◌, Bool, true, List, length, map, Option, Some, option_map, slice_get}
use Rattle.c_types.specs.declared.ty.FuncTy.{out-FuncTy}
use Rattle.c_types.specs.Shapes.{Form, form_of}
use Rattle.c_types.specs.Types.{type_of}
use Rattle.c_typed.specs.declared.program.Function.{Function}
use Rattle.c_typed.specs.declared.program.Program.{Program}
use Rattle.c_typed.specs.declared.statement.Block.{Block}
use Rattle.c_typed.specs.declared.tree.Slot.TheVariants as slot
use Rattle.c_typed.specs.declared.tree.Typed.{Typed}
use Rattle.elaborate.specs.Expressions.{block_trees}
use Rattle.c_model.specs.Program.{Decl}
use Rattle.c_model.specs.Runs.{created_after}
use Rattle.run_layout.specs.declared.nodes.NodeInfo.{NodeInfo}
use Rattle.run_layout.specs.declared.steps.BlockCode.{BlockCode}
use Rattle.run_layout.specs.declared.steps.Expression.{Expression as Laid}
use Rattle.run_layout.specs.declared.steps.FunctionCode.{FunctionCode}
use Rattle.run_layout.specs.declared.steps.ObjectCode.{ObjectCode}
use Rattle.run_layout.specs.declared.steps.StoreCode.{StoreCode}
use Rattle.run_layout.specs.declared.tables.Tables.{Tables}
use Rattle.run_layout.specs.declared.whole.Code.{Code}
use Rattle.run_layout.specs.Blocks.{firsts_from, rows_of_block}
use Rattle.run_layout.specs.Functions.{HaveBlocks, HaveExpressions, laid_in}
use Rattle.run_layout.specs.Initializers.{NumberInitializers, NumberWithin}
use Rattle.run_layout.specs.InRange.{part_of}
use Rattle.run_layout.specs.LaidOut.{LaidOutBy}
use Rattle.run_layout.specs.Roots.{block_in}
use Rattle.run_state.specs.declared.machine.Machine.{Machine}
use Rattle.run_state.specs.Operands.{IsThere, is_open}
use Rattle.code_view.specs.Numbering.{decls_in}

-- 1. Objects.

-- what an object is created with
pub record Made : Type 0 where
  pub size : ℕ
  pub align : ℕ
  pub constant : Bool
  pub form : Option Form

abbrev pub made_of : ObjectCode → Made
made_of o = record { size = o.size; align = o.align; constant = o.constant; form = option_map (λ s. form_of s.value) o.shape }

abbrev pub made_by : Decl → Made
made_by d = record { size = d.size; align = d.align; constant = d.constant; form = d.form }

-- an object is laid out as it is declared, and takes an argument by a store of its type
pub record StandsObject (tables : Tables) (d : Decl) (o : ObjectCode) : Type 0 where
  pub made : made_of o ≡ made_by d
  pub by : StoreCode
  pub at : slice_get tables.stores.items o.store ≡ Some by
  pub access : by.access ≡ d.access
  pub initializing : by.initializing ≡ true
  pub ty : type_of by.ty.now ≡ d.ty

-- 2. Blocks.

-- A block has these objects, in this order, with numbers below 2^32; it counts the bytes that the definitions create with them.
pub record StandsBlock (tables : Tables) (ds : List Decl) (b : BlockCode) : Type 0 where
  pub count : b.objects.count ≡ length ds
  pub made : map made_of (part_of tables.objects.items b.objects) ≡ map made_by ds
  pub objects : (k : ℕ) (d : Decl) → slice_get ds k ≡ Some d
      → (o : ObjectCode) × (slice_get (part_of tables.objects.items b.objects) k ≡ Some o) × StandsObject tables d o
  pub few : b.first + b.objects.count < 2 ^ 32
  pub created : b.created ≡ created_after 0 ds

-- only objects of the body take arguments (6.9.1p10)
abbrev pub taken_at : (parameters k : ℕ) → ℕ
taken_at parameters zero = parameters
taken_at parameters (suc k) = 0

-- The block of this number in a function with so many parameters, where the objects of its blocks have numbers from these on. Its objects are among those
-- of the function, behind those of the blocks that begin before it.
pub record HasBlockAt (tables : Tables) (c : FunctionCode) (firsts : List ℕ) (parameters : ℕ) (ds : List Decl) (k : ℕ) : Type 0 where
  pub block : BlockCode
  pub at : slice_get tables.blocks.items (c.blocks + k) ≡ Some block
  pub number : c.blocks + k < 2 ^ 32
  pub first : slice_get firsts k ≡ Some block.first
  pub stands : StandsBlock tables ds block
  pub arguments : block.arguments ≡ taken_at parameters k
  pub within : block.first + block.objects.count ≤ c.objects
  pub behind : (j : ℕ) (b : BlockCode) → j < k → slice_get tables.blocks.items (c.blocks + j) ≡ Some b → b.first + b.objects.count ≤ block.first

-- So it is with each block of a function, by the declarations of the program.
abbrev pub BlocksStandInCode : Type 0
BlocksStandInCode = (p : Program) (code : Code) → HaveBlocks p.tags code.tables p.functions code.functions.items → (n : ℕ) (f : Function) (b : Block)
    (c : FunctionCode) → slice_get p.functions n ≡ Some f → block_in f.body ≡ Some b → slice_get code.functions.items n ≡ Some (Some c) → (k : ℕ)
    → k < length (rows_of_block b)
    → HasBlockAt code.tables c (firsts_from 0 (rows_of_block b)) (length (out-FuncTy f.ty).params) (decls_in p (Some n) k) k

-- And an object of a block that is open in a frame of the function is there, as full expressions ask it.
abbrev pub OpenBlocksAreThere : Type 0
OpenBlocksAreThere = (m : Machine) (c : FunctionCode) (firsts : List ℕ) (parameters : ℕ) (ds : List Decl) (k d : ℕ) (open_blocks : List (ℕ × ℕ))
    → m.top.blocks ≡ c.blocks → HasBlockAt m.image.code.now.tables c firsts parameters ds k → d < length ds → is_open open_blocks k ≡ true
    → IsThere m firsts open_blocks (slot.Auto k d)

-- 3. Full expressions.

-- The full expression of this number in a function is that of this tree, laid out where the objects of the blocks have numbers from these on. Each isolated
-- initializer in it has the number of the full expression of its own tree, which is one of the function's (6.7.9p23).
pub record HasExpressionAt (code : Code) (c : FunctionCode) (firsts : List ℕ) (t : Typed) (k : ℕ) : Type 0 where
  pub laid : Laid
  pub at : slice_get code.expressions.items (c.expressions.first + k) ≡ Some laid
  pub root : laid.root.now ≡ t
  pub nodes : List NodeInfo
  pub lays : LaidOutBy firsts nodes code.tables code.listing.items laid
  pub initializers : NumberInitializers code nodes
  pub within : NumberWithin c.expressions nodes

-- so it is with each full expression of a function
abbrev pub ExpressionsStandInCode : Type 0
ExpressionsStandInCode = (p : Program) (code : Code) → HaveExpressions code.tables (laid_in code) p.functions code.functions.items → (n : ℕ) (f : Function)
    (b : Block) (c : FunctionCode) → slice_get p.functions n ≡ Some f → block_in f.body ≡ Some b → slice_get code.functions.items n ≡ Some (Some c)
    → (k : ℕ) (t : Typed) → slice_get (block_trees b) k ≡ Some t → HasExpressionAt code c (firsts_from 0 (rows_of_block b)) t k
