-- What the functions of a program are laid out as: the blocks of each, and its full expressions (6.8, 6.9.1).
use Rattle.std.specs.Prelude.{◌≡◌, ℕ, suc, ◌+◌, ◌^◌, ◌<◌, List, [], ◌∷◌, ◌++◌, length, Option, Some, slice_get}
use Rattle.c_types.specs.declared.tags.Tag.{Tag}
use Rattle.c_types.specs.declared.ty.FuncTy.{out-FuncTy}
use Rattle.c_typed.specs.declared.tree.Typed.{Typed}
use Rattle.c_typed.specs.declared.statement.Block.{Block}
use Rattle.c_typed.specs.declared.program.Function.{Function}
use Rattle.c_typed.specs.Sites.{BlockRow}
use Rattle.elaborate.specs.Expressions.{block_trees, own_trees}
use Rattle.run_layout.specs.declared.expressions.Laid.{Laid}
use Rattle.run_layout.specs.declared.nodes.NodeInfo.{NodeInfo}
use Rattle.run_layout.specs.declared.steps.Expression.{Expression}
use Rattle.run_layout.specs.declared.steps.FunctionCode.{FunctionCode}
use Rattle.run_layout.specs.declared.steps.Listed.{Listed}
use Rattle.run_layout.specs.declared.steps.Range.{Range}
use Rattle.run_layout.specs.declared.tables.Tables.{Tables}
use Rattle.run_layout.specs.declared.whole.Code.{Code}
use Rattle.run_layout.specs.Blocks.{AreBlocksFrom, firsts_from, objects_in, rows_of_block}
use Rattle.run_layout.specs.EventActs.{AreFirst}
use Rattle.run_layout.specs.Initializers.{HaveNumbers}
use Rattle.run_layout.specs.LaidOut.{LaidOutBy}
use Rattle.run_layout.specs.Roots.{block_in}

-- this holds of each function that has code, with the block by which it is defined
abbrev pub OfEach : (Function → Block → FunctionCode → Type 0) → List Function → List (Option FunctionCode) → Type 0
OfEach Holds fs cs = (n : ℕ) (f : Function) (b : Block) (c : FunctionCode) → slice_get fs n ≡ Some f → block_in f.body ≡ Some b
    → slice_get cs n ≡ Some (Some c) → Holds f b c

-- 1. Blocks.

-- The blocks of a function are those of its body, numbered from its first one on; their objects are numbered in turn, from 0 on. So many take arguments.
pub record HasBlocks (tags : List Tag) (taken : ℕ) (rows : List BlockRow) (tables : Tables) (c : FunctionCode) : Type 0 where
  pub blocks : AreBlocksFrom tags tables c.blocks 0 taken rows
  pub objects : c.objects ≡ objects_in rows
  pub few : objects_in rows < 2 ^ 32

-- those of the function's body take one argument for each parameter (6.9.1p10)
abbrev pub HaveBlocks : List Tag → Tables → List Function → List (Option FunctionCode) → Type 0
HaveBlocks tags tables = OfEach (λ f b c. HasBlocks tags (length (out-FuncTy f.ty).params) (rows_of_block b) tables c)

-- 2. Full expressions.

-- The full expression of this number is laid out where the objects of the blocks have numbers from these on. Its isolated initializers have the numbers of
-- their own trees, which come behind it in turn (6.7.9p23).
abbrev pub IsLaidOutFrom : List ℕ → Tables → List Listed → (at : ℕ) → Expression → Type 0
IsLaidOutFrom firsts tables entries at e =
    (nodes : List NodeInfo) × LaidOutBy firsts nodes tables entries e × HaveNumbers (suc at) (own_trees e.root.now) nodes

-- the full expression of this number is that of this tree
abbrev pub IsLaidAt : List ℕ → Tables → Laid → (at : ℕ) → Typed → Type 0
IsLaidAt firsts tables laid at t =
    (e : Expression) × (slice_get laid.all.items at ≡ Some e) × (e.root.now ≡ t) × IsLaidOutFrom firsts tables laid.entries.items at e

-- those from this number on are these in turn
abbrev pub AreLaidFrom : List ℕ → Tables → Laid → (at : ℕ) → List Typed → Type 0
AreLaidFrom firsts tables laid at [] = Unit {0}
AreLaidFrom firsts tables laid at (t ∷ ts) = IsLaidAt firsts tables laid at t × AreLaidFrom firsts tables laid (suc at) ts

-- The full expressions of a function are those of its block, in the order of the text, each laid out where the objects of its blocks have the numbers that
-- the code gives them.
pub record HasExpressions (b : Block) (tables : Tables) (laid : Laid) (range : Range) : Type 0 where
  pub each : AreLaidFrom (firsts_from 0 (rows_of_block b)) tables laid range.first (block_trees b)
  pub count : range.count ≡ length (block_trees b)

abbrev pub HaveExpressions : Tables → Laid → List Function → List (Option FunctionCode) → Type 0
HaveExpressions tables laid = OfEach (λ f b c. HasExpressions b tables laid c.expressions)

-- what is laid out in code
abbrev pub laid_in : Code → Laid
laid_in code = record { entries = code.listing; all = code.expressions }

-- 3. What is added.

-- what is laid out stays as more is laid out behind it
pub record IsMore (old new : Laid) : Type 0 where
  pub entries : AreFirst old.entries.items new.entries.items
  pub all : AreFirst old.all.items new.all.items

-- one full expression behind those that were there
pub record AddsExpression (firsts : List ℕ) (t : Typed) (tables : Tables) (old new : Laid) : Type 0 where
  pub expression : Expression
  pub all : new.all.items ≡ old.all.items ++ expression ∷ []
  pub entries : AreFirst old.entries.items new.entries.items
  pub root : expression.root.now ≡ t
  pub laid : IsLaidOutFrom firsts tables new.entries.items (length old.all.items) expression

-- some full expressions
pub record AddsExpressions (firsts : List ℕ) (ts : List Typed) (tables : Tables) (old new : Laid) : Type 0 where
  pub more : IsMore old new
  pub each : AreLaidFrom firsts tables new (length old.all.items) ts
  pub count : length new.all.items ≡ length old.all.items + length ts
