-- The full expressions of a program, as they are laid out in turn.
use Rattle.std.specs.Prelude.{◌≡◌, ℕ, List, [], ◌∷◌, map, Option, Some, None, slice_get}
use Rattle.c_typed.specs.declared.tree.Typed.{Typed}
use Rattle.c_typed.specs.declared.statement.Body.{Body, out-Body}
use Rattle.c_typed.specs.declared.statement.Body.TheOpen as form
use Rattle.c_typed.specs.declared.statement.Body.TheOpen.{Body-F}
use Rattle.c_typed.specs.declared.statement.Block.{Block}
use Rattle.c_typed.specs.declared.statement.Entry.{Entry}
use Rattle.c_typed.specs.declared.statement.ForStart.{ForStart}
use Rattle.c_typed.specs.declared.program.Function.{Function}
use Rattle.elaborate.specs.Expressions.{block_trees}
use Rattle.run_layout.specs.declared.whole.Code.{Code}
use Rattle.run_layout.specs.declared.steps.Expression.{Expression}
use Rattle.run_layout.specs.declared.steps.FunctionCode.{FunctionCode}

-- the roots of what is laid out
abbrev pub roots_in : List Expression → List Typed
roots_in = map (λ e. e.root.now)

-- the block by which a function is defined (6.9.1p1)
abbrev pub as_block : Body-F Body Entry ForStart Block → Option Block
as_block (form.Block b) = Some b
as_block _ = None

abbrev pub block_in : Option Body → Option Block
block_in None = None
block_in (Some b) = as_block (out-Body b)

abbrev pub trees_in : Option Block → List Typed
trees_in None = []
trees_in (Some b) = block_trees b

-- the full expressions of a function
abbrev pub code_trees : Function → List Typed
code_trees f = trees_in (block_in f.body)

-- the function of this number has code
abbrev pub HasCode : Code → ℕ → Type 0
HasCode code n = (c : FunctionCode) × (slice_get code.functions.items n ≡ Some (Some c))

-- each of these functions that is defined by a block has its code, and no other has (6.9.1p1)
pub record HaveCode (fs : List Function) (code : Code) : Type 0 where
  pub defined : (n : ℕ) (f : Function) (b : Block) → slice_get fs n ≡ Some f → block_in f.body ≡ Some b → HasCode code n
  pub only : (n : ℕ) → HasCode code n → (f : Function) × (slice_get fs n ≡ Some f) × (b : Block) × (block_in f.body ≡ Some b)

-- what is defined is defined by a block
abbrev pub IsInBlock : Option Body → Type 0
IsInBlock None = Unit {0}
IsInBlock (Some b) = (x : Block) × (as_block (out-Body b) ≡ Some x)

abbrev pub AreInBlocks : List Function → Type 0
AreInBlocks [] = Unit {0}
AreInBlocks (f ∷ fs) = IsInBlock f.body × AreInBlocks fs
