-- Private objects: no pointer to them is made, so only the nodes that name them touch them (own).
use Rattle.std.specs.Prelude.{ℕ, ◌==◌, Bool, true, false, not, ◌&&◌, ◌||◌, List, [], ◌∷◌, map, slice_get, Option, Some, None}
use Rattle.c_typed.specs.declared.tree.Slot.{Slot}
use Rattle.c_typed.specs.declared.tree.Slot.TheVariants as slot
use Rattle.c_typed.specs.declared.tree.Target.{Target}
use Rattle.c_typed.specs.declared.tree.Target.TheVariants as target
use Rattle.c_typed.specs.declared.tree.Node.{Node, fold-Node}
use Rattle.c_typed.specs.declared.tree.Typed.{Typed, fold-Typed}
use Rattle.c_typed.specs.declared.tree.Node.TheOpen as shape
use Rattle.c_typed.specs.declared.tree.Node.TheOpen.{Node-F, Typed-F}
use Rattle.c_typed.specs.declared.statement.Body.{Body, fold-Body}
use Rattle.c_typed.specs.declared.statement.ForStart.{ForStart, fold-ForStart}
use Rattle.c_typed.specs.declared.statement.Block.{Block, fold-Block}
use Rattle.c_typed.specs.declared.statement.Entry.{Entry, fold-Entry}
use Rattle.c_typed.specs.declared.statement.Body.TheOpen as form
use Rattle.c_typed.specs.declared.statement.Body.TheOpen.{Body-F, ForStart-F, Block-F, Entry-F}
use Rattle.c_typed.specs.declared.program.Content.{Content}
use Rattle.c_typed.specs.declared.program.Content.TheVariants as content
use Rattle.c_typed.specs.declared.program.Constant.{Constant}
use Rattle.c_typed.specs.declared.program.Static.{Static}
use Rattle.c_typed.specs.declared.program.Function.{Function}
use Rattle.c_typed.specs.declared.program.Program.{Program}

abbrev pub same_slot : Slot → Slot → Bool
same_slot (slot.Static m) (slot.Static n) = m == n
same_slot (slot.Auto a m) (slot.Auto b n) = (a == b) && (m == n)
same_slot _ _ = false

-- constant bytes that hold the address of the object
abbrev pub names_target : Slot → Target → Bool
names_target (slot.Static m) (target.Static n) = m == n
names_target _ _ = false

abbrev pub holds_address : Slot → Content → Bool
holds_address slot (content.Address target offset) = names_target slot target
holds_address slot _ = false

abbrev pub some_holds : Slot → List Constant → Bool
some_holds slot [] = false
some_holds slot (c ∷ cs) = holds_address slot c.content || some_holds slot cs

-- a tree that takes the object's address, where the tree isn't the place of an access, and where it is
abbrev pub Takes : Type 0
Takes = Bool → Bool

-- what a node takes by itself, and whether its first operand is the place of an access
pub record NodeTakes : Type 0 where
  pub own : Takes
  pub accesses : Bool

abbrev pub no_access : Takes → NodeTakes
no_access own = record { own = own; accesses = false }

abbrev pub an_access : NodeTakes
an_access = record { own = λ place. false; accesses = true }

-- an Obj node takes the address, but as the place of a Load, an Assign or an Update
abbrev pub node_takes : Slot → Node-F NodeTakes Takes → NodeTakes
node_takes slot (shape.Obj named) = no_access (λ place. same_slot named slot && not place)
node_takes slot (shape.Load access) = an_access
node_takes slot (shape.Assign initializing access) = an_access
node_takes slot (shape.Update change old) = an_access
node_takes slot (shape.List object bytes) = no_access (λ place. some_holds slot bytes)
node_takes slot (shape.Isolated tree) = no_access (λ place. tree false)
node_takes slot _ = no_access (λ place. false)

abbrev pub some_takes : Bool → List Takes → Bool
some_takes first [] = false
some_takes first (t ∷ ts) = t first || some_takes false ts

abbrev pub tree_takes : Typed-F NodeTakes Takes → Takes
tree_takes t place = t.node.own place || some_takes t.node.accesses t.children

abbrev pub takes : Slot → Typed → Takes
takes slot = fold-Typed NodeTakes Takes (node_takes slot) tree_takes

abbrev pub takes_node : Slot → Node → NodeTakes
takes_node slot = fold-Node NodeTakes Takes (node_takes slot) tree_takes

-- a full expression is no place of an access
abbrev pub full_takes : Slot → Typed → Bool
full_takes slot t = takes slot t false

abbrev pub option_takes : Slot → Option Typed → Bool
option_takes slot None = false
option_takes slot (Some t) = full_takes slot t

abbrev pub otherwise : Option Bool → Bool
otherwise None = false
otherwise (Some b) = b

abbrev pub any_of : List Bool → Bool
any_of [] = false
any_of (b ∷ bs) = b || any_of bs

abbrev pub body_step : Slot → Body-F Bool Bool Bool Bool → Bool
body_step slot (form.Simple t) = option_takes slot t
body_step slot (form.Block b) = b
body_step slot (form.If t first second) = full_takes slot t || (first || otherwise second)
body_step slot (form.Switch t b) = full_takes slot t || b
body_step slot (form.While t b) = full_takes slot t || b
body_step slot (form.Do b t) = b || full_takes slot t
body_step slot (form.For start test step b) = start || (option_takes slot test || (option_takes slot step || b))
body_step slot (form.Return t) = option_takes slot t
body_step slot (form.Label label b) = b
body_step slot (form.Case value b) = b
body_step slot (form.Default b) = b
body_step slot _ = false

abbrev pub start_step : Slot → ForStart-F Bool Bool Bool Bool → Bool
start_step slot form.Empty = false
start_step slot (form.Value t) = full_takes slot t
start_step slot (form.Declared b) = b

abbrev pub block_step : Block-F Bool Bool Bool Bool → Bool
block_step b = any_of b.entries

abbrev pub entry_step : Slot → Entry-F Bool Bool Bool Bool → Bool
entry_step slot (form.Statement b) = b
entry_step slot (form.Initializer t) = full_takes slot t
entry_step slot (form.Declare decl) = false

abbrev pub body_takes : Slot → Body → Bool
body_takes slot = fold-Body Bool Bool Bool Bool (body_step slot) (entry_step slot) (start_step slot) block_step

abbrev pub start_takes : Slot → ForStart → Bool
start_takes slot = fold-ForStart Bool Bool Bool Bool (body_step slot) (entry_step slot) (start_step slot) block_step

abbrev pub block_takes : Slot → Block → Bool
block_takes slot = fold-Block Bool Bool Bool Bool (body_step slot) (entry_step slot) (start_step slot) block_step

abbrev pub entry_takes : Slot → Entry → Bool
entry_takes slot = fold-Entry Bool Bool Bool Bool (body_step slot) (entry_step slot) (start_step slot) block_step

abbrev pub defined_takes : Slot → Option Body → Bool
defined_takes slot None = false
defined_takes slot (Some body) = body_takes slot body

abbrev pub function_takes : Slot → Function → Bool
function_takes slot f = defined_takes slot f.body

abbrev pub function_at_takes : Slot → Option Function → Bool
function_at_takes slot None = false
function_at_takes slot (Some f) = function_takes slot f

abbrev pub static_holds : Slot → Static → Bool
static_holds slot s = some_holds slot s.constants

-- the address of an object of a function is taken in that function, that of a static object in any, or by a static object's bytes
abbrev pub is_taken : Program → ℕ → Slot → Bool
is_taken p function (slot.Static number) =
    any_of (map (function_takes (slot.Static number)) p.functions) || any_of (map (static_holds (slot.Static number)) p.statics)
is_taken p function (slot.Auto block decl) = function_at_takes (slot.Auto block decl) (slice_get p.functions function)

abbrev pub is_private : Program → ℕ → Slot → Bool
is_private p function slot = not (is_taken p function slot)
