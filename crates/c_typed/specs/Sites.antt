-- A program as lists of what it says: its nodes, each with the types of its operands; its full expressions, each with the
-- blocks round it; its blocks, labels and jumps (own).
use Rattle.std.specs.Prelude.{ℕ, ◌+◌, ◌==◌, Bool, true, false, ℤ, List, [], ◌∷◌, ◌++◌, map, Option, Some, None, slice_get, if◌then◌else◌}
use Rattle.c_types.specs.Types.{CType, Qualified, type_of, qualified_of}
use Rattle.c_typed.specs.declared.tree.Slot.{Slot}
use Rattle.c_typed.specs.declared.tree.Slot.TheVariants as slot
use Rattle.c_typed.specs.declared.tree.Typed.{Typed, fold-Typed}
use Rattle.c_typed.specs.declared.tree.Node.TheOpen as shape
use Rattle.c_typed.specs.declared.tree.Node.TheOpen.{Node-F, Typed-F}
use Rattle.c_typed.specs.declared.statement.Body.{Body, fold-Body}
use Rattle.c_typed.specs.declared.statement.Body.TheOpen as form
use Rattle.c_typed.specs.declared.statement.Body.TheOpen.{Body-F, ForStart-F, Block-F, Entry-F}

-- a node without the trees below it
abbrev pub Head : Type 0
Head = Node-F (Unit {0}) (Unit {0})

abbrev pub head_of : {A B : Type 0} → Node-F A B → Head
head_of (shape.Const z) = shape.Const z
head_of (shape.Obj slot) = shape.Obj slot
head_of (shape.Func k) = shape.Func k
head_of (shape.Str k) = shape.Str k
head_of (shape.Load access) = shape.Load access
head_of (shape.Conv c) = shape.Conv c
head_of (shape.Un op) = shape.Un op
head_of (shape.Bin op kind) = shape.Bin op kind
head_of (shape.PtrAdd size subtract) = shape.PtrAdd size subtract
head_of (shape.PtrDiff size) = shape.PtrDiff size
head_of (shape.Rel op pointers) = shape.Rel op pointers
head_of (shape.Eq op) = shape.Eq op
head_of (shape.Member offset) = shape.Member offset
head_of (shape.Part offset access) = shape.Part offset access
head_of (shape.Assign initializing access) = shape.Assign initializing access
head_of (shape.Update change old) = shape.Update change old
head_of shape.And = shape.And
head_of shape.Or = shape.Or
head_of shape.Cond = shape.Cond
head_of shape.Comma = shape.Comma
head_of (shape.Call discarded) = shape.Call discarded
head_of (shape.List object bytes) = shape.List object bytes
head_of (shape.Isolated tree) = shape.Isolated tt

-- a node of a tree, with its type and the types of its operands
pub record Site : Type 0 where
  pub head : Head
  pub ty : CType
  pub operands : List CType

-- what a tree shows the node above it: its type, and its nodes
pub record Seen : Type 0 where
  pub ty : CType
  pub sites : List Site

-- a node, and the nodes of the tree that it holds itself
pub record SeenNode : Type 0 where
  pub head : Head
  pub inner : List Site

abbrev pub inner_sites : Node-F SeenNode Seen → List Site
inner_sites (shape.Isolated tree) = tree.sites
inner_sites _ = []

abbrev pub seen_node : Node-F SeenNode Seen → SeenNode
seen_node n = record { head = head_of n; inner = inner_sites n }

abbrev pub type_seen : Seen → CType
type_seen s = s.ty

abbrev pub all_sites : List Seen → List Site
all_sites [] = []
all_sites (s ∷ ss) = s.sites ++ all_sites ss

abbrev pub seen_tree : Typed-F SeenNode Seen → Seen
seen_tree t = record {
  ty = type_of t.ty;
  sites = record { head = t.node.head; ty = type_of t.ty; operands = map type_seen t.children } ∷ t.node.inner ++ all_sites t.children;
}

abbrev pub seen : Typed → Seen
seen = fold-Typed SeenNode Seen seen_node seen_tree

-- the nodes of a tree, those of listed expressions too
abbrev pub sites : Typed → List Site
sites t = (seen t).sites

-- the type of the value that a tree gives
abbrev pub type_at : Typed → CType
type_at t = (seen t).ty

-- what a full expression is for (6.8p4)
pub data Use : Type 0 where
  unused : Use
  tested : Use
  selects : Use
  returned : Use
  initializes : Use

-- the blocks round a place: the types of the objects of each, by the block's number, and the number of the innermost
pub record Blocks : Type 0 where
  pub objects : ℕ → Option (List Qualified)
  pub innermost : Option ℕ

abbrev pub no_block : Blocks
no_block = record { objects = λ number. None; innermost = None }

abbrev pub inside : ℕ → List Qualified → Blocks → Blocks
inside number objects blocks = record {
  objects = λ other. if other == number then Some objects else blocks.objects other;
  innermost = Some number;
}

-- a full expression with the blocks round it
pub record Expression : Type 0 where
  pub tree : Typed
  pub for_use : Use
  pub blocks : Blocks

abbrev pub Found : Type 0
Found = Blocks → List Expression

abbrev pub one : Use → Typed → Found
one for_use tree blocks = record { tree = tree; for_use = for_use; blocks = blocks } ∷ []

abbrev pub perhaps : Use → Option Typed → Found
perhaps for_use None blocks = []
perhaps for_use (Some tree) blocks = one for_use tree blocks

abbrev pub both : Found → Found → Found
both a b blocks = a blocks ++ b blocks

abbrev pub otherwise : Option Found → Found
otherwise None blocks = []
otherwise (Some found) blocks = found blocks

-- a block, or the first part of a `for`: the blocks round what follows it, and what it holds
pub record Opened : Type 0 where
  pub around : Blocks → Blocks
  pub found : Found

abbrev pub found_body : Body-F Found Found Opened Opened → Found
found_body (form.Simple tree) = perhaps unused tree
found_body (form.Block block) = block.found
found_body (form.If test first second) = both (one tested test) (both first (otherwise second))
found_body (form.Switch test body) = both (one selects test) body
found_body (form.While test body) = both (one tested test) body
found_body (form.Do body test) = both body (one tested test)
found_body (form.For start test step body) =
    both start.found (λ blocks. both (perhaps tested test) (both (perhaps unused step) body) (start.around blocks))
found_body (form.Return tree) = perhaps returned tree
found_body (form.Label label body) = body
found_body (form.Case value body) = body
found_body (form.Default body) = body
found_body _ = λ blocks. []

abbrev pub found_entry : Entry-F Found Found Opened Opened → Found
found_entry (form.Statement body) = body
found_entry (form.Initializer tree) = one initializes tree
found_entry (form.Declare decl) = λ blocks. []

abbrev pub found_start : ForStart-F Found Found Opened Opened → Opened
found_start form.Empty = record { around = λ blocks. blocks; found = λ blocks. [] }
found_start (form.Value tree) = record { around = λ blocks. blocks; found = one unused tree }
found_start (form.Declared block) = block

abbrev pub found_entries : List Found → Found
found_entries [] blocks = []
found_entries (found ∷ rest) blocks = found blocks ++ found_entries rest blocks

abbrev pub found_block : Block-F Found Found Opened Opened → Opened
found_block b =
    let around = inside b.number (map qualified_of b.objects)
    in record { around = around; found = λ blocks. found_entries b.entries (around blocks) }

-- the full expressions of a function's body
abbrev pub expressions : Body → List Expression
expressions body = fold-Body Found Found Opened Opened found_body found_entry found_start found_block body no_block

-- a block: its number, its objects, and those that are declared without initializer
pub record BlockRow : Type 0 where
  pub number : ℕ
  pub objects : List Qualified
  pub declares : List ℕ

-- the labels of one `switch`: how many say `default`, and the values of the others
pub record SwitchRow : Type 0 where
  pub cases : List ℤ
  pub defaults : ℕ

-- what a statement holds: its blocks in preorder; its `switch` statements; the labels of the one round it; labels and the
-- jumps to them; and how often it leaves the loop or `switch` round it, or goes on with the loop round it
pub record Summary : Type 0 where
  pub blocks : List BlockRow
  pub switches : List SwitchRow
  pub cases : List ℤ
  pub defaults : ℕ
  pub labels : List ℕ
  pub jumps : List ℕ
  pub breaks : ℕ
  pub continues : ℕ

abbrev pub nothing : Summary
nothing = record { blocks = []; switches = []; cases = []; defaults = 0; labels = []; jumps = []; breaks = 0; continues = 0 }

abbrev pub and : Summary → Summary → Summary
and a b = record {
  blocks = a.blocks ++ b.blocks;
  switches = a.switches ++ b.switches;
  cases = a.cases ++ b.cases;
  defaults = a.defaults + b.defaults;
  labels = a.labels ++ b.labels;
  jumps = a.jumps ++ b.jumps;
  breaks = a.breaks + b.breaks;
  continues = a.continues + b.continues;
}

abbrev pub and_option : Summary → Option Summary → Summary
and_option a None = a
and_option a (Some b) = and a b

-- a `switch` takes the case labels and the breaks inside it (6.8.4.2p4, 6.8.6.3p2)
abbrev pub switched : Summary → Summary
switched s = record s {
  switches = record { cases = s.cases; defaults = s.defaults } ∷ s.switches;
  cases = [];
  defaults = 0;
  breaks = 0;
}

-- a loop takes the breaks and continues inside it (6.8.6.2p2, 6.8.6.3p2)
abbrev pub looped : Summary → Summary
looped s = record s { breaks = 0; continues = 0 }

abbrev pub summary_step : Body-F Summary (Summary × List ℕ) Summary Summary → Summary
summary_step (form.Block block) = block
summary_step (form.If test first second) = and_option first second
summary_step (form.Switch test body) = switched body
summary_step (form.While test body) = looped body
summary_step (form.Do body test) = looped body
summary_step (form.For start test step body) = and start (looped body)
summary_step (form.Goto label) = record nothing { jumps = label ∷ [] }
summary_step form.Continue = record nothing { continues = 1 }
summary_step form.Break = record nothing { breaks = 1 }
summary_step (form.Label label body) = record body { labels = label ∷ body.labels }
summary_step (form.Case value body) = record body { cases = value ∷ body.cases }
summary_step (form.Default body) = record body { defaults = 1 + body.defaults }
summary_step _ = nothing

-- an entry, and the objects that it declares without initializer
abbrev pub entry_summary : Entry-F Summary (Summary × List ℕ) Summary Summary → Summary × List ℕ
entry_summary (form.Statement body) = (body, [])
entry_summary (form.Initializer tree) = (nothing, [])
entry_summary (form.Declare decl) = (nothing, decl ∷ [])

abbrev pub start_summary : ForStart-F Summary (Summary × List ℕ) Summary Summary → Summary
start_summary (form.Declared block) = block
start_summary _ = nothing

abbrev pub entries_summary : List (Summary × List ℕ) → Summary
entries_summary [] = nothing
entries_summary (e ∷ es) = and e.0 (entries_summary es)

abbrev pub declared_in : List (Summary × List ℕ) → List ℕ
declared_in [] = []
declared_in (e ∷ es) = e.1 ++ declared_in es

abbrev pub block_summary : Block-F Summary (Summary × List ℕ) Summary Summary → Summary
block_summary b =
    let inner = entries_summary b.entries
    in record inner {
      blocks = record { number = b.number; objects = map qualified_of b.objects; declares = declared_in b.entries } ∷ inner.blocks;
    }

abbrev pub summary : Body → Summary
summary = fold-Body Summary (Summary × List ℕ) Summary Summary summary_step entry_summary start_summary block_summary
