-- The rooms for the values of a full expression, and for what its updates are to store.
use Rattle.std.specs.Prelude.{◌≡◌, ◌<◌, ◌≤◌, ℕ, Bool, true, List, Option, Some, None, slice_get}
use Rattle.ub_base.specs.declared.clause.Kind.TheVariants.{Eff}
use Rattle.c_typed.specs.declared.tree.Change.{Change}
use Rattle.c_typed.specs.Tree.{size}
use Rattle.c_model.specs.Program.{Expr, Exprs, tree_of}
use Rattle.c_model.specs.Steps.{at_node}
use Rattle.program_view.specs.Trees.{expr_of}
use Rattle.run_layout.specs.declared.nodes.NodeInfo.{NodeInfo}
use Rattle.run_layout.specs.declared.steps.Act.{Act}
use Rattle.run_layout.specs.declared.steps.Act.TheVariants as act
use Rattle.run_layout.specs.declared.steps.Due.{Due}
use Rattle.run_layout.specs.declared.steps.Expression.{Expression as Laid}
use Rattle.run_layout.specs.declared.steps.Listed.{Listed}
use Rattle.run_layout.specs.declared.steps.Listed.TheVariants as listed
use Rattle.run_layout.specs.declared.steps.Operand.{Operand}
use Rattle.run_layout.specs.declared.steps.Operand.TheVariants.{Done}
use Rattle.run_layout.specs.declared.whole.Code.{Code}
use Rattle.run_layout.specs.LaidOut.{LaidOutBy}
use Rattle.run_layout.specs.OfTrees.{ListsTrees, listing_in}
use Rattle.run_state.specs.Stands.{IsUpdate}
use Rattle.code_view.specs.Events.{stores}

-- 1. What a run asks.

-- the event stands among these entries
abbrev pub IsListedIn : List Listed → Due → Type 0
IsListedIn entries d = (at : ℕ) × (slice_get entries at ≡ Some (listed.Event d))

-- the room from which the effect of an update takes what it stores
pub record IsUpdateRoomOf (entries : List Listed) (root : Expr) (room : ℕ) : Type 0 where
  pub due : Due
  pub store : ℕ
  pub target : Operand
  pub change : Change
  pub old : Bool
  pub operands : Exprs
  pub is_listed : IsListedIn entries due
  pub act : due.act ≡ act.Store store target (Done room)
  pub effect : due.place.kind ≡ Eff
  pub update : IsUpdate (at_node 0 root due.place.node) change old operands

-- the room in which the value of an update keeps what its effect will store, beside its own
abbrev pub kept_at : Act → Option ℕ
kept_at (act.Change c true ty place amount room) = Some room
kept_at a = None

-- There is a room for each node, and for what each update is to store; no event of another node than the update's keeps anything there. An effect stores, and
-- gives no value.
pub record HasRoomsOf (entries : List Listed) (rooms : ℕ) (root : Expr) : Type 0 where
  pub nodes : size (tree_of root) ≤ rooms
  pub within : (room : ℕ) → IsUpdateRoomOf entries root room → room < rooms
  pub apart : (room : ℕ) (r : IsUpdateRoomOf entries root room) (d : Due) → IsListedIn entries d → kept_at d.act ≡ Some room
      → d.place.node ≡ r.due.place.node
  pub effects : (d : Due) → IsListedIn entries d → d.place.kind ≡ Eff → stores d.act ≡ true

-- 2. So it is in the code: it has these rooms (`IsRoomedBy` of run_code).
abbrev pub RoomsAreThere : Type 0
RoomsAreThere = (code : Code) (firsts : List ℕ) (nodes : List NodeInfo) (n : ℕ) (laid : Laid) → ListsTrees code
    → slice_get code.expressions.items n ≡ Some laid → LaidOutBy firsts nodes code.tables code.listing.items laid
    → HasRoomsOf (listing_in code.listing.items laid) laid.rooms (expr_of laid.root.now)
