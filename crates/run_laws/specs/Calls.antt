-- The body of a call may start the function's frame, that comes next in a machine that stands so (6.5.2.2p10).
use Rattle.std.specs.Prelude.{◌≡◌, ◌+◌, ◌^◌, ◌<◌, ◌≤◌, ℕ, suc, true, Bool, List, [], length, map, Option, Some, None, slice_get}
use Rattle.std.specs.Borrow.{Bor}
use Rattle.ub_base.specs.declared.clause.Kind.TheVariants.{Body}
use Rattle.ub_base.specs.declared.names.Item.{Item}
use Rattle.c_types.specs.Types.{CType, qualified_of}
use Rattle.c_typed.specs.declared.tree.Node.{out-Node}
use Rattle.c_typed.specs.declared.tree.Node.TheOpen as shape
use Rattle.c_typed.specs.declared.tree.Typed.{out-Typed}
use Rattle.c_model.specs.Program.{Call, Expr, expr, Exprs}
use Rattle.c_model.specs.Runs.{State, library_of}
use Rattle.c_model.specs.Steps.{Begun, Ev, MayPick, Scene, argument_types, at_node, called_by, first_type, function_type, target, values_of}
use Rattle.c_model.specs.Values.{later_values, value_at}
use Rattle.c_model.specs.World.{World}
use Rattle.run_control.specs.View.{Meaning}
use Rattle.run_layout.specs.declared.nodes.NodeInfo.{NodeInfo}
use Rattle.run_layout.specs.declared.steps.Act.TheVariants as act
use Rattle.run_layout.specs.declared.steps.CallCode.{CallCode}
use Rattle.run_layout.specs.declared.steps.Due.{Due}
use Rattle.run_layout.specs.declared.steps.Expression.{Expression as Laid}
use Rattle.run_listing.specs.Along.{IsListed}
use Rattle.run_state.specs.declared.machine.Machine.{Machine}
use Rattle.run_state.specs.declared.machine.Stage.{Stage}
use Rattle.run_state.specs.Operands.{Gives}
use Rattle.run_answers.specs.Calling.{type_of_call}
use Rattle.run_answers.specs.Picks.{whole_part, ComesNext}
use Rattle.run_answers.specs.Starting.{AreCallable, ArePassed, IsCall, MayCall, MayCallNext}
use Rattle.run_answers.specs.Taking.{IsAt}
use Rattle.run_laws.specs.Given.{IsReady}
use Rattle.run_laws.specs.Open.{aside, IsOpen}

-- the event is the body of a call
pub record IsCallBody (nodes : List NodeInfo) (d : Due) : Type 0 where
  pub node : NodeInfo
  pub discarded : Bool
  pub there : slice_get nodes d.place.node ≡ Some node
  pub call : out-Node (out-Typed node.tree.now).node ≡ shape.Call discarded
  pub body : d.place.kind ≡ Body

-- 1. What the code and the machine have of it, whatever function is called. Its act is that of a call of the table, which goes by the type of the node's
-- designator, with the types of its arguments. In this machine the operands of the call give the values of those of the node.
pub record IsCallCode (world : World) (past : Machine) (f : Scene) (e : Begun) (d : Due) : Type 0 where
  pub number : ℕ
  pub act : d.act ≡ act.Call number
  pub body : d.place.kind ≡ Body
  pub code : CallCode
  pub there : slice_get past.image.code.now.tables.calls.items number ≡ Some code
  pub discarded : Bool
  pub ty : CType
  pub line : ℕ
  pub operands : Exprs
  pub node : at_node 0 e.root d.place.node ≡ Some (expr (Call discarded) ty line operands)
  pub typed : type_of_call code.ty ≡ function_type (target (first_type operands))
  pub types : map (λ q. (qualified_of q).ty) code.types ≡ argument_types operands
  pub designator : Gives past code.designator (value_at (values_of world f e.given (suc d.place.node) operands) 0)
  pub arguments : ArePassed past code.arguments.items (later_values (values_of world f e.given (suc d.place.node) operands))
  pub few : past.top.base + past.top.rooms + length code.arguments.items < 2 ^ 64

-- the values of a full expression's rooms, and of as many arguments, have places below 2^64
abbrev pub HasPlaces : Machine → Type 0
HasPlaces m = m.top.base + 2 ^ 33 < 2 ^ 64

-- So it is of such an event that is listed, and may come next, wherever the cursor stands and whatever was touched.
abbrev pub OpenIsCallCode : Type 0
OpenIsCallCode =
    (world : World) (meaning : Option ℕ → Meaning) (m : Machine) (st : State) (e : Begun) (s : Stage) (laid : Laid) (firsts : List ℕ)
    (nodes : List NodeInfo) (stage : Option Stage) (items : List Item) (d : Due) → IsOpen world meaning m st e s laid firsts nodes → HasPlaces m
    → IsListed (whole_part m s) d → MayPick world st.top (Some e) (Ev d.place) → IsCallBody nodes d
    → IsCallCode world (aside m stage items) st.top.scene e d

-- 2. Where the function that is called is none of the library, it is what run_machine asks.
abbrev pub CallsOwn : World → Scene → Begun → Due → Type 0
CallsOwn world f e d =
    (discarded : Bool) (ty : CType) (line : ℕ) (operands : Exprs) → at_node 0 e.root d.place.node ≡ Some (expr (Call discarded) ty line operands)
    → library_of (called_by world (values_of world f e.given (suc d.place.node) operands)) ≡ None

abbrev pub OpenIsCall : Type 0
OpenIsCall =
    (world : World) (meaning : Option ℕ → Meaning) (m : Machine) (st : State) (e : Begun) (s : Stage) (laid : Laid) (firsts : List ℕ)
    (nodes : List NodeInfo) (stage : Option Stage) (items : List Item) (d : Due) → IsOpen world meaning m st e s laid firsts nodes → HasPlaces m
    → IsListed (whole_part m s) d → MayPick world st.top (Some e) (Ev d.place) → IsCallBody nodes d → CallsOwn world st.top.scene e d
    → IsCall world (aside m stage items) st.top.scene e d

-- So its frame may start, where the machine has gone on to it, along the canonical way or off it.
abbrev pub OpenMayCall : Type 0
OpenMayCall =
    (world : World) (meaning : Option ℕ → Meaning) (m now : Machine) (st : State) (e : Begun) (s : Stage) (laid : Laid) (firsts : List ℕ)
    (nodes : List NodeInfo) (d : Due) → IsOpen world meaning m st e s laid firsts nodes → IsReady world m st → m.items ≡ [] → HasPlaces m
    → AreCallable world m.program.now → IsListed (whole_part m s) d → MayPick world st.top (Some e) (Ev d.place) → IsCallBody nodes d
    → CallsOwn world st.top.scene e d → IsAt s.straight m s d now → MayCall world meaning m st e s d now

-- And so it may where it comes next along the canonical way.
abbrev pub OpenMayCallNext : Type 0
OpenMayCallNext =
    (world : World) (meaning : Option ℕ → Meaning) (m : Machine) (st : State) (e : Begun) (s : Stage) (laid : Laid) (firsts : List ℕ)
    (nodes : List NodeInfo) → IsOpen world meaning m st e s laid firsts nodes → IsReady world m st → s.straight ≡ true → HasPlaces m
    → AreCallable world m.program.now
    → ((next : ℕ × Bor Due) → ComesNext m s (Some next) → IsCallBody nodes next.1.now × CallsOwn world st.top.scene e next.1.now)
    → MayCallNext world meaning m st e s
