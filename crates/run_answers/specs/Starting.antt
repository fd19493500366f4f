-- The event that is taken is a body that starts a frame: what is asked of the machine, and what it stands for then (6.5.2.2p10, 6.7.9p23).
use Rattle.std.specs.Prelude.{◌≡◌, ◌+◌, ◌^◌, ◌<◌, ◌≤◌, ℕ, suc, Bool, true, List, [], ◌∷◌, length, reverse, Option, Some, None, Result, Ok, Err, slice_get}
use Rattle.std.specs.Borrow.{Bor}
use Rattle.ub_base.specs.declared.clause.Kind.TheVariants.{Body}
use Rattle.ub_base.specs.declared.names.Event.{Event}
use Rattle.ub_base.specs.declared.names.Frame.{Frame}
use Rattle.c_types.specs.Types.{CType}
use Rattle.c_typed.specs.declared.program.Program.{Program}
use Rattle.c_typed.specs.declared.tree.Place.{Place}
use Rattle.c_model.specs.Control.{Begin, To_do, Unused}
use Rattle.c_model.specs.Program.{Call, Expr, expr, Exprs, Function, Isolated, Stmt}
use Rattle.c_model.specs.Runs.{Outcome, Running, State, canonical_pick, depth_of, entry_of, library_of, step}
use Rattle.c_model.specs.Steps.{Begun, Ev, Local, Scene, at_node, body_of, called_by, first_type, function_type, target, values_of}
use Rattle.c_model.specs.Values.{Nothing, Value, later_values, value_at}
use Rattle.c_model.specs.World.{World}
use Rattle.program_view.specs.Trees.{expr_of}
use Rattle.run_control.specs.View.{Meaning}
use Rattle.run_layout.specs.declared.steps.Act.TheVariants as act
use Rattle.run_layout.specs.declared.steps.CallCode.{CallCode}
use Rattle.run_layout.specs.declared.steps.Due.{Due}
use Rattle.run_layout.specs.declared.steps.Expression.{Expression}
use Rattle.run_layout.specs.declared.steps.Operand.{Operand}
use Rattle.run_layout.specs.declared.whole.Code.{Code}
use Rattle.run_layout.specs.Roots.{AreInBlocks}
use Rattle.run_state.specs.declared.halt.Halt.{Halt}
use Rattle.run_state.specs.declared.machine.Machine.{Machine}
use Rattle.run_state.specs.declared.machine.Stage.{Stage}
use Rattle.run_state.specs.Operands.{Gives}
use Rattle.run_state.specs.Stands.{Stands}
use Rattle.run_answers.specs.Calling.{type_of_call}
use Rattle.run_answers.specs.Opens.{IsBefore, StartsFunction, StartsInitializer}
use Rattle.run_answers.specs.declared.pick.Pick.{Pick}
use Rattle.run_answers.specs.declared.pick.Pick.TheVariants as pick
use Rattle.run_answers.specs.Answering.{Answers, IsWithin, newest_items}
use Rattle.run_answers.specs.Ending.{KeepToRooms}
use Rattle.run_answers.specs.Picks.{ComesNext, whole_part}
use Rattle.run_answers.specs.Taking.{HasRooms, IsAt, IsPast, StandsOpen, at_next, past_event, untouched}

-- 1. A frame that has started.

-- the machine whose top frame has been given this number
abbrev pub numbered : Machine → Frame → Machine
numbered m n = record m { top = record m.top { frame = n } }

-- Once the frame has the number that the world gives it, the machine stands for the state. The frames below keep their values in their rooms, and there is
-- no result yet.
pub record StandsStarted (world : World) (meaning : Option ℕ → Meaning) (m : Machine) (st : State) : Type 0 where
  pub stands : (n : Frame) → n.0 ≡ world.number st.top.scene.path → Stands world meaning (numbered m n) st
  pub rooms : KeepToRooms m.image.code.now (reverse m.below.items) st.held
  pub result : m.left ≡ None

-- the definitions go on to such a state, with the items of the pick
abbrev pub ComesToStart : World → (Option ℕ → Meaning) → Machine → Outcome → Type 0
ComesToStart world meaning m o = (st : State) × (o ≡ Running st) × (newest_items st.trace ≡ m.items) × StandsStarted world meaning m st

-- the state in which this frame has started, at the body of the event; nothing is touched
abbrev pub started_state : World → State → Place → Local → State
started_state world st u g =
    record { top = g; held = (st.top, u) ∷ st.held; store = st.store; trace = entry_of world st.top (Ev u) [] ∷ st.trace }

-- the frame of an isolated initializer, which is to begin this full expression, and sees the open blocks of the frame below (6.7.9p23)
abbrev pub initializer_frame : Scene → (node : ℕ) → Expr → Local
initializer_frame f n tree = record {
  scene = record { path = (f.turn, n) ∷ f.path; home = f.home; turn = 0; blocks = f.blocks };
  function = None;
  arguments = [];
  todo = Begin tree Unused ∷ [];
  begun = None;
  result = Some Nothing;
}

-- 2. What is asked of an event that is the body of an isolated initializer.

-- so it is in code that was laid out of a program: it has the full expression of the initializer, by the number that the act names
pub record IsInitializer (code : Code) (e : Begun) (d : Due) : Type 0 where
  pub number : ℕ
  pub act : d.act ≡ act.Initialize number
  pub body : d.place.kind ≡ Body
  pub tree : Expr
  pub ty : CType
  pub line : ℕ
  pub operands : Exprs
  pub node : at_node 0 e.root d.place.node ≡ Some (expr (Isolated tree) ty line operands)
  pub laid : Expression
  pub at : slice_get code.expressions.items number ≡ Some laid
  pub root : expr_of laid.root.now ≡ tree

-- The machine has touched nothing yet, stands for a state within the limits, with a full expression open in its top frame, and has gone on to the event.
-- There is a room for each node; places in listings, and of values, are below 2^64.
pub record MayStart (world : World) (meaning : Option ℕ → Meaning) (m : Machine) (st : State) (e : Begun) (s : Stage) (d : Due) (now : Machine)
    : Type 0 where
  pub stood : StandsOpen world meaning m st e
  pub within : IsWithin world st
  pub items : m.items ≡ []
  pub stage : m.top.stage ≡ Some s
  pub end : s.end < 2 ^ 64
  pub rooms : HasRooms (whole_part m s) m.top.rooms e
  pub few : m.top.base + m.top.rooms < 2 ^ 64
  pub event : IsInitializer m.image.code.now e d
  pub goes : IsAt s.straight m s d now

-- 3. What is answered.

-- a frame starts so, as the definitions say, or what they raise or pass is answered; there may be want of memory
abbrev pub AnswersStart : World → (Option ℕ → Meaning) → (Started : Type 0) → Result Pick Halt → Machine → Outcome → Type 0
AnswersStart world meaning Started (Ok (pick.Starts event)) m o = ComesToStart world meaning m o × Started
AnswersStart world meaning Started (Ok (pick.Event event completed status)) m o = ⊥
AnswersStart world meaning Started (Ok (pick.Step status)) m o = ⊥
AnswersStart world meaning Started (Err e) m o = Answers world meaning (Err e) m o

-- The frame of an isolated initializer has started at the body of this place, which the cursor has passed; the definitions go on to the state in which it
-- has.
pub record StartsIsolated (world : World) (old : Machine) (st : State) (e : Begun) (s : Stage) (u : Place) (new : Machine) (o : Outcome) : Type 0 where
  pub due : Due
  pub place : due.place ≡ u
  pub is : IsInitializer old.image.code.now e due
  pub past : Machine
  pub passes : IsPast s.straight old s due past
  pub who : Event
  pub node : who.node ≡ u.node
  pub starts : StartsInitializer past is.number who new
  pub comes : o ≡ Running (started_state world st u (initializer_frame st.top.scene u.node is.tree))

abbrev pub AnswersBody : Due → (old new : Machine) → Result Pick Halt → Type 0
AnswersBody d old new result =
    (world : World) (meaning : Option ℕ → Meaning) (m : Machine) (st : State) (e : Begun) (s : Stage)
    → MayStart world meaning m st e s d old
    → AnswersStart world meaning (StartsIsolated world m st e s d.place new (step world st (Ev d.place))) result new (step world st (Ev d.place))

-- 4. The next event along the canonical way.

-- a machine that stands so, in whose full expression the event that comes next is such a body
pub record MayStartNext (world : World) (meaning : Option ℕ → Meaning) (m : Machine) (st : State) (e : Begun) (s : Stage) : Type 0 where
  pub stood : StandsOpen world meaning m st e
  pub within : IsWithin world st
  pub stage : m.top.stage ≡ Some s
  pub straight : s.straight ≡ true
  pub end : s.end < 2 ^ 64
  pub rooms : HasRooms (whole_part m s) m.top.rooms e
  pub few : m.top.base + m.top.rooms < 2 ^ 64
  pub each : (next : ℕ × Bor Due) → ComesNext m s (Some next) → IsInitializer m.image.code.now e next.1.now

-- a canonical pick that is an event, of the machine that has touched nothing yet
abbrev pub AnswersNextBody : (old new : Machine) → Result Pick Halt → Type 0
AnswersNextBody old new result =
    (world : World) (meaning : Option ℕ → Meaning) (st : State) (e : Begun) (s : Stage) (u : Place)
    → MayStartNext world meaning old st e s → canonical_pick world st.top st.top.begun ≡ Ev u
    → AnswersStart world meaning (StartsIsolated world (untouched old) st e s u new (step world st (Ev u))) result new (step world st (Ev u))

-- 5. The frame of a function.

-- it is to do this body, and takes these arguments as its body block is entered (6.5.2.2p4, p10)
abbrev pub function_frame : Scene → (node number : ℕ) → Stmt → List Value → Local
function_frame f node number body vs = record {
  scene = record { path = (f.turn, node) ∷ f.path; home = (f.turn, node) ∷ f.path; turn = 0; blocks = [] };
  function = Some number;
  arguments = vs;
  todo = To_do body ∷ [];
  begun = None;
  result = None;
}

-- operands that give these values, each from before the rooms of the frame that starts
abbrev pub ArePassed : Machine → List Operand → List Value → Type 0
ArePassed m [] [] = Unit {0}
ArePassed m (o ∷ os) (v ∷ vs) = (IsBefore m.top.base (m.top.base + m.top.rooms) o × Gives m o v) × ArePassed m os vs
ArePassed m _ _ = ⊥

-- A function's frame has started at a body, which the cursor has passed, of a machine that stands so, with a full expression open in its top frame; the
-- operands of the call give these values. There is a room for each node, and places of values are below 2^64.
pub record StartsCall (world : World) (meaning : Option ℕ → Meaning) (old : Machine) (st : State) (e : Begun) (s : Stage) (d : Due) (number : ℕ) (body : Stmt)
    (os : List Operand) (vs : List Value) (new : Machine) : Type 0 where
  pub stood : StandsOpen world meaning old st e
  pub stage : old.top.stage ≡ Some s
  pub rooms : HasRooms (whole_part old s) old.top.rooms e
  pub few : old.top.base + old.top.rooms + length os < 2 ^ 64
  pub kind : d.place.kind ≡ Body
  pub has : body_of world (Some number) ≡ Some body
  pub past : Machine
  pub passes : IsPast s.straight old s d past
  pub passed : ArePassed past os vs
  pub who : Event
  pub node : who.node ≡ d.place.node
  pub starts : StartsFunction past number os who new

-- The machine then stands for the state of the definitions in which the function's frame has started.
abbrev pub FunctionStands : Type 0
FunctionStands =
    (world : World) (meaning : Option ℕ → Meaning) (old : Machine) (st : State) (e : Begun) (s : Stage) (d : Due) (number : ℕ) (body : Stmt)
    (os : List Operand) (vs : List Value) (new : Machine) → StartsCall world meaning old st e s d number body os vs new
    → StandsStarted world meaning new (started_state world st d.place (function_frame st.top.scene d.place.node number body vs))

-- The body is that of a call, by its operands, of a function that the program defines, with a type that is compatible with that of the call (6.5.2.2p9); it
-- passes these values.
pub record IsCallOf (world : World) (f : Scene) (e : Begun) (u : Place) (number : ℕ) (body : Stmt) (vs : List Value) : Type 0 where
  pub kind : u.kind ≡ Body
  pub discarded : Bool
  pub ty : CType
  pub line : ℕ
  pub operands : Exprs
  pub node : at_node 0 e.root u.node ≡ Some (expr (Call discarded) ty line operands)
  pub through : CType
  pub typed : function_type (target (first_type operands)) ≡ Some through
  pub called : Function
  pub calls : called_by world (values_of world f e.given (suc u.node) operands) ≡ Some (number, called)
  pub agrees : world.agree called.ty through ≡ true
  pub none : called.library ≡ None
  pub defines : called.body ≡ Some body
  pub passes : later_values (values_of world f e.given (suc u.node) operands) ≡ vs

-- Within the limits, with fewer frames of functions open than they allow, the function's frame starts in the definitions.
abbrev pub FunctionSteps : Type 0
FunctionSteps =
    (world : World) (st : State) (e : Begun) (u : Place) (number : ℕ) (body : Stmt) (vs : List Value) → st.top.begun ≡ Some e
    → IsCallOf world st.top.scene e u number body vs → IsWithin world st → depth_of st.top st.held < world.limits.depth
    → step world st (Ev u) ≡ Running (started_state world st u (function_frame st.top.scene u.node number body vs))

-- 6. What is asked of an event that is the body of a call.

-- So it is in code that was laid out of a program: its act is that of a call of the table, which goes by the type of the node's designator. In this machine
-- the operands of the call give the values of those of the node, for which there are places below 2^64. The function that is called is none of the library.
pub record IsCall (world : World) (past : Machine) (f : Scene) (e : Begun) (d : Due) : Type 0 where
  pub number : ℕ
  pub act : d.act ≡ act.Call number
  pub body : d.place.kind ≡ Body
  pub code : CallCode
  pub there : slice_get past.image.code.now.tables.calls.items number ≡ Some code
  pub discarded : Bool
  pub ty : CType
  pub line : ℕ
  pub operands : Exprs
  pub node : at_node 0 e.root d.place.node ≡ Some (expr (Call discarded) ty line operands)
  pub typed : type_of_call code.ty ≡ function_type (target (first_type operands))
  pub designator : Gives past code.designator (value_at (values_of world f e.given (suc d.place.node) operands) 0)
  pub arguments : ArePassed past code.arguments.items (later_values (values_of world f e.given (suc d.place.node) operands))
  pub few : past.top.base + past.top.rooms + length code.arguments.items < 2 ^ 64
  pub own : library_of (called_by world (values_of world f e.given (suc d.place.node) operands)) ≡ None

-- What is defined is defined by a block, and there are at most 2^32 functions, of which as many frames may be open as the profile allows.
pub record AreCallable (world : World) (p : Program) : Type 0 where
  pub blocks : AreInBlocks p.functions
  pub few : length p.functions ≤ 2 ^ 32
  pub depth : world.limits.depth ≡ 100000

-- The machine has touched nothing yet, stands for a state within the limits, with a full expression open in its top frame, and has gone on to the event.
-- There is a room for each node; places in listings are below 2^64.
pub record MayCall (world : World) (meaning : Option ℕ → Meaning) (m : Machine) (st : State) (e : Begun) (s : Stage) (d : Due) (now : Machine)
    : Type 0 where
  pub stood : StandsOpen world meaning m st e
  pub within : IsWithin world st
  pub items : m.items ≡ []
  pub stage : m.top.stage ≡ Some s
  pub end : s.end < 2 ^ 64
  pub rooms : HasRooms (whole_part m s) m.top.rooms e
  pub functions : AreCallable world m.program.now
  pub event : IsCall world (past_event now) st.top.scene e d
  pub goes : IsAt s.straight m s d now

-- The frame of a function has started at the body of this place, which is that of a call of the function, with the values that it passes; the definitions
-- go on to the state in which it has.
pub record CallsFunction (world : World) (meaning : Option ℕ → Meaning) (old : Machine) (st : State) (e : Begun) (s : Stage) (u : Place) (new : Machine)
    (o : Outcome) : Type 0 where
  pub due : Due
  pub place : due.place ≡ u
  pub number : ℕ
  pub body : Stmt
  pub operands : List Operand
  pub values : List Value
  pub is : IsCallOf world st.top.scene e u number body values
  pub starts : StartsCall world meaning old st e s due number body operands values new
  pub comes : o ≡ Running (started_state world st u (function_frame st.top.scene u.node number body values))

-- The frame of the function starts as the definitions say; or the call raises what they raise, of none or through a type that isn't compatible (6.5.3.2p4,
-- 6.5.2.2p9), or passes the limit on open frames; or memory is wanted.
abbrev pub AnswersCall : Due → (old new : Machine) → Result Pick Halt → Type 0
AnswersCall d old new result =
    (world : World) (meaning : Option ℕ → Meaning) (m : Machine) (st : State) (e : Begun) (s : Stage)
    → MayCall world meaning m st e s d old
    → AnswersStart world meaning (CallsFunction world meaning m st e s d.place new (step world st (Ev d.place))) result new (step world st (Ev d.place))

-- 7. The next event along the canonical way is such a body.

pub record MayCallNext (world : World) (meaning : Option ℕ → Meaning) (m : Machine) (st : State) (e : Begun) (s : Stage) : Type 0 where
  pub stood : StandsOpen world meaning m st e
  pub within : IsWithin world st
  pub stage : m.top.stage ≡ Some s
  pub straight : s.straight ≡ true
  pub end : s.end < 2 ^ 64
  pub rooms : HasRooms (whole_part m s) m.top.rooms e
  pub functions : AreCallable world m.program.now
  pub each : (next : ℕ × Bor Due) → ComesNext m s (Some next) → IsCall world (past_event (at_next m s next.0)) st.top.scene e next.1.now

abbrev pub AnswersNextCall : (old new : Machine) → Result Pick Halt → Type 0
AnswersNextCall old new result =
    (world : World) (meaning : Option ℕ → Meaning) (st : State) (e : Begun) (s : Stage) (u : Place)
    → MayCallNext world meaning old st e s → canonical_pick world st.top st.top.begun ≡ Ev u
    → AnswersStart world meaning (CallsFunction world meaning (untouched old) st e s u new (step world st (Ev u))) result new (step world st (Ev u))
