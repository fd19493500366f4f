-- The event that is taken is the body of a call of a library function: what is asked of the machine, and what it stands for then (7.21, 7.22, 7.24).
use Rattle.std.specs.Prelude.{◌≡◌, ℕ, ◌<◌, ◌≤◌, ◌^◌, suc, true, Bool, List, [], ◌∷◌, length, map, Option, Some, None, Result, Ok, Err, slice_get}
use Rattle.std.specs.Borrow.{Bor}
use Rattle.ub_base.specs.declared.clause.Kind.TheVariants.{Body}
use Rattle.ub_base.specs.declared.names.Item.{Item}
use Rattle.addr_map.specs.Rows.{row_of}
use Rattle.c_types.specs.declared.library.LibFunc.{LibFunc}
use Rattle.c_types.specs.Types.{CType}
use Rattle.c_typed.specs.declared.program.Program.{Program}
use Rattle.c_typed.specs.declared.tree.Place.{Place}
use Rattle.mem_laws.specs.MoreRows.{Extends}
use Rattle.mem_objects.specs.declared.value.Value.{Value as Kept_value}
use Rattle.libc_spec.specs.Library.{LibValue, heap_name}
use Rattle.libc_arguments.specs.Seen.{values_seen}
use Rattle.c_model.specs.Libraries.{passed, result}
use Rattle.c_model.specs.Program.{Call, expr, Exprs}
use Rattle.c_model.specs.Runs.{Entry, Outcome, Raises, Over, No_row, Ends, Running, State, canonical_pick, library_of, step}
use Rattle.c_model.specs.Steps.{
  Begun,
  Ev,
  MayPick,
  Scene,
  argument_types,
  at_node,
  called_by,
  first_type,
  function_type,
  target,
  values_of,
  with_given,
}
use Rattle.c_model.specs.Values.{Value, later_values, value_at}
use Rattle.c_model.specs.World.{World}
use Rattle.library_laws.specs.Called.{items_of}
use Rattle.library_laws.specs.Calls.{HasLibrary, IsLibraryCall}
use Rattle.run_control.specs.View.{Meaning}
use Rattle.run_layout.specs.declared.steps.Act.TheVariants as act
use Rattle.run_layout.specs.declared.steps.CallCode.{CallCode}
use Rattle.run_layout.specs.declared.steps.Due.{Due}
use Rattle.run_layout.specs.declared.steps.Expression.{Expression}
use Rattle.run_layout.specs.declared.steps.Operand.{Operand}
use Rattle.run_layout.specs.Roots.{AreInBlocks}
use Rattle.run_state.specs.declared.halt.Halt.{Halt}
use Rattle.run_state.specs.declared.halt.Halt.TheVariants as halt
use Rattle.run_state.specs.declared.machine.Machine.{Machine}
use Rattle.run_state.specs.declared.machine.Stage.{Stage}
use Rattle.run_state.specs.Operands.{Gives}
use Rattle.run_answers.specs.Calling.{type_of_call}
use Rattle.run_answers.specs.LibraryCalls.{CanCall, ChangesByCall, HasCalled, are_call_sizes, types_seen}
use Rattle.run_answers.specs.declared.pick.Pick.{Pick}
use Rattle.run_answers.specs.declared.pick.Pick.TheVariants as pick
use Rattle.run_answers.specs.Answering.{IsWithin, newest_items}
use Rattle.run_answers.specs.Ending.{NotesWay}
use Rattle.run_answers.specs.Picks.{ComesNext, event_at, whole_part}
use Rattle.run_answers.specs.Taking.{AreLawful, Decides, HasRooms, IsAt, IsEventOf, IsPast, StandsOpen, after_event, at_next, past_event, store_after}

-- 1. What was done.

-- The cursor passed the event; then the function was called with these values, of these types, and gave this one; it was noted. The world's rows extend
-- those that the memory then has.
pub record IsCalled (world : World) (old : Machine) (s : Stage) (d : Due) (f : LibFunc) (ts : List CType) (hs : List Kept_value) (w : LibValue)
    (new : Machine) : Type 0 where
  pub past : Machine
  pub done : Machine
  pub noted : Machine
  pub passes : IsPast s.straight old s d past
  pub can : CanCall past f hs
  pub changes : ChangesByCall past done d.place.node
  pub does : HasCalled past done f (event_at past d.place) ts hs w
  pub rows : Extends new.memory.rows world.rows
  pub notes : NotesWay s.straight done d.place noted
  pub decides : Decides d.choice noted new

-- the body of a call
pub record IsBodyOfCall (e : Begun) (u : Place) : Type 0 where
  pub kind : u.kind ≡ Body
  pub discarded : Bool
  pub ty : CType
  pub line : ℕ
  pub operands : Exprs
  pub node : at_node 0 e.root u.node ≡ Some (expr (Call discarded) ty line operands)

-- The body of such a call is done, which may come next.
pub record TakesCall (world : World) (meaning : Option ℕ → Meaning) (old : Machine) (st : State) (e : Begun) (s : Stage) (laid : Expression) (d : Due)
    (f : LibFunc) (ts : List CType) (hs : List Kept_value) (w : LibValue) (new : Machine) : Type 0 where
  pub stood : StandsOpen world meaning old st e
  pub stage : old.top.stage ≡ Some s
  pub at : slice_get old.image.code.now.expressions.items s.expression ≡ Some laid
  pub rooms : HasRooms (whole_part old s) old.top.rooms e
  pub event : IsEventOf world old.image.code.now st.top.scene laid e d
  pub constants : AreLawful old.program.now old.image.code.now
  pub body : IsBodyOfCall e d.place
  pub may : MayPick world st.top (Some e) (Ev d.place)
  pub called : IsCalled world old s d f ts hs w new

-- The machine then stands for the state of the definitions that has the body done, with the function's value, whatever items its pick has there.
abbrev pub LibraryStands : Type 0
LibraryStands =
    (world : World) (meaning : Option ℕ → Meaning) (old new : Machine) (st : State) (e : Begun) (s : Stage) (laid : Expression) (d : Due) (f : LibFunc)
    (ts : List CType) (hs : List Kept_value) (w : LibValue) (is : List Item) → TakesCall world meaning old st e s laid d f ts hs w new
    → StandsOpen world meaning new (after_event world st e d.place (result w) is (store_after new)) (with_given e d.place (result w))

-- the step has these items, of which the machine has what is read of a string in one range, and goes on to that state
pub record StepsByCall (world : World) (st : State) (e : Begun) (u : Place) (f : LibFunc) (w : LibValue) (new : Machine) (o : Outcome) : Type 0 where
  pub items : List Item
  pub touched : new.items ≡ items_of f items
  pub steps : o ≡ Running (after_event world st e u (result w) items (store_after new))

-- Where the call is that of the node, with its values, this is the definitions' next state, of one within the limits.
abbrev pub LibrarySteps : Type 0
LibrarySteps =
    (world : World) (meaning : Option ℕ → Meaning) (old new : Machine) (st : State) (e : Begun) (s : Stage) (laid : Expression) (d : Due) (f : LibFunc)
    (ts : List CType) (hs : List Kept_value) (w : LibValue) (vs : List Value) → TakesCall world meaning old st e s laid d f ts hs w new
    → HasLibrary world → IsLibraryCall world st.top.scene e d.place f ts vs → values_seen hs ≡ map passed vs → IsWithin world st
    → StepsByCall world st e d.place f w new (step world st (Ev d.place))

-- 2. What is asked of an event that is such a body.

-- operands that give these values
abbrev pub ArgumentsGive : Machine → List Operand → List Value → Type 0
ArgumentsGive m [] [] = Unit {0}
ArgumentsGive m (o ∷ os) (v ∷ vs) = Gives m o v × ArgumentsGive m os vs
ArgumentsGive m _ _ = ⊥

-- So it is in code that was laid out of a program: its act is that of a call of the table, which goes by the type of the node's designator, and has the types
-- of its arguments. In this machine the operands of the call give the values of those of the node; those that are numbers of bytes have 64 bits. The
-- function that is called is this one of the library.
pub record IsCallOfLibrary (world : World) (past : Machine) (f : Scene) (e : Begun) (d : Due) : Type 0 where
  pub number : ℕ
  pub act : d.act ≡ act.Call number
  pub body : IsBodyOfCall e d.place
  pub code : CallCode
  pub there : slice_get past.image.code.now.tables.calls.items number ≡ Some code
  pub typed : type_of_call code.ty ≡ function_type (target (first_type body.operands))
  pub types : types_seen code.types ≡ argument_types body.operands
  pub designator : Gives past code.designator (value_at (values_of world f e.given (suc d.place.node) body.operands) 0)
  pub arguments : ArgumentsGive past code.arguments.items (later_values (values_of world f e.given (suc d.place.node) body.operands))
  pub function : LibFunc
  pub own : library_of (called_by world (values_of world f e.given (suc d.place.node) body.operands)) ≡ Some function
  pub sizes : are_call_sizes function (map passed (later_values (values_of world f e.given (suc d.place.node) body.operands))) ≡ true

-- What is defined is defined by a block, and there are at most 2^32 functions; the library and the limits are those of the profile.
pub record HasFunctions (world : World) (p : Program) : Type 0 where
  pub blocks : AreInBlocks p.functions
  pub few : length p.functions ≤ 2 ^ 32
  pub limits : (world.limits.created ≡ 2 ^ 26) × (world.limits.output ≡ 2 ^ 24)

-- The machine stands for a state within the limits, with a full expression open in its top frame, and has gone on to the event, which may come next. There is a
-- room for each node; places in listings are below 2^64.
pub record MayCallLibrary (world : World) (meaning : Option ℕ → Meaning) (m : Machine) (st : State) (e : Begun) (s : Stage) (laid : Expression) (d : Due)
    (now : Machine) : Type 0 where
  pub stood : StandsOpen world meaning m st e
  pub within : IsWithin world st
  pub stage : m.top.stage ≡ Some s
  pub end : s.end < 2 ^ 64
  pub at : slice_get m.image.code.now.expressions.items s.expression ≡ Some laid
  pub rooms : HasRooms (whole_part m s) m.top.rooms e
  pub event : IsEventOf world m.image.code.now st.top.scene laid e d
  pub constants : AreLawful m.program.now m.image.code.now
  pub functions : HasFunctions world m.program.now
  pub may : MayPick world st.top (Some e) (Ev d.place)
  pub call : IsCallOfLibrary world (past_event now) st.top.scene e d
  pub goes : IsAt s.straight m s d now

-- 3. What is answered.

-- the body is done, as the definitions do it: what was done to the machine, and their state for which it then stands
pub record ComesByCall (world : World) (meaning : Option ℕ → Meaning) (m : Machine) (st : State) (e : Begun) (s : Stage) (laid : Expression) (d : Due)
    (f : LibFunc) (new : Machine) (o : Outcome) : Type 0 where
  pub types : List CType
  pub values : List Kept_value
  pub value : LibValue
  pub takes : TakesCall world meaning m st e s laid d f types values value new
  pub steps : StepsByCall world st e d.place f value new o
  pub stands : StandsOpen world meaning new (after_event world st e d.place (result value) steps.items (store_after new)) (with_given e d.place (result value))

-- In a world whose rows extend those that the memory then has: the run goes on so, or ends with the status and with what was written so far (7.22.4), or raises
-- the clause, or passes the limit, or finds no row for the object that it is to allocate, where the world has none either. There may be want of memory.
abbrev pub AnswersCalled : (world : World) (meaning : Option ℕ → Meaning) (m : Machine) (st : State) (e : Begun) (s : Stage) (laid : Expression) (d : Due)
    (f : LibFunc) (r : Result Pick Halt) (new : Machine) (o : Outcome) → Type 0
AnswersCalled world meaning m st e s laid d f (Ok (pick.Event event completed None)) new o =
    Extends new.memory.rows world.rows → ComesByCall world meaning m st e s laid d f new o
AnswersCalled world meaning m st e s laid d f (Ok (pick.Event event completed (Some status))) new o =
    Extends new.memory.rows world.rows → (trace : List Entry) × (o ≡ Ends status new.streams.output trace) × (newest_items trace ≡ new.items)
AnswersCalled world meaning m st e s laid d f (Ok (pick.Starts event)) new o = ⊥
AnswersCalled world meaning m st e s laid d f (Ok (pick.Step status)) new o = ⊥
AnswersCalled world meaning m st e s laid d f (Err (halt.Raised event line clause)) new o =
    Extends new.memory.rows world.rows → (trace : List Entry) × (o ≡ Raises clause trace)
AnswersCalled world meaning m st e s laid d f (Err (halt.Over cause number)) new o = Extends new.memory.rows world.rows → o ≡ Over cause number
AnswersCalled world meaning m st e s laid d f (Err halt.Unplaced) new o =
    Extends new.memory.rows world.rows
    → (row_of world.rows (heap_name (event_at m d.place)) ≡ row_of new.memory.rows (heap_name (event_at m d.place))) → o ≡ No_row
AnswersCalled world meaning m st e s laid d f (Err halt.NoMemory) new o = Unit {0}

abbrev pub AnswersLibrary : Due → (old new : Machine) → Result Pick Halt → Type 0
AnswersLibrary d old new r =
    (world : World) (meaning : Option ℕ → Meaning) (m : Machine) (st : State) (e : Begun) (s : Stage) (laid : Expression)
    → (t : MayCallLibrary world meaning m st e s laid d old)
    → AnswersCalled world meaning m st e s laid d t.call.function r new (step world st (Ev d.place))

-- 4. The next event along the canonical way is such a body.

-- an event of the full expression that is such a body, of the machine that has gone on to it
pub record CanCallNext (world : World) (m : Machine) (st : State) (e : Begun) (laid : Expression) (d : Due) (now : Machine) : Type 0 where
  pub event : IsEventOf world m.image.code.now st.top.scene laid e d
  pub call : IsCallOfLibrary world (past_event now) st.top.scene e d

pub record MayCallLibraryNext (world : World) (meaning : Option ℕ → Meaning) (m : Machine) (st : State) (e : Begun) (s : Stage) (laid : Expression)
    : Type 0 where
  pub stood : StandsOpen world meaning m st e
  pub within : IsWithin world st
  pub stage : m.top.stage ≡ Some s
  pub straight : s.straight ≡ true
  pub end : s.end < 2 ^ 64
  pub at : slice_get m.image.code.now.expressions.items s.expression ≡ Some laid
  pub rooms : HasRooms (whole_part m s) m.top.rooms e
  pub constants : AreLawful m.program.now m.image.code.now
  pub functions : HasFunctions world m.program.now
  pub each : (next : ℕ × Bor Due) → ComesNext m s (Some next) → CanCallNext world m st e laid next.1.now (at_next m s next.0)

-- the machine, which has touched nothing yet
abbrev pub untouched : Machine → Machine
untouched m = record m { items = [] }

-- a canonical pick that is the event, as it is answered
pub record IsCalledNext (world : World) (meaning : Option ℕ → Meaning) (old : Machine) (st : State) (e : Begun) (s : Stage) (laid : Expression)
    (r : Result Pick Halt) (new : Machine) (o : Outcome) (u : Place) : Type 0 where
  pub due : Due
  pub is : due.place ≡ u
  pub function : LibFunc
  pub answers : AnswersCalled world meaning (untouched old) st e s laid due function r new o

-- .. if memory isn't wanted
abbrev pub AnswersCalledNext : (world : World) (meaning : Option ℕ → Meaning) (old : Machine) (st : State) (e : Begun) (s : Stage) (laid : Expression)
    (r : Result Pick Halt) (new : Machine) (o : Outcome) (u : Place) → Type 0
AnswersCalledNext world meaning old st e s laid (Err halt.NoMemory) new o u = Unit {0}
AnswersCalledNext world meaning old st e s laid r new o u = IsCalledNext world meaning old st e s laid r new o u

abbrev pub AnswersNextLibrary : (old new : Machine) → Result Pick Halt → Type 0
AnswersNextLibrary old new r =
    (world : World) (meaning : Option ℕ → Meaning) (st : State) (e : Begun) (s : Stage) (laid : Expression) (u : Place)
    → MayCallLibraryNext world meaning old st e s laid → canonical_pick world st.top st.top.begun ≡ Ev u
    → AnswersCalledNext world meaning old st e s laid r new (step world st (Ev u)) u
