-- Calls of the library under more rows, and as bodies of calls in a run.
use Rattle.std.specs.Prelude.{◌≡◌, ℕ, suc, ◌^◌, Bool, true, List, [], ◌∷◌, Some, None, map}
use Rattle.ub_base.specs.declared.clause.Kind.TheVariants.{Body}
use Rattle.ub_base.specs.declared.names.Event.{Event}
use Rattle.ub_base.specs.declared.names.Item.{Item}
use Rattle.addr_map.specs.declared.map.Row.{Row}
use Rattle.addr_map.specs.Rows.{row_of}
use Rattle.c_types.specs.declared.library.LibFunc.{LibFunc}
use Rattle.c_types.specs.Types.{CType}
use Rattle.c_typed.specs.declared.tree.Place.{Place}
use Rattle.mem_spec.specs.Script.{Act, Done, Raised, Ended, Outside, Unplaced}
use Rattle.mem_spec.specs.Store.{Store}
use Rattle.mem_laws.specs.MoreRows.{Extends}
use Rattle.mem_laws.specs.MoreCalls.{ArgumentsIn}
use Rattle.libc_spec.specs.Library.{LibValue, heap_name}
use Rattle.c_model.specs.Libraries.{library, passed, result}
use Rattle.c_model.specs.Program.{Call, expr, Exprs, Function}
use Rattle.c_model.specs.Runs.{Outcome, Raises, Over, No_row, Ends, Running, State, depth_of, entry_of, limit_passed, step}
use Rattle.c_model.specs.Steps.{
  Begun,
  Ev,
  Scene,
  argument_types,
  at_node,
  called_by,
  event_of,
  first_type,
  function_type,
  target,
  values_of,
  with_given,
}
use Rattle.c_model.specs.Values.{Value, later_values}
use Rattle.c_model.specs.World.{World}
use Rattle.library_laws.specs.Called.{called_with, items_of}

-- 1. A call does the same under more rows, where the candidates of its pointers have rows among the fewer; and where the row of the object that it is to
-- allocate isn't there, where there is none among the more.
abbrev pub CallsMoreRows : Type 0
CallsMoreRows =
    (few more : List Row) (f : LibFunc) (who : Event) (ts : List CType) (vs : List LibValue) (s : Store) → Extends few more → ArgumentsIn few vs
    → (called_with few f who ts vs s ≡ Unplaced → row_of more (heap_name who) ≡ row_of few (heap_name who))
    → called_with more f who ts vs s ≡ called_with few f who ts vs s

-- 2. The event is the body of a call of this function of the library, through a type that is compatible with that of the function (6.5.2.2p9), with
-- arguments of these types and values.
pub record IsLibraryCall (world : World) (f : Scene) (e : Begun) (u : Place) (g : LibFunc) (ts : List CType) (vs : List Value) : Type 0 where
  pub kind : u.kind ≡ Body
  pub discarded : Bool
  pub ty : CType
  pub line : ℕ
  pub operands : Exprs
  pub node : at_node 0 e.root u.node ≡ Some (expr (Call discarded) ty line operands)
  pub through : CType
  pub typed : function_type (target (first_type operands)) ≡ Some through
  pub number : ℕ
  pub called : Function
  pub calls : called_by world (values_of world f e.given (suc u.node) operands) ≡ Some (number, called)
  pub agrees : world.agree called.ty through ≡ true
  pub own : called.library ≡ Some g
  pub types : argument_types operands ≡ ts
  pub passes : later_values (values_of world f e.given (suc u.node) operands) ≡ vs

-- the library is that of the profile, and so are the limits that its calls look at
pub record HasLibrary (world : World) : Type 0 where
  pub library : world.library ≡ library world.rows
  pub created : world.limits.created ≡ 2 ^ 26
  pub output : world.limits.output ≡ 2 ^ 24

-- the event has given its value, and the frame goes on
abbrev pub given_state : World → State → Begun → Place → Value → List Item → Store → State
given_state world st e u v is s = record {
  top = record st.top { begun = Some (with_given e u v) };
  held = st.held;
  store = s;
  trace = entry_of world st.top (Ev u) is ∷ st.trace;
}

-- what the run comes to where the call does this
abbrev pub ComesToAct : World → State → Begun → Place → LibFunc → Act LibValue → Outcome → Type 0
ComesToAct world st e u g (Done v js s) o = (is : List Item) × (js ≡ items_of g is) × (o ≡ Running (given_state world st e u (result v) is s))
ComesToAct world st e u g (Raised c) o = o ≡ Raises c (entry_of world st.top (Ev u) [] ∷ st.trace)
ComesToAct world st e u g (Ended n js s) o = o ≡ Ends n s.output (entry_of world st.top (Ev u) js ∷ st.trace)
ComesToAct world st e u g (Outside c n) o = o ≡ Over c n
ComesToAct world st e u g Unplaced o = o ≡ No_row

-- From a state within the limits, the step is what the call does.
abbrev pub LibraryCallSteps : Type 0
LibraryCallSteps =
    (world : World) (st : State) (e : Begun) (u : Place) (g : LibFunc) (ts : List CType) (vs : List Value) → st.top.begun ≡ Some e → HasLibrary world
    → IsLibraryCall world st.top.scene e u g ts vs → limit_passed world.limits (depth_of st.top st.held) st.store ≡ None
    → ComesToAct world st e u g (called_with world.rows g (event_of world st.top.scene u) ts (map passed vs) st.store) (step world st (Ev u))
