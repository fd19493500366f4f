-- Frames end (6.8.6.4p1, 6.9.1p12): what the machine then is, and what is asked of it.
use Rattle.std.specs.Prelude.{
  ◌≡◌,
  ◌≢◌,
  ◌||◌,
  ℕ,
  ◌+◌,
  ◌-◌,
  ◌<◌,
  Bool,
  true,
  false,
  List,
  [],
  ◌∷◌,
  ◌++◌,
  length,
  reverse,
  slice_get,
  Option,
  Some,
  None,
  is_some,
  Result,
  Ok,
  Err,
  pos,
}
use Rattle.ub_base.specs.declared.clause.Kind.TheVariants.{Val, Eff, Body}
use Rattle.c_types.specs.Types.{signature_of}
use Rattle.c_typed.specs.declared.program.Function.{Function}
use Rattle.c_typed.specs.declared.program.Program.{Program}
use Rattle.c_typed.specs.declared.tree.Change.{Change}
use Rattle.c_typed.specs.declared.tree.Place.{Place}
use Rattle.c_typed.specs.Order.{place, same_place}
use Rattle.mem_objects.specs.declared.value.Value.{Value as Kept_value}
use Rattle.mem_objects.specs.declared.value.Value.TheVariants as kept
use Rattle.mem_objects.specs.Memory.{Kept}
use Rattle.c_model.specs.Control.{Todo, Leave, ready_work}
use Rattle.c_model.specs.Program.{Exprs}
use Rattle.c_model.specs.Runs.{State, status_of}
use Rattle.c_model.specs.Steps.{Begun, Local, at_node}
use Rattle.c_model.specs.Values.{Int}
use Rattle.seq_order.specs.declared.done.Marks.{Marks}
use Rattle.seq_order.specs.Marked.{done_in}
use Rattle.run_acts.specs.Calls.{left_of}
use Rattle.run_values.specs.Views.{value_in}
use Rattle.run_control.specs.View.{is_nothing}
use Rattle.run_layout.specs.declared.steps.Act.TheVariants as act
use Rattle.run_layout.specs.declared.steps.Due.{Due}
use Rattle.run_layout.specs.declared.steps.Listed.{Listed}
use Rattle.run_layout.specs.declared.steps.Operand.{Operand}
use Rattle.run_layout.specs.declared.steps.Operand.TheVariants.{Done}
use Rattle.run_layout.specs.declared.whole.Code.{Code}
use Rattle.run_listing.specs.Along.{part_of, IsListed}
use Rattle.run_state.specs.declared.halt.Halt.{Halt}
use Rattle.run_state.specs.declared.halt.Halt.TheVariants as halt
use Rattle.run_state.specs.declared.machine.Machine.{Machine}
use Rattle.run_state.specs.declared.machine.Open.{Open}
use Rattle.run_state.specs.declared.machine.Stage.{Stage}
use Rattle.run_state.specs.Stands.{IsUpdate}

-- 1. What the code does.

-- An event is noted: on the canonical way the cursor says that it is done, off it the list of its frame has one more.
pub record HasNoted (old : Machine) (u : Place) (new : Machine) : Type 0 where
  pub rest : new ≡ record old { strayed = new.strayed }
  pub before : List Marks
  pub after : List Marks
  pub was : slice_get old.strayed.items (length old.below.items) ≡ Some before
  pub is : slice_get new.strayed.items (length old.below.items) ≡ Some after
  pub one : (v : Place) → done_in after v ≡ (same_place u v || done_in before v)
  pub others : (j : ℕ) → j ≢ length old.below.items → slice_get new.strayed.items j ≡ slice_get old.strayed.items j

abbrev pub NotesWay : (straight : Bool) → Machine → Place → Machine → Type 0
NotesWay true old u new = new ≡ old
NotesWay false old u new = HasNoted old u new

abbrev pub NotesIn : Option Stage → Machine → Place → Machine → Type 0
NotesIn None old u new = ⊥
NotesIn (Some s) old u new = NotesWay s.straight old u new

abbrev pub Notes : Machine → Place → Machine → Type 0
Notes old u new = NotesIn old.top.stage old u new

-- what a function of the program leaves that gives no result
pub record LeavesNone (p : Program) (n : ℕ) (v : Kept_value) : Type 0 where
  pub main : n ≡ p.main → (k : Kept) → value_in k v ≡ Int (pos 0)
  pub other : (f : Function) → n ≢ p.main → slice_get p.functions n ≡ Some f → (k : Kept) → value_in k v ≡ left_of (signature_of f.ty).result

-- what a frame leaves: its result; without one what its function leaves; an isolated initializer nothing
abbrev pub LeavesValue : Program → Option ℕ → (result : Option Kept_value) → Kept_value → Type 0
LeavesValue p function (Some w) v = v ≡ w
LeavesValue p (Some n) None v = LeavesNone p n v
LeavesValue p None None v = v ≡ kept.Nothing

-- how many frames of functions are open without this one
abbrev pub depth_without : Option ℕ → ℕ → ℕ
depth_without None depth = depth
depth_without (Some n) depth = depth - 1

-- the machine without the result of its top frame
pub record HasGiven (old : Machine) (v : Kept_value) (new : Machine) : Type 0 where
  pub rest : new ≡ record old { depth = depth_without old.top.function old.depth; left = None }
  pub value : LeavesValue old.program.now old.top.function old.left v

-- The frame below goes on with what the top frame left, in the room of the node that started it, whose body is noted.
pub record GoesBack (old new : Machine) : Type 0 where
  pub onto : Open
  pub value : Kept_value
  pub middle : Machine
  pub below : old.below.items ≡ middle.below.items ++ onto ∷ []
  pub leaves : LeavesValue old.program.now old.top.function old.left value
  pub rest : middle ≡ record old {
    work = middle.work;
    depth = depth_without old.top.function old.depth;
    left = None;
    below = middle.below;
    top = onto;
    values = middle.values;
  }
  pub room : onto.base + old.top.node < length old.values.items → slice_get middle.values.items (onto.base + old.top.node) ≡ Some value
  pub others : (j : ℕ) → j ≢ onto.base + old.top.node → slice_get middle.values.items j ≡ slice_get old.values.items j
  pub count : length middle.values.items ≡ length old.values.items
  pub noted : Notes middle (place old.top.node Body) new

-- the end of the first frame is that of the run, whose status is by what it left
pub record EndsRun (old new : Machine) (status : ℕ) : Type 0 where
  pub value : Kept_value
  pub none : old.below.items ≡ []
  pub leaves : LeavesValue old.program.now old.top.function old.left value
  pub exits : (k : Kept) → status ≡ status_of (value_in k value)
  pub items : new.items ≡ old.items
  pub output : new.streams ≡ old.streams
  pub memory : new.memory ≡ old.memory

abbrev pub EndsFrame : (old new : Machine) → Result (Option ℕ) Halt → Type 0
EndsFrame old new (Ok None) = GoesBack old new
EndsFrame old new (Ok (Some status)) = EndsRun old new status
EndsFrame old new (Err e) = e ≡ halt.NoMemory

-- 2. What is asked of a machine, and of the state that it stands for: so it is in each state of a run.

-- the room from which the effect of an update takes what it stores
pub record IsUpdateRoom (listing : List Listed) (e : Begun) (room : ℕ) : Type 0 where
  pub due : Due
  pub store : ℕ
  pub target : Operand
  pub change : Change
  pub old : Bool
  pub operands : Exprs
  pub listed : IsListed listing due
  pub act : due.act ≡ act.Store store target (Done room)
  pub effect : due.place.kind ≡ Eff
  pub update : IsUpdate (at_node 0 e.root due.place.node) change old operands

-- what is kept of a full expression stands in its rooms
pub record IsInRooms (listing : List Listed) (rooms : ℕ) (e : Begun) : Type 0 where
  pub val : (n : ℕ) → is_some (e.given (place n Val)) ≡ true → n < rooms
  pub body : (n : ℕ) → is_some (e.given (place n Body)) ≡ true → n < rooms
  pub update : (room : ℕ) → IsUpdateRoom listing e room → room < rooms

-- the room of a node whose body waits is there, holds no value yet, and is none of an update
pub record IsRoomFree (listing : List Listed) (count at : ℕ) (e : Begun) (node : ℕ) : Type 0 where
  pub there : at < count
  pub value : e.given (place node Val) ≡ None
  pub update : (room : ℕ) → IsUpdateRoom listing e room → room ≢ node

abbrev pub stage_part : Code → Stage → List Listed
stage_part code s = part_of code.listing.items s.first s.end

-- a frame with a frame above it has handed on its arguments
abbrev pub KeepsTo : Code → (rooms : ℕ) → Option Stage → Local → Option Begun → Type 0
KeepsTo code rooms (Some s) f (Some e) = (f.arguments ≡ []) × IsInRooms (stage_part code s) rooms e
KeepsTo code rooms _ f _ = Unit {0}

abbrev pub KeepToRooms : Code → List Open → List (Local × Place) → Type 0
KeepToRooms code (o ∷ os) (h ∷ hs) = KeepsTo code o.rooms o.stage h.0 h.0.begun × KeepToRooms code os hs
KeepToRooms code _ _ = Unit {0}

abbrev pub HasRoomIn : Code → (count at node : ℕ) → Option Stage → Option Begun → Type 0
HasRoomIn code count at node (Some s) (Some e) = IsRoomFree (stage_part code s) count at e node
HasRoomIn code count at node _ _ = Unit {0}

-- the frame below, in which the node of this number waits
abbrev pub HasRoomBelow : Code → (count node : ℕ) → List Open → List (Local × Place) → Type 0
HasRoomBelow code count node (o ∷ os) (h ∷ hs) = HasRoomIn code count (o.base + node) node o.stage h.0.begun
HasRoomBelow code count node _ _ = Unit {0}

abbrev pub IsFunctionIn : Program → Option ℕ → Type 0
IsFunctionIn p None = Unit {0}
IsFunctionIn p (Some n) = is_some (slice_get p.functions n) ≡ true

-- the function of the top frame is one of the program; the frames below keep their values in their rooms, and the one that waits for the top frame has a room
-- for what it leaves
pub record CanEnd (m : Machine) (st : State) : Type 0 where
  pub function : IsFunctionIn m.program.now m.top.function
  pub rooms : KeepToRooms m.image.code.now (reverse m.below.items) st.held
  pub room : HasRoomBelow m.image.code.now (length m.values.items) m.top.node (reverse m.below.items) st.held

-- the step that comes next is the last of its frame: with the leave of its last block a frame ends
abbrev pub is_last : Todo → Bool
is_last (Leave b ds ∷ rest) = is_nothing (ready_work rest)
is_last todo = false
