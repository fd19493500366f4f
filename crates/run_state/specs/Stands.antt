-- How a machine stands for a state of the definitions of runs: part by part, and all together (own).
use Rattle.std.specs.Prelude.{
  ◌≡◌,
  ℕ,
  suc,
  ◌+◌,
  ◌<◌,
  Bool,
  true,
  false,
  List,
  [],
  ◌∷◌,
  length,
  map,
  reverse,
  slice_get,
  Option,
  Some,
  None,
  is_some,
}
use Rattle.std.specs.Borrow.{Bor}
use Rattle.ub_base.specs.declared.clause.Kind.TheVariants.{Val, Eff, Body}
use Rattle.addr_map.specs.Rows.{row_of}
use Rattle.addr_map.specs.Sound.{Above}
use Rattle.exposure.specs.declared.prov.Prov.TheVariants.{Whole}
use Rattle.c_types.specs.Types.{type_of}
use Rattle.c_typed.specs.declared.program.Constant.{Constant}
use Rattle.c_typed.specs.declared.tree.Change.{Change}
use Rattle.c_typed.specs.declared.tree.Place.{Place}
use Rattle.c_typed.specs.Order.{place, is_due}
use Rattle.mem_spec.specs.Acts.{base_in}
use Rattle.mem_spec.specs.Store.{Store}
use Rattle.mem_spec.specs.Streams.{Io}
use Rattle.mem_objects.specs.declared.cell.Via.{Via}
use Rattle.mem_objects.specs.declared.value.Value.{Value as Kept_value}
use Rattle.mem_objects.specs.Keeps.{RowsStay, AreBare, IsNumbered}
use Rattle.mem_objects.specs.Made.{IsMade}
use Rattle.mem_objects.specs.Memory.{Kept, store_of}
use Rattle.mem_objects.specs.Sound.{IsSound}
use Rattle.mem_objects.specs.Tags.{AreTagged}
use Rattle.c_model.specs.Program.{Expr, expr, Exprs, Update, tree_of}
use Rattle.c_model.specs.Values.{Value, Nothing}
use Rattle.c_model.specs.World.{World}
use Rattle.c_model.specs.Nodes.{new_value, amount}
use Rattle.c_model.specs.Control.{ready_work}
use Rattle.c_model.specs.Steps.{Scene, Local, Begun, auto_name, at_node, values_of, taken_by, is_done}
use Rattle.c_model.specs.Runs.{State, depth_of}
use Rattle.seq_order.specs.declared.done.Marks.{Marks}
use Rattle.seq_order.specs.Marked.{taken_in, done_in}
use Rattle.run_values.specs.declared.filling.Filling.{Filling}
use Rattle.run_values.specs.Contents.{filled_by}
use Rattle.run_values.specs.Fills.{AreFillings}
use Rattle.run_values.specs.Kept.{IsOf, AreOf}
use Rattle.run_values.specs.Placed.{ArePlaced}
use Rattle.run_values.specs.Stores.{SeesAs}
use Rattle.run_values.specs.Views.{value_in}
use Rattle.program_view.specs.Trees.{expr_of}
use Rattle.run_control.specs.declared.work.Work.{Work}
use Rattle.run_control.specs.View.{Meaning, todo_of, use_of}
use Rattle.run_layout.specs.declared.steps.Act.TheVariants as act
use Rattle.run_layout.specs.declared.steps.BlockCode.{BlockCode}
use Rattle.run_layout.specs.declared.steps.Due.{Due}
use Rattle.run_layout.specs.declared.steps.Expression.{Expression}
use Rattle.run_layout.specs.declared.steps.Listed.TheVariants as listed
use Rattle.run_layout.specs.declared.steps.Operand.{Operand}
use Rattle.run_layout.specs.declared.steps.Operand.TheVariants.{Done}
use Rattle.run_layout.specs.declared.steps.StoreCode.{StoreCode}
use Rattle.run_listing.specs.Along.{part_of}
use Rattle.run_listing.specs.Cursor.{StandsStraight}
use Rattle.run_layout.specs.OfTrees.{ListsTrees}
use Rattle.run_state.specs.declared.machine.Machine.{Machine}
use Rattle.run_state.specs.declared.machine.Open.{Open}
use Rattle.run_state.specs.declared.machine.Stage.{Stage}
use Rattle.run_state.specs.declared.watch.Begun.{Begun as Shown}
use Rattle.run_state.specs.Meaning.{StandsProgram, StandsCode}

-- 1. Memory and values.

-- The memory and the streams are the store. The memory is sound, has the types of its tags, declares nothing of the heap, and begins no row below
-- 16,777,216; the world's rows have each of its rows.
pub record StandsMemory (world : World) (m : Kept) (io : Io) (s : Store) : Type 0 where
  pub store : s ≡ store_of m io
  pub sound : IsSound m
  pub tagged : AreTagged m
  pub bare : AreBare m
  pub high : Above 16777216 m.rows
  pub rows : RowsStay m.rows world.rows

-- the value stands in this room, and what it names was made in the memory
abbrev pub Holds : Kept → List Kept_value → ℕ → Value → Type 0
Holds m rooms room v = (h : Kept_value) × (slice_get rooms room ≡ Some h) × IsOf m h × (value_in m h ≡ v)

-- these values stand in the rooms from this one on
abbrev pub HoldsAll : Kept → List Kept_value → ℕ → List Value → Type 0
HoldsAll m rooms room [] = Unit {0}
HoldsAll m rooms room (v ∷ vs) = Holds m rooms room v × HoldsAll m rooms (suc room) vs

-- each of the one list has one of the other at its place
abbrev pub AreEach : {A B : Type 0} → (A → B → Type 0) → List A → List B → Type 0
AreEach P [] [] = Unit {0}
AreEach P (x ∷ xs) (y ∷ ys) = P x y × AreEach P xs ys
AreEach P _ _ = ⊥

-- how a store accesses memory
abbrev pub IsVia : Kept → StoreCode → Via → Type 0
IsVia m s via = SeesAs m via s.access (type_of s.ty.now) × IsNumbered (length m.types) via

-- the bytes of an initializer list
abbrev pub AreBytes : Kept → Bor (List Constant) → List Filling → Type 0
AreBytes m cs fs = AreFillings m fs (map filled_by cs.now) × AreOf m fs

-- what the code names by numbers: where objects with static storage and literals stand, how each store accesses memory, the bytes of initializer lists
pub record StandsTables (m : Machine) : Type 0 where
  pub places : ArePlaced m.memory m.program.now m.places
  pub vias : AreEach (IsVia m.memory) m.image.code.now.tables.stores.items m.image.vias.items
  pub fillings : AreEach (AreBytes m.memory) m.image.code.now.tables.constants.items m.image.fillings.items

-- 2. Control.

-- The next control step and what is left to do behind it are the model's. While a full expression is open, what is left to do is the model's as it
-- stands; else ends of blocks and of `switch` statements that come first may have been taken off.
pub record StandsControl (meaning : Meaning) (ws : List Work) (f : Local) : Type 0 where
  pub ready : ready_work (todo_of meaning ws) ≡ ready_work f.todo
  pub behind : is_some f.begun ≡ true → todo_of meaning ws ≡ f.todo

-- 3. The full expression that has begun.

-- off it the done events are noted one by one
abbrev pub StandsStrayed : List (List Marks) → ℕ → Begun → Type 0
StandsStrayed strayed height e =
    (marks : List Marks) × (slice_get strayed height ≡ Some marks) × ((u : Place) → done_in marks u ≡ is_done e u)

-- on the straight way the cursor says what is done
abbrev pub StandsDone : Bool → World → Machine → ℕ → (first cursor end : ℕ) → Scene → Begun → Option Place → Type 0
StandsDone true world m height first cursor end f e waiting = StandsStraight world f m.image.code.now.listing.items first cursor end e waiting
StandsDone false world m height first cursor end f e waiting = StandsStrayed m.strayed.items height e

-- the node is an update, with these operands
abbrev pub IsUpdate : Option Expr → Change → Bool → Exprs → Type 0
IsUpdate None c old es = ⊥
IsUpdate (Some (expr h ty line os)) c old es = (h ≡ Update c old) × (os ≡ es)

-- Each node that has its value has it in its room, and else what its body left. What the effect of an update is to store stands in the room that its
-- entry names.
pub record StandsValues (world : World) (m : Machine) (base first end : ℕ) (f : Scene) (e : Begun) : Type 0 where
  pub val : (n : ℕ) (v : Value) → e.given (place n Val) ≡ Some v → Holds m.memory m.values.items (base + n) v
  pub body : (n : ℕ) (v : Value) → e.given (place n Val) ≡ None → e.given (place n Body) ≡ Some v → Holds m.memory m.values.items (base + n) v
  pub update : (i : ℕ) (due : Due) (store room : ℕ) (target : Operand) (c : Change) (old : Bool) (es : Exprs) (v : Value)
      → slice_get (part_of m.image.code.now.listing.items first end) i ≡ Some (listed.Event due) → due.act ≡ act.Store store target (Done room)
      → due.place.kind ≡ Eff → IsUpdate (at_node 0 e.root due.place.node) c old es → e.given (place due.place.node Val) ≡ Some v
      → Holds m.memory m.values.items (base + room) (new_value c old v (amount old (values_of world f e.given (suc due.place.node) es)))

-- What is open in a frame at this height from the first one on: its number in the code, what its value is for, its choices, its done events, its values.
pub record StandsExpression (world : World) (meaning : Meaning) (m : Machine) (height : ℕ) (o : Open) (stage : Stage) (f : Scene) (e : Begun)
    (waiting : Option Place) : Type 0 where
  pub laid : Expression
  pub at : slice_get m.image.code.now.expressions.items stage.expression ≡ Some laid
  pub root : e.root ≡ expr_of laid.root.now
  pub first : stage.first ≡ laid.first
  pub end : stage.end ≡ laid.end
  pub value : stage.value ≡ laid.value
  pub rooms : o.rooms ≡ laid.rooms
  pub what : use_of meaning o.how ≡ e.what
  pub shown : Shown
  pub shows : slice_get m.begun.items height ≡ Some shown
  pub frame : shown.frame ≡ o.frame
  pub turn : shown.turn ≡ o.turn
  pub tree : shown.tree ≡ stage.expression
  pub tree_root : shown.root.now ≡ laid.root.now
  -- of the nodes that are evaluated
  pub taken : (n : ℕ) → is_due (tree_of e.root) (taken_by world f e) (place n Val) ≡ true → taken_in shown.taken n ≡ taken_by world f e n
  pub done : StandsDone stage.straight world m height laid.first stage.cursor laid.end f e waiting
  pub values : StandsValues world m o.base laid.first laid.end f e

-- where none has begun, no body waits
abbrev pub StandsBegun : World → Meaning → Machine → ℕ → Open → Option Stage → Scene → Option Begun → Option Place → Type 0
StandsBegun world meaning m height o None f None waiting = waiting ≡ None
StandsBegun world meaning m height o (Some stage) f (Some e) waiting = StandsExpression world meaning m height o stage f e waiting
StandsBegun world meaning m height o _ f _ waiting = ⊥

-- 4. A frame.

-- the object of this number of a block that was entered at this turn: it was created, and stands at its row
abbrev pub StandsLocal : World → Machine → ℕ → Scene → (turn k : ℕ) → Type 0
StandsLocal world m at f turn k =
    (slice_get m.locals.items at ≡ Some (record { addr = base_in (row_of world.rows (auto_name world f turn k)); name = auto_name world f turn k }))
    × IsMade m.memory (Whole (auto_name world f turn k))

-- those of the open blocks
abbrev pub StandLocals : World → Machine → Open → Scene → List (ℕ × ℕ) → Type 0
StandLocals world m o f [] = Unit {0}
StandLocals world m o f (b ∷ bs) =
    ((code : BlockCode) × (slice_get m.image.code.now.tables.blocks.items (o.blocks + b.0) ≡ Some code)
    × ((k : ℕ) → k < code.objects.count → StandsLocal world m (o.locals + (code.first + k)) f b.1 k))
    × StandLocals world m o f bs

-- the result of a frame, where it has one; an isolated initializer has none to give
abbrev pub result_seen : Kept → Option ℕ → Option Kept_value → Option Value
result_seen m function (Some v) = Some (value_in m v)
result_seen m (Some n) None = None
result_seen m None None = Some Nothing

-- what the result of a frame names was made in the memory
abbrev pub IsResultOf : Kept → Option Kept_value → Type 0
IsResultOf k None = Unit {0}
IsResultOf k (Some v) = IsOf k v

-- The frame at this height from the first one on, with what is left to do in it, its result, and the body that waits in it.
pub record StandsFrame (world : World) (meaning : Meaning) (m : Machine) (height : ℕ) (o : Open) (ws : List Work) (left : Option Kept_value)
    (f : Local) (waiting : Option Place) : Type 0 where
  pub number : o.frame.0 ≡ world.number f.scene.path
  pub turn : o.turn ≡ f.scene.turn
  pub function : o.function ≡ f.function
  pub arguments : HoldsAll m.memory m.values.items o.base f.arguments
  pub locals : StandLocals world m o f.scene f.scene.blocks
  pub result : f.result ≡ result_seen m.memory o.function left
  pub control : StandsControl meaning ws f
  pub begun : StandsBegun world meaning m height o o.stage f.scene f.begun waiting

-- a function's frame has objects behind those of the frame below, an isolated initializer's sees the objects of that one
abbrev pub SeesLocals : Option ℕ → Open → Local → Open → Local → Type 0
SeesLocals (Some n) o f below g = (o.locals ≡ below.above) × (f.scene.home ≡ f.scene.path)
SeesLocals None o f below g = (o.locals ≡ below.locals) × (o.above ≡ below.above) × (o.blocks ≡ below.blocks) × (f.scene.home ≡ g.scene.home)
    × (f.scene.blocks ≡ g.scene.blocks)

-- a frame and the one below it, in which its body waits: its rooms begin behind those of that frame
pub record StandsOn (o : Open) (f : Local) (below : Open) (g : Local) (waiting : Option Place) : Type 0 where
  pub waits : waiting ≡ Some (place o.node Body)
  pub path : f.scene.path ≡ (g.scene.turn, o.node) ∷ g.scene.path
  pub rooms : o.base ≡ below.base + below.rooms
  pub locals : SeesLocals o.function o f below g

-- the lowest is that of `main`
abbrev pub IsAbove : Open → Local → List Open → List (Local × Option Place) → Type 0
IsAbove o f [] [] = (f.scene.path ≡ []) × (f.scene.home ≡ [])
IsAbove o f (below ∷ os) (g ∷ gs) = StandsOn o f below g.0 g.1
IsAbove o f _ _ = ⊥

-- 5. All together.

-- the frames, from the top one down, with what is left to do in each; only the top one has a result yet. Below the first frame nothing is left to do
abbrev pub StandFrames : World → (Option ℕ → Meaning) → Machine → Option Kept_value → List Open → List (List Work) → List (Local × Option Place) → Type 0
StandFrames world meaning m left [] wss [] = wss ≡ [] ∷ []
StandFrames world meaning m left (o ∷ os) (ws ∷ wss) (f ∷ fs) =
    StandsFrame world (meaning o.function) m (length os) o ws left f.0 f.1 × IsAbove o f.0 os fs × StandFrames world meaning m None os wss fs
StandFrames world meaning m left _ _ _ = ⊥

-- in the frames below the top one the body waits that started the frame above
abbrev pub frames_of : State → List (Local × Option Place)
frames_of st = (st.top, None) ∷ map (λ h. (h.0, Some h.1)) st.held

pub record Stands (world : World) (meaning : Option ℕ → Meaning) (m : Machine) (st : State) : Type 0 where
  pub program : StandsProgram world m.program.now
  pub code : StandsCode world m.program.now m.image.code.now meaning
  pub listed : ListsTrees m.image.code.now
  pub memory : StandsMemory world m.memory m.streams st.store
  pub tables : StandsTables m
  pub frames : StandFrames world meaning m m.left (m.top ∷ reverse m.below.items) (m.work.now ∷ m.work.below) (frames_of st)
  pub result : IsResultOf m.memory m.left
  pub depth : m.depth ≡ depth_of st.top st.held
