-- An event that isn't a body is taken: what is asked of the machine, and what it stands for then (own).
use Rattle.std.specs.Prelude.{
  ◌≡◌,
  ◌+◌,
  ◌-◌,
  ◌^◌,
  ◌<◌,
  ◌≤◌,
  min,
  ℕ,
  suc,
  Bool,
  true,
  false,
  if◌then◌else◌,
  List,
  [],
  ◌∷◌,
  length,
  reverse,
  slice_get,
  Option,
  Some,
  None,
  Result,
  Ok,
  Err,
}
use Rattle.std.specs.Borrow.{Bor}
use Rattle.std.specs.List.{All}
use Rattle.ub_base.specs.declared.clause.Kind.TheVariants.{Eff}
use Rattle.ub_base.specs.declared.names.Event.{Event}
use Rattle.ub_base.specs.declared.names.Item.{Item}
use Rattle.c_typed.specs.declared.program.Program.{Program}
use Rattle.c_typed.specs.declared.tree.Place.{Place}
use Rattle.c_typed.specs.Lawful.{ContentIsLawful}
use Rattle.c_typed.specs.Order.{is_body}
use Rattle.c_typed.specs.Tree.{is_quiet, size}
use Rattle.mem_spec.specs.Store.{Store}
use Rattle.mem_laws.specs.MoreRows.{Extends}
use Rattle.mem_objects.specs.Keeps.{RowsStay}
use Rattle.mem_objects.specs.Memory.{store_of}
use Rattle.c_model.specs.ChoiceLaws.{IsClosed}
use Rattle.c_model.specs.Program.{tree_of}
use Rattle.c_model.specs.Runs.{Outcome, Running, State, canonical_pick, entry_of, step}
use Rattle.c_model.specs.Steps.{Begun, Ev, MayPick, Scene, with_given}
use Rattle.c_model.specs.Values.{Value}
use Rattle.c_model.specs.World.{World}
use Rattle.program_view.specs.Trees.{expr_of}
use Rattle.seq_order.specs.Marked.{taken_in}
use Rattle.run_control.specs.View.{Meaning}
use Rattle.run_layout.specs.declared.nodes.NodeInfo.{NodeInfo}
use Rattle.run_layout.specs.declared.steps.Due.{Due}
use Rattle.run_layout.specs.declared.steps.Expression.{Expression}
use Rattle.run_layout.specs.declared.steps.Listed.{Listed}
use Rattle.run_layout.specs.declared.steps.Listed.TheVariants as listed
use Rattle.run_layout.specs.declared.whole.Code.{Code}
use Rattle.run_layout.specs.Chosen.{IsKept, Views}
use Rattle.run_layout.specs.LaidOut.{LaidOutBy}
use Rattle.run_listing.specs.Along.{IsListed, Next}
use Rattle.run_state.specs.declared.halt.Halt.{Halt}
use Rattle.run_state.specs.declared.halt.Halt.TheVariants as halt
use Rattle.run_state.specs.declared.machine.Machine.{Machine}
use Rattle.run_state.specs.declared.machine.Stage.{Stage}
use Rattle.run_state.specs.declared.watch.Begun.{Begun as Shown}
use Rattle.run_state.specs.Stands.{Stands}
use Rattle.run_answers.specs.Nodes.{IsActOf}
use Rattle.run_answers.specs.Performs.{gives_value, kept_room, ChangesOnly, IsDone}
use Rattle.run_answers.specs.Ways.{Chooses}
use Rattle.run_answers.specs.declared.pick.Pick.{Pick}
use Rattle.run_answers.specs.declared.pick.Pick.TheVariants as pick
use Rattle.run_answers.specs.Answering.{Answers, ComesTo, IsWithin}
use Rattle.run_answers.specs.Ending.{IsUpdateRoom, KeepToRooms, Notes, NotesWay}
use Rattle.run_answers.specs.Picks.{ahead_part, at_cursor, event_at, top_of, whole_part, ComesNext}

-- 1. A machine in whose top frame a full expression is open.

-- It stands for the state. What is kept of choices is so by the definitions, of nodes that are evaluated, and nothing of others; what is done was reached.
-- The frame has handed on its arguments, it has no result yet, and its values stand in rooms that are there. The frames below keep theirs in their rooms.
pub record StandsOpen (world : World) (meaning : Option ℕ → Meaning) (m : Machine) (st : State) (e : Begun) : Type 0 where
  pub stands : Stands world meaning m st
  pub begun : st.top.begun ≡ Some e
  pub chosen : (b : Shown) → top_of m ≡ Some b → IsKept world st.top.scene e (taken_in b.taken)
  pub reached : IsClosed world st.top.scene e
  pub arguments : st.top.arguments ≡ []
  pub result : m.left ≡ None
  pub rooms : m.top.base + m.top.rooms ≤ length m.values.items
  pub below : KeepToRooms m.image.code.now (reverse m.below.items) st.held

-- 2. What is asked of the code of that full expression: so it is in code that was laid out of a program.

-- There is a room for each node, and for what each update is to store; no event of another node than the update's keeps anything there. An effect gives no
-- value.
pub record HasRooms (entries : List Listed) (rooms : ℕ) (e : Begun) : Type 0 where
  pub nodes : size (tree_of e.root) ≤ rooms
  pub within : (room : ℕ) → IsUpdateRoom entries e room → room < rooms
  pub apart : (room : ℕ) (r : IsUpdateRoom entries e room) (d : Due) → IsListed entries d → kept_room d.act ≡ Some room
      → d.place.node ≡ r.due.place.node
  pub effects : (d : Due) → IsListed entries d → d.place.kind ≡ Eff → gives_value d.act ≡ false

-- The event is one of the listing of the full expression, which is laid out, of a node that isn't known beforehand. What its code takes to be known
-- beforehand is so by the definitions.
pub record IsEventOf (world : World) (code : Code) (f : Scene) (laid : Expression) (e : Begun) (d : Due) : Type 0 where
  pub firsts : List ℕ
  pub nodes : List NodeInfo
  pub lays : LaidOutBy firsts nodes code.tables code.listing.items laid
  pub views : Views world f firsts 0 laid.root.now e.root
  pub at : ℕ
  pub first : laid.first ≤ at
  pub end : at < laid.end
  pub entry : slice_get code.listing.items at ≡ Some (listed.Event d)
  pub quiet : (x : NodeInfo) → slice_get nodes d.place.node ≡ Some x → is_quiet (tree_of (expr_of x.tree.now)) ≡ false

-- the constants of the code are those of a lawful program
abbrev pub AreLawful : Program → Code → Type 0
AreLawful p code = All (λ cs. All (λ c. ContentIsLawful p c.content) cs.now) code.tables.constants.items

-- 3. What was done.

-- along the canonical way the cursor has passed the event, which comes next; off it nothing has changed
abbrev pub IsPast : (straight : Bool) → Machine → Stage → Due → Machine → Type 0
IsPast true old s d new = (b : Shown) × (next : ℕ × Bor Due) × (top_of old ≡ Some b) × (next.1.now ≡ d)
    × Next (taken_in b.taken) (ahead_part old s) (Some next) × (new ≡ at_cursor old s (suc (s.cursor + next.0)))
IsPast false old s d new = new ≡ old

-- the choice of this code that is made at an event
abbrev pub DecidesBy : Code → Option ℕ → Machine → Machine → Type 0
DecidesBy code None old new = new ≡ old
DecidesBy code (Some number) old new = Chooses code number old new

abbrev pub Decides : Option ℕ → Machine → Machine → Type 0
Decides o old new = DecidesBy old.image.code.now o old new

-- The cursor passed the event; then its act was done, with this value, and an effect left all values; it was noted; and its choice was made. The world has
-- the rows that the memory then has.
pub record IsTaken (world : World) (old : Machine) (s : Stage) (d : Due) (v : Value) (new : Machine) : Type 0 where
  pub past : Machine
  pub done : Machine
  pub noted : Machine
  pub passes : IsPast s.straight old s d past
  pub changes : ChangesOnly past done d.place.node d.act
  pub does : IsDone world.rows past done (event_at past d.place) d.act v
  pub rows : RowsStay new.memory.rows world.rows
  pub effect : gives_value d.act ≡ false → done.values ≡ past.values
  pub notes : NotesWay s.straight done d.place noted
  pub decides : Decides d.choice noted new

-- 4. What the machine stands for then.

-- the state that the definitions go on to
abbrev pub after_event : World → State → Begun → Place → Value → List Item → Store → State
after_event world st e u v is s = record {
  top = record st.top { begun = Some (with_given e u v) };
  held = st.held;
  store = s;
  trace = entry_of world st.top (Ev u) is ∷ st.trace;
}

abbrev pub store_after : Machine → Store
store_after m = store_of m.memory m.streams

-- An event that may come next is taken, which isn't a body.
pub record TakesEvent (world : World) (meaning : Option ℕ → Meaning) (old : Machine) (st : State) (e : Begun) (s : Stage) (laid : Expression) (d : Due)
    (v : Value) (new : Machine) : Type 0 where
  pub stood : StandsOpen world meaning old st e
  pub stage : old.top.stage ≡ Some s
  pub at : slice_get old.image.code.now.expressions.items s.expression ≡ Some laid
  pub rooms : HasRooms (whole_part old s) old.top.rooms e
  pub event : IsEventOf world old.image.code.now st.top.scene laid e d
  pub constants : AreLawful old.program.now old.image.code.now
  pub plain : is_body d.place.kind ≡ false
  pub may : MayPick world st.top (Some e) (Ev d.place)
  pub taken : IsTaken world old s d v new

-- The machine then stands for the state of the definitions behind it, as it stood before.
abbrev pub EventStands : Type 0
EventStands =
    (world : World) (meaning : Option ℕ → Meaning) (old new : Machine) (st : State) (e : Begun) (s : Stage) (laid : Expression) (d : Due) (v : Value)
    → TakesEvent world meaning old st e s laid d v new
    → StandsOpen world meaning new (after_event world st e d.place v new.items (store_after new)) (with_given e d.place v)

-- Where the act is that of its node, this is the definitions' next state, of one within the limits, with the items of the pick.
abbrev pub EventSteps : Type 0
EventSteps =
    (world : World) (meaning : Option ℕ → Meaning) (old new : Machine) (st : State) (e : Begun) (s : Stage) (laid : Expression) (d : Due) (v : Value)
    → (t : TakesEvent world meaning old st e s laid d v new) → IsActOf world t.taken.past st.top.scene e d → IsWithin world st
    → step world st (Ev d.place) ≡ Running (after_event world st e d.place v new.items (store_after new))

-- 5. What is answered to an event that isn't a body.

-- The event of this place is taken, with some value, and the definitions go on to the state behind it: so it is in a world that has the rows that the
-- machine then has. Along the canonical way it is the one that comes next (`IsPast`).
abbrev pub IsTakenTo : World → (Option ℕ → Meaning) → (old : Machine) → State → Begun → Stage → Expression → Place → (new : Machine) → Outcome → Type 0
IsTakenTo world meaning old st e s laid u new o = RowsStay new.memory.rows world.rows → (d : Due) × (v : Value) × (d.place ≡ u)
    × TakesEvent world meaning old st e s laid d v new × (o ≡ Running (after_event world st e u v new.items (store_after new)))

-- so the machine goes on, as that state, with the items of the pick
abbrev pub EventComes : Type 0
EventComes =
    (world : World) (meaning : Option ℕ → Meaning) (old new : Machine) (st : State) (e : Begun) (s : Stage) (laid : Expression) (u : Place) (o : Outcome)
    → IsTakenTo world meaning old st e s laid u new o → ComesTo world meaning None new o

-- the cursor passes the event at which it stands
abbrev pub passed_stage : Option Stage → Option Stage
passed_stage None = None
passed_stage (Some s) = Some (if s.straight then record s { cursor = min (s.cursor + 1) (2 ^ 64 - 1) } else s)

abbrev pub staged : Machine → Option Stage → Machine
staged m stage = record m { top = record m.top { stage = stage } }

abbrev pub past_event : Machine → Machine
past_event m = staged m (passed_stage m.top.stage)

-- Behind its act an event is noted, and its choice is made.
pub record IsFinished (code : Code) (d : Due) (old new : Machine) : Type 0 where
  pub noted : Machine
  pub notes : Notes old d.place noted
  pub decides : DecidesBy code d.choice noted new

abbrev pub FollowsEvent : Code → Event → (status : Option ℕ) → Due → (old new : Machine) → Result Pick Halt → Type 0
FollowsEvent code event status d old new (Ok (pick.Event taken completed ended)) =
    (taken ≡ event) × (ended ≡ status) × IsFinished code d old new
FollowsEvent code event status d old new (Ok (pick.Starts started)) = ⊥
FollowsEvent code event status d old new (Ok (pick.Step ended)) = ⊥
FollowsEvent code event status d old new (Err e) = e ≡ halt.NoMemory

-- The machine has gone on to the event: along the canonical way the cursor stands at it, and it comes next; off it nothing has changed.
abbrev pub IsAt : (straight : Bool) → Machine → Stage → Due → Machine → Type 0
IsAt true old s d new = (b : Shown) × (next : ℕ × Bor Due) × (top_of old ≡ Some b) × (next.1.now ≡ d)
    × Next (taken_in b.taken) (ahead_part old s) (Some next) × (new ≡ at_cursor old s (min (s.cursor + next.0) (2 ^ 64 - 1)))
IsAt false old s d new = new ≡ old

-- An event may come next, which isn't a body, of a machine that has touched nothing yet, and stands for the state within the limits; the machine has gone
-- on to it. The act that it will do is that of its node, and finds what it takes (`law_acts` of run_events). Places in listings are below 2^64.
pub record MayTake (world : World) (meaning : Option ℕ → Meaning) (m : Machine) (st : State) (e : Begun) (s : Stage) (laid : Expression) (d : Due)
    (now : Machine) : Type 0 where
  pub stood : StandsOpen world meaning m st e
  pub within : IsWithin world st
  pub items : m.items ≡ []
  pub stage : m.top.stage ≡ Some s
  pub end : s.end < 2 ^ 64
  pub at : slice_get m.image.code.now.expressions.items s.expression ≡ Some laid
  pub rooms : HasRooms (whole_part m s) m.top.rooms e
  pub event : IsEventOf world m.image.code.now st.top.scene laid e d
  pub constants : AreLawful m.program.now m.image.code.now
  pub extends : Extends m.memory.rows world.rows
  pub plain : is_body d.place.kind ≡ false
  pub may : MayPick world st.top (Some e) (Ev d.place)
  pub goes : IsAt s.straight m s d now
  pub act : IsActOf world (past_event now) st.top.scene e d

-- it is taken as the definitions' event, or raises their clause; there may be want of memory
abbrev pub AnswersTaken : World → (Option ℕ → Meaning) → (old : Machine) → State → Begun → Stage → Expression → Place → Result Pick Halt → (new : Machine)
    → Outcome → Type 0
AnswersTaken world meaning old st e s laid u (Ok (pick.Event event completed None)) new o = IsTakenTo world meaning old st e s laid u new o
AnswersTaken world meaning old st e s laid u (Ok (pick.Event event completed (Some status))) new o = ⊥
AnswersTaken world meaning old st e s laid u (Ok (pick.Starts event)) new o = ⊥
AnswersTaken world meaning old st e s laid u (Ok (pick.Step status)) new o = ⊥
AnswersTaken world meaning old st e s laid u (Err h) new o = Answers world meaning (Err h) new o

abbrev pub AnswersEvent : Due → (old new : Machine) → Result Pick Halt → Type 0
AnswersEvent d old new result =
    (world : World) (meaning : Option ℕ → Meaning) (m : Machine) (st : State) (e : Begun) (s : Stage) (laid : Expression)
    → MayTake world meaning m st e s laid d old
    → AnswersTaken world meaning m st e s laid d.place result new (step world st (Ev d.place))

-- 6. The next event along the canonical way.

-- the machine that has touched nothing yet
abbrev pub untouched : Machine → Machine
untouched m = record m { items = [] }

-- it goes on to the event that stands so many entries behind the cursor
abbrev pub at_next : Machine → Stage → ℕ → Machine
at_next m s n = at_cursor (untouched m) s (min (s.cursor + n) (2 ^ 64 - 1))

-- an event of the full expression, which isn't a body: its act is that of its node, and finds what it takes in the machine that has gone on to it
pub record CanBeTaken (world : World) (m : Machine) (st : State) (e : Begun) (laid : Expression) (d : Due) (now : Machine) : Type 0 where
  pub event : IsEventOf world m.image.code.now st.top.scene laid e d
  pub plain : is_body d.place.kind ≡ false
  pub act : IsActOf world (past_event now) st.top.scene e d

-- A machine that stands for the state within the limits, with a full expression open whose order is the canonical one so far, can take the event that
-- comes next.
pub record MayTakeNext (world : World) (meaning : Option ℕ → Meaning) (m : Machine) (st : State) (e : Begun) (s : Stage) (laid : Expression) : Type 0 where
  pub stood : StandsOpen world meaning m st e
  pub within : IsWithin world st
  pub stage : m.top.stage ≡ Some s
  pub straight : s.straight ≡ true
  pub end : s.end < 2 ^ 64
  pub at : slice_get m.image.code.now.expressions.items s.expression ≡ Some laid
  pub rooms : HasRooms (whole_part m s) m.top.rooms e
  pub constants : AreLawful m.program.now m.image.code.now
  pub extends : Extends m.memory.rows world.rows
  pub each : (next : ℕ × Bor Due) → ComesNext m s (Some next) → CanBeTaken world m st e laid next.1.now (at_next m s next.0)

-- a canonical pick that is an event, of the machine that has touched nothing yet
abbrev pub AnswersNext : (old new : Machine) → Result Pick Halt → Type 0
AnswersNext old new result =
    (world : World) (meaning : Option ℕ → Meaning) (st : State) (e : Begun) (s : Stage) (laid : Expression) (u : Place)
    → MayTakeNext world meaning old st e s laid → canonical_pick world st.top st.top.begun ≡ Ev u
    → AnswersTaken world meaning (untouched old) st e s laid u result new (step world st (Ev u))
