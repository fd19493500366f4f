-- Orders of picks, their traces, and the canonical order.
use Rattle.std.specs.Prelude.{
  ◌≡◌,
  ℕ,
  zero,
  suc,
  ◌+◌,
  ◌^◌,
  min,
  max,
  Bool,
  true,
  false,
  nat_lt,
  List,
  [],
  ◌∷◌,
  length,
  map,
  Option,
  Some,
  None,
  is_some,
  if◌then◌else◌,
  pos,
  unsigned_abs,
}
use Rattle.std.specs.Int.{int_rem_euclid}
use Rattle.ub_base.specs.declared.clause.Clause.{Clause}
use Rattle.ub_base.specs.declared.clause.Cause.{Cause}
use Rattle.ub_base.specs.declared.clause.Cause.TheVariants as cause
use Rattle.ub_base.specs.declared.names.Item.{Item}
use Rattle.ub_base.specs.Frames.{Path}
use Rattle.c_types.specs.declared.library.LibFunc.{LibFunc}
use Rattle.c_typed.specs.declared.tree.Place.{Place}
use Rattle.c_typed.specs.Tree.{Tree}
use Rattle.c_typed.specs.Order.{Taken}
use Rattle.c_typed.specs.Decide.{canonical}
use Rattle.mem_spec.specs.Store.{Store, fresh}
use Rattle.mem_spec.specs.Streams.{Outputs, silent, total}
use Rattle.mem_spec.specs.Script.{Script, Give, Act, Done, Raised, Ended, Outside, Unplaced, run, ◌>>◌}
use Rattle.mem_spec.specs.Acts.{create}
use Rattle.c_model.specs.Program.{Decl, Standing, Stmt, Function, Head, Call, Expr, expr, tree_of}
use Rattle.c_model.specs.Values.{Value, Nothing, integer_of, pointer_of, later_values}
use Rattle.c_model.specs.World.{World, Limits}
use Rattle.c_model.specs.Nodes.{fill}
use Rattle.c_model.specs.Control.{Todo, Enter, To_do, ready_work}
use Rattle.c_model.specs.Moves.{Move, Stay, Start, End}
use Rattle.c_model.specs.Steps.{
  Scene,
  Local,
  Begun,
  Pick,
  Control,
  Ev,
  MayPick,
  move,
  does,
  next,
  taken_by,
  is_done,
  body_of,
  at_node,
  line_of,
  called_by,
  pointer_to,
  values_of,
}
use Rattle.c_model.specs.Libraries.{allocated}

-- one pick of an order: its frame, turn and place, none for a control step; the tree that it is of, and the line of its node, 0 for a
-- control step; its items
pub record Entry : Type 0 where
  pub path : Path
  pub turn : ℕ
  pub place : Option Place
  pub begun : Option (Tree × Taken)  -- with what was chosen before this pick
  pub line : ℕ
  pub items : List Item

-- the top frame, the frames below with the body that waits in each, and the store
pub record State : Type 0 where
  pub top : Local
  pub held : List (Local × Place)
  pub store : Store
  pub trace : List Entry  -- the newest first

pub data Outcome : Type 0 where
  Refused : Outcome  -- a pick isn't permitted, or follows the end
  Raises : Clause → List Entry → Outcome
  Over : Cause → (number : ℕ) → Outcome
  No_row : Outcome
  Ends : (status : ℕ) → (output : Outputs) → List Entry → Outcome
  Running : State → Outcome

abbrev pub is_running : Outcome → Bool
is_running (Running st) = true
is_running o = false

-- the picks so far, the newest first
abbrev pub trace_of : Outcome → List Entry
trace_of (Raises c trace) = trace
trace_of (Ends status output trace) = trace
trace_of (Running st) = st.trace
trace_of _ = []

abbrev pub on_running : Outcome → (State → Outcome) → Outcome
on_running (Running st) k = k st
on_running o k = o

-- the exit status for the result of `main` (5.1.2.2.3; modulo 256, own)
abbrev pub status_of : Value → ℕ
status_of v = unsigned_abs (int_rem_euclid (integer_of v) (pos 256))

-- open frames of defined functions
abbrev pub depth_of : Local → List (Local × Place) → ℕ
depth_of f [] = if is_some f.function then 1 else 0
depth_of f (h ∷ hs) = (if is_some f.function then 1 else 0) + depth_of h.0 hs

abbrev pub place_of : Pick → Option Place
place_of Control = None
place_of (Ev u) = Some u

-- the limits on depth, created bytes and the bytes of standard output and standard error together, in the order in which they count (own)
abbrev pub limit_passed : Limits → ℕ → Store → Option (Cause × ℕ)
limit_passed limits depth s =
    if nat_lt limits.depth depth then Some (cause.Depth, depth)
    else (if nat_lt limits.created s.created then Some (cause.Created, s.created)
    else (if nat_lt limits.output (total s.output) then Some (cause.Output, total s.output) else None))

abbrev pub within : Option (Cause × ℕ) → Outcome → Outcome
within None o = o
within (Some c) o = Over c.0 c.1

-- the sum of created bytes after these objects, each counted as at least 16 (own)
abbrev pub created_after : ℕ → List Decl → ℕ
created_after n [] = n
created_after n (d ∷ ds) = created_after (min (n + max d.size 16) (2 ^ 62)) ds

abbrev pub too_many : Limits → ℕ → Option (Cause × ℕ)
too_many limits n = if nat_lt limits.created n then Some (cause.Created, n) else None

-- a block whose objects would pass the limit: it goes before whether they have rows, and nothing of it is created (own)
abbrev pub block_passes : Limits → Store → Todo → Option (Cause × ℕ)
block_passes limits s (Enter b ds ∷ rest) = too_many limits (created_after s.created ds)
block_passes limits s _ = None

abbrev pub enter_passes : Limits → State → Pick → Option (Cause × ℕ)
enter_passes limits st (Ev u) = None
enter_passes limits st Control = if is_some st.top.begun then None else block_passes limits st.store (ready_work st.top.todo)

-- an allocation that would pass the limit
abbrev pub allocation_passes : Limits → Store → ℕ → Option (Cause × ℕ)
allocation_passes limits s zero = None
allocation_passes limits s (suc n) = too_many limits (min (s.created + max (suc n) 16) (2 ^ 62))

abbrev pub library_of : Option (ℕ × Function) → Option LibFunc
library_of None = None
library_of (Some c) = c.1.library

abbrev pub limited : Limits → Outcome → Outcome
limited limits (Running st) = within (limit_passed limits (depth_of st.top st.held) st.store) (Running st)
limited limits o = o

module _ (world : World) where
  abbrev pub begun_of : Local → Option Begun → Option (Tree × Taken)
  begun_of f None = None
  begun_of f (Some e) = Some (tree_of e.root, taken_by world f.scene e)

  abbrev pub line_in : Option Begun → Option Place → ℕ
  line_in (Some e) (Some u) = line_of e.root u.node
  line_in e u = 0

  abbrev pub entry_of : Local → Pick → List Item → Entry
  entry_of f p is = record {
    path = f.scene.path;
    turn = f.scene.turn;
    place = place_of p;
    begun = begun_of f f.begun;
    line = line_in f.begun (place_of p);
    items = is;
  }

  -- the frame below goes on with what the body gave, and without one the run ends
  abbrev pub back : List (Local × Place) → Value → Store → List Entry → Outcome
  back [] v s trace = Ends (status_of v) s.output trace
  back (h ∷ hs) v s trace =
      Running (record { top = next world h.0 h.0.begun (Ev h.1) v; held = hs; store = s; trace = trace })

  abbrev pub moved : State → Pick → Move Local → Value → Store → List Entry → Outcome
  moved st p Stay v s trace = Running (record { top = next world st.top st.top.begun p v; held = st.held; store = s; trace = trace })
  moved st (Ev u) (Start g) v s trace = Running (record { top = g; held = (st.top, u) ∷ st.held; store = s; trace = trace })
  moved st Control (Start g) v s trace = Refused
  moved st p End v s trace = back st.held v s trace

  abbrev pub call_allocates : Head → List Value → ℕ
  call_allocates (Call discarded) vs = allocated (library_of (called_by world vs)) (later_values vs)
  call_allocates h vs = 0

  abbrev pub node_allocates : Scene → Begun → Place → Option Expr → ℕ
  node_allocates f e u None = 0
  node_allocates f e u (Some (expr h ty line es)) = call_allocates h (values_of world f e.given (suc u.node) es)

  -- the bytes of the object that a pick allocates by a call of the library
  abbrev pub pick_allocates : Local → Option Begun → Pick → ℕ
  pick_allocates f (Some e) (Ev u) = node_allocates f.scene e u (at_node 0 e.root u.node)
  pick_allocates f e p = 0

  -- the limit on created bytes goes before a missing row (own)
  abbrev pub without_row : State → Pick → Outcome
  without_row st p = within (allocation_passes world.limits st.store (pick_allocates st.top st.top.begun p)) No_row

  abbrev pub acted : State → Pick → Act Value → Outcome
  acted st p (Done v is s) = limited world.limits (moved st p (move world st.top st.top.begun p) v s (entry_of st.top p is ∷ st.trace))
  acted st p (Raised c) = Raises c (entry_of st.top p [] ∷ st.trace)
  acted st p (Ended n is s) = Ends n s.output (entry_of st.top p is ∷ st.trace)
  acted st p (Outside c n) = Over c n
  acted st p Unplaced = without_row st p

  -- what one pick does, whether or not it is permitted
  abbrev pub step : State → Pick → Outcome
  step st p = within (enter_passes world.limits st p) (acted st p (run world.rows (does world st.top st.top.begun p) st.store))

  -- the outcome of an order, from a state; whatever follows an end of the run is refused
  pub data After : State → List Pick → Outcome → Type 0 where
    here : (st : State) → After st [] (Running st)
    refused : (st : State) (p : Pick) (ps : List Pick) → (MayPick world st.top st.top.begun p → ⊥) → After st (p ∷ ps) Refused
    last : (st : State) (p : Pick) → MayPick world st.top st.top.begun p → After st (p ∷ []) (step st p)
    more : (st next' : State) (p q : Pick) (ps : List Pick) (o : Outcome) → MayPick world st.top st.top.begun p
        → step st p ≡ Running next' → After next' (q ∷ ps) o → After st (p ∷ q ∷ ps) o
    too_late : (st : State) (p q : Pick) (ps : List Pick) → MayPick world st.top st.top.begun p → is_running (step st p) ≡ false
        → After st (p ∷ q ∷ ps) Refused

  abbrev pub chosen_pick : Option Place → Pick
  chosen_pick None = Control
  chosen_pick (Some u) = Ev u

  -- always the control step, or the first permitted event of the tree in post-order (own)
  abbrev pub canonical_pick : Local → Option Begun → Pick
  canonical_pick f None = Control
  canonical_pick f (Some e) = chosen_pick (canonical (tree_of e.root) (taken_by world f.scene e) (is_done e))

  -- after n picks of the canonical order, or where it ends before
  abbrev pub canonical_after : ℕ → State → Outcome
  canonical_after zero st = Running st
  canonical_after (suc n) st = on_running (step st (canonical_pick st.top st.top.begun)) (canonical_after n)

  abbrev pub fill_each : List Standing → Script Value
  fill_each [] = Give Nothing
  fill_each (o ∷ os) = fill world.rows (pointer_of (pointer_to world o.name)) o.fillings >> fill_each os

  -- the objects that stand before the first pick are created, in order, and then filled (5.1.2p1, 6.4.5p6)
  abbrev pub stand_each : List Standing → Script Value → Script Value
  stand_each [] rest = rest
  stand_each (o ∷ os) rest =
      create world.rows o.name o.decl.size o.decl.align (record { heap = false; literal = o.literal; constant = o.decl.constant }) o.decl.form
      >> stand_each os rest

  abbrev pub stand : List Standing → Script Value
  stand os = stand_each os (fill_each os)

  abbrev pub nothing_stands : List ℕ → Store
  nothing_stands input = record {
    life = λ x. None;
    exposed = λ x. false;
    bytes = λ x b. fresh;
    kept = λ e. None;
    input = input;
    position = 0;
    output = silent;
    created = 0;
  }

  abbrev pub work_of : Option Stmt → Todo
  work_of None = []
  work_of (Some s) = To_do s ∷ []

  abbrev pub main_frame : List Value → Local
  main_frame vs = record {
    scene = record { path = []; home = []; turn = 0; blocks = [] };
    function = Some world.program.main;
    arguments = vs;
    todo = work_of (body_of world (Some world.program.main));
    begun = None;
    result = None;
  }

  abbrev pub started_run : Act Value → List Value → Outcome
  started_run (Done v is s) vs = limited world.limits (Running (record { top = main_frame vs; held = []; store = s; trace = [] }))
  started_run (Outside c n) vs = Over c n
  started_run _ vs = No_row

  -- the state before the first pick, with the input and the arguments of `main`
  abbrev pub start : List ℕ → List Value → Outcome
  start input vs = within (too_many world.limits (created_after 0 (map (λ o. o.decl) world.program.standing)))
      (started_run (run world.rows (stand world.program.standing) (nothing_stands input)) vs)
