-- The state of a frame, and what a pick does in it.
use Rattle.std.specs.Prelude.{
  ◌≡◌,
  ℕ,
  suc,
  ◌+◌,
  Bool,
  true,
  false,
  not,
  ◌&&◌,
  ◌||◌,
  ◌==◌,
  nat_lt,
  List,
  [],
  ◌∷◌,
  Option,
  Some,
  None,
  is_some,
  is_none,
  if◌then◌else◌,
  pos,
  slice_get,
}
use Rattle.ub_base.specs.declared.clause.Kind.{Kind}
use Rattle.ub_base.specs.declared.clause.Kind.TheVariants.{Val, Eff, Body}
use Rattle.ub_base.specs.declared.clause.Clause.TheVariants.{InvalidPointer, IncompatibleCall}
use Rattle.ub_base.specs.declared.names.Event.{Event}
use Rattle.ub_base.specs.declared.names.ObjName.{ObjName}
use Rattle.ub_base.specs.declared.names.ObjName.TheVariants as object
use Rattle.ub_base.specs.Frames.{Path}
use Rattle.c_types.specs.declared.library.LibFunc.{LibFunc}
use Rattle.c_types.specs.Types.{CType, void, pointer, function}
use Rattle.c_arith.specs.Operators.{conv}
use Rattle.c_typed.specs.declared.tree.Place.{Place}
use Rattle.c_typed.specs.declared.tree.Slot.{Slot}
use Rattle.c_typed.specs.declared.tree.Slot.TheVariants as slot
use Rattle.c_typed.specs.declared.tree.Conversion.TheVariants as conversion
use Rattle.c_typed.specs.Tree.{size, is_quiet}
use Rattle.c_typed.specs.Order.{Taken, place, same_place, is_body, events, IsPermitted}
use Rattle.c_typed.specs.Decide.{first_place}
use Rattle.addr_map.specs.Rows.{row_of}
use Rattle.exposure.specs.declared.prov.Prov.TheVariants as prov
use Rattle.mem_spec.specs.declared.kind.ObjKind.{ObjKind}
use Rattle.mem_spec.specs.Script.{Script, Give, Raise, require, ◌>>◌}
use Rattle.mem_spec.specs.Acts.{base_in, create, kill, unwrite}
use Rattle.c_model.specs.Program.{
  Head,
  Number,
  Null,
  Obj,
  Func,
  Str,
  Member,
  Conv,
  And,
  Or,
  Cond,
  Call,
  Listed,
  Isolated,
  Expr,
  expr,
  Exprs,
  none,
  more,
  tree_of,
  Decl,
  Stmt,
  Function,
}
use Rattle.c_model.specs.Values.{
  Value,
  Int,
  Ptr,
  Fun,
  Missing,
  Nothing,
  Pointer,
  null,
  pointer_value,
  integer_of,
  pointer_of,
  function_in,
  or_nothing,
  truth,
  value_at,
  later_values,
  function_address,
  address_after,
}
use Rattle.c_model.specs.World.{World}
use Rattle.c_model.specs.Nodes.{act_of, put}
use Rattle.c_model.specs.Control.{
  Use,
  Unused,
  Result,
  Enter,
  Leave,
  Unwrite,
  Begin,
  Go_to,
  Go_out,
  Go_on,
  Go_back,
  To_do,
  Todo,
  ready_work,
  out_of,
  on_with,
  leaves,
  to_label,
  find,
  gone_to,
  work_after,
}
use Rattle.c_model.specs.Moves.{Move, Stay, Start, End}

-- a full expression that has begun, and what its picks gave
pub record Begun : Type 0 where
  pub root : Expr
  pub given : Place → Option Value
  pub what : Use

-- what the events of a full expression know of their frame
pub record Scene : Type 0 where
  pub path : Path
  pub home : Path  -- the frame of the function whose blocks are open: for an isolated initializer not its own
  pub turn : ℕ
  pub blocks : List (ℕ × ℕ)  -- the open blocks, each with its turn, the innermost first

pub record Local : Type 0 where
  pub scene : Scene
  pub function : Option ℕ  -- None for an isolated initializer
  pub arguments : List Value  -- until the body block is entered
  pub todo : Todo
  pub begun : Option Begun
  pub result : Option Value

-- a pick: the control step, or an event of the full expression that has begun (own)
pub data Pick : Type 0 where
  Control : Pick
  Ev : Place → Pick

abbrev pub turn_of : List (ℕ × ℕ) → ℕ → ℕ
turn_of [] block = 0
turn_of (b ∷ bs) block = if b.0 == block then b.1 else turn_of bs block

abbrev mutual
  -- the expression whose number is m in the one whose root has the number k
  pub at_node : ℕ → Expr → ℕ → Option Expr
  at_node k (expr h ty line es) m = if k == m then Some (expr h ty line es) else at_node_among (suc k) es m

  pub at_node_among : ℕ → Exprs → ℕ → Option Expr
  at_node_among k none m = None
  at_node_among k (more e es) m = if nat_lt m (k + size (tree_of e)) then at_node k e m else at_node_among (k + size (tree_of e)) es m

-- the operand that a node has chosen, where its first operand has a value (6.5.13 to 6.5.15)
abbrev pub choice_by : Head → List Value → Bool → Option ℕ
choice_by And (v ∷ vs) true = if truth v then Some 1 else None
choice_by Or (v ∷ vs) true = if truth v then None else Some 1
choice_by Cond (v ∷ vs) true = if truth v then Some 1 else Some 2
choice_by _ vs known = None

abbrev pub first_known : (Place → Option Value) → ℕ → Exprs → Bool
first_known given k none = false
first_known given k (more e es) = is_quiet (tree_of e) || is_some (given (place k Val))

abbrev pub is_done : Begun → Place → Bool
is_done e u = is_some (e.given u)

-- of which earlier event of its node an event knows what it gave
abbrev pub own_kind : Kind → Kind
own_kind Eff = Val
own_kind _ = Body

abbrev pub object_kind : Bool → ObjKind
object_kind constant = record { heap = false; literal = false; constant = constant }

abbrev pub with_given : Begun → Place → Value → Begun
with_given e u v = record e { given = λ w. if same_place u w then Some v else e.given w }

abbrev pub begin : Local → Expr → Use → Todo → Local
begin f e what rest =
    record f { scene = record f.scene { turn = suc f.scene.turn }; todo = rest; begun = Some (record { root = e; given = λ u. None; what = what }) }

abbrev pub without_block : List (ℕ × ℕ) → ℕ → List (ℕ × ℕ)
without_block [] b = []
without_block (o ∷ os) b = if o.0 == b then os else o ∷ without_block os b

abbrev pub function_of : List Function → ℕ → ℕ → Option (ℕ × Function)
function_of [] n a = None
function_of (f ∷ fs) n a = if function_address n == a then Some (n, f) else function_of fs (suc n) a

abbrev pub types_of : Exprs → List CType
types_of none = []
types_of (more (expr h ty line es) rest) = ty ∷ types_of rest

-- of a call's operands, those behind its designator
abbrev pub argument_types : Exprs → List CType
argument_types none = []
argument_types (more e rest) = types_of rest

-- the type of the object or function that an operand of this type designates
abbrev pub target : CType → CType
target (pointer constant ty) = ty
target ty = ty

abbrev pub first_type : Exprs → CType
first_type none = void
first_type (more (expr h ty line es) rest) = ty

-- the function type that a call goes by (6.5.2.2p1)
abbrev pub function_type : CType → Option CType
function_type (function result params variadic) = Some (function result params variadic)
function_type _ = None

-- a null pointer to an object or to a function (6.3.2.3p3)
abbrev pub null_of : CType → Value
null_of (function result params variadic) = Fun 0
null_of _ = pointer_value null

-- a function that the program defines starts a frame (6.5.2.2p10)
abbrev pub own_body : Function → Option Stmt
own_body c = if is_some c.library then None else c.body

abbrev pub line_at : Option Expr → ℕ
line_at None = 0
line_at (Some (expr h ty line es)) = line

-- the line of a node
abbrev pub line_of : Expr → ℕ → ℕ
line_of root n = line_at (at_node 0 root n)

module _ (world : World) where
  abbrev pub event_of : Scene → Place → Event
  event_of f u = record { frame = record { 0 = world.number f.path }; turn = f.turn; node = u.node; kind = u.kind }

  abbrev pub auto_name : Scene → ℕ → ℕ → ObjName
  auto_name f turn k = object.Auto (record { 0 = world.number f.home }) turn k

  abbrev pub name_of : Scene → Slot → ObjName
  name_of f (slot.Static k) = object.Static k
  name_of f (slot.Auto block decl) = auto_name f (turn_of f.blocks block) decl

  abbrev pub pointer_to : ObjName → Value
  pointer_to x = Ptr (base_in (row_of world.rows x)) (prov.Whole x)

  -- the value that a move of a quiet place gives
  abbrev pub moved_place : ℕ → Value → Value
  moved_place offset (Ptr a p) = Ptr (address_after a offset) p
  moved_place offset v = v

  abbrev mutual
    -- the value of a quiet node, which no event gives
    pub quiet_value : Scene → Expr → Value
    quiet_value f (expr (Number z) ty line es) = Int z
    quiet_value f (expr Null ty line es) = null_of (target ty)
    quiet_value f (expr (Obj s) ty line es) = pointer_to (name_of f s)
    quiet_value f (expr (Func n) ty line es) = Fun (function_address n)
    quiet_value f (expr (Str k) ty line es) = pointer_to (object.Lit k)
    quiet_value f (expr (Member offset) ty line es) = moved_place offset (first_quiet f es)
    quiet_value f (expr (Conv (conversion.Integer k)) ty line es) = Int (conv k (integer_of (first_quiet f es)))
    quiet_value f _ = Nothing

    pub first_quiet : Scene → Exprs → Value
    first_quiet f none = Nothing
    first_quiet f (more e es) = quiet_value f e

  -- the values of a node's operands, the first of which has the number k
  abbrev pub values_of : Scene → (Place → Option Value) → ℕ → Exprs → List Value
  values_of f given k none = []
  values_of f given k (more e es) =
      (if is_quiet (tree_of e) then quiet_value f e else or_nothing (given (place k Val))) ∷ values_of f given (k + size (tree_of e)) es

  abbrev pub operand_values : Scene → (Place → Option Value) → ℕ → Head → Exprs → List Value
  operand_values f given k (Listed s fillings) es = pointer_to (name_of f s) ∷ []
  operand_values f given k h es = values_of f given k es

  abbrev pub choice_in : Scene → (Place → Option Value) → ℕ → Option Expr → Option ℕ
  choice_in f given k None = None
  choice_in f given k (Some (expr h ty line es)) = choice_by h (values_of f given (suc k) es) (first_known given (suc k) es)

  abbrev pub taken_by : Scene → Begun → Taken
  taken_by f e k = choice_in f e.given k (at_node 0 e.root k)

  -- all due events are done
  abbrev pub is_settled : Local → Begun → Bool
  is_settled f e = is_none (first_place (λ u. not (is_done e u)) (events (taken_by f.scene e) 0 (tree_of e.root)))

  -- in the top frame: an event that is permitted, or where all due events are done the control step (own)
  abbrev pub MayPick : Local → Option Begun → Pick → Type 0
  MayPick f None Control = Unit {0}
  MayPick f None (Ev u) = ⊥
  MayPick f (Some e) Control = is_settled f e ≡ true
  MayPick f (Some e) (Ev u) = IsPermitted (tree_of e.root) (taken_by f.scene e) (is_done e) u

  abbrev pub body_frame : Scene → ℕ → ℕ → List Value → Option Stmt → Move Local
  body_frame f k n vs None = Stay
  body_frame f k n vs (Some s) = Start (record {
    scene = record { path = (f.turn, k) ∷ f.path; home = (f.turn, k) ∷ f.path; turn = 0; blocks = [] };
    function = Some n;
    arguments = vs;
    todo = To_do s ∷ [];
    begun = None;
    result = None;
  })

  abbrev pub start_call : Scene → ℕ → List Value → Option (ℕ × Function) → Move Local
  start_call f k vs None = Stay
  start_call f k vs (Some c) = body_frame f k c.0 vs (own_body c.1)

  -- the function that a call's designator leads to
  abbrev pub called_by : List Value → Option (ℕ × Function)
  called_by vs = function_of world.program.functions 0 (function_in (value_at vs 0))

  -- the body of a call starts the function's frame, and that of an isolated initializer one of its own (6.7.9p23)
  abbrev pub started : Scene → ℕ → Head → List Value → Move Local
  started f k (Call discarded) vs = start_call f k (later_values vs) (called_by vs)
  started f k (Isolated e) vs = Start (record {
    scene = record { path = (f.turn, k) ∷ f.path; home = f.home; turn = 0; blocks = f.blocks };
    function = None;
    arguments = [];
    todo = Begin e Unused ∷ [];
    begun = None;
    result = Some Nothing;
  })
  started f k h vs = Stay

  abbrev pub move_of : Scene → Begun → Place → Option Expr → Move Local
  move_of f e u None = Stay
  move_of f e u (Some (expr h ty line es)) = if is_body u.kind then started f u.node h (values_of f e.given (suc u.node) es) else Stay

  abbrev pub library_act : Event → List CType → List Value → Option LibFunc → Script Value
  library_act who ts vs None = Give Nothing
  library_act who ts vs (Some g) = world.library g who ts vs

  -- what the body of a call does by itself: that of a library function; a call of none raises (6.5.3.2p4, 6.5.2.2p9)
  abbrev pub call_by : Event → CType → List CType → List Value → Option (ℕ × Function) → Script Value
  call_by who ty ts vs None = Raise InvalidPointer
  call_by who ty ts vs (Some c) =
      require (is_some c.1.body || is_some c.1.library) InvalidPointer
      >> (require (world.agree c.1.ty ty) IncompatibleCall >> library_act who ts vs c.1.library)

  abbrev pub call_through : Event → Option CType → List CType → List Value → Script Value
  call_through who None ts vs = Raise InvalidPointer
  call_through who (Some ty) ts vs = call_by who ty ts (later_values vs) (called_by vs)

  abbrev pub call_act : Event → Head → Exprs → List Value → Script Value
  call_act who (Call discarded) es vs = call_through who (function_type (target (first_type es))) (argument_types es) vs
  call_act who h es vs = Give Nothing

  -- what an event does to the store
  abbrev pub event_act : Scene → Begun → Place → Option Expr → Script Value
  event_act f e u None = Give Nothing
  event_act f e u (Some (expr h ty line es)) =
      if is_body u.kind then call_act (event_of f u) h es (values_of f e.given (suc u.node) es)
      else act_of world.rows (event_of f u) h (target (first_type es)) u.kind (operand_values f e.given (suc u.node) h es)
      (or_nothing (e.given (place u.node (own_kind u.kind))))

  abbrev pub object_at : Scene → ℕ → ℕ → Pointer
  object_at f turn k = pointer_of (pointer_to (auto_name f turn k))

  -- the objects of a function's parameters take the arguments (6.5.2.2p4, 6.9.1p10)
  abbrev pub pass_all : Scene → ℕ → ℕ → List Decl → List Value → Script Value
  pass_all f turn k (d ∷ ds) (v ∷ vs) = put world.rows true d.access d.ty (object_at f turn k) v >> pass_all f turn (suc k) ds vs
  pass_all f turn k ds vs = Give Nothing

  -- a block is entered: its objects are created, in order, and then the first ones take the arguments (6.2.4p6)
  abbrev pub bear_all : Scene → ℕ → ℕ → List Decl → Script Value → Script Value
  bear_all f turn k [] rest = rest
  bear_all f turn k (d ∷ ds) rest =
      create world.rows (auto_name f turn k) d.size d.align (object_kind d.constant) d.form >> bear_all f turn (suc k) ds rest

  abbrev pub kill_all : Scene → ℕ → ℕ → List Decl → Script Value → Script Value
  kill_all f turn k [] rest = rest
  kill_all f turn k (d ∷ ds) rest = kill (auto_name f turn k) >> kill_all f turn (suc k) ds rest

  -- what a function's body leaves that gives no result (6.9.1p12): 0 for `main` (5.1.2.2.3)
  abbrev pub left_by : Option Function → Bool → Value
  left_by None is_main = Nothing
  left_by (Some fun) is_main = if is_main then Int (pos 0) else (if fun.void then Nothing else Missing)

  abbrev pub result_of : Local → Value
  result_of f = result_in f.function f.result
    where
      result_in : Option ℕ → Option Value → Value
      result_in n (Some v) = v
      result_in None None = Nothing
      result_in (Some n) None = left_by (slice_get world.program.functions n) (n == world.program.main)

  -- what the control step at this work does to the store
  abbrev pub control_act : Local → Todo → Script Value
  control_act f (Enter b ds ∷ rest) = bear_all f.scene (suc f.scene.turn) 0 ds (pass_all f.scene (suc f.scene.turn) 0 ds f.arguments)
  control_act f (Leave b ds ∷ rest) = kill_all f.scene (turn_of f.scene.blocks b) 0 ds (Give (result_of f))
  control_act f (Unwrite d ∷ rest) = unwrite world.rows (innermost f.scene f.scene.blocks d) >> Give Nothing
    where
      innermost : Scene → List (ℕ × ℕ) → ℕ → ObjName
      innermost f [] d = auto_name f 0 d
      innermost f (o ∷ os) d = auto_name f o.1 d
  control_act f _ = Give Nothing

  abbrev pub does : Local → Option Begun → Pick → Script Value
  does f None Control = control_act f (ready_work f.todo)
  does f None (Ev u) = Give Nothing
  does f (Some e) Control = Give (result_of f)
  does f (Some e) (Ev u) = event_act f.scene e u (at_node 0 e.root u.node)

  abbrev pub ends_with : Todo → Bool
  ends_with [] = true
  ends_with (w ∷ ws) = false

  -- the frame ends with the leave of its last block, and that of an isolated initializer as its expression settles
  abbrev pub control_move : Todo → Move Local
  control_move (Leave b ds ∷ rest) = if ends_with (ready_work rest) then End else Stay
  control_move _ = Stay

  abbrev pub move : Local → Option Begun → Pick → Move Local
  move f None Control = control_move (ready_work f.todo)
  move f None (Ev u) = Stay
  move f (Some e) Control = if is_none f.function && ends_with (ready_work f.todo) then End else Stay
  move f (Some e) (Ev u) = move_of f.scene e u (at_node 0 e.root u.node)

  abbrev pub is_result : Use → Bool
  is_result Result = true
  is_result _ = false

  -- the value of a full expression is used (6.8p4)
  abbrev pub settled : Local → Value → Use → Local
  settled f v what = record f { begun = None; todo = work_after (truth v) (integer_of v) what f.todo; result = if is_result what then Some v else f.result }

  abbrev pub root_value : Local → Begun → Value
  root_value f e = if is_quiet (tree_of e.root) then quiet_value f.scene e.root else or_nothing (e.given (place 0 Val))

  abbrev pub body_of : Option ℕ → Option Stmt
  body_of None = None
  body_of (Some n) = stmt_of (slice_get world.program.functions n)
    where
      stmt_of : Option Function → Option Stmt
      stmt_of None = None
      stmt_of (Some fun) = fun.body

  abbrev pub found_label : ℕ → Option Stmt → Option Todo
  found_label k None = None
  found_label k (Some s) = find (to_label k) s

  abbrev pub control_next : Local → Todo → Local
  control_next f [] = f
  control_next f (Enter b ds ∷ rest) =
      record f { scene = record f.scene { turn = suc f.scene.turn; blocks = (b, suc f.scene.turn) ∷ f.scene.blocks }; arguments = []; todo = rest }
  control_next f (Leave b ds ∷ rest) = record f { scene = record f.scene { blocks = without_block f.scene.blocks b }; todo = rest }
  control_next f (Begin e what ∷ rest) = begin f e what rest
  control_next f (Go_to k ∷ rest) = record f { todo = gone_to rest (found_label k (body_of f.function)) }
  control_next f (Go_out ∷ rest) = record f { todo = out_of rest }
  control_next f (Go_on ∷ rest) = record f { todo = on_with rest }
  control_next f (Go_back ∷ rest) = record f { todo = leaves rest }
  control_next f (w ∷ rest) = record f { todo = rest }

  -- the frame after a pick that gave the value
  abbrev pub next : Local → Option Begun → Pick → Value → Local
  next f None Control v = control_next f (ready_work f.todo)
  next f None (Ev u) v = f
  next f (Some e) Control v = settled f (root_value f e) e.what
  next f (Some e) (Ev u) v = record f { begun = Some (with_given e u v) }
