-- What holds of the frames in each state of a run of a program whose names are in scope.
use Rattle.std.specs.Prelude.{◌≡◌, ℕ, true, ◌⊎◌, List, [], ◌∷◌, map, is_some, Option, Some, None}
use Rattle.c_typed.specs.declared.tree.Place.{Place}
use Rattle.c_typed.specs.Order.{is_body}
use Rattle.c_model.specs.Program.{Expr, expr, Exprs, Isolated, Stmt, Block}
use Rattle.c_model.specs.Control.{Unused, Todo, Begin, To_do}
use Rattle.c_model.specs.OpenBlocks.{NoEnters}
use Rattle.c_model.specs.Steps.{Begun, Local, at_node, body_of}
use Rattle.c_model.specs.World.{World}
use Rattle.c_types.specs.Types.{CType}
use Rattle.frame_laws.specs.Scopes.{Objects, objects_in, ExprFits, BodyFits}
use Rattle.frame_laws.specs.Todos.{EntersFirst, UseFits, Runs}

-- 1. The program.

-- each function that is defined names automatic objects of blocks round the place alone (6.2.1p4)
abbrev pub IsScoped : World → Type 0
IsScoped world = (n : ℕ) (body : Stmt) → body_of world (Some n) ≡ Some body → BodyFits body

-- `main` is defined (5.1.2.2.1p1)
abbrev pub HasMain : World → Type 0
HasMain world = is_some (body_of world (Some world.program.main)) ≡ true

-- 2. The frame of a function.

-- the numbers of the open blocks, the innermost first
abbrev pub open_blocks : Local → List ℕ
open_blocks f = map (λ b. b.0) f.scene.blocks

-- the outermost of these blocks
abbrev pub IsOutermost : ℕ → List ℕ → Type 0
IsOutermost b [] = ⊥
IsOutermost b (o ∷ []) = o ≡ b
IsOutermost b (o ∷ p ∷ os) = IsOutermost b (p ∷ os)

abbrev pub number_of : Stmt → ℕ
number_of (Block b ds ss) = b
number_of s = 0

-- behind a full expression no block is entered
abbrev pub EntersInFront : Option Begun → Todo → Type 0
EntersInFront None todo = EntersFirst todo
EntersInFront (Some e) todo = NoEnters todo

-- the full expression that is open names objects of open blocks alone, and so does what follows by its value
abbrev pub BegunFits : Objects → List ℕ → Option Begun → Type 0
BegunFits objects around None = Unit {0}
BegunFits objects around (Some e) = ExprFits objects around e.root × UseFits objects around e.what

-- its body's block isn't entered yet
pub record IsFresh (body : Stmt) (f : Local) : Type 0 where
  pub todo : f.todo ≡ To_do body ∷ []
  pub begun : f.begun ≡ None
  pub blocks : f.scene.blocks ≡ []

-- it is: the last thing to do is to leave it
pub record IsInBody (body : Stmt) (f : Local) : Type 0 where
  pub outermost : IsOutermost (number_of body) (open_blocks f)
  pub rest : Runs (objects_in body) f.todo (open_blocks f) []
  pub enters : EntersInFront f.begun f.todo
  pub begun : BegunFits (objects_in body) (open_blocks f) f.begun
  pub arguments : f.arguments ≡ []

pub record IsOfFunction (world : World) (f : Local) : Type 0 where
  pub number : ℕ
  pub function : f.function ≡ Some number
  pub body : Stmt
  pub defined : body_of world (Some number) ≡ Some body
  pub home : f.scene.home ≡ f.scene.path
  pub stage : IsFresh body f ⊎ IsInBody body f

-- 3. The frame of an isolated initializer (6.7.9p23).

-- the node of this number of the full expression that is open is an initializer with this full expression of its own
abbrev pub IsolatesAt : Option Begun → ℕ → Expr → Type 0
IsolatesAt None k tree = ⊥
IsolatesAt (Some e) k tree = (ty : CType) × (line : ℕ) × (es : Exprs) × (at_node 0 e.root k ≡ Some (expr (Isolated tree) ty line es))

-- it begins that full expression and then has nothing left to do
pub record IsBeforeTree (tree : Expr) (f : Local) : Type 0 where
  pub todo : f.todo ≡ Begin tree Unused ∷ []
  pub begun : f.begun ≡ None

pub record IsInTree (tree : Expr) (f : Local) : Type 0 where
  pub todo : f.todo ≡ []
  pub open_tree : Begun
  pub begun : f.begun ≡ Some open_tree
  pub root : open_tree.root ≡ tree
  pub what : open_tree.what ≡ Unused

-- it has the blocks of the frame that waits for it at this place, and opens none
pub record IsOfInitializer (f below : Local) (at : Place) : Type 0 where
  pub function : f.function ≡ None
  pub home : f.scene.home ≡ below.scene.home
  pub blocks : f.scene.blocks ≡ below.scene.blocks
  pub arguments : f.arguments ≡ []
  pub tree : Expr
  pub node : IsolatesAt below.begun at.node tree
  pub stage : IsBeforeTree tree f ⊎ IsInTree tree f

-- 4. The frames of a state.

-- a frame that was started at a body of a full expression that is open in the frame below
pub record WasStarted (f below : Local) (at : Place) : Type 0 where
  pub begun : is_some below.begun ≡ true
  pub body : is_body at.kind ≡ true
  pub path : f.scene.path ≡ (below.scene.turn, at.node) ∷ below.scene.path

-- the top frame, and those below with the body that waits in each, down to that of `main`
abbrev pub AreOrdered : World → Local → List (Local × Place) → Type 0
AreOrdered world f [] = IsOfFunction world f × (f.function ≡ Some world.program.main) × (f.scene.path ≡ [])
AreOrdered world f (h ∷ hs) = (IsOfFunction world f ⊎ IsOfInitializer f h.0 h.1) × WasStarted f h.0 h.1 × AreOrdered world h.0 hs

-- the function whose blocks are open: for an isolated initializer that of the frame below
abbrev pub or_else : Option ℕ → Option ℕ → Option ℕ
or_else None other = other
or_else (Some n) other = Some n

abbrev pub function_round : Local → List (Local × Place) → Option ℕ
function_round f [] = f.function
function_round f (h ∷ hs) = or_else f.function (function_round h.0 hs)

abbrev pub objects_of_body : Option Stmt → Objects
objects_of_body None b = None
objects_of_body (Some body) b = objects_in body b

abbrev pub objects_round : World → Local → List (Local × Place) → Objects
objects_round world f hs = objects_of_body (body_of world (function_round f hs))
