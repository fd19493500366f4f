-- What is so of frames that are ordered, in the forms in which it is asked for.
use Rattle.std.specs.Prelude.{◌≡◌, ℕ, Bool, true, false, ◌⊎◌, List, [], ◌∷◌, slice_get, is_some, Option, Some, None}
use Rattle.c_typed.specs.declared.tree.Place.{Place}
use Rattle.c_typed.specs.Order.{is_body}
use Rattle.c_model.specs.Program.{Decl, Expr, Stmt, Function}
use Rattle.c_model.specs.Control.{Todo, Use, Unused, Begin, Enter, Leave, Unwrite, ready_work}
use Rattle.c_model.specs.OpenBlocks.{Closes, NoEntersBehind}
use Rattle.c_model.specs.Steps.{Begun, Local, ends_with, settled}
use Rattle.c_model.specs.Values.{Value}
use Rattle.c_model.specs.World.{World}
use Rattle.frame_laws.specs.Scopes.{AreLower, DeclareFits, ExprFits, BodyFits}
use Rattle.frame_laws.specs.Frames.{IsScoped, AreOrdered, open_blocks, objects_round}

-- Each is so of the top frame of a state, and of each frame below, with those below that.

-- 1. What is left to do in a function's frame leaves just the blocks that are open.
abbrev pub BlocksAreLeft : Type 0
BlocksAreLeft = (world : World) (f : Local) (hs : List (Local × Place)) → AreOrdered world f hs → is_some f.function ≡ true
    → Closes (ready_work f.todo) (open_blocks f)

-- 2. Where a declaration comes next, it is of the innermost open block, in a function's frame; and behind it no block is entered.
pub record IsAtDeclaration (world : World) (f : Local) (hs : List (Local × Place)) (d : ℕ) : Type 0 where
  pub function : is_some f.function ≡ true
  pub closes : Closes (ready_work f.todo) (open_blocks f)
  pub behind : NoEntersBehind (ready_work f.todo)
  pub declared : DeclareFits (objects_round world f hs) (open_blocks f) d

abbrev pub DeclaresInside : Type 0
DeclaresInside = (world : World) (f : Local) (hs : List (Local × Place)) (d : ℕ) (rest : Todo) → IsScoped world → AreOrdered world f hs → f.begun ≡ None
    → ready_work f.todo ≡ Unwrite d ∷ rest → IsAtDeclaration world f hs d

-- 3. Where a block is left, it is the innermost open one of a function's frame, with its objects; and the frame ends with it just where it is the outermost
-- one, behind which nothing is left to do.
pub record IsAtLeave (world : World) (f : Local) (hs : List (Local × Place)) (b : ℕ) (ds : List Decl) (rest : Todo) : Type 0 where
  pub function : is_some f.function ≡ true
  pub closes : Closes (ready_work f.todo) (open_blocks f)
  pub objects : objects_round world f hs b ≡ Some ds
  pub last : ends_with world (ready_work rest) ≡ true → open_blocks f ≡ b ∷ []
  pub outermost : open_blocks f ≡ b ∷ [] → rest ≡ []

abbrev pub LeavesInnermost : Type 0
LeavesInnermost = (world : World) (f : Local) (hs : List (Local × Place)) (b : ℕ) (ds : List Decl) (rest : Todo) → IsScoped world
    → AreOrdered world f hs → f.begun ≡ None → ready_work f.todo ≡ Leave b ds ∷ rest → IsAtLeave world f hs b ds rest

-- 4. Where a block is entered, it is one of a function's frame, with its objects, and has a higher number than those that are open, which stand round it; and
-- arguments wait only where no block is open yet (6.5.2.2p4, p10).
pub record IsAtEnter (world : World) (f : Local) (hs : List (Local × Place)) (b : ℕ) (ds : List Decl) : Type 0 where
  pub function : is_some f.function ≡ true
  pub objects : objects_round world f hs b ≡ Some ds
  pub inside : AreLower b (open_blocks f)
  pub arguments : (f.scene.blocks ≡ []) ⊎ (f.arguments ≡ [])

abbrev pub EntersWithObjects : Type 0
EntersWithObjects = (world : World) (f : Local) (hs : List (Local × Place)) (b : ℕ) (ds : List Decl) (rest : Todo) → IsScoped world
    → AreOrdered world f hs → f.begun ≡ None → ready_work f.todo ≡ Enter b ds ∷ rest → IsAtEnter world f hs b ds

abbrev pub HandsOn : Type 0
HandsOn = (world : World) (f : Local) (hs : List (Local × Place)) → AreOrdered world f hs → (f.scene.blocks ≡ []) ⊎ (f.arguments ≡ [])

-- 5. Where a full expression begins, and while it is open, it names automatic objects of open blocks alone; and no arguments wait (6.2.1p4, 6.2.4p6).
pub record IsInScope (world : World) (f : Local) (hs : List (Local × Place)) (e : Expr) : Type 0 where
  pub names : ExprFits (objects_round world f hs) (open_blocks f) e
  pub arguments : f.arguments ≡ []

abbrev pub BeginsInScope : Type 0
BeginsInScope = (world : World) (f : Local) (hs : List (Local × Place)) (e : Expr) (what : Use) (rest : Todo) → IsScoped world
    → AreOrdered world f hs → f.begun ≡ None → ready_work f.todo ≡ Begin e what ∷ rest → IsInScope world f hs e

abbrev pub StaysInScope : Type 0
StaysInScope = (world : World) (f : Local) (hs : List (Local × Place)) (e : Begun) → AreOrdered world f hs → f.begun ≡ Some e → IsInScope world f hs e.root

-- 6. Behind a full expression a function's frame has something left to do, whatever its value; the value of an isolated initializer has no use, and
-- nothing is left to do behind it.
abbrev pub IsBehind : World → Local → Begun → Option ℕ → Type 0
IsBehind world f e (Some n) = (v : Value) → ends_with world (ready_work (settled world f v e.what).todo) ≡ false
IsBehind world f e None = (e.what ≡ Unused) × (f.todo ≡ [])

abbrev pub GoesOnBehind : Type 0
GoesOnBehind = (world : World) (f : Local) (hs : List (Local × Place)) (e : Begun) → AreOrdered world f hs → f.begun ≡ Some e
    → IsBehind world f e f.function

-- 7. Each frame that is held waits at a body, in a full expression that is open, and has handed on its arguments.
abbrev pub AllWait : List (Local × Place) → Type 0
AllWait [] = Unit {0}
AllWait (h ∷ hs) = (is_some h.0.begun ≡ true) × (is_body h.1.kind ≡ true) × (h.0.arguments ≡ []) × AllWait hs

abbrev pub HeldWait : Type 0
HeldWait = (world : World) (f : Local) (hs : List (Local × Place)) → AreOrdered world f hs → AllWait hs

-- 8. What comes next is a function's, but for the begin of a full expression.
abbrev pub is_begin : Todo → Bool
is_begin (Begin e what ∷ rest) = true
is_begin todo = false

abbrev pub StepsInFunction : Type 0
StepsInFunction = (world : World) (f : Local) (hs : List (Local × Place)) → AreOrdered world f hs → f.begun ≡ None
    → is_begin (ready_work f.todo) ≡ false → is_some f.function ≡ true

-- The function of a frame is one of the program, which is defined and in scope.
pub record IsDefined (world : World) (n : ℕ) : Type 0 where
  pub function : Function
  pub there : slice_get world.program.functions n ≡ Some function
  pub body : Stmt
  pub defines : function.body ≡ Some body
  pub fits : BodyFits body

abbrev pub FunctionIsDefined : Type 0
FunctionIsDefined = (world : World) (f : Local) (hs : List (Local × Place)) (n : ℕ) → IsScoped world → AreOrdered world f hs → f.function ≡ Some n
    → IsDefined world n
