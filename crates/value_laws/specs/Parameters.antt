-- In every order the objects of parameters take arguments of their sizes (6.5.2.2p4, 6.9.1p10).
use Rattle.std.specs.Prelude.{Bool, ◌≡◌, ℕ, suc, true, false, List, [], ◌∷◌, Some, None, slice_get}
use Rattle.ub_base.specs.declared.names.Item.{Item}
use Rattle.ub_base.specs.declared.names.Item.TheVariants.{Write}
use Rattle.c_types.specs.Types.{CType, function, Params, none, more}
use Rattle.c_typed.specs.declared.tree.Access.{Access}
use Rattle.c_typed.specs.declared.tree.Access.TheVariants as access
use Rattle.mem_spec.specs.Store.{Store}
use Rattle.mem_spec.specs.Script.{Done, run}
use Rattle.c_model.specs.Program.{Decl, Stmt, Block, Function}
use Rattle.c_model.specs.Values.{Value}
use Rattle.c_model.specs.World.{World}
use Rattle.c_model.specs.Control.{Todo, Enter, ready_work}
use Rattle.c_model.specs.Steps.{Scene, Pick, Control, does, auto_name}
use Rattle.c_model.specs.Runs.{State, Running}
use Rattle.c_model.specs.Claims.{ComesTo}
use Rattle.value_laws.specs.Sizes.{Sizes, HasBytes, HasSize, Keeps, StoreFits, ProgramFits}
use Rattle.value_laws.specs.Wholes.{Each}

abbrev pub parameters : CType → Params
parameters (function result params variadic) = params
parameters ty = none

-- values for parameters, no more than there are
abbrev pub AreTaken : Sizes → Params → List Value → Type 0
AreTaken size none [] = Unit {0}
AreTaken size none (v ∷ vs) = ⊥
AreTaken size (more constant ty params) [] = Unit {0}
AreTaken size (more constant ty params) (v ∷ vs) = HasSize (size ty) v × AreTaken size params vs

-- what has the sizes of the first parameters has those of the second ones
abbrev pub AreKept : Sizes → Params → Params → Type 0
AreKept size none others = Unit {0}
AreKept size (more constant ty params) none = ⊥
AreKept size (more constant ty params) (more constant2 ty2 params2) = Keeps (size ty) (size ty2) × AreKept size params params2

-- a call by the first type passes what a function of the second one takes; none of an ellipsis is one of a defined function
abbrev pub Passes : Sizes → CType → CType → Type 0
Passes size (function result params false) ty = AreKept size params (parameters ty)
Passes size by ty = ⊥

-- the first objects of a block have the sizes of the parameters
abbrev pub ObjectsFit : Sizes → Params → List Decl → Type 0
ObjectsFit size params [] = Unit {0}
ObjectsFit size none (d ∷ ds) = Unit {0}
ObjectsFit size (more constant ty params) (d ∷ ds) = StoreFits d.access (size ty) × ObjectsFit size params ds

-- the body of a function is a block that begins with the objects of its parameters
abbrev pub BodyTakes : Sizes → Params → Stmt → Type 0
BodyTakes size params (Block number decls ss) = ObjectsFit size params decls
BodyTakes size params s = ⊥

-- a function that is defined
pub record FunctionTakes (size : Sizes) (world : World) (fun : Function) (s : Stmt) : Type 0 where
  pub objects : BodyTakes size (parameters fun.ty) s
  pub agrees : (result : CType) (params : Params) (variadic : Bool) → world.agree fun.ty (function result params variadic) ≡ true
      → Passes size (function result params variadic) fun.ty

-- each function that is defined, and `main` with these arguments
pub record ProgramTakes (size : Sizes) (world : World) (vs : List Value) : Type 0 where
  pub functions : (number : ℕ) (fun : Function) (s : Stmt) → slice_get world.program.functions number ≡ Some fun → fun.body ≡ Some s
      → FunctionTakes size world fun s
  pub main : (fun : Function) → slice_get world.program.functions world.program.main ≡ Some fun → AreTaken size (parameters fun.ty) vs

abbrev pub LengthFits : Access → ℕ → Type 0
LengthFits (access.Whole n align) len = len ≡ n
LengthFits how len = Unit {0}

-- a write goes to an object of the block that is entered in this turn, from its beginning on; of a structure or union to just its bytes
abbrev pub WritesObject : World → Scene → ℕ → List Decl → Item → Type 0
WritesObject world f turn ds (Write x from len) =
    (k : ℕ) × (d : Decl) × (slice_get ds k ≡ Some d) × (x ≡ auto_name world f turn k) × (from ≡ 0) × LengthFits d.access len
WritesObject world f turn ds i = Unit {0}

-- So do all writes of the control step that enters a block, wherever an order picks it.
abbrev pub ParametersAreStored : Type 0
ParametersAreStored =
    (size : Sizes) (world : World) (input : List ℕ) (vs : List Value) → ProgramFits size world → ProgramTakes size world vs → (ps : List Pick) (st : State)
    → ComesTo world input vs ps (Running st) → st.top.begun ≡ None → (number : ℕ) (ds : List Decl) (rest : Todo)
    → ready_work st.top.todo ≡ Enter number ds ∷ rest
    → (v : Value) (is : List Item) (s : Store) → run world.rows (does world st.top None Control) st.store ≡ Done v is s
    → Each (WritesObject world st.top.scene (suc st.top.scene.turn) ds) is

-- a value that is stored whole has as many bytes as it is stored to
abbrev pub TakesBytes : Access → Value → Type 0
TakesBytes (access.Whole n align) v = HasBytes n v
TakesBytes how v = Unit {0}

-- And where a block is entered next, each argument has as many bytes as its object, if it is a structure or union.
abbrev pub ArgumentsHaveSizes : Type 0
ArgumentsHaveSizes =
    (size : Sizes) (world : World) (input : List ℕ) (vs : List Value) → ProgramFits size world → ProgramTakes size world vs → (ps : List Pick) (st : State)
    → ComesTo world input vs ps (Running st) → (number : ℕ) (ds : List Decl) (rest : Todo) → ready_work st.top.todo ≡ Enter number ds ∷ rest
    → (k : ℕ) (d : Decl) (v : Value) → slice_get ds k ≡ Some d → slice_get st.top.arguments k ≡ Some v → TakesBytes d.access v
