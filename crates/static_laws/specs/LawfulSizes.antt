-- The full expressions of a lawful program keep the sizes that its types have by their layout, and so does what is made of them.
use Rattle.std.specs.Prelude.{◌≡◌, ℕ, true, false, List, [], ◌∷◌, Option, Some, None, slice_get}
use Rattle.ub_base.specs.declared.names.Event.{Event}
use Rattle.c_types.specs.declared.library.LibFunc.{LibFunc}
use Rattle.c_types.specs.declared.tags.Tag.{Tag}
use Rattle.c_types.specs.Types.{CType, Signature, Compatible, Params, none, more}
use Rattle.c_typed.specs.declared.program.Program.{Program}
use Rattle.c_typed.specs.Sites.{Expression, returned}
use Rattle.c_typed.specs.Lawful.{AccessIs, ExpressionIsLawful}
use Rattle.c_model.specs.Program.{Expr, Decl, Stmt, Value, Block, If, If_only, Switch, Do, For, Return, Label, Case, Default, Stmts, end, and_then, Function}
use Rattle.c_model.specs.Values as values
use Rattle.c_model.specs.World.{World}
use Rattle.value_laws.specs.Sizes.{Keeps, ExprFits, Gives, IsPlain, ProgramFits, type_of}
use Rattle.value_laws.specs.Parameters.{parameters, AreTaken, ProgramTakes}
use Rattle.value_laws.specs.Layouts.{laid_out, IsUsual}
use Rattle.program_view.specs.Trees.{expr_of}
use Rattle.program_view.specs.View.{type_by}

-- each node of one: loads, members, stores, branches, arguments and results
abbrev pub LawfulExpressionsFit : Type 0
LawfulExpressionsFit = (p : Program) (f : Signature) (e : Expression) → ExpressionIsLawful p f e → ExprFits (laid_out p.tags) (expr_of e.tree)

-- and one that is returned has the size of its function's result (6.8.6.4p3).
abbrev pub LawfulResultsFit : Type 0
LawfulResultsFit =
    (p : Program) (f : Signature) (e : Expression) → ExpressionIsLawful p f e → e.for_use ≡ returned
    → Keeps (laid_out p.tags (type_of (expr_of e.tree))) (laid_out p.tags f.result)

-- the model's expression of a lawful full expression of a function of this signature
pub record IsOf (p : Program) (f : Signature) (e : Expr) : Type 0 where
  pub expression : Expression
  pub lawful : ExpressionIsLawful p f expression
  pub is : e ≡ expr_of expression.tree

pub record IsReturnedOf (p : Program) (f : Signature) (e : Expr) : Type 0 where
  pub of : IsOf p f e
  pub returns : of.expression.for_use ≡ returned

abbrev pub PerhapsOf : Program → Signature → Option Expr → Type 0
PerhapsOf p f None = Unit {0}
PerhapsOf p f (Some e) = IsOf p f e

abbrev mutual
  -- a statement whose full expressions are such, and what it returns is returned there
  pub IsMadeOf : Program → Signature → Stmt → Type 0
  IsMadeOf p f (Value e) = IsOf p f e
  IsMadeOf p f (Block number decls ss) = AreMadeOf p f ss
  IsMadeOf p f (If e s t) = IsOf p f e × (IsMadeOf p f s × IsMadeOf p f t)
  IsMadeOf p f (If_only e s) = IsOf p f e × IsMadeOf p f s
  IsMadeOf p f (Switch e s) = IsOf p f e × IsMadeOf p f s
  IsMadeOf p f (Do s e) = IsMadeOf p f s × IsOf p f e
  IsMadeOf p f (For start test step s) = PerhapsOf p f start × (PerhapsOf p f test × (PerhapsOf p f step × IsMadeOf p f s))
  IsMadeOf p f (Return e) = IsReturnedOf p f e
  IsMadeOf p f (Label k s) = IsMadeOf p f s
  IsMadeOf p f (Case z s) = IsMadeOf p f s
  IsMadeOf p f (Default s) = IsMadeOf p f s
  IsMadeOf p f s = Unit {0}

  pub AreMadeOf : Program → Signature → Stmts → Type 0
  AreMadeOf p f end = Unit {0}
  AreMadeOf p f (and_then s ss) = IsMadeOf p f s × AreMadeOf p f ss

-- the first objects of a block are those of the parameters, stored to as their types say (6.9.1p10)
abbrev pub ObjectsAre : List Tag → Params → List Decl → Type 0
ObjectsAre tags params [] = Unit {0}
ObjectsAre tags none (d ∷ ds) = Unit {0}
ObjectsAre tags (more constant ty params) (d ∷ ds) = AccessIs tags ty d.access × ObjectsAre tags params ds

abbrev pub BeginsWith : List Tag → Params → Stmt → Type 0
BeginsWith tags params (Block number decls ss) = ObjectsAre tags params decls
BeginsWith tags params s = ⊥

-- a body of a function of this signature, which has no ellipsis
pub record IsBodyOf (p : Program) (f : Signature) (s : Stmt) : Type 0 where
  pub made : IsMadeOf p f s
  pub begins : BeginsWith p.tags f.params s
  pub fixed : f.variadic ≡ false

-- a function of the model, of a signature that gives and takes no arrays
pub record IsFunctionOf (p : Program) (fun : Function) : Type 0 where
  pub signature : Signature
  pub ty : fun.ty ≡ type_by signature
  pub usual : IsUsual (type_by signature)
  pub body : (s : Stmt) → fun.body ≡ Some s → IsBodyOf p signature s

-- the model's program is made of lawful full expressions of the typed one; calls ask for compatible types
pub record IsProgramOf (p : Program) (world : World) : Type 0 where
  pub functions : (number : ℕ) (fun : Function) → slice_get world.program.functions number ≡ Some fun → IsFunctionOf p fun
  pub agree : (f g : Signature) → world.agree (type_by f) (type_by g) ≡ true → Compatible (type_by f) (type_by g)
  pub library : (f : LibFunc) (who : Event) (ts : List CType) (vs : List values.Value) → Gives world.rows IsPlain (world.library f who ts vs)

-- So such a program keeps them.
abbrev pub LawfulProgramsFit : Type 0
LawfulProgramsFit = (p : Program) (world : World) → IsProgramOf p world → ProgramFits (laid_out p.tags) world

-- Its parameters do too, where `main` is called with values of theirs.
abbrev pub LawfulParametersFit : Type 0
LawfulParametersFit =
    (p : Program) (world : World) (vs : List values.Value) → IsProgramOf p world
    → ((fun : Function) → slice_get world.program.functions world.program.main ≡ Some fun → AreTaken (laid_out p.tags) (parameters fun.ty) vs)
    → ProgramTakes (laid_out p.tags) world vs
