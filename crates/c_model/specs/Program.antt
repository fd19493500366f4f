-- A program as the model sees it: plain trees of expressions and statements.
use Rattle.std.specs.Prelude.{ℕ, Bool, List, Option, Some, None, ℤ}
use Rattle.ub_base.specs.declared.names.ObjName.{ObjName}
use Rattle.c_types.specs.declared.kind.IntKind.{IntKind}
use Rattle.c_types.specs.declared.kind.BinOp.{BinOp}
use Rattle.c_types.specs.declared.library.LibFunc.{LibFunc}
use Rattle.c_types.specs.Types.{CType}
use Rattle.c_types.specs.Shapes.{Form}
use Rattle.c_typed.specs.declared.tree.Access.{Access}
use Rattle.c_typed.specs.declared.tree.Slot.{Slot}
use Rattle.c_typed.specs.declared.tree.Conversion.{Conversion}
use Rattle.c_typed.specs.declared.tree.UnOp.{UnOp}
use Rattle.c_typed.specs.declared.tree.RelOp.{RelOp}
use Rattle.c_typed.specs.declared.tree.EqOp.{EqOp}
use Rattle.c_typed.specs.declared.tree.Change.{Change}
use Rattle.c_typed.specs.declared.class.Class.{Class}
use Rattle.c_typed.specs.declared.class.Class.TheVariants as class
use Rattle.c_typed.specs.Tree as order
use Rattle.c_typed.specs.Tree.{Tree, Trees, first_class, member_class, conversion_class}

-- what an initialization puts at a place of an object: zeros, bytes, the address of an object or a function (6.6p9, 6.7.9), or the null
-- pointer behind the arguments of `main` (5.1.2.2.1p2)
pub data Content : Type 0 where
  Zeros : ℕ → Content
  Bytes : List ℕ → Content
  Object_at : ObjName → (offset : ℕ) → Content
  Function_at : (function : ℕ) → Content
  No_object : Content

pub record Filling : Type 0 where
  pub offset : ℕ
  pub content : Content

mutual
  -- a node with the values that it holds
  pub data Head : Type 0 where
    Number : ℤ → Head
    Null : Head
    Obj : Slot → Head
    Func : (function : ℕ) → Head
    Str : (literal : ℕ) → Head
    Load : Access → Head
    Conv : Conversion → Head
    Un : UnOp → Head
    Bin : BinOp → IntKind → Head
    PtrAdd : (size : ℕ) (subtract : Bool) → Head
    PtrDiff : (size : ℕ) → Head
    Rel : RelOp → (pointers : Bool) → Head
    Eq : EqOp → Head
    Member : (offset : ℕ) → Head
    Part : (offset : ℕ) → Access → Head
    Assign : (first : Bool) → Access → Head
    Update : Change → (old : Bool) → Head
    And : Head
    Or : Head
    Cond : Head
    Comma : Head
    Call : (discarded : Bool) → Head
    Listed : Slot → List Filling → Head
    Isolated : Expr → Head

  -- an expression, with the type of the value that it gives, and the line of its first token
  pub data Expr : Type 0 where
    expr : Head → (ty : CType) → (line : ℕ) → Exprs → Expr

  pub data Exprs : Type 0 where
    none : Exprs
    more : Expr → Exprs → Exprs

abbrev pub head_class : Head → Trees → Class
head_class (Number z) ts = class.Constant
head_class Null ts = class.Constant
head_class (Obj slot) ts = class.Object
head_class (Func k) ts = class.Constant
head_class (Str k) ts = class.Constant
head_class (Conv c) ts = conversion_class c (first_class ts)
head_class (Member offset) ts = member_class (first_class ts)
head_class (Assign first access) ts = class.Store
head_class (Update change old) ts = class.Update
head_class And ts = class.Choice
head_class Or ts = class.Choice
head_class Cond ts = class.Choice
head_class Comma ts = class.Comma
head_class (Call discarded) ts = class.Call
head_class (Listed slot fillings) ts = class.Store
head_class (Isolated e) ts = class.Isolated
head_class _ ts = class.Plain

abbrev mutual
  -- the tree that orders the events of an expression
  pub tree_of : Expr → Tree
  tree_of (expr h ty line es) = order.node (head_class h (trees_of es)) (trees_of es)

  pub trees_of : Exprs → Trees
  trees_of none = order.none
  trees_of (more e es) = order.more (tree_of e) (trees_of es)

-- an object: its extent, how it is stored to whole, and what 6.5p7 knows of it
pub record Decl : Type 0 where
  pub size : ℕ
  pub align : ℕ
  pub constant : Bool
  pub form : Option Form
  pub access : Access
  pub ty : CType

mutual
  -- a statement (6.8), with its full expressions
  pub data Stmt : Type 0 where
    Value : Expr → Stmt
    Empty : Stmt
    Declare : (decl : ℕ) → Stmt
    Block : (number : ℕ) (decls : List Decl) → Stmts → Stmt
    If : Expr → Stmt → Stmt → Stmt
    If_only : Expr → Stmt → Stmt
    Switch : Expr → Stmt → Stmt
    Do : Stmt → Expr → Stmt
    For : (start test step : Option Expr) → Stmt → Stmt
    Goto : (label : ℕ) → Stmt
    Continue : Stmt
    Break : Stmt
    Return : Expr → Stmt
    Return_none : Stmt
    Label : (label : ℕ) → Stmt → Stmt
    Case : ℤ → Stmt → Stmt
    Default : Stmt → Stmt

  pub data Stmts : Type 0 where
    end : Stmts
    and_then : Stmt → Stmts → Stmts

-- `while` is `for` with a test alone (6.8.5.1, 6.8.5.3)
abbrev pub While : Expr → Stmt → Stmt
While e s = For None (Some e) None s

pub record Function : Type 0 where
  pub ty : CType
  pub void : Bool  -- it gives no value (6.9.1)
  pub library : Option LibFunc
  pub body : Option Stmt

-- an object that stands before the first pick, with what fills it: with static storage, a literal, or an argument of `main`
pub record Standing : Type 0 where
  pub name : ObjName
  pub decl : Decl
  pub literal : Bool
  pub fillings : List Filling

pub record Program : Type 0 where
  pub functions : List Function
  pub main : ℕ
  pub standing : List Standing
