-- Programs whose structures and unions have as many bytes as their types say, wherever their values go (6.5.16.1p2, 6.5.2.2, 6.8.6.4p3).
use Rattle.std.specs.Prelude.{◌≡◌, ◌≤◌, ℕ, zero, suc, ◌+◌, Bool, true, false, List, length, Option, Some, None, slice_get}
use Rattle.ub_base.specs.declared.names.Event.{Event}
use Rattle.addr_map.specs.declared.map.Row.{Row}
use Rattle.c_types.specs.declared.library.LibFunc.{LibFunc}
use Rattle.c_types.specs.Types.{CType, function, Params}
use Rattle.c_types.specs.Types as types
use Rattle.c_typed.specs.declared.tree.Access.{Access}
use Rattle.c_typed.specs.declared.tree.Access.TheVariants as access
use Rattle.mem_spec.specs.Store.{Store}
use Rattle.mem_spec.specs.Script.{Script, Give, Do, answer}
use Rattle.c_model.specs.Program.{Head, Load, Part, Assign, Cond, Comma, Call, Isolated, Expr, expr, Exprs, none, more, Function}
use Rattle.c_model.specs.Program.{Stmt, Value, Block, If, If_only, Switch, Do as Do_while, For, Return, Label, Case, Default, Stmts, end, and_then}
use Rattle.c_model.specs.Values as values
use Rattle.c_model.specs.Values.{Whole}
use Rattle.c_model.specs.World.{World}
use Rattle.c_model.specs.Steps.{target, first_type}

-- how many bytes a value of each type has; none where no size is known
abbrev pub Sizes : Type 0
Sizes = CType → Option ℕ

abbrev pub HasBytes : ℕ → values.Value → Type 0
HasBytes n (Whole bs source) = length bs ≡ n
HasBytes n v = Unit {0}

-- a value that is a structure or union has so many bytes, where a size is known
abbrev pub HasSize : Option ℕ → values.Value → Type 0
HasSize None v = Unit {0}
HasSize (Some n) v = HasBytes n v

-- what has the first size has the second one
abbrev pub Keeps : Option ℕ → Option ℕ → Type 0
Keeps from None = Unit {0}
Keeps from (Some n) = from ≡ Some n

abbrev pub IsUpTo : ℕ → Option ℕ → Type 0
IsUpTo m None = ⊥
IsUpTo m (Some n) = m ≤ n

abbrev pub type_of : Expr → CType
type_of (expr h ty line es) = ty

-- the size of the operand of this number
abbrev pub size_at : Sizes → Exprs → ℕ → Option ℕ
size_at size none i = None
size_at size (more e es) zero = size (type_of e)
size_at size (more e es) (suc i) = size_at size es i

abbrev pub last_size : Sizes → Exprs → Option ℕ
last_size size none = None
last_size size (more e none) = size (type_of e)
last_size size (more e (more g es)) = last_size size (more g es)

-- of what a function of this type gives
abbrev pub result_size : Sizes → CType → Option ℕ
result_size size (function result params variadic) = size result
result_size size ty = None

-- a load of a whole structure or union reads as many bytes as its value has
abbrev pub LoadFits : Access → Option ℕ → Type 0
LoadFits (access.Whole n align) own = Keeps (Some n) own
LoadFits how own = Unit {0}

-- a member that is one lies in the value that it is read from
abbrev pub PartFits : ℕ → Access → Option ℕ → Option ℕ → Type 0
PartFits offset (access.Whole n align) own value = IsUpTo (offset + n) value × Keeps (Some n) own
PartFits offset how own value = Unit {0}

-- the value that is stored to one has as many bytes as it
abbrev pub StoreFits : Access → Option ℕ → Type 0
StoreFits (access.Whole n align) value = value ≡ Some n
StoreFits how value = Unit {0}

abbrev pub behind_first : Exprs → Exprs
behind_first none = none
behind_first (more e es) = es

-- each argument has the size of its parameter (6.5.2.2p2)
abbrev pub ArePassed : Sizes → Params → Exprs → Type 0
ArePassed size types.none none = Unit {0}
ArePassed size types.none (more e es) = ⊥
ArePassed size (types.more constant ty params) none = Unit {0}
ArePassed size (types.more constant ty params) (more e es) = Keeps (size (type_of e)) (size ty) × ArePassed size params es

-- what a call by a function type passes; an ellipsis takes anything
abbrev pub ArgumentsFit : Sizes → CType → Exprs → Type 0
ArgumentsFit size (function result params false) es = ArePassed size params es
ArgumentsFit size ty es = Unit {0}

-- A node of this type, by the types of its operands. A branch of `?:`, the last operand of a comma and what is assigned give the value of
-- the whole; a cast to `void` adds no node, so a node of type `void` may have operands of any type.
abbrev pub NodeFits : Sizes → Head → CType → Exprs → Type 0
NodeFits size (Load how) ty es = LoadFits how (size ty)
NodeFits size (Part offset how) ty es = PartFits offset how (size ty) (size_at size es 0)
NodeFits size (Assign first how) ty es = StoreFits how (size_at size es 1) × Keeps (size_at size es 1) (size ty)
NodeFits size Cond ty es = Keeps (size_at size es 1) (size ty) × Keeps (size_at size es 2) (size ty)
NodeFits size Comma ty es = Keeps (last_size size es) (size ty)
NodeFits size (Call discarded) ty es =
    Keeps (result_size size (target (first_type es))) (size ty) × ArgumentsFit size (target (first_type es)) (behind_first es)
NodeFits size h ty es = Unit {0}

abbrev mutual
  -- each node of the expression, those of listed initializers too
  pub ExprFits : Sizes → Expr → Type 0
  ExprFits size (expr h ty line es) = NodeFits size h ty es × (InnerFits size h × ExprsFit size es)

  pub ExprsFit : Sizes → Exprs → Type 0
  ExprsFit size none = Unit {0}
  ExprsFit size (more e es) = ExprFits size e × ExprsFit size es

  pub InnerFits : Sizes → Head → Type 0
  InnerFits size (Isolated e) = ExprFits size e
  InnerFits size h = Unit {0}

abbrev pub PerhapsFits : Sizes → Option Expr → Type 0
PerhapsFits size None = Unit {0}
PerhapsFits size (Some e) = ExprFits size e

abbrev mutual
  -- each full expression of a statement, in a function whose result has this size
  pub StatementFits : Sizes → Option ℕ → Stmt → Type 0
  StatementFits size result (Value e) = ExprFits size e
  StatementFits size result (Block number decls ss) = StatementsFit size result ss
  StatementFits size result (If e s t) = ExprFits size e × (StatementFits size result s × StatementFits size result t)
  StatementFits size result (If_only e s) = ExprFits size e × StatementFits size result s
  StatementFits size result (Switch e s) = ExprFits size e × StatementFits size result s
  StatementFits size result (Do_while s e) = StatementFits size result s × ExprFits size e
  StatementFits size result (For start test step s) =
      PerhapsFits size start × (PerhapsFits size test × (PerhapsFits size step × StatementFits size result s))
  StatementFits size result (Return e) = ExprFits size e × Keeps (size (type_of e)) result
  StatementFits size result (Label k s) = StatementFits size result s
  StatementFits size result (Case z s) = StatementFits size result s
  StatementFits size result (Default s) = StatementFits size result s
  StatementFits size result s = Unit {0}

  pub StatementsFit : Sizes → Option ℕ → Stmts → Type 0
  StatementsFit size result end = Unit {0}
  StatementsFit size result (and_then s ss) = StatementFits size result s × StatementsFit size result ss

-- what a script gives is so, whatever stores its touches meet
abbrev pub Gives : {V : Type 0} → List Row → (V → Type 0) → Script V → Type 0
Gives rows Q (Give v) = Q v
Gives rows Q (Do t k) = (s : Store) → Gives rows Q (k (answer rows t s))
Gives rows Q x = Unit {0}

-- no structure or union
abbrev pub IsPlain : values.Value → Type 0
IsPlain (Whole bs source) = ⊥
IsPlain v = Unit {0}

-- the function of this number: its full expressions, and that whatever call takes it for one of its type takes its result for as long as it is
pub record FunctionFits (size : Sizes) (world : World) (number : ℕ) (fun : Function) : Type 0 where
  pub body : (s : Stmt) → fun.body ≡ Some s → StatementFits size (result_size size fun.ty) s
  pub agrees : (result : CType) (params : Params) (variadic : Bool) → world.agree fun.ty (function result params variadic) ≡ true
      → Keeps (result_size size fun.ty) (size result)

-- The program keeps these sizes. No function of the library gives a structure or union (7.1.4).
pub record ProgramFits (size : Sizes) (world : World) : Type 0 where
  pub functions : (number : ℕ) (fun : Function) → slice_get world.program.functions number ≡ Some fun → FunctionFits size world number fun
  pub library : (f : LibFunc) (who : Event) (ts : List CType) (vs : List values.Value) → Gives world.rows IsPlain (world.library f who ts vs)
