-- Calls that pass as many arguments as their function types have parameters (6.5.2.2p2).
use Rattle.c_types.specs.Types.{CType, function, Params}
use Rattle.c_types.specs.Types as types
use Rattle.std.proofs.Common.{false, Option, Some, None}
use Rattle.c_model.specs.Program.{Head, Call, Isolated, Expr, expr, Exprs, none, more}
use Rattle.c_model.specs.Steps.{first_type, target}
use Rattle.value_laws.specs.Sizes.{behind_first}

-- as many arguments as parameters
abbrev pub AreAsMany : Params → Exprs → Type 0
AreAsMany types.none none = Unit {0}
AreAsMany (types.more constant ty params) (more e es) = AreAsMany params es
AreAsMany _ _ = ⊥

-- a call by this type passes so many, where it has no ellipsis
abbrev pub CallCounts : CType → Exprs → Type 0
CallCounts (function result params false) es = AreAsMany params es
CallCounts ty es = Unit {0}

abbrev pub HeadCounts : Head → Exprs → Type 0
HeadCounts (Call discarded) es = CallCounts (target (first_type es)) (behind_first es)
HeadCounts h es = Unit {0}

abbrev mutual
  -- so does each call in the expression, those of listed initializers too
  pub ExprCounts : Expr → Type 0
  ExprCounts (expr h ty line es) = HeadCounts h es × (InnerCounts h × ExprsCount es)

  pub ExprsCount : Exprs → Type 0
  ExprsCount none = Unit {0}
  ExprsCount (more e es) = ExprCounts e × ExprsCount es

  pub InnerCounts : Head → Type 0
  InnerCounts (Isolated e) = ExprCounts e
  InnerCounts h = Unit {0}

abbrev pub CountsIf : Option Expr → Type 0
CountsIf None = Unit {0}
CountsIf (Some e) = ExprCounts e
