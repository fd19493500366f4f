-- What is kept of where jumps go is that of the bodies in the code (6.8.6.1, 6.8.4.2).
use Rattle.std.specs.Prelude.{◌≡◌, ℕ, List, Option, Some, None, slice_get}
use Rattle.std.specs.Borrow.{Bor}
use Rattle.run_control.specs.declared.statement.Statement.{Statement}
use Rattle.run_control.specs.declared.work.Use.{Use}
use Rattle.run_control.specs.declared.work.Use.TheVariants as for_use
use Rattle.run_statements.specs.declared.jumps.Jumps.{Jumps}
use Rattle.run_statements.specs.Jumping.{HasJumps}
use Rattle.run_layout.specs.declared.steps.FunctionCode.{FunctionCode}
use Rattle.run_layout.specs.declared.whole.Code.{Code}

-- `goto`: the labels that are kept for the function of the frame are those of its body in the code
pub record HasLabelsOf (code : Code) (jumps : Jumps) (n : ℕ) : Type 0 where
  pub function : FunctionCode
  pub bodies : List (Option (Bor Statement))
  pub body : Bor Statement
  pub at : slice_get code.functions.items n ≡ Some (Some function)
  pub labels : HasJumps jumps bodies
  pub there : slice_get bodies n ≡ Some (Some body)
  pub same : body.now ≡ function.body

abbrev pub HasLabels : Code → Jumps → Option ℕ → Type 0
HasLabels code jumps None = ⊥
HasLabels code jumps (Some n) = HasLabelsOf code jumps n

-- the test of a `switch`: so are its cases; the value of an isolated initializer is no test
abbrev pub HasCases : Code → Jumps → Option ℕ → Use → Type 0
HasCases code jumps (Some n) (for_use.Select b) = HasLabelsOf code jumps n
HasCases code jumps function how = Unit {0}
