-- The labels that are kept of the bodies in the code, and the functions of which they are kept.
use Rattle.std.specs.Prelude.{◌≡◌, ℕ, List, Option, Some, slice_get}
use Rattle.std.specs.Borrow.{Bor}
use Rattle.c_typed.specs.declared.program.Program.{Program}
use Rattle.c_model.specs.Program.{Stmt}
use Rattle.c_model.specs.Steps.{body_of}
use Rattle.c_model.specs.World.{World}
use Rattle.run_control.specs.declared.statement.Statement.{Statement}
use Rattle.run_statements.specs.declared.jumps.Jumps.{Jumps}
use Rattle.run_statements.specs.Jumping.{HasJumps}
use Rattle.run_layout.specs.declared.steps.FunctionCode.{FunctionCode}
use Rattle.run_layout.specs.declared.whole.Code.{Code}
use Rattle.run_layout.specs.Roots.{HaveCode}
use Rattle.run_start.specs.Begins.{KeepsLabels}
use Rattle.run_state.specs.Meaning.{StandsProgram}

-- this function has code, and the labels that are kept of it are those of its body there
pub record KeepsLabelsOf (code : Code) (jumps : Jumps) (n : ℕ) : Type 0 where
  pub function : FunctionCode
  pub bodies : List (Option (Bor Statement))
  pub body : Bor Statement
  pub at : slice_get code.functions.items n ≡ Some (Some function)
  pub labels : HasJumps jumps bodies
  pub there : slice_get bodies n ≡ Some (Some body)
  pub same : body.now ≡ function.body

-- So it is of each function that has a body in the world of the program, where each function that is defined by a block has its code, and labels are kept
-- of the bodies in the code, as `code_of` and `prepare` give them (6.8.6.1, 6.9.1p1).
abbrev pub DefinedKeepLabels : Type 0
DefinedKeepLabels = (p : Program) (code : Code) (jumps : Jumps) (world : World) (n : ℕ) (s : Stmt) → HaveCode p.functions code → KeepsLabels code jumps
    → StandsProgram world p → body_of world (Some n) ≡ Some s → KeepsLabelsOf code jumps n
