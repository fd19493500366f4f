-- The numbers in the code of a lawful program stand for what is in the program.
use Rattle.std.specs.Prelude.{◌≡◌, ℕ, flat_map, Option, Some, slice_get}
use Rattle.std.specs.List.{All}
use Rattle.c_typed.specs.declared.program.Program.{Program}
use Rattle.c_typed.specs.Lawful.{IsLawful, ContentIsLawful}
use Rattle.elaborate.specs.Expressions.{program_trees}
use Rattle.elaborate.specs.Formed.{EachFormed}
use Rattle.c_model.specs.World.{World}
use Rattle.c_model.specs.Steps.{body_of}
use Rattle.program_view.specs.Trees.{expr_of}
use Rattle.run_control.specs.View.{stmt_of}
use Rattle.run_control.specs.Targets.{AllEqual, bodies}
use Rattle.run_statements.specs.declared.numbers.Numbers.{Numbers}
use Rattle.run_layout.specs.declared.steps.Expression.{Expression as Laid}
use Rattle.run_layout.specs.declared.steps.FunctionCode.{FunctionCode}
use Rattle.run_layout.specs.declared.whole.Code.{Code}
use Rattle.run_layout.specs.Fitting.{TreeFits, AreFit}
use Rattle.run_layout.specs.Roots.{code_trees}
use Rattle.run_code.specs.Statements.{IsNumberedBy}
use Rattle.run_state.specs.Meaning.{StandsProgram, StandsCode}
use Rattle.code_view.specs.Numbering.{meaning_of}

-- what `code_of` gives of a program, its numbers being these
pub record IsCodeOfProgram (p : Program) (numbers : Numbers) (code : Code) : Type 0 where
  pub numbered : IsNumberedBy numbers p.functions code
  pub fit : All (TreeFits p) (flat_map code_trees p.functions) → AreFit p code.tables

-- the number of a full expression stands for the expression of its tree
abbrev pub RootsStand : Type 0
RootsStand = (p : Program) (numbers : Numbers) (code : Code) (f : Option ℕ) (n : ℕ) (e : Laid) → slice_get code.expressions.items n ≡ Some e
    → (meaning_of p numbers code f).root n ≡ expr_of e.root.now

-- the body of each function that has code is that of the world's function
abbrev pub BodiesStand : Type 0
BodiesStand = (p : Program) (numbers : Numbers) (code : Code) (world : World) → IsLawful p → IsNumberedBy numbers p.functions code
    → StandsProgram world p → (n : ℕ) (c : FunctionCode) → slice_get code.functions.items n ≡ Some (Some c)
    → body_of world (Some n) ≡ Some (stmt_of (meaning_of p numbers code (Some n)) c.body)

-- and the number of each `switch` in it stands for the body that is there
abbrev pub SwitchesStand : Type 0
SwitchesStand = (p : Program) (numbers : Numbers) (code : Code) → IsNumberedBy numbers p.functions code → (n : ℕ) (c : FunctionCode)
    → slice_get code.functions.items n ≡ Some (Some c) → AllEqual (bodies (meaning_of p numbers code (Some n)) c.body)

-- each node of the full expressions of a lawful program stores a pointer by its own type, and fills objects with lawful constants
abbrev pub TreesFit : Type 0
TreesFit = (p : Program) → IsLawful p → All (TreeFits p) (flat_map code_trees p.functions)

-- the nodes of the full expressions of a lawful program have the operands that their operators take
abbrev pub TreesAreFormed : Type 0
TreesAreFormed = (p : Program) → IsLawful p → EachFormed (program_trees p)

-- the constants of the code's table are lawful (6.7.9)
abbrev pub ConstantsAreLawful : Type 0
ConstantsAreLawful = (p : Program) (numbers : Numbers) (code : Code) → IsLawful p → IsCodeOfProgram p numbers code
    → All (λ cs. All (λ c. ContentIsLawful p c.content) cs.now) code.tables.constants.items

-- all together, in each world of the program
abbrev pub LawfulCodeStands : Type 0
LawfulCodeStands = (p : Program) (numbers : Numbers) (code : Code) (world : World) → IsLawful p → IsCodeOfProgram p numbers code
    → StandsProgram world p → StandsCode world p code (meaning_of p numbers code)
