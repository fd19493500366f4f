-- The machine of a lawful program before its first pick stands for the state that the definitions of runs start from (5.1.2.2.1).
use Rattle.std.specs.Prelude.{◌≡◌, ℕ, [], List}
use Rattle.addr_map.specs.declared.map.Row.{Row}
use Rattle.ub_base.specs.Frames.{Path}
use Rattle.c_typed.specs.declared.program.Program.{Program}
use Rattle.c_typed.specs.Lawful.{IsLawful}
use Rattle.core_ir.specs.declared.term.Core.{Core}
use Rattle.elaborate.specs.Expressions.{program_trees}
use Rattle.elaborate.specs.Formed.{EachFormed}
use Rattle.mem_objects.specs.Keeps.{RowsStay}
use Rattle.c_model.specs.Program.{Standing}
use Rattle.c_model.specs.World.{Limits}
use Rattle.program_view.specs.View.{main_values, standing_of, world_of}
use Rattle.run_statements.specs.declared.numbers.Numbers.{Numbers}
use Rattle.run_layout.specs.declared.whole.Code.{Code}
use Rattle.run_layout.specs.OfTrees.{AreTermsOf, ListsTrees}
use Rattle.run_layout.specs.Roots.{AreInBlocks}
use Rattle.run_start.specs.Begins.{BeginsAsDefined, StartIsWithin, StartsAs}
use Rattle.run_state.specs.Meaning.{world_with}
use Rattle.run_state.specs.Stands.{HoldsAll}
use Rattle.run_state.specs.declared.machine.Machine.{Machine}
use Rattle.code_view.specs.Laws.{IsCodeOfProgram}
use Rattle.code_view.specs.Numbering.{meaning_of}

-- what `code_of` gives of a program and these terms
pub record IsCodeOfTerms (p : Program) (terms : List Core) (numbers : Numbers) (code : Code) : Type 0 where
  pub code_of : IsCodeOfProgram p numbers code
  pub listed : AreInBlocks p.functions → AreTermsOf p terms → EachFormed (program_trees p) → ListsTrees code

-- What `prepare` gives of a program, these arguments and this input; the first rooms of the machine hold what `main` is given (5.1.2.2.1p2).
pub record IsPrepared (p : Program) (arguments : List (List ℕ)) (input : List ℕ) (m : Machine) : Type 0 where
  pub begins : BeginsAsDefined p arguments input m
  pub given : (os : List Standing) (rows : List Row) (number : Path → ℕ) (limits : Limits) → RowsStay m.memory.rows rows
      → HoldsAll m.memory m.values.items 0 (main_values p (world_with p arguments os rows number limits) arguments)

-- In each world of a lawful program, whose functions are defined by blocks, that has the rows of the machine's memory, gives the first frame the number 0,
-- and whose limits the start keeps: where the code is that of the program and of the terms of its trees, the definitions start from a state that the
-- machine stands for, by the meaning of the numbers of the code.
abbrev pub LawfulStartStands : Type 0
LawfulStartStands = (p : Program) (terms : List Core) (numbers : Numbers) (arguments : List (List ℕ)) (input : List ℕ) (m : Machine)
    (rows : List Row) (number : Path → ℕ) (limits : Limits) → IsLawful p → AreInBlocks p.functions → AreTermsOf p terms
    → IsCodeOfTerms p terms numbers m.image.code.now → IsPrepared p arguments input m → RowsStay m.memory.rows rows → number [] ≡ 0
    → StartIsWithin limits (standing_of p arguments) m
    → StartsAs (world_of p arguments rows number limits) (meaning_of p numbers m.image.code.now) input
    (main_values p (world_of p arguments rows number limits) arguments) m
