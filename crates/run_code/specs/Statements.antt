-- The statements of a program, in which numbers stand for the full expressions that are laid out.
use Rattle.std.specs.Prelude.{◌≡◌, List, [], ◌∷◌, map, Option, Some, None}
use Rattle.c_typed.specs.declared.statement.Block.{Block}
use Rattle.c_typed.specs.declared.statement.Body.TheVariants as body
use Rattle.c_typed.specs.declared.program.Function.{Function}
use Rattle.run_statements.specs.declared.numbers.Numbers.{Numbers}
use Rattle.run_statements.specs.Bodies.{IsStatement}
use Rattle.run_layout.specs.declared.whole.Code.{Code}
use Rattle.run_layout.specs.declared.steps.FunctionCode.{FunctionCode}
use Rattle.run_layout.specs.Roots.{roots_in, block_in}

-- a function has code where it is defined, and its statements are then those of its block
abbrev pub IsCodeOf : Numbers → Option Block → Option FunctionCode → Type 0
IsCodeOf numbers None None = Unit {0}
IsCodeOf numbers None (Some c) = ⊥
IsCodeOf numbers (Some b) None = ⊥
IsCodeOf numbers (Some b) (Some c) = IsStatement numbers (body.Block b) c.body

abbrev pub AreCodeOf : Numbers → List Function → List (Option FunctionCode) → Type 0
AreCodeOf numbers [] [] = Unit {0}
AreCodeOf numbers (f ∷ fs) (c ∷ cs) = IsCodeOf numbers (block_in f.body) c × AreCodeOf numbers fs cs
AreCodeOf numbers [] (c ∷ cs) = ⊥
AreCodeOf numbers (f ∷ fs) [] = ⊥

-- numbers stand for the full expressions that are laid out, and the statements are those of the functions
abbrev pub IsNumberedBy : Numbers → List Function → Code → Type 0
IsNumberedBy numbers fs code = (map (λ root. root.now) numbers.roots.items ≡ roots_in code.expressions.items) × AreCodeOf numbers fs code.functions.items
