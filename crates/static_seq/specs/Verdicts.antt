-- What is said of each full expression of a program (own).
use Rattle.std.specs.Prelude.{ℕ, ◌^◌, ◌<◌, List, [], ◌∷◌, ◌++◌}
use Rattle.std.specs.List.{All}
use Rattle.c_typed.specs.declared.tree.Typed.{Typed, out-Typed}
use Rattle.c_typed.specs.declared.program.Function.{Function}
use Rattle.c_typed.specs.declared.program.Program.{Program}
use Rattle.c_typed.specs.Tree.{tree_of, size}
use Rattle.static_seq.specs.declared.verdicts.Verdict.{Verdict}
use Rattle.static_seq.specs.Accesses.{next}
use Rattle.elaborate.specs.Expressions.{function_trees}
use Rattle.static_seq.specs.Parted.{unparted}

abbrev pub verdict_of : Program → ℕ → ℕ → Typed → Verdict
verdict_of p function expression root = record {
  function = function;
  expression = expression;
  line = (out-Typed root).line;
  unparted = unparted p function root;
}

-- of the full expressions of a function with numbers from x on
abbrev pub verdicts_from : Program → ℕ → ℕ → List Typed → List Verdict
verdicts_from p function x [] = []
verdicts_from p function x (t ∷ ts) = verdict_of p function x t ∷ verdicts_from p function (next x) ts

-- of functions with numbers from f on
abbrev pub verdicts_of : Program → ℕ → List Function → List Verdict
verdicts_of p f [] = []
verdicts_of p f (g ∷ gs) = verdicts_from p f 0 (function_trees g) ++ verdicts_of p (next f) gs

-- one verdict for each full expression, by function and number
abbrev pub verdicts : Program → List Verdict
verdicts p = verdicts_of p 0 p.functions

-- so that a u32 numbers the nodes of each full expression
abbrev pub Counts : Typed → Type 0
Counts t = size (tree_of t) < 2 ^ 32

abbrev pub FunctionCounts : Function → Type 0
FunctionCounts f = All Counts (function_trees f)

abbrev pub ProgramCounts : Program → Type 0
ProgramCounts p = All FunctionCounts p.functions
