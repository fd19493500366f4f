use Rattle.std.proofs.Common.{◌≡◌, ◌++◌, length, map, flat_map, take, drop}
use Rattle.std.specs.List.{All}
use Rattle.c_typed.specs.declared.program.Program.{Program}
use Rattle.run_layout.specs.Functions.{HaveBlocks, HaveExpressions}
use Rattle.run_layout.specs.Fitting.{TreeFits, AreFit}
use Rattle.run_layout.specs.OfTrees.{AreOfTerms}
use Rattle.run_layout.specs.Roots.{roots_in, code_trees}
use Rattle.run_code.specs.Statements.{AreCodeOf}
use Rattle.run_code.proofs.statements.code_of.Given as goal

-- what is laid out so far, and the trees of the functions that are left; its numbers; the code of the functions so far; and the
-- listings are those of the terms; what functions so far have of blocks and full expressions
abbrev pub invariant-loop-function : goal.invariant-loop-function
invariant-loop-function l =
    ((roots_in l.draft.expressions.laid.all.items ++ flat_map code_trees (drop l.function-index l.function-items) ≡ flat_map code_trees l.program.functions)
    × (map (λ root. root.now) l.numbers.roots.items ≡ roots_in l.draft.expressions.laid.all.items)
    × AreCodeOf l.numbers (take l.function-index l.function-items) l.functions.items)
    × AreOfTerms l.terms l.draft.expressions.laid
    × ((p : Program) → All (TreeFits p) (flat_map code_trees l.program.functions) → AreFit p l.draft.expressions.tables)
    × (length l.functions.items ≡ l.function-index)
    × HaveBlocks l.program.tags l.draft.expressions.tables l.program.functions l.functions.items
    × HaveExpressions l.draft.expressions.tables l.draft.expressions.laid l.program.functions l.functions.items
