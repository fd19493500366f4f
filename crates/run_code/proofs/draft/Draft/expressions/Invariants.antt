use Rattle.std.proofs.Common.{◌≡◌, ◌++◌, map, drop, take}
use Rattle.std.specs.List.{All}
use Rattle.c_typed.specs.declared.program.Program.{Program}
use Rattle.run_layout.specs.EventActs.{AreGrown}
use Rattle.run_layout.specs.Fitting.{TreeFits, AreFit}
use Rattle.run_layout.specs.Functions.{AddsExpressions}
use Rattle.run_layout.specs.OfTrees.{AreOfTerms}
use Rattle.run_layout.specs.Roots.{roots_in}
use Rattle.run_code.proofs.draft.Draft.expressions.Given as goal

-- what is laid out so far, and the trees that are left; the listings are those of the terms, where they were
abbrev pub invariant-loop-root : goal.invariant-loop-root
invariant-loop-root l =
    (roots_in l.self.expressions.laid.all.items ++ map (λ root. root.now) (drop l.root-index l.rest)
    ≡ roots_in l.fn.self.expressions.laid.all.items ++ map (λ root. root.now) l.rest)
    × (AreOfTerms l.terms l.fn.self.expressions.laid → AreOfTerms l.terms l.self.expressions.laid)
    × ((p : Program) → All (TreeFits p) (map (λ root. root.now) l.rest) → AreFit p l.fn.self.expressions.tables → AreFit p l.self.expressions.tables)
    × AreGrown l.fn.self.expressions.tables l.self.expressions.tables
    × (l.self.function.objects.first.items ≡ l.fn.self.function.objects.first.items)
    × AddsExpressions l.fn.self.function.objects.first.items (map (λ root. root.now) (take l.root-index l.rest)) l.self.expressions.tables
    l.fn.self.expressions.laid l.self.expressions.laid
