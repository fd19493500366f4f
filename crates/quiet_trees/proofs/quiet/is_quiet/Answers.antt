use Rattle.std.proofs.Common.{sym, ap, ◌∙◌}
use Rattle.c_typed.specs.Tree.{tree_of}
use Rattle.ub_base.proofs.Tests.{not_true}
use Rattle.quiet_trees.specs.Loads.{loads_of}
use Rattle.quiet_trees.specs.declared.summary.Summary.{Summary}
use Rattle.quiet_trees.proofs.Apart.{quiet_if}
use Rattle.quiet_trees.proofs.quiet.is_quiet.Goals as goal

pub returns-clause-quiet : goal.returns-clause-quiet
returns-clause-quiet c h = quiet_if (tree_of c.args.root.now) (loads_of c.args.root.now)
    (ap (λ (s : Summary). s.clash) (sym c.summarize.ensures) ∙ not_true c.summarize.result.clash h)
