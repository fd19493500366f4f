use Rattle.std.proofs.Common.{ap, ◌∙◌}
use Rattle.elaborate.specs.Expressions.{program_trees}
use Rattle.elaborate.specs.Roots.{trees_at}
use Rattle.footprint_run.proofs.Stand.{seen_in}
use Rattle.footprint_run.proofs.audit.audit_run.Goals as goal

pub returns-clause-apart : goal.returns-clause-apart
returns-clause-apart g c =
    let trees = program_trees c.args.p.now.program.now in
    c.finding_of.ensures.apart trees
    (seen_in _ trees c.into_parts-calls.result.1
    (c.in_ok-state.ensures.trees ∙ (ap trees_at c.in_ok-watcher.ensures.roots ∙ (ap trees_at c.as_slice.ensures.value ∙ c.in_ok-roots.ensures)))
    c.into_parts-calls.ensures.apart)
