use Rattle.std.proofs.Common.{subst}
use Rattle.audit_looks.proofs.Swaps.{program_swap}
use Rattle.elaborate.specs.Expressions.{program_trees}
use Rattle.footprint_run.specs.Apart.{StandsApart}
use Rattle.audit_looks.proofs.swap.quarrel_page.Goals as goal

pub returns-in-Some : goal.returns-in-Some
returns-in-Some c =
    program_swap c.args.program.now c.in_ok-audit.audit.frames c.in-Some.quarrel.event c.in-Some.quarrel.against c.both_orders.result
    (c.in-Some.ensures (program_trees c.args.program.now)
    (subst (λ p. StandsApart (program_trees p) c.in_ok-audit.audit.finding) c.in_ok-core.ensures.program c.in_ok-audit.ensures.apart))
    c.both_orders.ensures
