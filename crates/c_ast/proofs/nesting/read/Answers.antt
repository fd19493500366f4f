use Rattle.std.proofs.Common.{sym}
use Rattle.c_ast.proofs.Counts.{advance, never, step_grows}
use Rattle.c_ast.proofs.nesting.read.Goals as goal

pub unreachable-requires : goal.unreachable-requires
unreachable-requires c = never c.args.tokens.now.list c.args.at c.requires.there (sym c.in-None.ensures)

pub returns-clause-grows : goal.returns-clause-grows
returns-clause-grows c =
    rw (c.in_ok-step-in-Some.ensures) (step_grows c.kind-in-Some.result c.in-Some.kind c.args.nesting.now)

pub returns-clause-same : goal.returns-clause-same
returns-clause-same c =
    rw (c.in_ok-step-in-Some.ensures)
    (rw (c.kind-in-Some.ensures) (advance c.args.tokens.now.list c.args.at c.args.nesting.now c.in-Some.kind (sym c.in-Some.ensures)))
