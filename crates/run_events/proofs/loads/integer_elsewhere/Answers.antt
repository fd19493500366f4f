use Rattle.c_typed.specs.declared.tree.Access.TheVariants as access
use Rattle.run_layout.specs.declared.steps.Act.TheVariants as act
use Rattle.run_events.proofs.loads.integer_elsewhere.Goals as goal

pub returns-clause-changes : goal.returns-clause-changes
returns-clause-changes c = c.integer_at.ensures.changes (act.Load (access.Integer c.args.kind) c.args.ty c.args.place.now)
