use Rattle.std.proofs.Common.{◌-◌, length}
use Rattle.std.specs.Prelude.{slice_get}
use Rattle.c_typed.specs.Tree.{tree_of}
use Rattle.seq_order.specs.Marked.{taken_in}
use Rattle.run_evaluations.specs.First.{expression_in}
use Rattle.run_evaluations.proofs.BelowLemmas.{with_clean}
use Rattle.run_evaluations.proofs.open.Evaluations.found_at.Goals as goal

pub returns-else-branch-clause-first : goal.returns-else-branch-clause-first
returns-else-branch-clause-first c = λ small kept.
    with_clean c.args.under.frames.now c.args.under.map.now
    (expression_in (slice_get c.args.self.now.levels.items (length c.args.self.now.levels.items - 1))) c.args.self.now.events.items c.args.self.now.items.items
    (taken_in c.args.order.taken.now) (tree_of c.args.order.root.now) c.args.self.now.loose.items c.args.at c.args.loose
    (c.in_ok-meets_loose.ensures kept c.if-branch.false)
