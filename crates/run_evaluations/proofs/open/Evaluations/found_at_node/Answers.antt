use Rattle.run_evaluations.proofs.GiveLemmas.{under_none}
use Rattle.std.proofs.Common.{sym, ◌∙◌}
use Rattle.evaluation_log.proofs.LooseLemmas.{first_none, none_at}
use Rattle.run_evaluations.proofs.open.Evaluations.found_at_node.Goals as goal

pub returns-clause-none : goal.returns-clause-none
returns-clause-none c = λ w e.
    let r = first_none _ c.args.best c.in_ok-found.found (sym c.first_of.ensures.first ∙ e) in
    (r.0, λ free. none_at _ c.in_ok-found.found r.1 (c.in_ok-found.ensures.none w free))

pub returns-in_err-found-clause-under : goal.returns-in_err-found-clause-under
returns-in_err-found-clause-under c = λ w r. under_none c.args.self.now

pub returns-clause-first : goal.returns-clause-first
returns-clause-first c = λ w order. (c.in_ok-found.found, c.first_of.ensures.first, c.in_ok-found.ensures.first w order)
