use Rattle.run_evaluations.proofs.GiveLemmas.{follow_popped}
use Rattle.std.proofs.Common.{refl, arith}
use Rattle.evaluation_log.proofs.WholeLemmas.{whole_popped, whole_moved}
use Rattle.evaluation_log.proofs.LooseWholeLemmas.{right_moved, right_popped}
use Rattle.run_evaluations.proofs.open.Evaluations.pop_level.Goals as goal

pub returns-clause-kept : goal.returns-clause-kept
returns-clause-kept c = λ w.
    let a = c.args.self.now in
    whole_moved a.segments.items a.segments.items a.events.items a.events.items a.items.items a.items.items a.large.items a.large.items _ _
    refl refl refl refl c.pop.ensures.rest
    (whole_popped a.segments.items a.events.items a.items.items a.large.items a.levels.items w _)

pub returns-clause-loose : goal.returns-clause-loose
returns-clause-loose c = λ r.
    let a = c.args.self.now in
    right_moved a.segments.items a.segments.items a.events.items a.events.items a.items.items a.items.items a.loose.items a.loose.items _ _
    refl refl refl refl c.pop.ensures.rest
    (right_popped a.segments.items a.events.items a.items.items a.loose.items a.levels.items r _)

pub returns-clause-follows : goal.returns-clause-follows
returns-clause-follows c = λ t ts f.
    follow_popped c.args.self.now (record c.args.self.now { levels = c.pop.new.self }) t ts f _ (omega (arith, c.args.self.now.levels.ok.0)) refl refl refl refl
    c.pop.ensures.rest (returns-clause-kept c f.holds.kept)
    (returns-clause-loose c f.holds.loose)
