use Rattle.std.proofs.Common.{refl}
use Rattle.run_evaluations.proofs.WholeLemmas.{kept_open}
use Rattle.evaluation_log.proofs.WholeLemmas.{whole_moved, whole_taken}
use Rattle.run_evaluations.proofs.LooseWholeLemmas.{right_open, right_taken}
use Rattle.run_evaluations.proofs.open.Evaluations.keep_body.Goals as goal

pub returns-clause-kept : goal.returns-clause-kept
returns-clause-kept c = λ w.
    let t = c.take_body-body.ensures in
    let a = c.args.self.now in
    let b = c.take_body-body.new.self in
    kept_open b c.absorb.new.self c.absorb.ensures.same
    (whole_moved a.segments.items b.segments.items b.events.items b.events.items a.items.items b.items.items a.large.items b.large.items a.levels.items
    b.levels.items
    t.segments refl t.items t.larges t.levels
    (whole_taken a.segments.items a.events.items a.items.items a.large.items a.levels.items w b.events.items t.count t.spans t.bodies t.large))

pub returns-clause-loose : goal.returns-clause-loose
returns-clause-loose c = λ r.
    let t = c.take_body-body.ensures in
    let b = c.take_body-body.new.self in
    right_open b c.absorb.new.self c.absorb.ensures.same
    (right_taken c.args.self.now b t.segments t.items t.loose t.levels t.count t.spans t.bodies r)
