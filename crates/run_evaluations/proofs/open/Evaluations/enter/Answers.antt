use Rattle.run_evaluations.proofs.FrameLemmas.{follow_entered}
use Rattle.std.proofs.Common.{refl, ◌∙◌}
use Rattle.evaluation_log.proofs.WholeLemmas.{whole_enter, whole_moved}
use Rattle.evaluation_log.proofs.LooseWholeLemmas.{right_moved, right_enter}
use Rattle.run_evaluations.proofs.open.Evaluations.enter.Goals as goal

pub returns-clause-kept : goal.returns-clause-kept
returns-clause-kept c = λ w.
    let a = c.args.self.now in
    whole_moved a.segments.items a.segments.items a.events.items a.events.items a.items.items a.items.items a.large.items a.large.items
    _ c.push.new.self.items refl refl refl refl c.in_ok-push.ensures.items
    (whole_enter a.segments.items a.events.items a.items.items a.large.items a.levels.items w _
    (c.len-3.ensures ∙ a.segments.ok.0, c.len.ensures ∙ a.events.ok.0, c.len-2.ensures ∙ a.items.ok.0, c.len-5.ensures ∙ a.large.ok.0))

pub returns-clause-loose : goal.returns-clause-loose
returns-clause-loose c = λ r.
    let a = c.args.self.now in
    right_moved a.segments.items a.segments.items a.events.items a.events.items a.items.items a.items.items a.loose.items a.loose.items
    _ c.push.new.self.items refl refl refl refl c.in_ok-push.ensures.items
    (right_enter a.segments.items a.events.items a.items.items a.loose.items a.levels.items r _ (c.len-3.ensures ∙ a.segments.ok.0)
    (c.len-4.ensures ∙ a.loose.ok.0))

pub returns-clause-follows : goal.returns-clause-follows
returns-clause-follows c = λ os f.
    let a = c.args.self.now in
    follow_entered a (record a { levels = c.push.new.self }) _ refl refl refl refl c.in_ok-push.ensures.items (c.len-3.ensures ∙ a.segments.ok.0)
    (c.len.ensures ∙ a.events.ok.0)
    c.args.frame os refl refl (returns-clause-kept c f.holds.kept) (returns-clause-loose c f.holds.loose) f
