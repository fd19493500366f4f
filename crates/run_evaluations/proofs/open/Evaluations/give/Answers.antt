use Rattle.std.proofs.Common.{ap, sym, ◌∙◌, length, subst, suc, ◌<◌}
use Rattle.std.specs.Prelude.{slice_get}
use Rattle.footprint.specs.Holds.{holds}
use Rattle.evaluation_log.specs.Kept.{marks, span_of}
use Rattle.evaluation_log.specs.Loose.{loose_start_of}
use Rattle.evaluation_log.specs.Ways.{node_of}
use Rattle.run_evaluations.specs.Scopes.{place_of}
use Rattle.run_evaluations.proofs.GiveLemmas.{follow_given}
use Rattle.run_evaluations.proofs.WholeLemmas.{kept_given}
use Rattle.run_evaluations.proofs.LooseWholeLemmas.{right_given}
use Rattle.run_evaluations.proofs.open.Evaluations.give.Goals as goal

pub returns-clause-kept : goal.returns-clause-kept
returns-clause-kept c = λ w.
    let l = c.list_last.ensures in
    let o = c.open_top.ensures in
    let p = c.put_body.ensures in
    kept_given c.args.self.now c.list_last.new.self c.open_top.new.self c.put_body.new.self c.is_listed-large.result c.is_listed-large.ensures
    l.segments l.events l.items l.levels l.no c.in_ok-list_last.ensures.yes o.rest o.count o.alike o.others o.harm o.foot
    p.segments p.items p.larges p.levels p.count p.spans p.others c.in_ok-put_body.ensures.large w

pub returns-clause-loose : goal.returns-clause-loose
returns-clause-loose c = λ w r.
    let l = c.list_last.ensures in
    let o = c.open_top.ensures in
    let p = c.put_body.ensures in
    right_given c.args.self.now c.list_last.new.self c.open_top.new.self c.put_body.new.self l.segments l.events l.items l.loose l.levels o.rest o.loose
    o.count o.alike o.lows o.others o.below p.segments p.items p.loose p.levels p.count p.others w r

pub returns-clause-follows : goal.returns-clause-follows
returns-clause-follows c = λ t ts f started.
    let a = c.args.self.now in
    let d = c.put_body.new.self in
    let l = c.list_last.ensures in
    let o = c.open_top.ensures in
    let p = c.put_body.ensures in
    let e = o.rest.events ∙ l.events in
    follow_given a d t ts f started (holds c.args.foot) (p.levels ∙ o.rest.levels ∙ l.levels) (p.items ∙ o.rest.items ∙ l.items) (p.loose ∙ o.loose ∙ l.loose)
    (λ g. ap (λ xs. node_of (slice_get xs g)) p.segments ∙ o.nodes g ∙ ap (λ xs. node_of (slice_get xs g)) l.segments)
    (λ g. ap (λ xs. marks (slice_get xs g)) p.segments ∙ o.alike g ∙ ap (λ xs. marks (slice_get xs g)) l.segments)
    (λ g. ap (λ xs. loose_start_of (slice_get xs g)) p.segments ∙ o.lows g ∙ ap (λ xs. loose_start_of (slice_get xs g)) l.segments)
    (p.count ∙ ap length e)
    (λ k. p.spans k ∙ ap (λ es. span_of (slice_get es k)) e)
    (λ k less. p.others k (subst (λ es. suc k < length es) (sym e) less) ∙ ap (λ es. slice_get es k) e)
    (λ k. p.places k ∙ ap (λ es. place_of (slice_get es k)) e)
    (λ k j n. c.in_ok-put_body.ensures.has k j (n ∙ sym (ap length e)))
    (returns-clause-kept c f.holds.kept) (returns-clause-loose c f.holds.kept f.holds.loose)
