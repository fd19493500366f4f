use Rattle.std.proofs.Common.{ap, sym, subst, ◌∙◌, arith}
use Rattle.std.specs.Prelude.{slice_get}
use Rattle.evaluation_log.specs.Loose.{Thins, loose_of, loose_start_of}
use Rattle.run_evaluations.proofs.FullLemmas.{full_join}
use Rattle.run_evaluations.proofs.LooseWholeLemmas.{right_join}
use Rattle.evaluation_log.proofs.LooseWholeLemmas.{some_at}
use Rattle.run_evaluations.proofs.open.Evaluations.join.Goals as goal

pub returns-clause-loose : goal.returns-clause-loose
returns-clause-loose c = λ sorted below r.
    let k = c.keep_loose.ensures in
    let l = c.left_loose_foot-loose_foot.ensures in
    let p = c.put_joined.ensures in
    right_join c.args.self.now c.keep_loose.new.self c.left_loose_foot-loose_foot.new.self c.put_joined.new.self c.args.at
    c.left_loose_foot-loose_foot.result (omega (arith, c.requires, c.args.self.now.segments.ok.0)) (ap (λ v. v.items) k.segments) k.rest k.thins
    l.rest l.loose l.like l.lows l.others p.rest p.loose p.count p.others p.begins p.low p.below
    (λ f h. let s = some_at _ c.left_loose_foot-loose_foot.result f h l.has in (k.open s.0, s.1))
    sorted below r

pub returns-clause-full : goal.returns-clause-full
returns-clause-full c = λ scopes below r full base behind over.
    let k = c.keep_loose.ensures in
    let l = c.left_loose_foot-loose_foot.ensures in
    let p = c.put_joined.ensures in
    full_join c.args.self.now c.keep_loose.new.self c.left_loose_foot-loose_foot.new.self c.put_joined.new.self c.args.at c.args.node c.args.rule
    c.args.chosen scopes (omega (arith, c.requires, c.args.self.now.segments.ok.0)) (ap (λ v. v.items) k.segments) k.rest k.thins k.stays
    l.rest l.loose l.like l.lows l.others p.rest p.loose p.count p.others p.begins p.low p.own below r full base behind over

pub returns-clause-thins : goal.returns-clause-thins
returns-clause-thins c =
    let k = c.keep_loose.ensures in
    let l = c.left_loose_foot-loose_foot.ensures in
    let p = c.put_joined.ensures in
    subst (λ ls. Thins (loose_of c.args.self.now.segments.items c.args.self.now.loose.items c.args.at) c.args.self.now.loose.items ls)
    (sym (p.loose ∙ l.loose)) k.thins

pub returns-clause-low : goal.returns-clause-low
returns-clause-low c =
    c.put_joined.ensures.low ∙ (c.left_loose_foot-loose_foot.ensures.lows c.args.at
    ∙ ap (λ v. loose_start_of (slice_get v.items c.args.at)) c.keep_loose.ensures.segments)
