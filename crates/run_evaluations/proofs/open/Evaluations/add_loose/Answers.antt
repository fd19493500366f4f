use Rattle.run_evaluations.proofs.FullLemmas.{but_full, full_listed}
use Rattle.run_evaluations.proofs.LooseWholeLemmas.{right_listing}
use Rattle.run_evaluations.proofs.open.Evaluations.add_loose.Goals as goal

pub returns-clause-loose : goal.returns-clause-loose
returns-clause-loose c = λ w r.
    let e = c.ends_with_effect.ensures.top c.if-not-ends_with_effect.false w in
    let l = c.list_effect.ensures in
    right_listing c.args.self.now c.list_effect.new.self e.0 l.rest l.like c.in_ok-list_effect.ensures.listed e.1 e.2 w r

pub returns-then-not-ends_with_effect-clause-full : goal.returns-then-not-ends_with_effect-clause-full
returns-then-not-ends_with_effect-clause-full c = λ scopes w r but ends.
    but_full c.args.self.now scopes c.args.node (c.ends_with_effect.ensures.no c.if-not-ends_with_effect.true) ends but

pub returns-clause-full : goal.returns-clause-full
returns-clause-full c = λ scopes w r but ends.
    let e = c.ends_with_effect.ensures.top c.if-not-ends_with_effect.false w in
    let l = c.list_effect.ensures in
    full_listed c.args.self.now c.list_effect.new.self scopes e.0 l.rest l.like c.in_ok-list_effect.ensures.listed l.nodes e.1 w r but
