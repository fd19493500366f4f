use Rattle.run_evaluations.proofs.WholeLemmas.{kept_at_top, told_by}
use Rattle.run_evaluations.proofs.FullLemmas.{full_at_top}
use Rattle.run_evaluations.proofs.LooseWholeLemmas.{right_at_top}
use Rattle.run_evaluations.proofs.open.Evaluations.log_at_top.Goals as goal

pub returns-clause-kept : goal.returns-clause-kept
returns-clause-kept c = λ w last n below.
    let l = c.in_ok-log.ensures in
    kept_at_top c.args.self.now c.add_to_top.new.self c.log.new.self l.0 c.args.items.now last c.add_to_top.ensures.rest c.in_ok-add_to_top.ensures.added
    l.3 n below w

pub returns-clause-told : goal.returns-clause-told
returns-clause-told c =
    let l = c.in_ok-log.ensures in
    (l.0, l.1, l.2, told_by c.args.self.now c.add_to_top.new.self c.log.new.self l.0 c.args.items.now c.add_to_top.ensures.rest l.3)

pub returns-clause-loose : goal.returns-clause-loose
returns-clause-loose c = λ w r last n below.
    let l = c.in_ok-log.ensures in
    right_at_top c.args.self.now c.add_to_top.new.self c.log.new.self l.0 c.args.items.now last c.add_to_top.ensures.rest c.add_to_top.ensures.loose
    c.in_ok-add_to_top.ensures.added l.3 n below w r

pub returns-clause-full : goal.returns-clause-full
returns-clause-full c = λ scopes w r full base own frame below.
    let l = c.in_ok-log.ensures in
    full_at_top c.args.self.now c.add_to_top.new.self c.log.new.self l.0 c.args.items.now scopes c.args.node c.args.kind c.add_to_top.ensures.rest
    c.add_to_top.ensures.loose c.in_ok-add_to_top.ensures.added c.in_ok-add_to_top.ensures.own l.1 l.2 l.3 w full base own frame below
