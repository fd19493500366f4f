use Rattle.run_evaluations.proofs.WholeLemmas.{kept_first, told_by}
use Rattle.run_evaluations.proofs.FullLemmas.{full_first}
use Rattle.run_evaluations.proofs.LooseWholeLemmas.{right_first}
use Rattle.run_evaluations.proofs.open.Evaluations.log_first.Goals as goal

pub returns-clause-kept : goal.returns-clause-kept
returns-clause-kept c = λ w.
    let s = c.in_ok-push_segment.ensures.pushed in
    let l = c.in_ok-log.ensures in
    kept_first c.args.self.now c.push_segment.new.self c.log.new.self s.0 l.0 c.args.items.now c.push_segment.ensures.rest s.2 l.3 w

pub returns-clause-told : goal.returns-clause-told
returns-clause-told c =
    let l = c.in_ok-log.ensures in
    (l.0, l.1, l.2, told_by c.args.self.now c.push_segment.new.self c.log.new.self l.0 c.args.items.now c.push_segment.ensures.rest l.3)

pub returns-clause-loose : goal.returns-clause-loose
returns-clause-loose c = λ w r.
    let s = c.in_ok-push_segment.ensures.pushed in
    let l = c.in_ok-log.ensures in
    right_first c.args.self.now c.push_segment.new.self c.log.new.self s.0 l.0 c.args.items.now c.push_segment.ensures.rest c.push_segment.ensures.loose
    s.2 l.3 w r

pub returns-clause-full : goal.returns-clause-full
returns-clause-full c = λ scopes w r full frame below.
    let s = c.in_ok-push_segment.ensures.pushed in
    let l = c.in_ok-log.ensures in
    full_first c.args.self.now c.push_segment.new.self c.log.new.self s.0 l.0 c.args.items.now scopes c.args.node c.args.kind c.push_segment.ensures.rest
    c.push_segment.ensures.loose s.1 s.2 l.1 l.2 l.3 w r full frame below
