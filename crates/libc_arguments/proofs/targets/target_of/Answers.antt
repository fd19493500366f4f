use Rattle.std.proofs.lemmas.Result.{err_from_is_err_and}
use Rattle.libc_arguments.proofs.Writing.{no_target, target_refused, target_gives}
use Rattle.libc_arguments.proofs.targets.target_of.Goals as goal

pub returns-in_err-target-clause-follows : goal.returns-in_err-target-clause-follows
returns-in_err-target-clause-follows c =
    let p = err_from_is_err_and c.from_residual.result c.from_residual.ensures.1 in
    rw (p.1, p.2) (λ io cell. no_target c.args.m.now io c.args.t.now c.check.new.t c.check.new.t c.args.len c.args.to.addr c.args.to.prov
    c.in_err-target.field-0.0 (c.in_err-target.ensures.follows io cell))

pub returns-in_err-check_target-clause-follows : goal.returns-in_err-check_target-clause-follows
returns-in_err-check_target-clause-follows c =
    let p = err_from_is_err_and c.from_residual-in_err-check_target.result c.from_residual-in_err-check_target.ensures.1 in
    rw (p.1, p.2) (λ io cell. target_refused c.args.m.now io c.args.t.now c.check.new.t c.args.len c.args.to.addr c.args.to.prov c.in_ok-target.target
    c.in_err-check_target.field-0.0 c.in_ok-target.ensures.range (c.in_ok-target.ensures.follows io cell) c.in_err-check_target.ensures)

pub returns-clause-follows : goal.returns-clause-follows
returns-clause-follows c = λ io cell.
    target_gives c.args.m.now io c.args.t.now c.check.new.t c.args.len c.args.to.addr c.args.to.prov c.in_ok-target.target c.in_ok-target.ensures.range
    (c.in_ok-target.ensures.follows io cell) c.in_ok-check_target.ensures
