use Rattle.std.proofs.Common.{refl}
use Rattle.std.proofs.lemmas.Result.{err_from_is_err_and}
use Rattle.libc_arguments.specs.Parts.{accessed_if}
use Rattle.libc_strings.specs.declared.ranges.Ranges.{Ranges}
use Rattle.libc_arguments.proofs.Copying.{no_ranged_target, no_ranged_source, ranged_unwritable, ranged_overlap, ranged_given}
use Rattle.libc_strings.proofs.ranges.ranges_to_copy.Goals as goal

pub returns-in_err-target-clause-follows : goal.returns-in_err-target-clause-follows
returns-in_err-target-clause-follows c =
    let p = err_from_is_err_and c.from_residual.result c.from_residual.ensures.1 in
    rw (p.1, p.2) (λ io to from. no_ranged_target (λ (r : Ranges). (accessed_if c.args.m.now r.target, accessed_if c.args.m.now r.source)) c.args.m.now io
    c.args.t.now c.check.new.t c.check.new.t c.args.may_overlap c.args.to.addr c.args.to.prov c.args.from.addr c.args.from.prov c.args.len
    c.in_err-target.field-0.0 (c.in_err-target.ensures.follows io to))

pub returns-in_err-source-clause-follows : goal.returns-in_err-source-clause-follows
returns-in_err-source-clause-follows c =
    let p = err_from_is_err_and c.from_residual-in_err-source.result c.from_residual-in_err-source.ensures.1 in
    rw (p.1, p.2) (λ io to from. no_ranged_source (λ (r : Ranges). (accessed_if c.args.m.now r.target, accessed_if c.args.m.now r.source)) c.args.m.now io
    c.args.t.now c.check.new.t c.check-2.new.t c.check-2.new.t c.args.may_overlap c.args.to.addr c.args.to.prov c.args.from.addr c.args.from.prov c.args.len
    c.in_ok-target.target c.in_err-source.field-0.0 (c.in_ok-target.ensures.follows io to) (c.in_err-source.ensures.follows io from))

pub returns-in_err-check_target-clause-follows : goal.returns-in_err-check_target-clause-follows
returns-in_err-check_target-clause-follows c =
    let p = err_from_is_err_and c.from_residual-in_err-check_target.result c.from_residual-in_err-check_target.ensures.1 in
    rw (p.1, p.2) (λ io to from. ranged_unwritable (λ (r : Ranges). (accessed_if c.args.m.now r.target, accessed_if c.args.m.now r.source)) c.args.m.now io
    c.args.t.now c.check.new.t c.check-2.new.t c.args.may_overlap c.args.to.addr c.args.to.prov c.args.from.addr c.args.from.prov c.args.len
    c.in_ok-target.target c.in_ok-source.source c.in_err-check_target.field-0.0 c.in_ok-target.ensures.range (c.in_ok-target.ensures.follows io to)
    (c.in_ok-source.ensures.follows io from) c.in_err-check_target.ensures)

pub returns-in_err-check_overlap-clause-follows : goal.returns-in_err-check_overlap-clause-follows
returns-in_err-check_overlap-clause-follows c =
    let p = err_from_is_err_and c.from_residual-in_err-check_overlap.result c.from_residual-in_err-check_overlap.ensures.1 in
    rw (p.1, p.2) (λ io to from. ranged_overlap (λ (r : Ranges). (accessed_if c.args.m.now r.target, accessed_if c.args.m.now r.source)) c.args.m.now io
    c.args.t.now c.check.new.t c.check-2.new.t c.args.may_overlap c.args.to.addr c.args.to.prov c.args.from.addr c.args.from.prov c.args.len
    c.in_ok-target.target c.in_ok-source.source c.in_err-check_overlap.field-0.0 c.check_overlap.result c.in_ok-target.ensures.range
    (c.in_ok-target.ensures.follows io to) (c.in_ok-source.ensures.follows io from) c.in_ok-check_target.ensures c.in_err-check_overlap.was
    c.check_overlap.ensures)

pub returns-clause-follows : goal.returns-clause-follows
returns-clause-follows c = λ io to from.
    ranged_given (λ (r : Ranges). (accessed_if c.args.m.now r.target, accessed_if c.args.m.now r.source))
    (record { target = c.in_ok-target.target; source = c.in_ok-source.source }) c.args.m.now io c.args.t.now c.check.new.t c.check-2.new.t
    c.args.may_overlap c.args.to.addr c.args.to.prov c.args.from.addr c.args.from.prov c.args.len c.in_ok-target.target c.in_ok-source.source
    c.check_overlap.result c.in_ok-target.ensures.range (c.in_ok-target.ensures.follows io to) (c.in_ok-source.ensures.follows io from)
    c.in_ok-check_target.ensures c.in_ok-check_overlap.was c.check_overlap.ensures refl
