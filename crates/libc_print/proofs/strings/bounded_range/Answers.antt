use Rattle.std.proofs.Common.{◌<◌, true, ℕ, length, subst, Option, Some, None}
use Rattle.std.specs.Prelude.{Err, IfSome}
use Rattle.std.proofs.lemmas.Result.{err_from_is_err_and}
use Rattle.mem_spec.specs.Acts.{Accessed, argument}
use Rattle.libc_arguments.specs.declared.arguments.Range.{Range}
use Rattle.libc_arguments.specs.Parts.{Gives, Follows, accessed_if}
use Rattle.libc_print.proofs.Bounded.{no_bounded, open_bounded, short_bounded, bounded_gives}
use Rattle.libc_print.proofs.strings.bounded_range.Goals as goal

pub returns-in_err-first-clause-follows : goal.returns-in_err-first-clause-follows
returns-in_err-first-clause-follows c =
    let p = err_from_is_err_and c.from_residual.result c.from_residual.ensures.1 in
    rw (p.1, p.2) (λ io cell. no_bounded c.args.m.now io c.args.t.now c.check.new.t c.check.new.t c.args.most c.args.pointer.addr c.args.pointer.prov
    c.in_err-first.field-0.0
    (subst (λ (n : ℕ). Follows true (accessed_if c.args.m.now) (Err c.in_err-first.field-0.0) c.args.m.now io c.args.t.now c.check.new.t
    (argument c.args.m.now.rows n c.args.pointer.addr c.args.pointer.prov)) c.min.ensures (c.in_err-first.ensures.follows io cell)))

pub returns-in_default-clause-follows : goal.returns-in_default-clause-follows
returns-in_default-clause-follows c = λ io cell.
    open_bounded c.args.m.now io c.args.t.now c.check.new.t c.args.most c.args.pointer.addr c.args.pointer.prov
    (subst (λ (n : ℕ). Gives true (Option Accessed) c.args.m.now io c.args.t.now c.check.new.t
    (argument c.args.m.now.rows n c.args.pointer.addr c.args.pointer.prov) (accessed_if c.args.m.now None)) c.min.ensures
    (subst (λ (o : Option Range). Gives true (Option Accessed) c.args.m.now io c.args.t.now c.check.new.t
    (argument c.args.m.now.rows c.min.result c.args.pointer.addr c.args.pointer.prov) (accessed_if c.args.m.now o)) c.in_default.is
    (c.in_ok-first.ensures.follows io cell)))

pub returns-in_default-bounded_length-clause-follows : goal.returns-in_default-bounded_length-clause-follows
returns-in_default-bounded_length-clause-follows c = λ io cell.
    short_bounded c.args.m.now io c.args.t.now c.check.new.t c.args.most c.args.pointer.addr c.args.pointer.prov c.in-Some.first
    (subst (λ (n : ℕ). Gives true (Option Accessed) c.args.m.now io c.args.t.now c.check.new.t
    (argument c.args.m.now.rows n c.args.pointer.addr c.args.pointer.prov) (accessed_if c.args.m.now (Some c.in-Some.first))) c.min.ensures
    (subst (λ (o : Option Range). Gives true (Option Accessed) c.args.m.now io c.args.t.now c.check.new.t
    (argument c.args.m.now.rows c.min.result c.args.pointer.addr c.args.pointer.prov) (accessed_if c.args.m.now o)) c.in-Some.is
    (c.in_ok-first.ensures.follows io cell)))
    c.in_default-bounded_length.ensures.size

pub returns-clause-follows : goal.returns-clause-follows
returns-clause-follows c = λ io cell.
    bounded_gives c.args.m.now io c.args.t.now c.check.new.t c.add_read.new.t c.args.most c.args.pointer.addr c.args.pointer.prov c.in-Some.first
    c.in-Some-bounded_length.len
    (subst (λ (n : ℕ). Gives true (Option Accessed) c.args.m.now io c.args.t.now c.check.new.t
    (argument c.args.m.now.rows n c.args.pointer.addr c.args.pointer.prov) (accessed_if c.args.m.now (Some c.in-Some.first))) c.min.ensures
    (subst (λ (o : Option Range). Gives true (Option Accessed) c.args.m.now io c.args.t.now c.check.new.t
    (argument c.args.m.now.rows c.min.result c.args.pointer.addr c.args.pointer.prov) (accessed_if c.args.m.now o)) c.in-Some.is
    (c.in_ok-first.ensures.follows io cell)))
    (subst (λ (o : Option Range). IfSome o (λ r. length c.args.t.now < length c.check.new.t)) c.in-Some.is (c.in_ok-first.ensures.grows io cell))
    c.in-Some-bounded_length.ensures.size c.in_ok-add_read.ensures
