use Rattle.std.proofs.Common.{ℕ, Vec, Global, refl}
use Rattle.std.proofs.lemmas.Result.{err_from_is_err_and}
use Rattle.libc_arguments.specs.Parts.{accessed_if}
use Rattle.libc_strings.specs.declared.strings.StringCopy.{StringCopy}
use Rattle.libc_arguments.proofs.Copying.{no_source, no_copy_target, no_copy_numbers, copy_unwritable, copy_overlaps, copy_read, copy_fills}
use Rattle.libc_strings.proofs.strings.string_to_copy.Goals as goal

pub returns-in_err-source-clause-follows : goal.returns-in_err-source-clause-follows
returns-in_err-source-clause-follows c =
    let p = err_from_is_err_and c.from_residual.result c.from_residual.ensures.1 in
    rw (p.1, p.2) (λ io to from. no_source (λ (copy : StringCopy). (copy.numbers.items, accessed_if c.args.m.now copy.target)) c.args.m.now io c.args.t.now
    c.check_string.new.t c.check_string.new.t c.args.to.addr c.args.to.prov c.args.from.addr c.args.from.prov c.in_err-source.field-0.0
    (c.in_err-source.ensures.follows io from))

pub returns-in_err-target-clause-follows : goal.returns-in_err-target-clause-follows
returns-in_err-target-clause-follows c =
    let p = err_from_is_err_and c.from_residual-in_err-target.result c.from_residual-in_err-target.ensures.1 in
    rw (p.1, p.2) (λ io to from. no_copy_target (λ (copy : StringCopy). (copy.numbers.items, accessed_if c.args.m.now copy.target)) c.args.m.now io
    c.args.t.now c.check_string.new.t c.check.new.t c.check.new.t c.args.to.addr c.args.to.prov c.args.from.addr c.args.from.prov c.in_ok-source.source
    c.in_err-target.field-0.0 (c.in_ok-source.ensures.follows io from) (c.in_err-target.ensures.follows io to))

pub returns-in_err-numbers-clause-follows : goal.returns-in_err-numbers-clause-follows
returns-in_err-numbers-clause-follows c =
    let p = err_from_is_err_and c.from_residual-in_err-numbers.result c.from_residual-in_err-numbers.ensures.1 in
    rw (p.1, p.2) (λ io to from. no_copy_numbers (λ (v : Vec ℕ Global). v.items)
    (λ (copy : StringCopy). (copy.numbers.items, accessed_if c.args.m.now copy.target)) c.args.m.now io c.args.t.now c.check_string.new.t c.check.new.t
    c.numbers.new.t c.numbers.new.t c.args.to.addr c.args.to.prov c.args.from.addr c.args.from.prov c.in_ok-source.source c.in_ok-target.target
    c.in_err-numbers.field-0.0 (c.in_ok-source.ensures.follows io from) (c.in_ok-target.ensures.follows io to)
    (c.in_err-numbers.ensures c.in_ok-source.ensures.short))

pub returns-in_err-check_target-clause-follows : goal.returns-in_err-check_target-clause-follows
returns-in_err-check_target-clause-follows c =
    let p = err_from_is_err_and c.from_residual-in_err-check_target.result c.from_residual-in_err-check_target.ensures.1 in
    rw (p.1, p.2) (λ io to from. copy_unwritable (λ (v : Vec ℕ Global). v.items) c.in_ok-numbers.numbers
    (λ (copy : StringCopy). (copy.numbers.items, accessed_if c.args.m.now copy.target)) c.args.m.now io c.args.t.now c.check_string.new.t c.check.new.t
    c.numbers.new.t c.args.to.addr c.args.to.prov c.args.from.addr c.args.from.prov c.in_ok-source.source c.in_ok-target.target
    c.in_err-check_target.field-0.0 c.in_ok-target.ensures.range (c.in_ok-source.ensures.follows io from) (c.in_ok-target.ensures.follows io to)
    (c.in_ok-numbers.ensures c.in_ok-source.ensures.short) c.in_err-check_target.ensures)

pub returns-in_err-check_apart-clause-follows : goal.returns-in_err-check_apart-clause-follows
returns-in_err-check_apart-clause-follows c =
    let p = err_from_is_err_and c.from_residual-in_err-check_apart.result c.from_residual-in_err-check_apart.ensures.1 in
    rw (p.1, p.2) (λ io to from. copy_overlaps (λ (v : Vec ℕ Global). v.items) c.in_ok-numbers.numbers
    (λ (copy : StringCopy). (copy.numbers.items, accessed_if c.args.m.now copy.target)) c.args.m.now io c.args.t.now c.check_string.new.t c.check.new.t
    c.numbers.new.t c.args.to.addr c.args.to.prov c.args.from.addr c.args.from.prov c.in_ok-source.source c.in_ok-target.target
    c.in_err-check_apart.field-0.0 c.check_apart.result c.in_ok-target.ensures.range (c.in_ok-source.ensures.follows io from)
    (c.in_ok-target.ensures.follows io to) (c.in_ok-numbers.ensures c.in_ok-source.ensures.short) c.in_ok-check_target.ensures c.in_err-check_apart.was
    c.check_apart.ensures)

pub returns-clause-follows : goal.returns-clause-follows
returns-clause-follows c = λ io to from.
    copy_read (λ (v : Vec ℕ Global). v.items) c.in_ok-numbers.numbers (λ (copy : StringCopy). (copy.numbers.items, accessed_if c.args.m.now copy.target))
    (record { numbers = c.in_ok-numbers.numbers; target = c.in_ok-target.target }) c.args.m.now io c.args.t.now c.check_string.new.t c.check.new.t
    c.numbers.new.t c.args.to.addr c.args.to.prov c.args.from.addr c.args.from.prov c.in_ok-source.source c.in_ok-target.target c.check_apart.result
    c.in_ok-target.ensures.range (c.in_ok-source.ensures.follows io from) (c.in_ok-target.ensures.follows io to)
    (c.in_ok-numbers.ensures c.in_ok-source.ensures.short) c.in_ok-check_target.ensures c.in_ok-check_apart.was c.check_apart.ensures refl

pub returns-clause-len : goal.returns-clause-len
returns-clause-len c = copy_fills (λ (v : Vec ℕ Global). v.items) c.in_ok-numbers.numbers c.args.m.now c.in_ok-source.source c.in_ok-target.target
    c.check.new.t c.numbers.new.t c.in_ok-target.ensures.range (c.in_ok-numbers.ensures c.in_ok-source.ensures.short)
