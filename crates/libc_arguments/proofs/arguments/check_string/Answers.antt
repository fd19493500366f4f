use Rattle.std.proofs.Common.{◌<◌, ◌∙◌, ◌++◌, ◌∷◌, [], true, ap, length, refl, subst, Option}
use Rattle.ub_base.specs.declared.names.Item.{Item}
use Rattle.std.specs.Prelude.{IfSome}
use Rattle.mem_spec.specs.Acts.{Accessed, argument}
use Rattle.libc_arguments.specs.declared.arguments.Range.{Range}
use Rattle.libc_arguments.specs.Parts.{Gives, accessed_if}
use Rattle.std.proofs.lemmas.Result.{err_from_is_err_and}
use Rattle.libc_arguments.proofs.Checking.{no_argument, open_argument, open_string, text_gives}
use Rattle.libc_arguments.proofs.arguments.check_string.Goals as goal

pub returns-in_err-first-clause-follows : goal.returns-in_err-first-clause-follows
returns-in_err-first-clause-follows c =
    let p = err_from_is_err_and c.from_residual.result c.from_residual.ensures.1 in
    rw (p.1, p.2) (λ io cell. no_argument c.args.m.now io c.args.t.now c.check.new.t c.check.new.t c.args.pointer.addr c.args.pointer.prov
    c.in_err-first.field-0.0 (c.in_err-first.ensures.follows io cell))

pub returns-in_default-clause-follows : goal.returns-in_default-clause-follows
returns-in_default-clause-follows c = λ io cell. open_argument c.args.m.now io c.args.t.now c.check.new.t c.args.pointer.addr c.args.pointer.prov
    (subst (λ (o : Option Range). Gives true (Option Accessed) c.args.m.now io c.args.t.now c.check.new.t
    (argument c.args.m.now.rows 1 c.args.pointer.addr c.args.pointer.prov) (accessed_if c.args.m.now o)) c.in_default.is
    (c.in_ok-first.ensures.follows io cell))

pub returns-in_default-string_size-clause-follows : goal.returns-in_default-string_size-clause-follows
returns-in_default-string_size-clause-follows c = λ io cell.
    open_string c.args.m.now io c.args.t.now c.check.new.t c.args.pointer.addr c.args.pointer.prov c.in-Some.first
    (subst (λ (o : Option Range). Gives true (Option Accessed) c.args.m.now io c.args.t.now c.check.new.t
    (argument c.args.m.now.rows 1 c.args.pointer.addr c.args.pointer.prov) (accessed_if c.args.m.now o)) c.in-Some.is
    (c.in_ok-first.ensures.follows io cell)) c.in_default-string_size.ensures.size

pub returns-clause-follows : goal.returns-clause-follows
returns-clause-follows c = λ io cell.
    text_gives c.args.m.now io c.args.t.now c.check.new.t c.add.new.self c.args.pointer.addr c.args.pointer.prov c.in-Some.first
    (record { object = c.in-Some.first.object; from = c.in-Some.first.from; len = c.in-Some-string_size.len })
    (subst (λ (o : Option Range). Gives true (Option Accessed) c.args.m.now io c.args.t.now c.check.new.t
    (argument c.args.m.now.rows 1 c.args.pointer.addr c.args.pointer.prov) (accessed_if c.args.m.now o)) c.in-Some.is
    (c.in_ok-first.ensures.follows io cell)) (subst (λ (o : Option Range). IfSome o (λ r. length c.args.t.now < length c.check.new.t)) c.in-Some.is
    (c.in_ok-first.ensures.grows io cell)) c.in-Some-string_size.ensures.size
    (c.in_ok-add.ensures.ok ∙ ap (λ (i : Item). c.check.new.t ++ i ∷ []) c.read_of.ensures) refl
