use Rattle.std.proofs.Common.{◌∙◌, ap, sym}
use Rattle.libc_spec.specs.Print.{is_target}
use Rattle.libc_print.proofs.Taking.{qual_ty, type_at-there, type_at-none}
use Rattle.libc_print.proofs.values.is_pointer_at.Goals as goal

pub returns-in-Some : goal.returns-in-Some
returns-in-Some c =
    let h = c.in-Some.ensures in
    c.is_pointer.ensures ∙ ap (is_target c.args.may_be_void)
    (qual_ty c.in-Some.qual.now ∙ sym (type_at-there c.args.types.now c.args.at c.in-Some.qual.now h.lookup.3.0 h.lookup.1))

pub returns-in-None : goal.returns-in-None
returns-in-None c =
    let h = c.in-None.ensures in
    sym (ap (is_target c.args.may_be_void) (type_at-none c.args.types.now c.args.at h.lookup.3))
