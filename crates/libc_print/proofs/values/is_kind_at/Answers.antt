use Rattle.std.proofs.Common.{◌∙◌, ap, sym}
use Rattle.libc_spec.specs.Print.{same_kind}
use Rattle.libc_print.proofs.Taking.{qual_ty, type_at-there, type_at-none, same_kind-void}
use Rattle.libc_print.proofs.values.is_kind_at.Goals as goal

pub returns-in-Some : goal.returns-in-Some
returns-in-Some c =
    let h = c.in-Some.ensures in
    c.is_kind.ensures ∙ ap (same_kind c.args.kind)
    (qual_ty c.in-Some.qual.now ∙ sym (type_at-there c.args.types.now c.args.at c.in-Some.qual.now h.lookup.3.0 h.lookup.1))

pub returns-in-None : goal.returns-in-None
returns-in-None c =
    let h = c.in-None.ensures in
    sym (ap (same_kind c.args.kind) (type_at-none c.args.types.now c.args.at h.lookup.3) ∙ same_kind-void c.args.kind)
