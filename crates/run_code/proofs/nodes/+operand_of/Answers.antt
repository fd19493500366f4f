use Rattle.std.proofs.Common.{sym, ap, ◌∙◌}
use Rattle.run_layout.specs.Resolved.{by_conversion, member_of}
use Rattle.run_code.proofs.ResolvedLemmas.{resolved-conversion, resolved-lone_conversion, resolved-member, resolved-lone_member}
use Rattle.run_code.proofs.nodes.+operand_of.Goals as goal

pub returns-in-Some : goal.returns-in-Some
returns-in-Some t c =
    c.converted.ensures ∙ ap (by_conversion c.in-Conv.conversion c.args.number) c.operand_of.ensures
    ∙ sym (resolved-conversion c.args.objects.now.first.items c.args.root.now c.in-Some.child.now c.in-Conv.conversion c.args.number c.in-Conv.is
    c.in-Some.ensures.value)

pub returns-in-None : goal.returns-in-None
returns-in-None t c = sym (resolved-lone_conversion c.args.objects.now.first.items c.args.root.now c.in-Conv.conversion c.args.number c.in-Conv.is
    c.in-None.ensures.value)

pub returns-in-Some-get : goal.returns-in-Some-get
returns-in-Some-get t c =
    c.member.ensures ∙ ap (member_of c.in-Member.offset c.args.number) c.operand_of-in-Some-get.ensures
    ∙ sym (resolved-member c.args.objects.now.first.items c.args.root.now c.in-Some-get.child.now c.in-Member.offset c.args.number c.in-Member.is
    c.in-Some-get.ensures.value)

pub returns-in-None-get : goal.returns-in-None-get
returns-in-None-get t c = sym (resolved-lone_member c.args.objects.now.first.items c.args.root.now c.in-Member.offset c.args.number c.in-Member.is
    c.in-None-get.ensures.value)
