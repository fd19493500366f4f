use Rattle.std.proofs.Common.{Some, sym, ap, ◌∙◌}
use Rattle.c_typed.specs.Tree.{conversion_class, member_class}
use Rattle.c_typed.proofs.Classes.{class_of-conversion, class_of-lone_conversion, class_of-member, class_of-lone_member}
use Rattle.c_typed.proofs.class.+class_of.Goals as goal

pub returns-in-Some : goal.returns-in-Some
returns-in-Some t c =
    c.conversion_class.ensures ∙ (ap (λ z. conversion_class c.in-Conv.conversion (Some z)) c.class_of.ensures
    ∙ sym (class_of-conversion c.args.root.now c.in-Some.operand.now c.in-Conv.conversion c.in-Conv.is c.in-Some.ensures.value))

pub returns-in-None : goal.returns-in-None
returns-in-None t c = sym (class_of-lone_conversion c.args.root.now c.in-Conv.conversion c.in-Conv.is c.in-None.ensures.value)

pub returns-in-Some-get : goal.returns-in-Some-get
returns-in-Some-get t c =
    c.member_class.ensures ∙ (ap (λ z. member_class (Some z)) c.class_of-in-Some-get.ensures
    ∙ sym (class_of-member c.args.root.now c.in-Some-get.operand.now c.in-Member.offset c.in-Member.is c.in-Some-get.ensures.value))

pub returns-in-None-get : goal.returns-in-None-get
returns-in-None-get t c = sym (class_of-lone_member c.args.root.now c.in-Member.offset c.in-Member.is c.in-None-get.ensures.value)
