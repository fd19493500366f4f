use Rattle.std.proofs.Common.{◌≡◌, ◌<◌, length, get_or, subst, rules, arith}
use Rattle.std.proofs.lemmas.Grind.{common_steps}
use Rattle.c_types.specs.Types.{type_of}
use Rattle.lawful_program.proofs.Found.{of_tag_member}
use Rattle.lawful_program.proofs.Seen.{tagged, member_inside}
use Rattle.lawful_program.proofs.places.+takes.Goals as goal

pub type_takes-returns-in-None : goal.type_takes-returns-in-None
type_takes-returns-in-None t c = λ h.
    c.in-Some.ensures c.args.depth c.args.address.0 c.args.address.1 (c.scalar_takes.ensures h c.args.depth)

pub type_takes-returns-in-Some-tag_of : goal.type_takes-returns-in-Some-tag_of
type_takes-returns-in-Some-tag_of t c = λ h.
    c.in-Some.ensures c.args.depth c.args.address.0 c.args.address.1
    (tagged c.args.program.now c.args.address.0 c.args.address.1 c.in-Some.inner.at c.args.depth (type_of c.in-Some.inner.ty.now) c.in-Some-tag_of.tag
    c.in-Some-tag_of.ensures (c.tag_takes.ensures h))

pub member_takes-returns : goal.member_takes-returns
member_takes-returns t c = λ h.
    member_inside c.args.program.now c.args.address.0 c.args.address.1 c.args.at c.args.depth c.args.offset c.args.member.now (omega arith)
    (c.type_takes.ensures h)

pub tag_takes-returns-then-member_takes : goal.tag_takes-returns-then-member_takes
tag_takes-returns-then-member_takes t c = λ _.
    of_tag_member c.args.program.now c.args.address.0 c.args.address.1 c.args.at c.args.depth c.args.tag c.in-Some.content.now c.loop-i.i
    c.offset_of-offset.result c.index-members-i.result
    (λ e. let none : c.args.depth ≡ 0 = e in absurd (omega arith)) (first_of (search rules, grind (arith, common_steps)))
    (subst (λ ms. c.loop-i.i < length ms) c.as_slice-members.ensures (omega arith))
    (subst (λ ms. c.index-members-i.result ≡ get_or ms c.loop-i.i c.index-members-i.result) c.as_slice-members.ensures c.index-members-i.is)
    c.offset_of-offset.ensures (c.member_takes.ensures (search rules))
