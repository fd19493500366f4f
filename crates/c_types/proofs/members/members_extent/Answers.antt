use Rattle.std.proofs.Common.{◌≡◌, ◌∙◌, sym, ap, rules}
use Rattle.c_types.specs.Table.{look}
use Rattle.c_types.specs.Layout.{extent, placed, type_of_member}
use Rattle.c_types.specs.Types.{type_of}
use Rattle.c_types.specs.declared.ty.Qual.{the_lemmas}
use Rattle.c_types.proofs.Rows.{next_fails, next_goes}
use Rattle.c_types.proofs.members.members_extent.Goals as goal

pub returns-in_default-clause-value : goal.returns-in_default-clause-value
returns-in_default-clause-value c =
    let seen : type_of_member c.member-item.result ≡ type_of c.member-item.result.qual.ty = search (rules, the_lemmas) in
    let fails = ap (placed c.args.kind c.loop-member.before) (ap (extent (look c.args.rows.now)) seen ∙ (sym c.extent.ensures.value ∙ c.in_default.is)) in
    sym (next_fails c.args.kind (look c.args.rows.now) c.loop-member.before c.args.members.now c.loop-member.member-index c.member-item.result
    c.loop-member-test.true c.member-item.is fails)
    ∙ c.loop-member.invariant.rest

pub returns-in_default-placed-clause-value : goal.returns-in_default-placed-clause-value
returns-in_default-placed-clause-value c =
    let seen : type_of_member c.member-item.result ≡ type_of c.member-item.result.qual.ty = search (rules, the_lemmas) in
    let fails = ap (placed c.args.kind c.loop-member.before) (ap (extent (look c.args.rows.now)) seen ∙ (sym c.extent.ensures.value ∙ c.in-Some.is)) ∙
    (sym c.placed.ensures.value ∙ c.in_default-placed.is) in
    sym (next_fails c.args.kind (look c.args.rows.now) c.loop-member.before c.args.members.now c.loop-member.member-index c.member-item.result
    c.loop-member-test.true c.member-item.is fails)
    ∙ c.loop-member.invariant.rest

pub loop-member-preserved : goal.loop-member-preserved
loop-member-preserved c =
    let seen : type_of_member c.member-item.result ≡ type_of c.member-item.result.qual.ty = search (rules, the_lemmas) in
    let goes = ap (placed c.args.kind c.loop-member.before) (ap (extent (look c.args.rows.now)) seen ∙ (sym c.extent.ensures.value ∙ c.in-Some.is)) ∙
    (sym c.placed.ensures.value ∙ c.in-Some-placed.is) in
    record {
      rest = next_goes c.args.kind (look c.args.rows.now) c.loop-member.before c.args.members.now c.loop-member.member-index c.member-item.result
          c.in-Some-placed.after c.loop-member-test.true c.member-item.is goes ∙ c.loop-member.invariant.rest;
      sound = c.in-Some-placed.ensures.sound;
    }
