use Rattle.std.proofs.Common.{◌≡◌, ◌∙◌, sym, ap, rules}
use Rattle.c_types.specs.Table.{look}
use Rattle.c_types.specs.Layout.{extent, type_of_member}
use Rattle.c_types.specs.Types.{type_of}
use Rattle.c_types.specs.declared.ty.Qual.{the_lemmas}
use Rattle.c_types.proofs.members.member_extent.Goals as goal

pub returns-clause-value : goal.returns-clause-value
returns-clause-value c =
    let seen : type_of_member c.args.member.now ≡ type_of c.args.member.now.qual.ty = search (rules, the_lemmas) in
    c.extent.ensures.value ∙ ap (extent (look c.args.rows.now)) (sym seen)
