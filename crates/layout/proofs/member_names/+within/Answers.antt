use Rattle.std.proofs.Common.{rules, ◌≡◌, ℕ, ◌-◌, List, sym, ap, ◌∙◌}
use Rattle.std.specs.Option.{option_map}
use Rattle.c_types.specs.Types.{type_of, qualified_of}
use Rattle.c_types.specs.Layout.{type_of_member}
use Rattle.c_types.specs.declared.ty.Qual.{the_lemmas}
use Rattle.layout.specs.Names.{Named, inside, names_by}
use Rattle.layout.specs.Listed.{place_of, const_place}
use Rattle.layout.proofs.FirstNamed.{found_here, found_later, found_inside}
use Rattle.layout.proofs.member_names.+within.Goals as goal

pub find_within-returns-in-Some : goal.find_within-returns-in-Some
find_within-returns-in-Some t c =
    found_here c.args.name.now (names_by (c.args.depth - 1) c.args.tags.now) c.args.tags.now c.args.tag c.loop-i.i c.as_slice-members.result.now
    c.index-members-i.result (option_map place_of c.found_at.result) (place_of c.in-Some.found) _ c.saturating_add-offset.result c.offset_of.result
    c.loop-i-test.true c.index-members-i.is c.found_at.ensures (ap (option_map place_of) c.in-Some.is) c.offset_of.ensures c.saturating_add-offset.ensures
    c.loop-i.invariant

pub find_within-loop-i-preserved : goal.find_within-loop-i-preserved
find_within-loop-i-preserved t c =
    found_later c.args.name.now (names_by (c.args.depth - 1) c.args.tags.now) c.args.tags.now c.args.tag c.loop-i.i c.as_slice-members.result.now
    c.index-members-i.result (option_map place_of c.found_at.result) _
    c.loop-i-test.true c.index-members-i.is c.found_at.ensures (ap (option_map place_of) c.in_default.is) c.loop-i.invariant

pub found_at-returns : goal.found_at-returns
found_at-returns t c =
    let f : ℕ → List Named = names_by c.args.depth c.args.tags.now in
    let ty : type_of_member c.args.member.now ≡ type_of c.args.member.now.qual.ty = search (rules, the_lemmas) in
    let const : (qualified_of c.args.member.now.qual).constant ≡ c.args.member.now.qual.constant = search (rules, the_lemmas) in
    found_inside c.args.name.now f c.args.member.now (inside f (type_of c.args.member.now.qual.ty)) (option_map place_of c.find_inside-found.result)
    (option_map place_of c.also_const.result) (sym c.len.ensures ∙ c.if-len-ne0.false) (ap (inside f) ty) c.find_inside-found.ensures
    (c.also_const.ensures ∙ ap (λ b. option_map (const_place b) (option_map place_of c.find_inside-found.result)) (sym const))
