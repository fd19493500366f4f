use Rattle.std.proofs.Common.{ap, sym, ◌∙◌, ◌∷◌, ◌++◌, [], map, true≢false}
use Rattle.std.proofs.lemmas.Bool.{OnTrue_at, OnFalse_at}
use Rattle.std.proofs.lemmas.Option.{none-some}
use Rattle.c_types.specs.Types.{qualified_of}
use Rattle.typing_env.specs.Seen.{SeenMember, member_seen, tag_seen}
use Rattle.type_scope.specs.Known.{known_by}
use Rattle.type_declarators.specs.MemberNames.{symbols_in}
use Rattle.type_declarators.specs.declared.tag.MemberList.{MemberList}
use Rattle.type_declarators.proofs.ConstantsKept.{has_more_constant, whole_extent}
use Rattle.type_declarators.proofs.Members.{one_more, unnamed_added}
use Rattle.type_declarators.proofs.NamesNoted.{brings_inside, has_more_names, clash_is}
use Rattle.type_declarators.proofs.tag.add_unnamed.Goals as goal

pub returns-clause-ok : goal.returns-clause-ok
returns-clause-ok c n env =
    let q = qualified_of c.args.base in
    unnamed_added (c.args.specs.now).base q (known_by n c.args.source.now c.args.state.now env) c.args.list.members c.add.new.self.members
    (sym c.is_unnamed.ensures ∙ c.if-not-is_unnamed.false)
    (one_more c.args.list.members c.add.new.self.members (record { name = c.in_ok-name.name; qual = c.args.base }) (record { name = []; qual = q })
    (c.in_ok-add.ensures.ok ∙ ap (λ ms. ms ++ record { name = c.in_ok-name.name; qual = c.args.base } ∷ [])
    (ap (λ (l : MemberList). l.members) c.add_names.ensures.rest))
    (λ i. record { name = c.in_ok-name.ensures i; qual = q }))

pub returns-clause-named : goal.returns-clause-named
returns-clause-named c noted whole has =
    let tags = map tag_seen (c.args.state.now).tags in
    let q = qualified_of c.args.base in
    let m : SeenMember = record { name = []; qual = q } in
    has_more_names c.args.source.now tags c.args.list c.add_names.new.list c.add.new.self m (symbols_in c.args.state.now c.in-Some.number) has
    (OnTrue_at c.if-not-branch.false c.in_ok-add_names.ensures.added) c.add.ensures.rest
    (one_more c.args.list.members c.add.new.self.members (record { name = c.in_ok-name.name; qual = c.args.base }) m
    (c.in_ok-add.ensures.ok ∙ ap (λ ms. ms ++ record { name = c.in_ok-name.name; qual = c.args.base } ∷ [])
    (ap (λ (l : MemberList). l.members) c.add_names.ensures.rest))
    (λ i. record { name = c.in_ok-name.ensures i; qual = q }))
    (brings_inside c.args.source.now c.args.state.now q c.in-Some.number (sym c.in-Some.is ∙ c.qualified_tag.ensures) whole noted)

pub returns-clause-constant : goal.returns-clause-constant
returns-clause-constant c noted whole has =
    let tags = map tag_seen (c.args.state.now).tags in
    let q = qualified_of c.args.base in
    let m : SeenMember = record { name = []; qual = q } in
    has_more_constant c.args.state.now c.args.list c.add_names.new.list c.add.new.self m c.is_constant-constant.result noted (whole_extent tags q.ty whole) has
    (ap (λ (l : MemberList). l.constant) c.add_names.ensures.rest) c.in_ok-add.ensures.constant c.is_constant-constant.ensures
    (one_more c.args.list.members c.add.new.self.members (record { name = c.in_ok-name.name; qual = c.args.base }) m
    (c.in_ok-add.ensures.ok ∙ ap (λ ms. ms ++ record { name = c.in_ok-name.name; qual = c.args.base } ∷ [])
    (ap (λ (l : MemberList). l.members) c.add_names.ensures.rest))
    (λ i. record { name = c.in_ok-name.ensures i; qual = q }))

pub returns-then-not-is_unnamed-clause-twice : goal.returns-then-not-is_unnamed-clause-twice
returns-then-not-is_unnamed-clause-twice c other unnamed noted whole has =
    absurd (true≢false (sym unnamed ∙ sym c.is_unnamed.ensures ∙ c.if-not-is_unnamed.true))

pub returns-then-not-branch-clause-twice : goal.returns-then-not-branch-clause-twice
returns-then-not-branch-clause-twice c other unnamed noted whole has =
    let tags = map tag_seen (c.args.state.now).tags in
    let q = qualified_of c.args.base in
    clash_is c.args.source.now tags (map member_seen c.args.list.members) (record { name = []; qual = q }) c.args.list.symbols.items
    (symbols_in c.args.state.now c.in-Some.number) has.named
    (brings_inside c.args.source.now c.args.state.now q c.in-Some.number (sym c.in-Some.is ∙ c.qualified_tag.ensures) whole noted)
    (OnFalse_at c.if-not-branch.true c.in_ok-add_names.ensures.twice has.held)

pub returns-in_default-clause-twice : goal.returns-in_default-clause-twice
returns-in_default-clause-twice c other unnamed noted whole has =
    absurd (none-some whole.0 (sym (sym c.qualified_tag.ensures ∙ c.in_default.is) ∙ whole.1))
