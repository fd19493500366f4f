use Rattle.std.proofs.Common.{ap, sym, ◌∙◌, subst, ℕ, ◌∷◌, ◌++◌, [], map}
use Rattle.std.specs.Prelude.{Option}
use Rattle.std.proofs.lemmas.Option.{same_Some}
use Rattle.std.specs.BTreeSet.{contains}
use Rattle.std.specs.Ordering.{nat_cmp}
use Rattle.c_types.specs.Types.{qualified_of}
use Rattle.typing_words.specs.Words.{named_member}
use Rattle.type_scope.specs.Known.{known_by}
use Rattle.type_declarators.specs.Members.{IsAdded}
use Rattle.type_declarators.proofs.Members.{member_refused, member_added, not_fresh}
use Rattle.typing_env.specs.Seen.{SeenMember, member_seen, tag_seen}
use Rattle.type_declarators.specs.MemberNames.{IsClash}
use Rattle.c_lex.specs.TokenText.{text_at}
use Rattle.type_declarators.specs.declared.tag.MemberList.{MemberList}
use Rattle.type_declarators.proofs.ConstantsKept.{has_more_constant}
use Rattle.type_declarators.proofs.Members.{one_more}
use Rattle.type_declarators.proofs.NamesAdded.{adds_none, adds_more, there_by}
use Rattle.type_declarators.proofs.NamesNoted.{brings_name, has_more_names, clash_is}
use Rattle.type_declarators.proofs.NamesTold.{clash}
use Rattle.type_declarators.proofs.tag.add_member.Goals as goal

pub returns-then-not-is_complete_qual-clause-err : goal.returns-then-not-is_complete_qual-clause-err
returns-then-not-is_complete_qual-clause-err c other n env at is free =
    ap (λ o. named_member o (qualified_of c.args.member.qual) (known_by n c.args.source.now c.args.state.now env)) c.in-Some.is
    ∙ member_refused n c.args.source.now c.args.state.now env c.in-Some.name (qualified_of c.args.member.qual)
    (sym c.is_complete_qual.ensures ∙ c.if-not-is_complete_qual.true)

pub returns-then-not-branch-clause-err : goal.returns-then-not-branch-clause-err
returns-then-not-branch-clause-err c other n env at is free =
    absurd (not_fresh n c.args.source.now c.args.state.now env at c.in-Some.name c.symbol.result c.args.member.name
    (λ (k : ℕ). contains nat_cmp c.args.list.names k) c.in_ok-add_name.field-0 c.in-Some.is is c.symbol.ensures c.in_ok-add_name.ensures.fresh
    c.if-not-branch.true free)

pub returns-clause-ok : goal.returns-clause-ok
returns-clause-ok c n env =
    let here = known_by n c.args.source.now c.args.state.now env in
    let q = qualified_of c.args.member.qual in
    let P : Option ℕ → Type 0 = λ o. IsAdded (named_member o q here) here c.args.list.members c.add.new.self.members in
    subst P (sym c.in-Some.is)
    (member_added n c.args.source.now c.args.state.now env c.in-Some.name q c.args.list.members c.add_name.new.self.members c.add.new.self.members
    (record { name = c.in_ok-name.name; qual = c.args.member.qual }) (sym c.is_complete_qual.ensures ∙ c.if-not-is_complete_qual.false)
    (ap (λ (l : MemberList). l.members) c.add_name.ensures.rest) c.in_ok-add.ensures.ok
    (λ i. record { name = (c.in_ok-name.ensures ∙ c.spelling.ensures) i; qual = q }))

pub returns-then-not-is_complete_qual-clause-twice : goal.returns-then-not-is_complete_qual-clause-twice
returns-then-not-is_complete_qual-clause-twice c other n env at is text has some =
    absurd (some (ap (λ o. named_member o (qualified_of c.args.member.qual) (known_by n c.args.source.now c.args.state.now env)) c.in-Some.is
    ∙ member_refused n c.args.source.now c.args.state.now env c.in-Some.name (qualified_of c.args.member.qual)
    (sym c.is_complete_qual.ensures ∙ c.if-not-is_complete_qual.true)))

pub returns-then-not-branch-clause-twice : goal.returns-then-not-branch-clause-twice
returns-then-not-branch-clause-twice c other n env at is text has some =
    let tags = map tag_seen (c.args.state.now).tags in
    let q = qualified_of c.args.member.qual in
    let e = same_Some c.in-Some.name at (sym c.in-Some.is ∙ is) in
    let P : ℕ → Type 0 = λ k. IsClash tags (map member_seen c.args.list.members) (record { name = text_at c.args.source.now k; qual = q }) in
    subst P e
    (clash_is c.args.source.now tags (map member_seen c.args.list.members) (record { name = text_at c.args.source.now c.in-Some.name; qual = q })
    c.args.list.symbols.items (c.symbol.result ∷ []) has.named
    (brings_name c.args.source.now tags c.in-Some.name c.symbol.result q
    (λ none. text (ap (text_at c.args.source.now) (sym e) ∙ none)) c.symbol.ensures)
    (clash c.symbol.result c.args.list.symbols.items []
    (sym (has.held c.symbol.result) ∙ there_by c.in_ok-add_name.field-0 (contains nat_cmp c.args.list.names c.symbol.result)
    c.in_ok-add_name.ensures.fresh c.if-not-branch.true)))

pub returns-clause-named : goal.returns-clause-named
returns-clause-named c at is text has =
    let tags = map tag_seen (c.args.state.now).tags in
    let q = qualified_of c.args.member.qual in
    let e = same_Some c.in-Some.name at (sym c.in-Some.is ∙ is) in
    let m : SeenMember = record { name = text_at c.args.source.now c.in-Some.name; qual = q } in
    has_more_names c.args.source.now tags c.args.list c.add_name.new.self c.add.new.self m (c.symbol.result ∷ []) has
    (adds_more [] c.symbol.result c.args.list c.args.list c.add_name.new.self c.in_ok-add_name.field-0 c.in_ok-add_name.ensures.fresh
    c.if-not-branch.false c.in_ok-add_name.ensures.symbols c.in_ok-add_name.ensures.held (adds_none c.args.list))
    c.add.ensures.rest
    (one_more c.args.list.members c.add.new.self.members (record { name = c.in_ok-name.name; qual = c.args.member.qual }) m
    (c.in_ok-add.ensures.ok ∙ ap (λ ms. ms ++ record { name = c.in_ok-name.name; qual = c.args.member.qual } ∷ [])
    (ap (λ (l : MemberList). l.members) c.add_name.ensures.rest))
    (λ i. record { name = (c.in_ok-name.ensures ∙ c.spelling.ensures) i; qual = q }))
    (brings_name c.args.source.now tags c.in-Some.name c.symbol.result q
    (λ none. text (ap (text_at c.args.source.now) (sym e) ∙ none)) c.symbol.ensures)

pub returns-clause-constant : goal.returns-clause-constant
returns-clause-constant c noted has =
    let q = qualified_of c.args.member.qual in
    let m : SeenMember = record { name = text_at c.args.source.now c.in-Some.name; qual = q } in
    has_more_constant c.args.state.now c.args.list c.add_name.new.self c.add.new.self m c.is_constant-constant.result noted
    (sym c.is_complete_qual.ensures ∙ c.if-not-is_complete_qual.false) has (ap (λ (l : MemberList). l.constant) c.add_name.ensures.rest)
    c.in_ok-add.ensures.constant c.is_constant-constant.ensures
    (one_more c.args.list.members c.add.new.self.members (record { name = c.in_ok-name.name; qual = c.args.member.qual }) m
    (c.in_ok-add.ensures.ok ∙ ap (λ ms. ms ++ record { name = c.in_ok-name.name; qual = c.args.member.qual } ∷ [])
    (ap (λ (l : MemberList). l.members) c.add_name.ensures.rest))
    (λ i. record { name = (c.in_ok-name.ensures ∙ c.spelling.ensures) i; qual = q }))
