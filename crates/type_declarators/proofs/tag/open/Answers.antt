use Rattle.std.proofs.Common.{ap, sym, ◌∙◌}
use Rattle.typing_words.specs.Words.{open_tag}
use Rattle.type_scope.specs.Known.{known_by}
use Rattle.type_declarators.proofs.Opening.{new_opened, opened, opened_twice, not_opened}
use Rattle.type_declarators.proofs.tag.open.Goals as goal

pub returns-in_ok-new_tag-in-None-clause-reads : goal.returns-in_ok-new_tag-in-None-clause-reads
returns-in_ok-new_tag-in-None-clause-reads c n env =
    ap (λ o. open_tag c.args.kind o (known_by n c.args.source.now c.args.state.now env)) c.in-None.is
    ∙ new_opened n c.args.source.now c.args.state.now c.new_tag.new.state env c.args.kind c.in_ok-new_tag-in-None.field-0
    c.in_ok-new_tag-in-None.ensures.number (c.in_ok-new_tag-in-None.ensures.known n c.args.source.now env)

pub returns-then-has_members-clause-reads : goal.returns-then-has_members-clause-reads
returns-then-has_members-clause-reads c n env other =
    let was = known_by n c.args.source.now c.args.state.now env in
    ap (λ o. open_tag c.args.kind o was) c.in-Some.is
    ∙ opened_twice c.args.kind c.in-Some.tag c.in-Ok.number was (known_by n c.args.source.now c.tag_or_new.new.state env)
    (c.in-Ok.ensures.reads n env) (sym c.has_members.ensures ∙ c.if-has_members.true)

pub returns-else-has_members-clause-reads : goal.returns-else-has_members-clause-reads
returns-else-has_members-clause-reads c n env =
    let was = known_by n c.args.source.now c.args.state.now env in
    ap (λ o. open_tag c.args.kind o was) c.in-Some.is
    ∙ opened c.args.kind c.in-Some.tag c.in-Ok.number was (known_by n c.args.source.now c.tag_or_new.new.state env)
    (c.in-Ok.ensures.reads n env) (sym c.has_members.ensures ∙ c.if-has_members.false)

pub returns-in-Err-clause-reads : goal.returns-in-Err-clause-reads
returns-in-Err-clause-reads c n env other =
    let was = known_by n c.args.source.now c.args.state.now env in
    ap (λ o. open_tag c.args.kind o was) c.in-Some.is
    ∙ not_opened c.args.kind c.in-Some.tag was (c.in-Err.ensures.reads n env other)
