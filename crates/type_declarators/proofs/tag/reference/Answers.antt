use Rattle.std.proofs.Common.{ap, sym, ◌∙◌, Some}
use Rattle.typing_words.specs.Words.{plain, reference}
use Rattle.type_scope.specs.Known.{known_by}
use Rattle.type_declarators.proofs.Opening.{no_tag, referred, not_referred}
use Rattle.type_declarators.proofs.tag.reference.Goals as goal

pub returns-in-None-clause-reads : goal.returns-in-None-clause-reads
returns-in-None-clause-reads c n env other =
    let was = known_by n c.args.source.now c.args.state.now env in
    ap (λ o. reference c.args.alone c.args.kind o was) c.in-None.is ∙ no_tag c.args.alone c.args.kind was

pub returns-in-Ok-clause-reads : goal.returns-in-Ok-clause-reads
returns-in-Ok-clause-reads c n env =
    let was = known_by n c.args.source.now c.args.state.now env in
    let now = known_by n c.args.source.now c.tag_or_new.new.state env in
    ap (λ o. reference c.args.alone c.args.kind o was) c.in-Some.is
    ∙ referred c.args.alone c.args.kind c.in-Some.tag c.in-Ok.number was now (c.in-Ok.ensures.reads n env)
    ∙ ap (λ ty. Some (plain ty, now)) (sym c.tagged_type.ensures)

pub returns-in-Err-clause-reads : goal.returns-in-Err-clause-reads
returns-in-Err-clause-reads c n env other =
    let was = known_by n c.args.source.now c.args.state.now env in
    ap (λ o. reference c.args.alone c.args.kind o was) c.in-Some.is
    ∙ not_referred c.args.alone c.args.kind c.in-Some.tag was (c.in-Err.ensures.reads n env other)
