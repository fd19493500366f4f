use Rattle.std.proofs.Common.{ap, ◌∙◌}
use Rattle.typing_words.specs.Words.{name_enumeration}
use Rattle.type_scope.specs.Known.{known_by}
use Rattle.type_declarators.proofs.Enumerations.{unnamed, again_refused, first_named}
use Rattle.type_declarators.proofs.tag.name_enumeration.Goals as goal

pub returns-in_default-clause-reads : goal.returns-in_default-clause-reads
returns-in_default-clause-reads c n env =
    let was = known_by n c.args.source.now c.args.state.now env in
    ap (λ o. name_enumeration o c.args.number was) c.in_default.is ∙ unnamed c.args.number was

pub returns-in-Some-find_tag-clause-reads : goal.returns-in-Some-find_tag-clause-reads
returns-in-Some-find_tag-clause-reads c n env other =
    ap (λ o. name_enumeration o c.args.number (known_by n c.args.source.now c.args.state.now env)) c.in-Some.is
    ∙ again_refused n c.args.source.now c.args.state.now env c.in-Some.tag c.symbol-symbol.result c.args.number c.in-Some-find_tag.meaning
    c.symbol-symbol.ensures c.in-Some-find_tag.ensures

pub returns-in_ok-declare_tag-in-None-clause-reads : goal.returns-in_ok-declare_tag-in-None-clause-reads
returns-in_ok-declare_tag-in-None-clause-reads c n env =
    ap (λ o. name_enumeration o c.args.number (known_by n c.args.source.now c.args.state.now env)) c.in-Some.is
    ∙ first_named n c.args.source.now c.args.state.now env c.in-Some.tag c.symbol-symbol.result c.args.number c.declare_tag.new.self
    c.symbol-symbol.ensures c.in-None.ensures c.in_ok-declare_tag-in-None.ensures.ok
