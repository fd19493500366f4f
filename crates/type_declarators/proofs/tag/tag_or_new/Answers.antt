use Rattle.std.proofs.Common.{sym, ◌∙◌}
use Rattle.type_scope.specs.Known.{known_by}
use Rattle.type_declarators.proofs.Opening.{kind_found, kind_refused, list_refused, first_found}
use Rattle.type_declarators.proofs.tag.tag_or_new.Goals as goal

pub returns-then-is_kind-clause-reads : goal.returns-then-is_kind-clause-reads
returns-then-is_kind-clause-reads c n env =
    kind_found n c.args.source.now c.args.state.now env c.args.at c.symbol-symbol.result c.args.kind c.args.here c.in-Tagged.known c.in-Tagged.number
    c.in-Some.meaning c.symbol-symbol.ensures c.in-Some.ensures c.in-Tagged.is (sym c.is_kind.ensures ∙ c.if-is_kind.true)

pub returns-else-is_kind-clause-reads : goal.returns-else-is_kind-clause-reads
returns-else-is_kind-clause-reads c n env other =
    kind_refused n c.args.source.now c.args.state.now env c.args.at c.symbol-symbol.result c.args.kind c.args.here c.in-Tagged.known c.in-Tagged.number
    c.in-Some.meaning c.symbol-symbol.ensures c.in-Some.ensures c.in-Tagged.is (sym c.is_kind.ensures ∙ c.if-is_kind.false)

pub returns-in-Enumerated-clause-reads : goal.returns-in-Enumerated-clause-reads
returns-in-Enumerated-clause-reads c n env other =
    list_refused n c.args.source.now c.args.state.now env c.args.at c.symbol-symbol.result c.args.kind c.args.here _
    c.in-Some.meaning c.symbol-symbol.ensures c.in-Some.ensures c.in-Enumerated.is

pub returns-in_ok-declare_tag-in-None-clause-reads : goal.returns-in_ok-declare_tag-in-None-clause-reads
returns-in_ok-declare_tag-in-None-clause-reads c n env =
    first_found n c.args.source.now c.args.state.now env (known_by n c.args.source.now c.declare_tag.new.state env) c.args.at c.symbol-symbol.result
    c.args.kind c.args.here c.in_ok-declare_tag-in-None.field-0 c.symbol-symbol.ensures c.in-None.ensures (c.in_ok-declare_tag-in-None.ensures.known n env)
