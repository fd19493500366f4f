use Rattle.std.proofs.Common.{ap, sym, ◌∙◌, Some}
use Rattle.typing_words.specs.Words.{plain}
use Rattle.type_scope.specs.Known.{known_by}
use Rattle.type_declarators.proofs.Enumerations.{listed_found, unlisted_refused, other_refused, nothing_refused}
use Rattle.type_declarators.proofs.tag.enumeration_named.Goals as goal

pub returns-then-is_listed : goal.returns-then-is_listed
returns-then-is_listed c n env =
    listed_found n c.args.source.now c.args.state.now env c.args.at c.symbol.result c.in-Enumerated.number c.in-Some.meaning c.symbol.ensures
    c.in-Some.ensures c.in-Enumerated.is (sym c.is_listed.ensures ∙ c.if-is_listed.true)
    ∙ ap (λ ty. Some (plain ty, known_by n c.args.source.now c.args.state.now env)) (sym c.enumeration_type.ensures)

pub returns-else-is_listed : goal.returns-else-is_listed
returns-else-is_listed c n env other =
    unlisted_refused n c.args.source.now c.args.state.now env c.args.at c.symbol.result c.in-Enumerated.number c.in-Some.meaning c.symbol.ensures
    c.in-Some.ensures c.in-Enumerated.is (sym c.is_listed.ensures ∙ c.if-is_listed.false)

pub returns-in-Tagged : goal.returns-in-Tagged
returns-in-Tagged c n env other =
    other_refused n c.args.source.now c.args.state.now env c.args.at c.symbol.result _ _ c.in-Some.meaning c.symbol.ensures
    c.in-Some.ensures c.in-Tagged.is

pub returns-in-None : goal.returns-in-None
returns-in-None c n env other =
    nothing_refused n c.args.source.now c.args.state.now env c.args.at c.symbol.result c.symbol.ensures c.in-None.ensures
