use Rattle.std.proofs.Common.{ap, ◌∙◌, sym}
use Rattle.std.specs.Prelude.{is_some}
use Rattle.std.specs.Option.{option_map}
use Rattle.c_types.specs.Types.{qualified_of}
use Rattle.type_name_space.specs.Scopes.{visible}
use Rattle.typing_env.specs.Names.{meaning_in, is_internal, type_seen}
use Rattle.type_scope.specs.Known.{meaning_seen, linked_seen}
use Rattle.type_linkage.specs.Linkage.{given_of}
use Rattle.type_linkage.proofs.Linking.{is_refused, is_kept}
use Rattle.type_linkage.proofs.Declaring.{refused_is, found_is}
use Rattle.type_linkage.proofs.linkage.redeclared.Goals as goal

pub returns-in-Some-clause-reads : goal.returns-in-Some-clause-reads
returns-in-Some-clause-reads c n one env other =
    refused_is n c.args.source.now c.args.state.now env c.args.at c.symbol-symbol.result (qualified_of c.args.qual.now) (given_of c.args.linkage)
    c.symbol-symbol.ensures (is_refused _ (c.in-Some.ensures n one c.args.source.now env))

pub returns-clause-reads : goal.returns-clause-reads
returns-clause-reads c n one env =
    found_is n one c.args.source.now c.args.state.now env c.args.at c.symbol-symbol.result (qualified_of c.args.qual.now)
    (qualified_of c.in_ok-type_seen.field-0) (given_of c.args.linkage) c.is_internal.result c.symbol-symbol.ensures
    (is_kept _ (sym (ap is_some c.in_default.is) ∙ c.broken_rule.ensures n one c.args.source.now env))
    (c.is_internal.ensures n ∙ ap (λ o. is_internal (given_of c.args.linkage) (option_map (linked_seen n) o)) c.prior-prior.ensures)
    (c.in_ok-type_seen.ensures n
    ∙ ap (type_seen (qualified_of c.args.qual.now)
    (option_map (meaning_seen n) (meaning_in (visible c.symbol-symbol.result (c.args.state.now).names.ordinary))))
    (c.is_known.ensures ∙ ap is_some c.prior-prior.ensures))
