use Rattle.std.proofs.Common.{ap, ◌∙◌, sym}
use Rattle.std.specs.Option.{option_copied, option_map}
use Rattle.c_types.specs.Types.{qualified_of}
use Rattle.type_scope.specs.Known.{known_by, linked_seen}
use Rattle.type_linkage.proofs.Linking.{further_none, further_same, further_new}
use Rattle.type_linkage.proofs.linkage.note_type.Goals as goal

pub returns-in_default-clause-known : goal.returns-in_default-clause-known
returns-in_default-clause-known c n t env =
    further_none n t c.args.state.now env c.args.symbol (qualified_of c.args.qual.now) (sym c.entity.ensures ∙ ap option_copied c.in_default.is)

pub returns-in-Some-2-clause-known : goal.returns-in-Some-2-clause-known
returns-in-Some-2-clause-known c n t env =
    ap (λ ls. known_by n t (record c.args.state.now { linked = ls }) env) c.change.ensures
    ∙ further_new n t c.args.state.now env c.args.symbol (qualified_of c.args.qual.now) c.in-Some.known.now c.in-Some-2.row
    (sym c.entity.ensures ∙ ap option_copied c.in-Some.is)
    (sym (ap (option_map (linked_seen n)) c.in-Some-2.is) ∙ c.in_ok-row.ensures n)

pub returns-in-None-clause-known : goal.returns-in-None-clause-known
returns-in-None-clause-known c n t env =
    further_same n t c.args.state.now env c.args.symbol (qualified_of c.args.qual.now) c.in-Some.known.now
    (sym c.entity.ensures ∙ ap option_copied c.in-Some.is)
    (sym (ap (option_map (linked_seen n)) c.in-None.is) ∙ c.in_ok-row.ensures n)
